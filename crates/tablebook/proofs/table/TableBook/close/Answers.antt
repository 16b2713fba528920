use Rattle.std.proofs.Common.{take, sym, refl, ap, ◌∙◌, arith}
use Rattle.cashbook.specs.Sounding.{all_counted}
use Rattle.cashbook.proofs.Counting.{all_long}
use Rattle.tablebook.specs.Memory.{rows_in, places_in}
use Rattle.tablebook.proofs.table.TableBook.close.Goals as goal

pub returns : goal.returns
returns c =
    let s = c.args.self in
    let room = s.counts.room in
    let backed = s.backed in
    let long = all_long s.counts.capacity s.counts.kept (rows_in s) s.counts.batch (omega arith) in
    record {
      same = (refl, refl);
      rows = ap (λ n. take n (rows_in s)) long ∙ sym (all_counted s.counts.capacity s.counts.kept (rows_in s) s.counts.batch);
      places = rw (← s.kept) (ap (λ n. take n (places_in s)) (sym s.memory.step.0) ∙ s.memory.step.1);
    }
