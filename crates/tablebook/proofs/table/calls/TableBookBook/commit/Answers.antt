use Rattle.std.proofs.Common.{◌≡◌, List, take, Ok, sym, ap, ◌∙◌, arith}
use Rattle.rows.specs.declared.fields.Fields.{Fields}
use Rattle.cashbook.specs.Calls.{committing}
use Rattle.cashbook.specs.Counting.{figures, counted}
use Rattle.cashbook.specs.Meaning.{all_rows}
use Rattle.cashbook.specs.Sounding.{all_counted}
use Rattle.cashbook.proofs.Counting.{committed_done, committed_numbers, left_by_call}
use Rattle.tablebook.specs.Held.{placed}
use Rattle.tablebook.specs.Memory.{means_of, rows_in, places_in}
use Rattle.tablebook.proofs.table.calls.TableBookBook.commit.Goals as goal

pub returns : goal.returns
returns c =
    let s = c.args.self.now in
    let m = committed_done s.counts.capacity s.counts.kept s.memory.rows.now s.counts.batch (figures c.in_ok-counts.counts) (let r = s.counts.room in let b = s.backed in omega arith) c.in_ok-counts.ensures in
    let n = committed_numbers s.counts.capacity s.counts.kept s.counts.batch (figures c.in_ok-counts.counts) c.in_ok-counts.ensures in
    let answers = ap Ok c.batch-rows.ensures ∙ m.answers in
    let all : take c.kept.result (rows_in s) ≡ all_rows (means_of s)
    = ap (λ k. take k (rows_in s)) (c.kept.ensures.value ∙ n.kept_is) ∙ sym (all_counted s.counts.capacity s.counts.kept (rows_in s) s.counts.batch) in
    record {
      answers = answers;
      leaves = ap (λ (rs : List Fields). counted (figures c.in_ok-counts.counts) rs) c.keep.ensures.rows ∙ m.leaves;
      rows = c.keep.ensures.rows;
      places =
          c.keep.ensures.places
          ∙ (ap (λ (ks : List Fields). placed ks (places_in s)) all ∙ left_by_call (committing (means_of s)) _ (placed (all_rows (means_of s)) (places_in s)) (places_in s) answers);
    }
