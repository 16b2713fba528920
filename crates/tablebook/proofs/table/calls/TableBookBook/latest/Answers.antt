use Rattle.std.proofs.Common.{take, sym, ap, ◌∙◌, arith}
use Rattle.rows.specs.Rows.{blank}
use Rattle.cashbook.specs.Counting.{figures, used}
use Rattle.cashbook.specs.Questions.{latest}
use Rattle.cashbook.specs.Sounding.{all_counted}
use Rattle.cashbook.proofs.Answering.{told_of}
use Rattle.tablebook.proofs.Seeking.{last_inside, latest_told}
use Rattle.tablebook.proofs.table.calls.TableBookBook.latest.Goals as goal

pub found-requires : goal.found-requires
found-requires c =
    let s = c.args.self.now in
    let backed = s.backed in
    let u = c.used-used.ensures in
    last_inside c.args.account.now s.memory.rows.now c.used-used.result (omega arith) c.latest.result (used (figures s.counts)) c.latest.ensures (omega arith)

pub returns : goal.returns
returns c =
    let s = c.args.self.now in
    let backed = s.backed in
    let u = c.used-used.ensures in
    let found = latest_told c.args.account.now s.memory.rows.now c.used-used.result (omega arith) c.latest.result blank c.latest.ensures in
    let all = ap (λ n. latest c.args.account.now (take n s.memory.rows.now)) u.value ∙ ap (latest c.args.account.now) (sym (all_counted s.counts.capacity s.counts.kept s.memory.rows.now s.counts.batch)) in
    let t = told_of _ _ c.put.result c.args.into.now c.put.new.into (c.found.ensures ∙ (found ∙ all)) c.put.ensures.answers c.put.ensures.puts in
    record { answers = t.0; puts = t.1 }
