use Rattle.std.proofs.Common.{take, ap, ◌∙◌, arith}
use Rattle.rows.specs.Rows.{blank}
use Rattle.cashbook.specs.Counting.{figures, used}
use Rattle.cashbook.specs.Questions.{latest}
use Rattle.cashbook.proofs.Answering.{told_of}
use Rattle.tablebook.proofs.Seeking.{last_inside, latest_told}
use Rattle.tablebook.proofs.table.calls.TableBookBook.latest_kept.Goals as goal

pub found-requires : goal.found-requires
found-requires c =
    let s = c.args.self.now in
    let room = s.counts.room in
    last_inside c.args.account.now s.memory.rows.now s.memory.kept s.memory.backed.0 c.latest_kept.result (used (figures s.counts)) c.latest_kept.ensures (let k = s.kept in omega arith)

pub returns : goal.returns
returns c =
    let s = c.args.self.now in
    let found = latest_told c.args.account.now s.memory.rows.now s.memory.kept s.memory.backed.0 c.latest_kept.result blank c.latest_kept.ensures in
    let same = ap (λ n. latest c.args.account.now (take n s.memory.rows.now)) s.kept in
    let t = told_of _ _ c.put.result c.args.into.now c.put.new.into (c.found.ensures ∙ (found ∙ same)) c.put.ensures.answers c.put.ensures.puts in
    record { answers = t.0; puts = t.1 }
