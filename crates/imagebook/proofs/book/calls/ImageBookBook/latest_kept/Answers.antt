use Rattle.std.proofs.Common.{arith}
use Rattle.cashbook.proofs.Answering.{told_of}
use Rattle.imagebook.proofs.Standing.{rows_told}
use Rattle.imagebook.proofs.book.calls.ImageBookBook.latest_kept.Goals as goal

pub returns : goal.returns
returns c =
    let s = c.args.self.now in
    let room = s.counts.room in
    let found = rows_told c.args.account.now _ s.counts.capacity _ s.counts.kept s.bytes.now c.latest_of.ensures (omega arith) (omega arith) in
    let t = told_of _ _ c.put.result c.args.into.now c.put.new.into found c.put.ensures.answers c.put.ensures.puts in
    record { answers = t.0; puts = t.1 }
