use Rattle.std.proofs.Common.{sym, ap, ◌∙◌, arith}
use Rattle.cashbook.specs.Counting.{figures, used}
use Rattle.cashbook.specs.Questions.{latest}
use Rattle.cashbook.specs.Sounding.{all_counted}
use Rattle.cashbook.proofs.Answering.{told_of}
use Rattle.images.specs.Images.{image_rows}
use Rattle.imagebook.proofs.Standing.{rows_told}
use Rattle.imagebook.proofs.book.calls.ImageBookBook.latest.Goals as goal

pub returns : goal.returns
returns c =
    let s = c.args.self.now in
    let room = s.counts.room in
    let found = rows_told c.args.account.now _ s.counts.capacity _ (used (figures s.counts)) s.bytes.now c.latest_of.ensures (omega arith) (omega arith) in
    let same = ap (latest c.args.account.now) (sym (all_counted s.counts.capacity s.counts.kept (image_rows s.counts.capacity s.bytes.now) s.counts.batch)) in
    let t = told_of _ _ c.put.result c.args.into.now c.put.new.into (found ∙ same) c.put.ensures.answers c.put.ensures.puts in
    record { answers = t.0; puts = t.1 }
