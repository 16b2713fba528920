use Rattle.std.proofs.Common.{arith}
use Rattle.cashbook.proofs.Counting.{counted_free}
use Rattle.images.specs.Images.{image_rows}
use Rattle.imagebook.proofs.Standing.{rows_long}
use Rattle.imagebook.proofs.book.calls.ImageBookBook.free.Goals as goal

pub returns : goal.returns
returns c =
    let s = c.args.self.now in
    let long = rows_long s.counts.capacity s.bytes.now in
    let room = s.counts.room in
    let told = counted_free s.counts.capacity s.counts.kept (image_rows s.counts.capacity s.bytes.now) s.counts.batch (omega arith) in
    cc
