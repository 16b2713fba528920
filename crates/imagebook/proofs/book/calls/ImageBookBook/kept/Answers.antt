use Rattle.std.proofs.Common.{sym, ◌∙◌, arith}
use Rattle.std.proofs.lemmas.List.{length-take-le}
use Rattle.images.specs.Images.{image_rows}
use Rattle.imagebook.proofs.Standing.{rows_long}
use Rattle.imagebook.proofs.book.calls.ImageBookBook.kept.Goals as goal

pub returns : goal.returns
returns c =
    let s = c.args.self.now in
    let long = rows_long s.counts.capacity s.bytes.now in
    let room = s.counts.room in
    c.kept.ensures.value ∙ sym (length-take-le s.counts.kept (image_rows s.counts.capacity s.bytes.now) (omega arith))
