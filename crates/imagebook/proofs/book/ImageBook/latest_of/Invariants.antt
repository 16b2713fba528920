use Rattle.std.proofs.Common.{◌≡◌}
use Rattle.cashbook.specs.Questions.{latest}
use Rattle.images.specs.Images.{image_rows}
use Rattle.imagebook.specs.Memory.{memory}
use Rattle.imagebook.proofs.book.ImageBook.latest_of.Given as goal

abbrev pub invariant-loop-i : goal.invariant-loop-i
invariant-loop-i l = latest l.account (image_rows l.count (memory l.self)) ≡ latest l.account (image_rows l.i (memory l.self))
