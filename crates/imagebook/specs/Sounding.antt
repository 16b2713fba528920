-- What the book on an image cites for its soundness.
--   image_sound   numbers in order and rows exactly as they are written give a sound meaning
use Rattle.std.specs.Prelude.{◌≡◌, ℕ, ◌≤◌, true, List, length, take, Option}
use Rattle.std.proofs.Common.{◌∙◌, arith}
use Rattle.std.proofs.lemmas.List.{length-map}
use Rattle.cashbook.specs.Counting.{figure, used, counted}
use Rattle.cashbook.specs.Meaning.{Sound}
use Rattle.cashbook.specs.Sounding.{counted_sound}
use Rattle.rowbytes.specs.RowBytes.{row_read}
use Rattle.images.specs.Images.{pieces, image_rows, are_written}
use Rattle.images.proofs.Pieces.{length_pieces}
use Rattle.images.proofs.Written.{image_rows_are_rows}

pub image_sound :
    (capacity kept : ℕ) (batch : Option ℕ) (bytes : List ℕ) → capacity ≤ 100000 → used (figure capacity kept batch) ≤ capacity
    → are_written (take (used (figure capacity kept batch)) (pieces capacity bytes)) ≡ true → Sound (counted (figure capacity kept batch) (image_rows capacity bytes))
image_sound capacity kept batch bytes small room exact =
    let long : length (image_rows capacity bytes) ≡ capacity = length-map (pieces capacity bytes) row_read ∙ length_pieces capacity bytes in
    counted_sound capacity kept (image_rows capacity bytes) batch small room (omega arith) (image_rows_are_rows (used (figure capacity kept batch)) capacity bytes exact)
