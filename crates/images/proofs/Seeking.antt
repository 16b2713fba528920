-- The latest statement row of an account among the rows of an image, sought from the end.
use Rattle.std.proofs.Common.{◌≡◌, ℕ, ◌+◌, ◌-◌, ◌<◌, Bool, true, false, List, [], length, get_or, take, drop, Some, sym, refl, ap, ◌∙◌, arith}
use Rattle.std.proofs.lemmas.List.{length-map, take_all}
use Rattle.rows.specs.Accounts.{is_of}
use Rattle.rows.specs.declared.fields.Fields.{Fields}
use Rattle.cashbook.specs.Questions.{latest}
use Rattle.cashbook.proofs.Latest.{latest_here, latest_before}
use Rattle.rowbytes.specs.RowBytes.{row_read, is_statement_of}
use Rattle.rowbytes.proofs.Telling.{statement_told}
use Rattle.images.specs.Headers.{row_offset}
use Rattle.images.specs.Images.{cut, pieces, piece, image_rows}
use Rattle.images.proofs.Pieces.{length_pieces, rows_fewer, row_at}

-- none of the rows are no rows
pub no_rows : (bytes : List ℕ) → image_rows 0 bytes ≡ []
unfolding pieces cut
no_rows bytes = refl

-- a part of 256 bytes, as code cuts it
pub part_is : (i : ℕ) (bytes : List ℕ) → take (row_offset i + 256 - row_offset i) (drop (row_offset i) bytes) ≡ piece i bytes
part_is i bytes = let wide : row_offset i + 256 - row_offset i ≡ 256 = omega arith in ap (λ k. take k (drop (row_offset i) bytes)) wide

module _ (account bytes : List ℕ) (i : ℕ) (some : 0 < i) where
  long : length (image_rows i bytes) ≡ i
  long = length-map (pieces i bytes) row_read ∙ length_pieces i bytes

  all : latest account (image_rows i bytes) ≡ latest account (take i (image_rows i bytes))
  all = ap (latest account) (sym (take_all i (image_rows i bytes) (omega (arith, long))))

  abbrev here : Fields
  here = row_read (piece (i - 1) bytes)

  last_is : get_or (image_rows i bytes) (i - 1) here ≡ here
  last_is = row_at i (i - 1) bytes here (omega arith)

  told : (b : Bool) → is_statement_of account (piece (i - 1) bytes) ≡ b → is_of account (get_or (image_rows i bytes) (i - 1) here) ≡ b
  told b t = ap (is_of account) last_is ∙ (sym (statement_told account (piece (i - 1) bytes)) ∙ t)

  pub image_latest_here : is_statement_of account (piece (i - 1) bytes) ≡ true → latest account (image_rows i bytes) ≡ Some (row_read (piece (i - 1) bytes))
  image_latest_here t = all ∙ (latest_here account (image_rows i bytes) i here some (omega (arith, long)) (told true t) ∙ ap Some last_is)

  pub image_latest_before : is_statement_of account (piece (i - 1) bytes) ≡ false → latest account (image_rows i bytes) ≡ latest account (image_rows (i - 1) bytes)
  image_latest_before t = all ∙ (latest_before account (image_rows i bytes) i here some (omega (arith, long)) (told false t) ∙ ap (latest account) (rows_fewer i (i - 1) bytes (omega arith)))
