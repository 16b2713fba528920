-- The rows of an image.
--   cut           so many pieces of 256 bytes
--   pieces        the pieces behind the header
--   piece         the piece at a place, counted from 0
--   image_rows    what these pieces are read as
--   are_written   each of some pieces is exactly the bytes of a row
--   image_of      the bytes of a meaning: the header with its numbers, then its rows one behind the other
--   put_row       an image with the bytes of row n replaced, n counted from 0
--   put_header    an image with its header replaced, where it has room for one
use Rattle.std.specs.Prelude.{◌≡◌, ℕ, zero, suc, ◌+◌, ◌-◌, ◌/◌, ◌≤◌, min, Bool, true, cond, List, [], ◌∷◌, ◌++◌, map, length, take, drop, nat_le}
use Rattle.recordbytes.specs.Each.{every}
use Rattle.rows.specs.declared.fields.Fields.{Fields}
use Rattle.cashbook.specs.Counting.{Figures, figures_of}
use Rattle.cashbook.specs.Meaning.{Meaning, all_rows, are_rows}
use Rattle.recordbytes.specs.Joins.{joined}
use Rattle.rowbytes.specs.RowBytes.{row_bytes, row_read, is_row_bytes}
use Rattle.images.specs.Headers.{row_offset, header}

unfoldable pub cut : ℕ → List ℕ → List (List ℕ)
cut zero bytes = []
cut (suc n) bytes = take 256 bytes ∷ cut n (drop 256 bytes)

unfoldable pub pieces : ℕ → List ℕ → List (List ℕ)
pieces n bytes = cut n (drop 32 bytes)

-- piece i, counted from 0
abbrev pub piece : ℕ → List ℕ → List ℕ
piece i bytes = take 256 (drop (row_offset i) bytes)

abbrev pub image_rows : ℕ → List ℕ → List Fields
image_rows n bytes = map row_read (pieces n bytes)

abbrev pub are_written : List (List ℕ) → Bool
are_written some = every is_row_bytes some

abbrev pub image_of : Meaning → List ℕ
image_of b = header (figures_of b) ++ joined (map row_bytes (all_rows b))

-- bytes that have room for a header begin with those of a meaning
abbrev pub Exact : Meaning → List ℕ → Type 0
Exact b bytes = 32 ≤ length bytes → take (length (image_of b)) bytes ≡ image_of b

-- the whole rows behind a header, at most 100,000
abbrev pub image_capacity : List ℕ → ℕ
image_capacity bytes = min ((length bytes - 32) / 256) 100000

abbrev pub put_row : ℕ → List ℕ → List ℕ → List ℕ
put_row n row bytes = take (row_offset n) bytes ++ (row ++ drop (row_offset (n + 1)) bytes)

abbrev pub put_header : Figures → List ℕ → List ℕ
put_header f bytes = cond (nat_le 32 (length bytes)) (header f ++ drop 32 bytes) bytes

-- an image tells its rows: those of a meaning are read back from its bytes, whatever stands behind them
abbrev pub ImagesReadBack : Type 0
ImagesReadBack = (b : Meaning) (behind : List ℕ) → are_rows (all_rows b) ≡ true → image_rows (length (all_rows b)) (image_of b ++ behind) ≡ all_rows b
