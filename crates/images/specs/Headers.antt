-- The header of an image: eight numbers of four bytes, the lowest byte first.
--   four_bytes       a number below 2 ^ 32 as four bytes
--   row_offset       where row n begins, n counted from 0: behind the header and n rows
--   header_numbers   capacity, kept rows, batch rows, batch open, offset of the first row, offset behind the kept rows,
--                    offset behind the batch rows, zero
--   header           these numbers as bytes
use Rattle.std.specs.Prelude.{ℕ, ◌+◌, ◌*◌, ◌/◌, ◌%◌, cond, List, [], ◌∷◌, map, is_some}
use Rattle.recordbytes.specs.Joins.{joined}
use Rattle.cashbook.specs.Counting.{Figures, batched, used}

abbrev pub four_bytes : ℕ → List ℕ
four_bytes n = n % 256 ∷ n / 256 % 256 ∷ n / 65536 % 256 ∷ n / 16777216 % 256 ∷ []

abbrev pub row_offset : ℕ → ℕ
row_offset n = 32 + n * 256

abbrev pub header_numbers : Figures → List ℕ
header_numbers f =
    f.capacity
    ∷ f.kept
    ∷ batched f
    ∷ cond (is_some f.batch) 1 0
    ∷ row_offset 0
    ∷ row_offset f.kept
    ∷ row_offset (used f)
    ∷ 0
    ∷ []

unfoldable pub header : Figures → List ℕ
header f = joined (map four_bytes (header_numbers f))
