-- Parts of a record by their positions.
--   position   the place of a byte in a record, counted from 1
--   span       the bytes at the positions first to last, as far as there are any
use Rattle.std.specs.Prelude.{ℕ, ◌-◌, List, take, drop}

abbrev pub span : List ℕ → ℕ → ℕ → List ℕ
span bytes first last = take (last - (first - 1)) (drop (first - 1) bytes)
