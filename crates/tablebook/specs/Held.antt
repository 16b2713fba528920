-- What a table holds.
--   placed    a list of places that begins with those of some kept rows
--   InStep    the first places are those of the kept rows: the place of the last statement row of each account,
--             accounts in the order in which they were first kept
use Rattle.std.specs.Prelude.{◌≡◌, ℕ, List, ◌++◌, length, take, drop}
use Rattle.rows.specs.declared.fields.Fields.{Fields}
use Rattle.placing.specs.Places.{places}

abbrev pub placed : List Fields → List ℕ → List ℕ
placed kept held = places kept ++ drop (length (places kept)) held

abbrev pub InStep : List Fields → ℕ → List ℕ → Type 0
InStep kept accounts held = (accounts ≡ length (places kept)) × (take accounts held ≡ places kept)
