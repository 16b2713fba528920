-- The slots of a packed file.
--   piece    128 bytes of the file, or what is left of it
--   pieces   the file cut every 128 bytes: only the last piece may be shorter
--   packed   a slot for each piece
use Rattle.std.specs.Prelude.{ℕ, ◌+◌, ◌*◌, ◌/◌, List, map, length, take, drop}
use Rattle.std.specs.List.{range_with_len}
use Rattle.source.specs.Slots.{Slot, judge}

-- the piece that has k pieces before it
abbrev pub piece : List ℕ → ℕ → List ℕ
piece file k = take 128 (drop (k * 128) file)

-- as many as cover the file
abbrev pub pieces : List ℕ → List (List ℕ)
pieces file = map (piece file) (range_with_len 0 ((length file + 127) / 128))

abbrev pub packed : List ℕ → List Slot
packed file = map judge (pieces file)
