-- The slots of a file of lines.
--   feed     byte 10, which ends a line
--   return   byte 13, which just before a feed belongs to the ending
--   lines    the lines of the file, without their endings
--   lined    a slot for each line
use Rattle.std.specs.Prelude.{ℕ, Bool, false, cond, ◌&&◌, List, [], ◌∷◌, map, ◌==◌}
use Rattle.source.specs.Slots.{Slot, judge}

-- whether a byte is a feed
abbrev pub is_feed : ℕ → Bool
is_feed byte = byte == 10

-- whether a feed comes first
abbrev pub feed_first : List ℕ → Bool
feed_first [] = false
feed_first (byte ∷ bytes) = is_feed byte

-- one byte more in front of the first line, or of a line of its own
abbrev pub in_front : ℕ → List (List ℕ) → List (List ℕ)
in_front byte [] = (byte ∷ []) ∷ []
in_front byte (line ∷ rest) = (byte ∷ line) ∷ rest

-- a feed ends a line; a return just before a feed stands in no line; any other byte stands in the line of the bytes behind it
abbrev pub lines : List ℕ → List (List ℕ)
lines [] = []
lines (byte ∷ bytes) =
    cond (is_feed byte) ([] ∷ lines bytes)
    (cond (byte == 13 && feed_first bytes) (lines bytes) (in_front byte (lines bytes)))

abbrev pub lined : List ℕ → List Slot
lined file = map judge (lines file)
