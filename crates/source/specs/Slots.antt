-- What a source means.
--   Slot      a record of 128 bytes, or a damage
--   Sound     what may stand in a slot
--   judge     the slot of some bytes
--   slot_at   the slot of a number, counted from 1
use Rattle.std.specs.Prelude.{◌≡◌, ℕ, ◌-◌, ◌≤◌, cond, List, length, None, Option, ◌==◌, nat_lt}
use Rattle.std.specs.List.{slice_get}
use Rattle.source.specs.declared.source.Damage.{Damage}

pub data Slot : Type 0 where
  whole : List ℕ → Slot
  damaged : Damage → Slot

-- a record has 128 bytes, and a cause is a number from 1 to 255
abbrev pub Sound : Slot → Type 0
Sound (whole bytes) = length bytes ≡ 128
Sound (damaged damage) = (1 ≤ damage.cause) × (damage.cause ≤ 255)

-- 128 bytes are a record; fewer are damaged with cause 1, more with cause 2
abbrev pub judge : List ℕ → Slot
judge bytes = cond (length bytes == 128) (whole bytes) (damaged (record { cause = cond (nat_lt (length bytes) 128) 1 2 }))

-- there is no slot 0, and none behind the last
abbrev pub slot_at : List Slot → ℕ → Option Slot
slot_at slots n = cond (n == 0) None (slice_get slots (n - 1))
