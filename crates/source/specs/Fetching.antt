-- What fetching a slot does.
--   answer    what it answers: a record is there, or why not: the damage of the slot, or that there is no such slot
--   left_in   what it leaves in the caller's bytes: the record, or what they held
use Rattle.std.specs.Prelude.{ℕ, List, Some, None, Ok, Err, Option, Result}
use Rattle.source.specs.Slots.{Slot, whole, damaged}
use Rattle.source.specs.declared.source.NoRecord.{NoRecord}
use Rattle.source.specs.declared.source.NoRecord.TheVariants.{Damaged, Absent}

abbrev pub answer : Option Slot → Result (Unit {0}) NoRecord
answer None = Err Absent
answer (Some (whole bytes)) = Ok tt
answer (Some (damaged damage)) = Err (Damaged damage)

abbrev pub left_in : Option Slot → List ℕ → List ℕ
left_in None old = old
left_in (Some (whole bytes)) old = bytes
left_in (Some (damaged damage)) old = old
