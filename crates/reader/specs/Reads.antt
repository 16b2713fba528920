-- What is read of a slot.
use Rattle.std.specs.Prelude.{◌≡◌, ℕ, List, Some, None, Ok, Err, Option, Result}
use Rattle.source.specs.Slots.{Slot, whole, damaged}
use Rattle.grammar.specs.declared.faults.SourceFault.{SourceFault}

abbrev pub FetchedAs : ℕ → Option Slot → List ℕ → Result (Unit {0}) SourceFault → Type 0
FetchedAs n None bytes r = ⊥
FetchedAs n (Some (whole b)) bytes r = (r ≡ Ok tt) × (bytes ≡ b)
FetchedAs n (Some (damaged damage)) bytes r = r ≡ Err (record { slot = n; damage = damage })
