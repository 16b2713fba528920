-- What the check's answer says of a file.
--   movements_of   the number of movement records (2.1) of a reading
--   counts_of      the numbers that a passing check answers
--   Checks         the check passes exactly the lawful files of at most 100,000 slots, with the counts of the reading; no file
--                  has two readings; a refusal names the first slot such that no lawful file begins with the slots up to it
use Rattle.std.specs.Prelude.{◌≡◌, ℕ, ◌+◌, ◌<◌, ◌≤◌, List, [], ◌∷◌, length, Ok, Err}
use Rattle.std.specs.List.{AllByRecursion}
use Rattle.source.specs.Slots.{Slot, Sound}
use Rattle.grammar.specs.declared.faults.Counts.{Counts}
use Rattle.grammar.specs.declared.faults.FileFault.{FileFault}
use Rattle.grammar.specs.declared.faults.FileFault.TheVariants.{TooManySlots}
use Rattle.grammar.specs.Readings.{Transaction, Reading}
use Rattle.grammar.specs.Lawful.{movements}
use Rattle.grammar.specs.Files.{LawfulFile, FirstWrong}
use Rattle.grammar.specs.Faults.{fault_record}
use Rattle.grammar.specs.Steps.{most_slots, checked}

abbrev pub movements_among : List Transaction → ℕ
movements_among [] = 0
movements_among (t ∷ ts) = length (movements t) + movements_among ts

abbrev pub movements_of : Reading → ℕ
movements_of [] = 0
movements_of (s ∷ ss) = movements_among s.transactions + movements_of ss

abbrev pub counts_of : Reading → Counts
counts_of r = record { statements = length r; movements = movements_of r }

pub record Checks (xs : List Slot) : Type 0 where
  pub passed : (c : Counts) → checked xs ≡ Ok c → (f : LawfulFile xs) × (c ≡ counts_of f.reading) × (length xs ≤ most_slots)
  pub passes : (f : LawfulFile xs) → length xs ≤ most_slots → checked xs ≡ Ok (counts_of f.reading)
  pub one_reading : (f g : LawfulFile xs) → f.reading ≡ g.reading
  pub too_many : most_slots < length xs → checked xs ≡ Err TooManySlots
  pub first_wrong : (f : FileFault) → length xs ≤ most_slots → checked xs ≡ Err f → FirstWrong xs (fault_record f)

abbrev pub CheckTheorem : Type 0
CheckTheorem = (xs : List Slot) → AllByRecursion Sound xs → Checks xs
