-- Which files are lawful, as lists of slots, and where a file that is not goes wrong.
use Rattle.std.specs.Prelude.{◌≡◌, ℕ, ◌+◌, List, [], ◌∷◌, ◌++◌, map, length}
use Rattle.source.specs.Slots.{Slot, whole}
use Rattle.grammar.specs.Leaves.{Leaf, bytes}
use Rattle.grammar.specs.Readings.{Reading, leaves}
use Rattle.grammar.specs.Lawful.{Lawful}

abbrev pub slots : List Leaf → List Slot
slots rs = map (λ r. whole (bytes r)) rs

-- no slot is damaged, and the records are those of a lawful reading
pub record LawfulFile (xs : List Slot) : Type 0 where
  pub reading : Reading
  pub lawful : Lawful reading
  pub is : xs ≡ slots (leaves reading)

-- a lawful file begins with these slots
pub record Begins (xs : List Slot) : Type 0 where
  pub others : List Slot
  pub file : LawfulFile (xs ++ others)

-- behind some slots stands one with which no lawful file begins, or the end where none ends
abbrev pub Wrong : List Slot → List Slot → Type 0
Wrong before [] = LawfulFile before → ⊥
Wrong before (x ∷ behind) = Begins (before ++ (x ∷ [])) → ⊥

-- slot n is the first such that no lawful file begins with the slots up to it, or the end where there is none
pub record FirstWrong (xs : List Slot) (n : ℕ) : Type 0 where
  pub before : List Slot
  pub behind : List Slot
  pub split : xs ≡ before ++ behind
  pub at : n ≡ 1 + length before
  pub begins : Begins before
  pub wrong : Wrong before behind
