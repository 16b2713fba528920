-- A test of every element of a list.
--   every   every element passes a test
use Rattle.std.specs.Prelude.{Bool, true, ◌&&◌, List, [], ◌∷◌}

abbrev pub every : {X : Type 0} → (X → Bool) → List X → Bool
every test [] = true
every test (first ∷ rest) = test first && every test rest
