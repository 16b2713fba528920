-- The open levels that a mask with a bit for each stands for, the highest first.
use Rattle.std.specs.Prelude.{ℕ, zero, suc, ◌/◌, ◌%◌, ◌^◌, cond, List, [], ◌∷◌, ◌==◌}
use Rattle.reader.specs.declared.levels.Levels.{Levels}

abbrev pub bits_below : ℕ → ℕ → List ℕ
bits_below zero mask = []
bits_below (suc level) mask = cond (mask / 2 ^ level % 2 == 1) (level ∷ bits_below level mask) (bits_below level mask)

unfoldable pub open_levels : ℕ → List ℕ
open_levels mask = bits_below 10 mask

abbrev pub levels_of : Levels → List ℕ
levels_of l = open_levels l.mask
