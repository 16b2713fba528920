-- Moves one after the other, from place to place: what holds of a place goes on holding, and the count grows by one a move.
use Rattle.std.proofs.Common.{ℕ, suc, ◌+◌, ◌≤◌, List, [], ◌∷◌, length, arith}
use Rattle.std.specs.List.{AllByRecursion}
use Rattle.grammar.specs.declared.expect.Expect.{Expect}
use Rattle.grammar.specs.Leaves.{Leaf, Formed}
use Rattle.grammar.specs.Places.{Numbers, Sums}
use Rattle.grammar.proofs.Moves.{Moves}
use Rattle.grammar.proofs.Standing.{Standing, standing_move, count_move}

pub data Way : Expect → Numbers → Sums → List Leaf → Expect → Numbers → Sums → Type 0 where
  here : {e : Expect} {n : Numbers} {s : Sums} → Way e n s [] e n s
  on : {e f g : Expect} {n m o : Numbers} {s t u : Sums} {r : Leaf} {rs : List Leaf} → Moves e n s r f m t → Way f m t rs g o u → Way e n s (r ∷ rs) g o u

pub way_standing : {e f : Expect} {n m : Numbers} {s t : Sums} {rs : List Leaf} → Way e n s rs f m t → AllByRecursion Formed rs → Standing e n s → Standing f m t
way_standing here formed h = h
way_standing (on a w) formed h = way_standing w formed.1 (standing_move a formed.0 h)

pub way_count : {e f : Expect} {n m : Numbers} {s t : Sums} {rs : List Leaf} (k : ℕ) → Way e n s rs f m t → s.count ≤ suc k → t.count ≤ suc (k + length rs)
way_count k here h = omega arith
way_count k (on {rs = rs} a w) h = let x = way_count (suc k) w (count_move k a h) in omega arith
