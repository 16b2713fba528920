-- The parts of a statement that a count of records passes over.
--   PassesOver   the count leaves out every record but headers, old balances, movements (2.1) and trailers
use Rattle.std.proofs.Common.{◌≡◌, ℕ, List, [], ◌∷◌, Some, None, Option, refl, ◌∙◌}
use Rattle.grammar.specs.Leaves as L
use Rattle.grammar.specs.Leaves.{Leaf}
use Rattle.grammar.specs.Readings.{Rest, Information, Movement, Closing, optional, rest_leaves, information_leaves, communications_leaves, closing_leaves}

pub record PassesOver (among : List Leaf → ℕ) : Type 0 where
  pub movement_second : (b : List ℕ) (k : List Leaf) → among (L.movement_second b ∷ k) ≡ among k
  pub counterparty : (b : List ℕ) (k : List Leaf) → among (L.counterparty b ∷ k) ≡ among k
  pub information : (b : List ℕ) (k : List Leaf) → among (L.information b ∷ k) ≡ among k
  pub information_second : (b : List ℕ) (k : List Leaf) → among (L.information_second b ∷ k) ≡ among k
  pub information_third : (b : List ℕ) (k : List Leaf) → among (L.information_third b ∷ k) ≡ among k
  pub new_balance : (b : List ℕ) (k : List Leaf) → among (L.new_balance b ∷ k) ≡ among k
  pub free_communication : (b : List ℕ) (k : List Leaf) → among (L.free_communication b ∷ k) ≡ among k

module _ (among : List Leaf → ℕ) (over : PassesOver among) where
  over_optional : (leaf : List ℕ → Leaf) → ((b : List ℕ) (k : List Leaf) → among (leaf b ∷ k) ≡ among k) → (o : Option (List ℕ)) (k : List Leaf) → among (optional leaf o k) ≡ among k
  over_optional leaf h None k = refl
  over_optional leaf h (Some b) k = h b k

  over_rest : (o : Option Rest) (k : List Leaf) → among (rest_leaves o k) ≡ among k
  over_rest None k = refl
  over_rest (Some r) k = over.information_second r.two (optional L.information_third r.three k) ∙ over_optional L.information_third over.information_third r.three k

  over_informations : (is : List Information) (k : List Leaf) → among (information_leaves is k) ≡ among k
  over_informations [] k = refl
  over_informations (i ∷ is) k = over.information i.one (rest_leaves i.rest (information_leaves is k)) ∙ over_rest i.rest (information_leaves is k) ∙ over_informations is k

  -- what belongs to a 2.1
  pub over_others : (m : Movement) (k : List Leaf) → among (optional L.movement_second m.two (optional L.counterparty m.three (information_leaves m.informations k))) ≡ among k
  over_others m k =
      over_optional L.movement_second over.movement_second m.two (optional L.counterparty m.three (information_leaves m.informations k))
      ∙ over_optional L.counterparty over.counterparty m.three (information_leaves m.informations k)
      ∙ over_informations m.informations k

  over_communications : (fs : List (List ℕ)) (k : List Leaf) → among (communications_leaves fs k) ≡ among k
  over_communications [] k = refl
  over_communications (f ∷ fs) k = over.free_communication f (communications_leaves fs k) ∙ over_communications fs k

  pub over_closing : (c : Option Closing) (k : List Leaf) → among (closing_leaves c k) ≡ among k
  over_closing None k = refl
  over_closing (Some c) k = over.new_balance c.balance (communications_leaves c.communications k) ∙ over_communications c.communications k
