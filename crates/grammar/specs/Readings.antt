-- The reading of a file: its statements, as a tree whose leaves are the bytes of records.
--   the functions that end in leaves give the records of a part of the tree in the order of the file, in front of those that follow
use Rattle.std.specs.Prelude.{ℕ, List, [], ◌∷◌, Some, None, Option}
use Rattle.grammar.specs.Leaves.{Leaf, header, old_balance, movement, movement_second, counterparty, information, information_second, information_third, new_balance, free_communication, trailer}

-- 3.2, perhaps with 3.3
pub record Rest : Type 0 where
  pub two : List ℕ
  pub three : Option (List ℕ)

-- 3.1, perhaps with what continues it
pub record Information : Type 0 where
  pub one : List ℕ
  pub rest : Option Rest

-- 2.1, perhaps with 2.2, perhaps with 2.3, and the information records that belong to it
pub record Movement : Type 0 where
  pub one : List ℕ
  pub two : Option (List ℕ)
  pub three : Option (List ℕ)
  pub informations : List Information

-- a main movement and its details
pub record Transaction : Type 0 where
  pub main : Movement
  pub details : List Movement

-- 8 and the records 4 behind it
pub record Closing : Type 0 where
  pub balance : List ℕ
  pub communications : List (List ℕ)

pub record Statement : Type 0 where
  pub head : List ℕ
  pub old : List ℕ
  pub transactions : List Transaction
  pub closing : Option Closing
  pub end : List ℕ

abbrev pub Reading : Type 0
Reading = List Statement

abbrev pub optional : (List ℕ → Leaf) → Option (List ℕ) → List Leaf → List Leaf
optional leaf None k = k
optional leaf (Some b) k = leaf b ∷ k

abbrev pub rest_leaves : Option Rest → List Leaf → List Leaf
rest_leaves None k = k
rest_leaves (Some r) k = information_second r.two ∷ optional information_third r.three k

abbrev pub information_leaves : List Information → List Leaf → List Leaf
information_leaves [] k = k
information_leaves (i ∷ is) k = information i.one ∷ rest_leaves i.rest (information_leaves is k)

abbrev pub movement_leaves : Movement → List Leaf → List Leaf
movement_leaves m k = movement m.one ∷ optional movement_second m.two (optional counterparty m.three (information_leaves m.informations k))

abbrev pub movements_leaves : List Movement → List Leaf → List Leaf
movements_leaves [] k = k
movements_leaves (m ∷ ms) k = movement_leaves m (movements_leaves ms k)

abbrev pub transactions_leaves : List Transaction → List Leaf → List Leaf
transactions_leaves [] k = k
transactions_leaves (t ∷ ts) k = movement_leaves t.main (movements_leaves t.details (transactions_leaves ts k))

abbrev pub communications_leaves : List (List ℕ) → List Leaf → List Leaf
communications_leaves [] k = k
communications_leaves (f ∷ fs) k = free_communication f ∷ communications_leaves fs k

abbrev pub closing_leaves : Option Closing → List Leaf → List Leaf
closing_leaves None k = k
closing_leaves (Some c) k = new_balance c.balance ∷ communications_leaves c.communications k

abbrev pub leaves : Reading → List Leaf
leaves [] = []
leaves (s ∷ ss) =
    header s.head ∷ old_balance s.old ∷ transactions_leaves s.transactions (closing_leaves s.closing (trailer s.end ∷ leaves ss))
