-- The two counters of the machine: behind a file they are its statements and its movement records.
use Rattle.std.proofs.Common.{◌≡◌, ℕ, suc, ◌+◌, List, [], ◌∷◌, length, refl, ap, ◌∙◌, arith}
use Rattle.grammar.specs.Leaves.{Leaf, header, old_balance, movement, movement_second, counterparty, information, information_second, information_third, new_balance, free_communication, trailer}
use Rattle.grammar.specs.Readings.{Movement, Transaction, Statement, movements_leaves, transactions_leaves, closing_leaves, leaves}
use Rattle.grammar.specs.Lawful.{movements}
use Rattle.grammar.specs.Places.{Place}
use Rattle.grammar.specs.Counting.{statements_behind, movements_behind, statements_in, movements_in}
use Rattle.grammar.specs.Theorems.{movements_among, movements_of}
use Rattle.grammar.proofs.Taken.{taken_moves}
use Rattle.grammar.proofs.Takes.{Takes}
use Rattle.grammar.proofs.Uncounted.{PassesOver, over_others, over_closing}

-- COUNTERS

statements_on : (r : Leaf) (a b : ℕ) → statements_behind r a + b ≡ a + statements_behind r b
statements_on (header x) a b = refl
statements_on (old_balance x) a b = omega arith
statements_on (movement x) a b = refl
statements_on (movement_second x) a b = refl
statements_on (counterparty x) a b = refl
statements_on (information x) a b = refl
statements_on (information_second x) a b = refl
statements_on (information_third x) a b = refl
statements_on (new_balance x) a b = refl
statements_on (free_communication x) a b = refl
statements_on (trailer x) a b = refl

movements_on : (r : Leaf) (a b : ℕ) → movements_behind r a + b ≡ a + movements_behind r b
movements_on (header x) a b = refl
movements_on (old_balance x) a b = refl
movements_on (movement x) a b = omega arith
movements_on (movement_second x) a b = refl
movements_on (counterparty x) a b = refl
movements_on (information x) a b = refl
movements_on (information_second x) a b = refl
movements_on (information_third x) a b = refl
movements_on (new_balance x) a b = refl
movements_on (free_communication x) a b = refl
movements_on (trailer x) a b = refl

pub statements_taken : (p : Place) (rs : List Leaf) (q : Place) → Takes p rs q → q.statements ≡ p.statements + statements_in rs
statements_taken p [] q t = let h = ap (λ x. x.statements) t in omega arith
statements_taken p (r ∷ rs) q t =
    statements_taken t.0 rs q t.2 ∙ ap (λ x. x + statements_in rs) (taken_moves p r t.0 t.1).statements ∙ statements_on r p.statements (statements_in rs)

pub movements_taken : (p : Place) (rs : List Leaf) (q : Place) → Takes p rs q → q.movements ≡ p.movements + movements_in rs
movements_taken p [] q t = let h = ap (λ x. x.movements) t in omega arith
movements_taken p (r ∷ rs) q t =
    movements_taken t.0 rs q t.2 ∙ ap (λ x. x + movements_in rs) (taken_moves p r t.0 t.1).movements ∙ movements_on r p.movements (movements_in rs)

-- THE STATEMENTS OF A READING

statements_over : PassesOver statements_in
statements_over = record {
  movement_second = λ _ _. refl;
  counterparty = λ _ _. refl;
  information = λ _ _. refl;
  information_second = λ _ _. refl;
  information_third = λ _ _. refl;
  new_balance = λ _ _. refl;
  free_communication = λ _ _. refl;
}

statements_in_movements : (ms : List Movement) (k : List Leaf) → statements_in (movements_leaves ms k) ≡ statements_in k
statements_in_movements [] k = refl
statements_in_movements (m ∷ ms) k = over_others statements_in statements_over m (movements_leaves ms k) ∙ statements_in_movements ms k

statements_in_transactions : (ts : List Transaction) (k : List Leaf) → statements_in (transactions_leaves ts k) ≡ statements_in k
statements_in_transactions [] k = refl
statements_in_transactions (t ∷ ts) k = statements_in_movements (movements t) (transactions_leaves ts k) ∙ statements_in_transactions ts k

pub statements_in_leaves : (ss : List Statement) → statements_in (leaves ss) ≡ length ss
statements_in_leaves [] = refl
statements_in_leaves (s ∷ ss) =
    let k = trailer s.end ∷ leaves ss in
    let h = statements_in_transactions s.transactions (closing_leaves s.closing k) ∙ over_closing statements_in statements_over s.closing k ∙ statements_in_leaves ss in
    one_more (statements_in (transactions_leaves s.transactions (closing_leaves s.closing k))) (length ss) h
  where
    one_more : (a b : ℕ) → a ≡ b → a + 1 ≡ suc b
    one_more a b h = omega arith

-- THE MOVEMENTS OF A READING

movements_over : PassesOver movements_in
movements_over = record {
  movement_second = λ _ _. refl;
  counterparty = λ _ _. refl;
  information = λ _ _. refl;
  information_second = λ _ _. refl;
  information_third = λ _ _. refl;
  new_balance = λ _ _. refl;
  free_communication = λ _ _. refl;
}

movements_in_movements : (ms : List Movement) (k : List Leaf) → movements_in (movements_leaves ms k) ≡ length ms + movements_in k
movements_in_movements [] k = omega arith
movements_in_movements (m ∷ ms) k = omega (arith, over_others movements_in movements_over m (movements_leaves ms k), movements_in_movements ms k)

movements_in_transactions : (ts : List Transaction) (k : List Leaf) → movements_in (transactions_leaves ts k) ≡ movements_among ts + movements_in k
movements_in_transactions [] k = omega arith
movements_in_transactions (t ∷ ts) k = omega (arith, movements_in_movements (movements t) (transactions_leaves ts k), movements_in_transactions ts k)

pub movements_in_leaves : (ss : List Statement) → movements_in (leaves ss) ≡ movements_of ss
movements_in_leaves [] = refl
movements_in_leaves (s ∷ ss) =
    let k = trailer s.end ∷ leaves ss in
    movements_in_transactions s.transactions (closing_leaves s.closing k)
    ∙ ap (λ n. movements_among s.transactions + n) (over_closing movements_in movements_over s.closing k ∙ movements_in_leaves ss)
