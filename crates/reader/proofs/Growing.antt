-- A record that is taken adds at most one to each of the counts.
use Rattle.std.proofs.Common.{◌≡◌, ℕ, ◌+◌, ◌≤◌, List, length, Ok, arith}
use Rattle.grammar.specs.declared.expect.Expect.{Expect}
use Rattle.grammar.specs.Counting.{statements_behind, movements_behind}
use Rattle.grammar.specs.Leaves.{Leaf, header, old_balance, movement, movement_second, counterparty, information, information_second, information_third, new_balance, free_communication, trailer}
use Rattle.grammar.specs.Places.{Numbers, Sums, Place}
use Rattle.grammar.specs.Steps.{step}
use Rattle.grammar.proofs.Moves.{Moves, a_first_header, a_header, an_old_balance, a_first_main, a_main, a_detail, a_second, a_lone_counterparty, a_counterparty, an_information, an_information_second, an_information_third, a_lone_new_balance, a_new_balance, a_first_communication, a_communication, a_lone_trailer, a_trailer}
use Rattle.grammar.proofs.Stepping.{leads}
use Rattle.grammar.proofs.Taken.{taken_moves}

counted : {e f : Expect} {n m : Numbers} {s t : Sums} {r : Leaf} → Moves e n s r f m t → t.count ≤ s.count + 1
counted a_first_header = omega arith
counted a_header = omega arith
counted an_old_balance = omega arith
counted (a_first_main x y z) = omega arith
counted (a_main x y z) = omega arith
counted (a_detail x y) = omega arith
counted (a_second x y) = omega arith
counted (a_lone_counterparty x y) = omega arith
counted (a_counterparty x y) = omega arith
counted (an_information x y) = omega arith
counted (an_information_second x y) = omega arith
counted (an_information_third x y) = omega arith
counted (a_lone_new_balance x y) = omega arith
counted (a_new_balance x) = omega arith
counted (a_first_communication x) = omega arith
counted (a_communication x) = omega arith
counted (a_lone_trailer x) = omega arith
counted (a_trailer x) = omega arith

one_more : (r : Leaf) (n : ℕ) → (statements_behind r n ≤ n + 1) × (movements_behind r n ≤ n + 1)
one_more (header b) n = (omega arith, omega arith)
one_more (old_balance b) n = (omega arith, omega arith)
one_more (movement b) n = (omega arith, omega arith)
one_more (movement_second b) n = (omega arith, omega arith)
one_more (counterparty b) n = (omega arith, omega arith)
one_more (information b) n = (omega arith, omega arith)
one_more (information_second b) n = (omega arith, omega arith)
one_more (information_third b) n = (omega arith, omega arith)
one_more (new_balance b) n = (omega arith, omega arith)
one_more (free_communication b) n = (omega arith, omega arith)
one_more (trailer b) n = (omega arith, omega arith)

pub record Grows (p q : Place) : Type 0 where
  pub count : q.sums.count ≤ p.sums.count + 1
  pub statements : q.statements ≤ p.statements + 1
  pub movements : q.movements ≤ p.movements + 1

pub grows : (p q : Place) (b : List ℕ) → length b ≡ 128 → step p b ≡ Ok q → Grows p q
grows p q b l h =
    let x = leads p b q l h in
    let m = taken_moves p x.one q x.taken in
    record {
      count = counted m.moves;
      statements = omega (arith, m.statements, (one_more x.one p.statements).0);
      movements = omega (arith, m.movements, (one_more x.one p.movements).1);
    }
