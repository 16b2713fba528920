-- The records of a transaction that keeps the threaded rules are a part of a run.
use Rattle.std.proofs.Common.{ℕ, true, List, [], ◌∷◌, Some, None, Option}
use Rattle.grammar.specs.declared.expect.Expect.{Expect}
use Rattle.grammar.specs.declared.expect.Expect.TheVariants as E
use Rattle.grammar.specs.Leaves.{Leaf, movement_second, counterparty, information_third}
use Rattle.grammar.specs.Readings.{Rest, Information, Movement, Transaction, optional, rest_leaves, information_leaves, movements_leaves}
use Rattle.grammar.specs.Codes.{first_sort}
use Rattle.grammar.specs.Places.{Numbers, Sums, behind_main, behind_detail, behind_information, counted_one}
use Rattle.grammar.proofs.Threaded.{OptionalOk, RestOk, behind_informations, InformationsOk, BehindOk, behind_details, DetailsOk, behind_transaction, TransactionOk}
use Rattle.grammar.proofs.Moves.{a_detail, a_second, a_lone_counterparty, a_counterparty, an_information, an_information_second, an_information_third, Run, go}
use Rattle.grammar.proofs.FormedGives.{FormedGives}
use Rattle.grammar.proofs.Left.{Late, LateOk}
use Rattle.grammar.proofs.Booked.{uncount}
use Rattle.grammar.proofs.Expected.{Coded, later, behind_sort, apart, announced, announced_last, apart_last}

-- the records of a movement behind its 2.1
abbrev pub behind_one : Movement → List Leaf → List Leaf
behind_one m k = optional movement_second m.two (optional counterparty m.three (information_leaves m.informations k))

-- The numbers a behind a 2 or 3 record that announces the records k, of which own are counted: behind them, with the numbers n,
-- the transactions ts and l are left. Whatever may continue the record, none of the records k does.
abbrev pub Onward : Numbers → List Transaction → Late → Numbers → List Leaf → List Leaf → Type 0
Onward n ts l a own k = (e : Expect) (s : Sums) → LateOk true n s ts own l → Coded k → Run (behind_sort (first_sort k) e) a s k

module _ (given : FormedGives) (n : Numbers) (ts : List Transaction) (l : Late) where
  run_counterparty : (o : Option (List ℕ)) (a : Numbers) (own k : List Leaf) → OptionalOk a o → Onward n ts l a own k
      → (s : Sums) → LateOk true n s ts (optional counterparty o own) l → Coded (optional counterparty o k) → Run (behind_sort (first_sort (optional counterparty o k)) E.Counterparty) a s (optional counterparty o k)
  run_counterparty None a own k ok on s x c = on E.Counterparty s x c
  run_counterparty (Some b) a own k ok on s x c =
      let z = given.counterparty_last b c.formed.0 in
      go (a_counterparty ok (apart_last b z)) (announced_last b E.Counterparty z c.codes.0 (on E.Further (counted_one s) (uncount x) (later c)))

  -- behind a 2.1
  run_group : (two three : Option (List ℕ)) (a : Numbers) (own k : List Leaf) → OptionalOk a two → OptionalOk a three → Onward n ts l a own k
      → (s : Sums) → LateOk true n s ts (optional movement_second two (optional counterparty three own)) l → Coded (optional movement_second two (optional counterparty three k))
      → Run (behind_sort (first_sort (optional movement_second two (optional counterparty three k))) E.Second) a s (optional movement_second two (optional counterparty three k))
  run_group None None a own k x y on s z c = on E.Second s z c
  run_group None (Some b) a own k x y on s z c =
      let last = given.counterparty_last b c.formed.0 in
      go (a_lone_counterparty y (apart_last b last)) (announced_last b E.Counterparty last c.codes.0 (on E.Further (counted_one s) (uncount z) (later c)))
  run_group (Some b) three a own k x y on s z c =
      go (a_second x (apart b (first_sort (optional counterparty three k)) c.codes.0))
      (announced b E.Counterparty c.codes.0 (run_counterparty three a own k y on (counted_one s) (uncount z) (later c)))

  run_third : (o : Option (List ℕ)) (a : Numbers) (own k : List Leaf) → OptionalOk a o → Onward n ts l a own k
      → (s : Sums) → LateOk true n s ts (optional information_third o own) l → Coded (optional information_third o k) → Run (behind_sort (first_sort (optional information_third o k)) E.InformationThird) a s (optional information_third o k)
  run_third None a own k ok on s x c = on E.InformationThird s x c
  run_third (Some b) a own k ok on s x c =
      let last = given.information_third_last b c.formed.0 in
      go (an_information_third ok (apart_last b last)) (announced_last b E.InformationThird last c.codes.0 (on E.Further (counted_one s) (uncount x) (later c)))

  -- behind a 3.1
  run_rest : (o : Option Rest) (a : Numbers) (own k : List Leaf) → RestOk a o → Onward n ts l a own k
      → (s : Sums) → LateOk true n s ts (rest_leaves o own) l → Coded (rest_leaves o k) → Run (behind_sort (first_sort (rest_leaves o k)) E.InformationSecond) a s (rest_leaves o k)
  run_rest None a own k ok on s x c = on E.InformationSecond s x c
  run_rest (Some r) a own k ok on s x c =
      go (an_information_second ok.0 (apart r.two (first_sort (optional information_third r.three k)) c.codes.0))
      (announced r.two E.InformationThird c.codes.0 (run_third r.three a own k ok.1 on (counted_one s) (uncount x) (later c)))

  run_informations : (is : List Information) (a : Numbers) (own k : List Leaf) → InformationsOk a is → Onward n ts l (behind_informations a is) own k → Onward n ts l a (information_leaves is own) (information_leaves is k)
  run_informations [] a own k ok on = on
  run_informations (i ∷ is) a own k ok on = λ e s x c.
      go (an_information ok.0 (apart i.one (first_sort (rest_leaves i.rest (information_leaves is k))) c.codes.0))
      (announced i.one E.InformationSecond c.codes.0
      (run_rest i.rest (behind_information a i.one) (information_leaves is own) (information_leaves is k) ok.1 (run_informations is (behind_information a i.one) own k ok.2 on) (counted_one s) (uncount x) (later c)))

  run_movement : (m : Movement) (a : Numbers) (own k : List Leaf) → BehindOk a m → Onward n ts l (behind_informations a m.informations) own k
      → (s : Sums) → LateOk true n s ts (behind_one m own) l → Coded (behind_one m k) → Run (behind_sort (first_sort (behind_one m k)) E.Second) a s (behind_one m k)
  run_movement m a own k ok on = run_group m.two m.three a (information_leaves m.informations own) (information_leaves m.informations k) ok.0 ok.1 (run_informations m.informations a own k ok.2 on)

  run_details : (ds : List Movement) (a : Numbers) (own k : List Leaf) → DetailsOk a ds → Onward n ts l (behind_details a ds) own k → Onward n ts l a (movements_leaves ds own) (movements_leaves ds k)
  run_details [] a own k ok on = on
  run_details (d ∷ ds) a own k ok on = λ e s x c.
      go (a_detail ok.0 (apart d.one (first_sort (behind_one d (movements_leaves ds k))) c.codes.0))
      (announced d.one E.Second c.codes.0
      (run_movement d (behind_detail a d.one) (movements_leaves ds own) (movements_leaves ds k) ok.1 (run_details ds (behind_informations (behind_detail a d.one) d.informations) own k ok.2 on) (counted_one s) (uncount x) (later c)))

  -- behind the 2.1 of a main movement
  pub run_transaction : (t : Transaction) (a : Numbers) (own k : List Leaf) → TransactionOk a t → Onward n ts l (behind_transaction t) own k
      → (s : Sums) → LateOk true n s ts (behind_one t.main (movements_leaves t.details own)) l → Coded (behind_one t.main (movements_leaves t.details k))
      → Run (behind_sort (first_sort (behind_one t.main (movements_leaves t.details k))) E.Second) (behind_main t.main.one) s (behind_one t.main (movements_leaves t.details k))
  run_transaction t a own k ok on =
      run_movement t.main (behind_main t.main.one) (movements_leaves t.details own) (movements_leaves t.details k) ok.1
      (run_details t.details (behind_informations (behind_main t.main.one) t.main.informations) own k ok.2 on)
