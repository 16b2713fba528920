-- The machine takes the values of a record just where the relation moves, and leads where it leads.
use Rattle.std.proofs.Common.{◌≡◌, ℕ, suc, true, false, eqb, List, Ok, Err, sym, refl, ◌∙◌, subst, inl, inr, arith}
use Rattle.std.proofs.lemmas.Bool.{eqb-true, eq-eqb, ne_eqb, and_parts, and_from, and_left, and_right, cond-true, cond-false, cond_both, false≢true}
use Rattle.layout.specs.declared.kind.Kind.{Kind}
use Rattle.layout.specs.declared.kind.Kind.TheVariants as K
use Rattle.grammar.specs.declared.expect.Expect.{Expect}
use Rattle.grammar.specs.declared.expect.Expect.TheVariants as E
use Rattle.grammar.specs.declared.faults.StatementFault.TheVariants.{Misplaced}
use Rattle.grammar.specs.Fields.{sequence, next, link, another}
use Rattle.grammar.specs.Leaves.{Leaf, header, old_balance, movement, movement_second, counterparty, information, information_second, information_third, new_balance, free_communication, trailer, kind, bytes, leaf}
use Rattle.grammar.specs.Order.{allowed, may_come, behind, behind_closing, behind_trailer, is_opened}
use Rattle.grammar.specs.Places.{Numbers, Sums, Place, none_open, behind_main, counted_one, booked}
use Rattle.grammar.specs.Rules.{under, succeeding, main_rules, detail_rules, repeat_rules, information_rules, new_balance_rules, first_communication_rules, communication_rules, trailer_rules}
use Rattle.grammar.specs.Steps.{after_header, after_old_balance, after_main, after_detail, after_counted, after_information, after_communication, after_trailer, is_detail, take_movement, take_repeat, take_new_balance, take_kind, take_values}
use Rattle.grammar.specs.Counting.{statements_behind, movements_behind}
use Rattle.grammar.proofs.Fits.{MainFits, DetailFits, Repeats, Room, NewBalanceFits, TrailerFits}
use Rattle.grammar.proofs.Moves.{Apart, Moves, a_first_header, a_header, an_old_balance, a_first_main, a_main, a_detail, a_second, a_lone_counterparty, a_counterparty, an_information, an_information_second, an_information_third, a_lone_new_balance, a_new_balance, a_first_communication, a_communication, a_lone_trailer, a_trailer}
use Rattle.grammar.proofs.Allowed.{Among, among}
use Rattle.grammar.proofs.Kept.{ruled, kept, refused, same_value}
use Rattle.grammar.proofs.RuleFacts.{none_open_true, none_open_from, main_facts, main_kept, detail_facts, detail_kept, repeat_facts, repeat_kept, information_facts, information_kept, new_balance_facts, new_balance_kept, first_communication_facts, first_communication_kept, communication_facts, communication_kept, trailer_facts, trailer_kept}

abbrev pub at : Expect → Numbers → Sums → ℕ → ℕ → Place
at e n s c m = record { expect = e; numbers = n; sums = s; statements = c; movements = m }

-- a move from one place to another, with the counters
pub record Moved (p : Place) (r : Leaf) (q : Place) : Type 0 where
  pub moves : Moves p.expect p.numbers p.sums r q.expect q.numbers q.sums
  pub statements : q.statements ≡ statements_behind r p.statements
  pub movements : q.movements ≡ movements_behind r p.movements

-- WHAT IS TAKEN MOVES

abbrev Taken : Expect → Kind → Type 0
Taken e k = (n : Numbers) (s : Sums) (c m : ℕ) (b : List ℕ) (q : Place) → take_kind (at e n s c m) k b ≡ Ok q → Moved (at e n s c m) (leaf k b) q

moved : {p : Place} {r : Leaf} {q : Place} → Moves p.expect p.numbers p.sums r q.expect q.numbers q.sums → q.statements ≡ statements_behind r p.statements → q.movements ≡ movements_behind r p.movements → Moved p r q
moved x c m = record { moves = x; statements = c; movements = m }

taken_header : (e : Expect) → ((n : Numbers) (s : Sums) (b : List ℕ) → Moves e n s (header b) E.OldBalance n s) → Taken e K.Header
taken_header e may n s c m b q h = subst (Moved (at e n s c m) (header b)) (same_value (after_header (at e n s c m)) q h) (moved (may n s b) refl refl)

taken_old_balance : Taken E.OldBalance K.OldBalance
taken_old_balance n s c m b q h = subst (Moved (at E.OldBalance n s c m) (old_balance b)) (same_value (after_old_balance (at E.OldBalance n s c m) b) q h) (moved an_old_balance refl refl)

taken_main : (e : Expect) → ((n : Numbers) (s : Sums) (b : List ℕ) → MainFits n b → Room s b → Apart b → Moves e n s (movement b) (behind (next b) (link b) E.Second) (behind_main b) (booked s b))
    → (n : Numbers) (s : Sums) (c m : ℕ) (b : List ℕ) (q : Place) → under (main_rules n s b) (after_main (at e n s c m) b) ≡ Ok q → Moved (at e n s c m) (movement b) q
taken_main e may n s c m b q =
    ruled (Moved (at e n s c m) (movement b)) (main_rules n s b) (after_main (at e n s c m) b) q (λ k. let f = main_facts n s b k in moved (may n s b f.0 f.1 f.2) refl refl)

taken_first_main : Taken E.Opened K.Movement
taken_first_main n s c m b q =
    cond_both (is_detail (at E.Opened n s c m) b) (under (detail_rules n b) (after_detail (at E.Opened n s c m) b)) (under (main_rules n s b) (after_main (at E.Opened n s c m) b))
    (λ r. r ≡ Ok q → Moved (at E.Opened n s c m) (movement b) q)
    (λ d h. absurd (false≢true (and_parts (eqb (sequence b) n.sequence) false d).1))
    (λ _ h. taken_main E.Opened (λ _ _ _ f r a. a_first_main f r a) n s c m b q h)

taken_movement : Taken E.Further K.Movement
taken_movement n s c m b q =
    cond_both (is_detail (at E.Further n s c m) b) (under (detail_rules n b) (after_detail (at E.Further n s c m) b)) (under (main_rules n s b) (after_main (at E.Further n s c m) b))
    (λ r. r ≡ Ok q → Moved (at E.Further n s c m) (movement b) q)
    (λ d h. ruled (Moved (at E.Further n s c m) (movement b)) (detail_rules n b) (after_detail (at E.Further n s c m) b) q
    (λ k. let f = detail_facts n b (eqb-true (sequence b) n.sequence (and_parts (eqb (sequence b) n.sequence) true d).0) k in moved (a_detail f.0 f.1) refl refl) h)
    (λ _ h. taken_main E.Further (λ _ _ _ f r a. a_main f r a) n s c m b q h)

-- a record that repeats numbers, with what may continue it
taken_repeat : (e f : Expect) (k : Kind) (n : Numbers) (s : Sums) (c m : ℕ) (b : List ℕ) (q : Place)
    → (Repeats n b → Apart b → Moved (at e n s c m) (leaf k b) (after_counted (at e n s c m) (behind (next b) (link b) f)))
    → take_repeat (at e n s c m) b f ≡ Ok q → Moved (at e n s c m) (leaf k b) q
taken_repeat e f k n s c m b q may =
    ruled (Moved (at e n s c m) (leaf k b)) (repeat_rules n b) (after_counted (at e n s c m) (behind (next b) (link b) f)) q (λ x. let y = repeat_facts n b x in may y.0 y.1)

taken_second : Taken E.Second K.MovementSecond
taken_second n s c m b q = taken_repeat E.Second E.Counterparty K.MovementSecond n s c m b q (λ f a. moved (a_second f a) refl refl)

taken_lone_counterparty : Taken E.Second K.Counterparty
taken_lone_counterparty n s c m b q = taken_repeat E.Second E.Counterparty K.Counterparty n s c m b q (λ f a. moved (a_lone_counterparty f a) refl refl)

taken_counterparty : Taken E.Counterparty K.Counterparty
taken_counterparty n s c m b q = taken_repeat E.Counterparty E.Counterparty K.Counterparty n s c m b q (λ f a. moved (a_counterparty f a) refl refl)

taken_information : Taken E.Information K.Information
taken_information n s c m b q =
    ruled (Moved (at E.Information n s c m) (information b)) (information_rules n b) (after_information (at E.Information n s c m) b) q
    (λ k. let f = information_facts n b k in moved (an_information f.0 f.1) refl refl)

taken_information_second : Taken E.InformationSecond K.InformationSecond
taken_information_second n s c m b q = taken_repeat E.InformationSecond E.InformationThird K.InformationSecond n s c m b q (λ f a. moved (an_information_second f a) refl refl)

taken_information_third : Taken E.InformationThird K.InformationThird
taken_information_third n s c m b q = taken_repeat E.InformationThird E.InformationThird K.InformationThird n s c m b q (λ f a. moved (an_information_third f a) refl refl)

-- behind an 8
abbrev after_new_balance : Place → List ℕ → Place
after_new_balance p b = after_counted p (behind_closing (link b) E.FirstCommunication)

taken_new_balance : (e : Expect) → ((n : Numbers) (s : Sums) (b : List ℕ) → NewBalanceFits n s b → (is_opened e ≡ true → link b ≡ true) → Moves e n s (new_balance b) (behind_closing (link b) E.FirstCommunication) n (counted_one s))
    → Taken e K.NewBalance
taken_new_balance e may n s c m b q =
    cond_both (none_open n.levels) (under (new_balance_rules (is_opened e) s b) (after_new_balance (at e n s c m) b)) (Err Misplaced)
    (λ r. r ≡ Ok q → Moved (at e n s c m) (new_balance b) q)
    (λ o h. ruled (Moved (at e n s c m) (new_balance b)) (new_balance_rules (is_opened e) s b) (after_new_balance (at e n s c m) b) q
    (λ k. let f = new_balance_facts n s b (is_opened e) (none_open_true n.levels o) k in moved (may n s b f.0 f.1) refl refl) h)
    (λ _ h. absurd (refused Misplaced q h))

taken_first_communication : Taken E.FirstCommunication K.FreeCommunication
taken_first_communication n s c m b q =
    ruled (Moved (at E.FirstCommunication n s c m) (free_communication b)) (first_communication_rules b) (after_communication (at E.FirstCommunication n s c m) b) q
    (λ k. moved (a_first_communication (first_communication_facts b k)) refl refl)

taken_communication : Taken E.Communication K.FreeCommunication
taken_communication n s c m b q =
    ruled (Moved (at E.Communication n s c m) (free_communication b)) (communication_rules n b) (after_communication (at E.Communication n s c m) b) q
    (λ k. moved (a_communication (communication_facts n b k)) refl refl)

taken_trailer : (e : Expect) → ((n : Numbers) (s : Sums) (b : List ℕ) → TrailerFits s b → Moves e n s (trailer b) (behind_trailer (another b)) n s) → Taken e K.Trailer
taken_trailer e may n s c m b q =
    ruled (Moved (at e n s c m) (trailer b)) (trailer_rules s b) (after_trailer (at e n s c m) b) q (λ k. moved (may n s b (trailer_facts s b k)) refl refl)

taken_allowed : (e : Expect) (k : Kind) → Among k (allowed e) → Taken e k
taken_allowed E.Start k h = subst (Taken E.Start) (sym h) (taken_header E.Start (λ _ _ _. a_first_header))
taken_allowed E.Header k h = subst (Taken E.Header) (sym h) (taken_header E.Header (λ _ _ _. a_header))
taken_allowed E.OldBalance k h = subst (Taken E.OldBalance) (sym h) taken_old_balance
taken_allowed E.Opened k (inl h) = subst (Taken E.Opened) (sym h) taken_first_main
taken_allowed E.Opened k (inr (inl h)) = subst (Taken E.Opened) (sym h) (taken_new_balance E.Opened (λ _ _ _ f l. a_lone_new_balance f (l refl)))
taken_allowed E.Opened k (inr (inr h)) = subst (Taken E.Opened) (sym h) (taken_trailer E.Opened (λ _ _ _ f. a_lone_trailer f))
taken_allowed E.Second k (inl h) = subst (Taken E.Second) (sym h) taken_second
taken_allowed E.Second k (inr h) = subst (Taken E.Second) (sym h) taken_lone_counterparty
taken_allowed E.Counterparty k h = subst (Taken E.Counterparty) (sym h) taken_counterparty
taken_allowed E.Information k h = subst (Taken E.Information) (sym h) taken_information
taken_allowed E.InformationSecond k h = subst (Taken E.InformationSecond) (sym h) taken_information_second
taken_allowed E.InformationThird k h = subst (Taken E.InformationThird) (sym h) taken_information_third
taken_allowed E.Further k (inl h) = subst (Taken E.Further) (sym h) taken_movement
taken_allowed E.Further k (inr h) = subst (Taken E.Further) (sym h) (taken_new_balance E.Further (λ _ _ _ f _. a_new_balance f))
taken_allowed E.FirstCommunication k h = subst (Taken E.FirstCommunication) (sym h) taken_first_communication
taken_allowed E.Communication k h = subst (Taken E.Communication) (sym h) taken_communication
taken_allowed E.Trailer k h = subst (Taken E.Trailer) (sym h) (taken_trailer E.Trailer (λ _ _ _ f. a_trailer f))
taken_allowed E.End k h = absurd h

pub leaf_of : (r : Leaf) → leaf (kind r) (bytes r) ≡ r
leaf_of (header b) = refl
leaf_of (old_balance b) = refl
leaf_of (movement b) = refl
leaf_of (movement_second b) = refl
leaf_of (counterparty b) = refl
leaf_of (information b) = refl
leaf_of (information_second b) = refl
leaf_of (information_third b) = refl
leaf_of (new_balance b) = refl
leaf_of (free_communication b) = refl
leaf_of (trailer b) = refl

pub taken_moves : (p : Place) (r : Leaf) (q : Place) → take_values p (kind r) (bytes r) ≡ Ok q → Moved p r q
taken_moves p r q =
    cond_both (may_come p.expect (kind r)) (take_kind p (kind r) (bytes r)) (Err Misplaced)
    (λ x. x ≡ Ok q → Moved p r q)
    (λ c h. subst (λ x. Moved p x q) (leaf_of r)
    (taken_allowed p.expect (kind r) (among (kind r) (allowed p.expect) c) p.numbers p.sums p.statements p.movements (bytes r) q h))
    (λ _ h. absurd (refused Misplaced q h))

-- WHAT MOVES IS TAKEN

succeeding_differs : (n : ℕ) → succeeding n ≡ n → ⊥
succeeding_differs n = cond_both (eqb n 9999) 0 (suc n) (λ x. x ≡ n → ⊥) (λ h e. last (eqb-true n 9999 h) e) (λ _ e. omega arith)
  where
    last : n ≡ 9999 → 0 ≡ n → ⊥
    last x y = omega arith

-- behind a record with the counters
abbrev pub behind_leaf : Leaf → ℕ → ℕ → Expect → Numbers → Sums → Place
behind_leaf r c m e n s = at e n s (statements_behind r c) (movements_behind r m)

main_taken : (p : Place) (b : List ℕ) → is_detail p b ≡ false → MainFits p.numbers b → Room p.sums b → Apart b → take_movement p b ≡ Ok (after_main p b)
main_taken p b d f r a =
    cond-false (is_detail p b) (under (detail_rules p.numbers b) (after_detail p b)) (under (main_rules p.numbers p.sums b) (after_main p b)) d
    ∙ kept (main_rules p.numbers p.sums b) (after_main p b) (main_kept p.numbers p.sums b f r a)

detail_taken : (p : Place) (b : List ℕ) → is_detail p b ≡ true → DetailFits p.numbers b → Apart b → take_movement p b ≡ Ok (after_detail p b)
detail_taken p b d f a =
    cond-true (is_detail p b) (under (detail_rules p.numbers b) (after_detail p b)) (under (main_rules p.numbers p.sums b) (after_main p b)) d
    ∙ kept (detail_rules p.numbers b) (after_detail p b) (detail_kept p.numbers b f a)

repeat_taken : (p : Place) (b : List ℕ) (e : Expect) → Repeats p.numbers b → Apart b → take_repeat p b e ≡ Ok (after_counted p (behind (next b) (link b) e))
repeat_taken p b e f a = kept (repeat_rules p.numbers b) (after_counted p (behind (next b) (link b) e)) (repeat_kept p.numbers b f a)

new_balance_taken : (p : Place) (b : List ℕ) → NewBalanceFits p.numbers p.sums b → (is_opened p.expect ≡ true → link b ≡ true) → take_new_balance p b ≡ Ok (after_new_balance p b)
new_balance_taken p b f l =
    cond-true (none_open p.numbers.levels) (under (new_balance_rules (is_opened p.expect) p.sums b) (after_new_balance p b)) (Err Misplaced) (none_open_from p.numbers.levels f.none_open)
    ∙ kept (new_balance_rules (is_opened p.expect) p.sums b) (after_new_balance p b) (new_balance_kept p.numbers p.sums b (is_opened p.expect) f l)

trailer_taken : (p : Place) (b : List ℕ) → TrailerFits p.sums b → under (trailer_rules p.sums b) (after_trailer p b) ≡ Ok (after_trailer p b)
trailer_taken p b f = kept (trailer_rules p.sums b) (after_trailer p b) (trailer_kept p.sums b f)

pub moves_taken : {e f : Expect} {n k : Numbers} {s t : Sums} {r : Leaf} (c m : ℕ) → Moves e n s r f k t → take_values (at e n s c m) (kind r) (bytes r) ≡ Ok (behind_leaf r c m f k t)
moves_taken c m a_first_header = refl
moves_taken c m a_header = refl
moves_taken c m an_old_balance = refl
moves_taken c m (a_first_main {n = n} {s = s} {b = b} f r a) = main_taken (at E.Opened n s c m) b (and_right (eqb (sequence b) n.sequence) false refl) f r a
moves_taken c m (a_main {n = n} {s = s} {b = b} f r a) =
    main_taken (at E.Further n s c m) b (and_left (eqb (sequence b) n.sequence) true (ne_eqb (sequence b) n.sequence (λ x. succeeding_differs n.sequence (sym f.sequence ∙ x)))) f r a
moves_taken c m (a_detail {n = n} {s = s} {b = b} f a) = detail_taken (at E.Further n s c m) b (and_from (eqb (sequence b) n.sequence) true (eq-eqb (sequence b) n.sequence f.sequence) refl) f a
moves_taken c m (a_second {n = n} {s = s} {b = b} f a) = repeat_taken (at E.Second n s c m) b E.Counterparty f a
moves_taken c m (a_lone_counterparty {n = n} {s = s} {b = b} f a) = repeat_taken (at E.Second n s c m) b E.Counterparty f a
moves_taken c m (a_counterparty {n = n} {s = s} {b = b} f a) = repeat_taken (at E.Counterparty n s c m) b E.Counterparty f a
moves_taken c m (an_information {n = n} {s = s} {b = b} f a) = kept (information_rules n b) (after_information (at E.Information n s c m) b) (information_kept n b f a)
moves_taken c m (an_information_second {n = n} {s = s} {b = b} f a) = repeat_taken (at E.InformationSecond n s c m) b E.InformationThird f a
moves_taken c m (an_information_third {n = n} {s = s} {b = b} f a) = repeat_taken (at E.InformationThird n s c m) b E.InformationThird f a
moves_taken c m (a_lone_new_balance {n = n} {s = s} {b = b} f l) = new_balance_taken (at E.Opened n s c m) b f (λ _. l)
moves_taken c m (a_new_balance {n = n} {s = s} {b = b} f) = new_balance_taken (at E.Further n s c m) b f (λ z. absurd (false≢true z))
moves_taken c m (a_first_communication {n = n} {s = s} {b = b} f) = kept (first_communication_rules b) (after_communication (at E.FirstCommunication n s c m) b) (first_communication_kept b f)
moves_taken c m (a_communication {n = n} {s = s} {b = b} f) = kept (communication_rules n b) (after_communication (at E.Communication n s c m) b) (communication_kept n b f)
moves_taken c m (a_lone_trailer {n = n} {s = s} {b = b} f) = trailer_taken (at E.Opened n s c m) b f
moves_taken c m (a_trailer {n = n} {s = s} {b = b} f) = trailer_taken (at E.Trailer n s c m) b f
