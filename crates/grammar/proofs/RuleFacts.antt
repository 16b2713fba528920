-- Rules that are kept are the facts of proofs/Fits, and the facts keep the rules.
use Rattle.std.proofs.Common.{◌≡◌, ℕ, ◌+◌, Bool, true, false, not, ◌&&◌, ◌||◌, eqb, leb, ◌⊎◌, List, [], ◌∷◌, ℤ, pos, negsuc, sym, refl, ap, subst, inl, inr}
use Rattle.std.proofs.lemmas.Bool.{eqb-true, eq-eqb, ne_eqb, leb-true, le-leb, and_parts, and_from, or_cases, or_left, or_right, not-true, not_from_false, false≢true}
use Rattle.std.proofs.lemmas.Slice.Eq.{bytes_eq-Decides}
use Rattle.grammar.specs.Fields.{sequence, detail, reference, next, link, type, level, new_account, new_amount, count, debit_sum, credit_sum}
use Rattle.grammar.specs.Lawful.{Bears, debit_of, credit_of, largest_sum}
use Rattle.grammar.specs.Places.{Numbers, Sums, none_open}
use Rattle.grammar.specs.Rules.{succeeding, detail_type, same_amount, main_rules, detail_rules, repeat_rules, information_rules, new_balance_rules, first_communication_rules, communication_rules, trailer_rules}
use Rattle.grammar.proofs.Fits.{MainFits, DetailFits, InformationFits, Repeats, Room, NewBalanceFits, CommunicationFits, TrailerFits}
use Rattle.grammar.proofs.Moves.{Apart}
use Rattle.grammar.proofs.Kept.{Kept}

-- TESTS

pub same_amounts : (a b : ℤ) → same_amount a b ≡ true → a ≡ b
same_amounts (pos m) (pos n) h = ap pos (eqb-true m n h)
same_amounts (pos m) (negsuc n) h = absurd (false≢true h)
same_amounts (negsuc m) (pos n) h = absurd (false≢true h)
same_amounts (negsuc m) (negsuc n) h = ap negsuc (eqb-true m n h)

pub amount_same : (a b : ℤ) → a ≡ b → same_amount a b ≡ true
amount_same a b h = subst (λ c. same_amount a c ≡ true) h (itself a)
  where
    itself : (c : ℤ) → same_amount c c ≡ true
    itself (pos m) = eq-eqb m m refl
    itself (negsuc m) = eq-eqb m m refl

pub none_open_true : (ls : List ℕ) → none_open ls ≡ true → ls ≡ []
none_open_true [] h = refl
none_open_true (l ∷ ls) h = absurd (false≢true h)

pub none_open_from : (ls : List ℕ) → ls ≡ [] → none_open ls ≡ true
none_open_from ls h = subst (λ x. none_open x ≡ true) (sym h) refl

-- a test that is asked only where another holds
where_holds : (x y : Bool) → (not x || y) ≡ true → x ≡ true → y ≡ true
where_holds true y h e = h
where_holds false y h e = absurd (false≢true e)

asked_where : (x y : Bool) → (x ≡ true → y ≡ true) → (not x || y) ≡ true
asked_where true y f = f refl
asked_where false y f = refl

-- THE RULES AS FACTS

module _ (n : Numbers) (s : Sums) (b : List ℕ) where
  pub main_facts : Kept (main_rules n s b) → MainFits n b × Room s b × Apart b
  main_facts k =
      let turn = and_parts (eqb (sequence b) (succeeding n.sequence)) (none_open n.levels) k.0 in
      let room = and_parts (leb (s.debits + debit_of b) largest_sum) (leb (s.credits + credit_of b) largest_sum) k.1.1.0 in (
        record {
          sequence = eqb-true (sequence b) (succeeding n.sequence) turn.0;
          none_open = none_open_true n.levels turn.1;
          detail = eqb-true (detail b) 0 k.1.0;
          typed = leb-true (type b) 3 k.1.1.1.0;
          levelled = λ z. eqb-true (level b) 0 (where_holds (eqb (type b) 0) (eqb (level b) 0) k.1.1.1.1.0 (eq-eqb (type b) 0 z));
        },
        (leb-true (s.debits + debit_of b) largest_sum room.0, leb-true (s.credits + credit_of b) largest_sum room.1),
        not-true (next b && link b) k.1.1.1.1.1.0,
      )

  pub main_kept : MainFits n b → Room s b → Apart b → Kept (main_rules n s b)
  main_kept f r a = (
    and_from (eqb (sequence b) (succeeding n.sequence)) (none_open n.levels) (eq-eqb (sequence b) (succeeding n.sequence) f.sequence) (none_open_from n.levels f.none_open),
    (
      eq-eqb (detail b) 0 f.detail,
      (
        and_from (leb (s.debits + debit_of b) largest_sum) (leb (s.credits + credit_of b) largest_sum) (le-leb (s.debits + debit_of b) largest_sum r.0) (le-leb (s.credits + credit_of b) largest_sum r.1),
        (
          le-leb (type b) 3 f.typed,
          (
            asked_where (eqb (type b) 0) (eqb (level b) 0) (λ z. eq-eqb (level b) 0 (f.levelled (eqb-true (type b) 0 z))),
            (not_from_false (next b && link b) a, tt),
          ),
        ),
      ),
    ),
  )

  pub new_balance_facts : (right_behind : Bool) → n.levels ≡ [] → Kept (new_balance_rules right_behind s b) → NewBalanceFits n s b × (right_behind ≡ true → link b ≡ true)
  new_balance_facts right_behind o k =
      (record { none_open = o; account = (bytes_eq-Decides (new_account b) s.account).0 k.0; balance = same_amounts (new_amount b) s.balance k.1.0 }, where_holds right_behind (link b) k.1.1.0)

  pub new_balance_kept : (right_behind : Bool) → NewBalanceFits n s b → (right_behind ≡ true → link b ≡ true) → Kept (new_balance_rules right_behind s b)
  new_balance_kept right_behind f l =
      ((bytes_eq-Decides (new_account b) s.account).1 f.account, (amount_same (new_amount b) s.balance f.balance, (asked_where right_behind (link b) l, tt)))

module _ (n : Numbers) (b : List ℕ) where
  -- a detail has its sequence number by the test that makes it one
  pub detail_facts : sequence b ≡ n.sequence → Kept (detail_rules n b) → DetailFits n b × Apart b
  detail_facts e k =
      (record { sequence = e; detail = eqb-true (detail b) (succeeding n.detail) k.1.0; typed = k.1.1.0; levelled = k.1.1.1.0 }, not-true (next b && link b) k.1.1.1.1.0)

  typed_main : (m : ℕ) (seven : Bool) (t : ℕ) → detail_type m seven t ≡ true → eqb m 0 ≡ false
  typed_main m seven t h = ne_eqb m 0 (λ z. false≢true (subst (λ x. detail_type x seven t ≡ true) z h))

  pub detail_kept : DetailFits n b → Apart b → Kept (detail_rules n b)
  detail_kept f a = (
    not_from_false (eqb n.type 0) (typed_main n.type n.seven (type b) f.typed),
    (eq-eqb (detail b) (succeeding n.detail) f.detail, (f.typed, (f.levelled, (not_from_false (next b && link b) a, tt)))),
  )

  pub repeat_facts : Kept (repeat_rules n b) → Repeats n b × Apart b
  repeat_facts k = ((eqb-true (sequence b) n.sequence k.0, eqb-true (detail b) n.detail k.1.0), not-true (next b && link b) k.1.1.0)

  pub repeat_kept : Repeats n b → Apart b → Kept (repeat_rules n b)
  repeat_kept r a = (eq-eqb (sequence b) n.sequence r.0, (eq-eqb (detail b) n.detail r.1, (not_from_false (next b && link b) a, tt)))

  pub information_facts : Kept (information_rules n b) → InformationFits n b × Apart b
  information_facts k = (
    record { sequence = eqb-true (sequence b) n.sequence k.0; detail = eqb-true (detail b) (succeeding n.detail) k.1.0; reference = (bytes_eq-Decides (reference b) n.reference).0 k.1.1.0 },
    not-true (next b && link b) k.1.1.1.0,
  )

  pub information_kept : InformationFits n b → Apart b → Kept (information_rules n b)
  information_kept f a =
      (eq-eqb (sequence b) n.sequence f.sequence, (eq-eqb (detail b) (succeeding n.detail) f.detail, ((bytes_eq-Decides (reference b) n.reference).1 f.reference, (not_from_false (next b && link b) a, tt))))

-- two tests that together say which numbers a record has
bears : (s d : ℕ) (b : List ℕ) → (eqb (sequence b) s && eqb (detail b) d) ≡ true → Bears s d b
bears s d b h = let x = and_parts (eqb (sequence b) s) (eqb (detail b) d) h in (eqb-true (sequence b) s x.0, eqb-true (detail b) d x.1)

borne : (s d : ℕ) (b : List ℕ) → Bears s d b → (eqb (sequence b) s && eqb (detail b) d) ≡ true
borne s d b f = and_from (eqb (sequence b) s) (eqb (detail b) d) (eq-eqb (sequence b) s f.0) (eq-eqb (detail b) d f.1)

pub first_communication_facts : (b : List ℕ) → Kept (first_communication_rules b) → Bears 1 0 b
first_communication_facts b k = (eqb-true (sequence b) 1 k.0, eqb-true (detail b) 0 k.1.0)

pub first_communication_kept : (b : List ℕ) → Bears 1 0 b → Kept (first_communication_rules b)
first_communication_kept b f = (eq-eqb (sequence b) 1 f.0, (eq-eqb (detail b) 0 f.1, tt))

module _ (n : Numbers) (b : List ℕ) where
  pub communication_facts : Kept (communication_rules n b) → CommunicationFits n.sequence n.detail b
  communication_facts k =
      by (or_cases (eqb (sequence b) n.sequence && eqb (detail b) (succeeding n.detail)) (eqb (sequence b) (succeeding n.sequence) && eqb (detail b) 0) k.1.0)
    where
      by : ((eqb (sequence b) n.sequence && eqb (detail b) (succeeding n.detail)) ≡ true) ⊎ ((eqb (sequence b) (succeeding n.sequence) && eqb (detail b) 0) ≡ true) → CommunicationFits n.sequence n.detail b
      by (inl h) = inl (bears n.sequence (succeeding n.detail) b h)
      by (inr h) = inr (bears (succeeding n.sequence) 0 b h)

  pub communication_kept : CommunicationFits n.sequence n.detail b → Kept (communication_rules n b)
  communication_kept (inl f) = (
    or_left (eqb (sequence b) n.sequence) (eqb (sequence b) (succeeding n.sequence)) (eq-eqb (sequence b) n.sequence f.0),
    (or_left (eqb (sequence b) n.sequence && eqb (detail b) (succeeding n.detail)) (eqb (sequence b) (succeeding n.sequence) && eqb (detail b) 0) (borne n.sequence (succeeding n.detail) b f), tt),
  )
  communication_kept (inr f) = (
    or_right (eqb (sequence b) n.sequence) (eqb (sequence b) (succeeding n.sequence)) (eq-eqb (sequence b) (succeeding n.sequence) f.0),
    (or_right (eqb (sequence b) n.sequence && eqb (detail b) (succeeding n.detail)) (eqb (sequence b) (succeeding n.sequence) && eqb (detail b) 0) (borne (succeeding n.sequence) 0 b f), tt),
  )

module _ (s : Sums) (b : List ℕ) where
  pub trailer_facts : Kept (trailer_rules s b) → TrailerFits s b
  trailer_facts k = record { count = eqb-true (count b) s.count k.0; debits = eqb-true (debit_sum b) s.debits k.1.0; credits = eqb-true (credit_sum b) s.credits k.1.1.0 }

  pub trailer_kept : TrailerFits s b → Kept (trailer_rules s b)
  trailer_kept f = (eq-eqb (count b) s.count f.count, (eq-eqb (debit_sum b) s.debits f.debits, (eq-eqb (credit_sum b) s.credits f.credits, tt)))
