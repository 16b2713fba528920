-- Wherever a file stands, if it has not counted too many records, formed records can still come that end it.
use Rattle.std.proofs.Common.{◌≡◌, ℕ, zero, suc, ◌+◌, ◌^◌, ◌<◌, ◌≤◌, Bool, true, false, cond, eqb, List, [], ◌∷◌, ◌+ℤ◌, nat_abs, sym, refl, ap, ◌∙◌, subst, inl, arith}
use mathlib.Core.Path.{subst⁻¹}
use Rattle.std.specs.List.{AllByRecursion}
use Rattle.std.proofs.lemmas.Bool.{eqb-false, and_left, cond_both}
use Rattle.values.specs.Money.{credit, debit, is_sign, signed, sign_of}
use Rattle.grammar.specs.declared.expect.Expect.{Expect}
use Rattle.grammar.specs.declared.expect.Expect.TheVariants as E
use Rattle.grammar.specs.Fields.{next, link, amount, another}
use Rattle.grammar.specs.Leaves.{Leaf, Formed, trailer, free_communication}
use Rattle.grammar.specs.Lawful.{Bears, debit_of, credit_of, largest_sum}
use Rattle.grammar.specs.Order.{behind, behind_closing, behind_trailer}
use Rattle.grammar.specs.Places.{Numbers, Sums, level_fits, levels_behind, behind_main, behind_detail, behind_information, behind_communication, opened, counted_one, booked}
use Rattle.grammar.specs.Rules.{succeeding, detail_type}
use Rattle.grammar.proofs.Fits.{MainFits, DetailFits, Room, Repeats, TrailerFits}
use Rattle.grammar.proofs.Moves.{Apart, Moves, a_first_header, a_header, an_old_balance, a_main, a_detail, a_lone_counterparty, a_counterparty, an_information, an_information_second, an_information_third, a_new_balance, a_first_communication, a_communication, a_lone_trailer, a_trailer, Run, done, go}
use Rattle.grammar.proofs.Made.{spaces, ContinuationMade, old_balance_made, movement_made, information_made, free_communication_made, trailer_made}
use Rattle.grammar.proofs.Making.{PlainBytes, amount_signed}
use Rattle.grammar.proofs.MakingBalances.{header_is_made, old_balance_is_made, new_balance_is_made}
use Rattle.grammar.proofs.MakingMovements.{movement_is_made}
use Rattle.grammar.proofs.MakingContinuations.{counterparty_is_made, information_second_is_made, information_third_is_made}
use Rattle.grammar.proofs.MakingInformations.{information_is_made}
use Rattle.grammar.proofs.MakingEnds.{free_communication_is_made, trailer_is_made}
use Rattle.grammar.proofs.Bounds.{information_numbers}
use Rattle.grammar.proofs.Lowest.{Lowest, lowest, lowest_closes, lowest_fits}
use Rattle.grammar.proofs.Balancing.{Fifteen, Restored, by_nothing, by_debit, by_credit, restored}
use Rattle.grammar.proofs.Standing.{SumsHold, BothHold, Standing, sums_opened, sums_counted, sums_booked, numbers_information}

-- the records that can still come
pub record Can (e : Expect) (n : Numbers) (s : Sums) : Type 0 where
  pub rest : List Leaf
  pub ran : Run e n s rest
  pub formed : AllByRecursion Formed rest

before : {e f : Expect} {n m : Numbers} {s t : Sums} {r : Leaf} → Moves e n s r f m t → Formed r → Can f m t → Can e n s
before {r = r} x formed c = record { rest = r ∷ c.rest; ran = go x c.ran; formed = (formed, c.formed) }

-- what a record with code 0 leads to
further : {n : Numbers} {s : Sums} (x y : Bool) (continued : Expect) → x ≡ false → y ≡ false → Can E.Further n s → Can (behind x y continued) n s
further {n} {s} x y continued a b c = subst⁻¹ (λ z. Can (behind x z continued) n s) b (subst⁻¹ (λ z. Can (cond z continued E.Further) n s) a c)

closed : {n : Numbers} {s : Sums} (x : Bool) (e : Expect) → x ≡ false → Can E.Trailer n s → Can (behind_closing x e) n s
closed {n} {s} x e a c = subst⁻¹ (λ z. Can (behind_closing z e) n s) a c

-- NUMBERS

succeeding_below : (n : ℕ) → n < 10000 → succeeding n < 10000
succeeding_below n below = cond_both (eqb n 9999) 0 (suc n) (λ k. k < 10000) (λ _. omega arith) (λ z. more (eqb-false n 9999 z))
  where
    more : (n ≡ 9999 → ⊥) → suc n < 10000
    more f = omega arith

sum_below : (n : ℕ) → n ≤ largest_sum → n < 10 ^ 15
sum_below n h = omega arith

count_below : (n : ℕ) → n ≤ 999999 → n < 10 ^ 6
count_below n h = omega arith

blank : PlainBytes 21 (spaces 21)
blank = record { wide = refl; plain = refl }

-- THE WAYS TO THE END, FROM THE LAST RECORD BACK

module _ (n : Numbers) (s : Sums) (h : SumsHold s) where
  can_end : {e : Expect} → ((b : List ℕ) → TrailerFits s b → Moves e n s (trailer b) (behind_trailer (another b)) n s) → s.count ≤ 999999 → Can e n s
  can_end may few =
      let b = trailer_made s.count s.debits s.credits false in
      let made = trailer_is_made s.count s.debits s.credits false (count_below s.count few) (sum_below s.debits h.debits) (sum_below s.credits h.credits) in
      before (may b (record { count = made.count; debits = made.debit_sum; credits = made.credit_sum })) made.formed
      (subst⁻¹ (λ x. Can (behind_trailer x) n s) made.another (record { rest = []; ran = done; formed = tt }))

  can_trailer : s.count ≤ 999999 → Can E.Trailer n s
  can_trailer = can_end (λ b. a_trailer)

module _ (n : Numbers) (s : Sums) (h : SumsHold s) where
  -- a free communication with these numbers
  can_communicate : {e : Expect} (q d : ℕ) → q < 10000 → d < 10000
      → ((b : List ℕ) → Bears q d b → Moves e n s (free_communication b) (behind_closing (link b) E.Communication) (behind_communication n b) s)
      → s.count ≤ 999999 → Can e n s
  can_communicate q d q_below d_below may few =
      let b = free_communication_made q d false in
      let made = free_communication_is_made q d false q_below d_below in
      before (may b (made.sequence, made.detail)) made.formed (closed (link b) E.Communication made.link (can_trailer (behind_communication n b) s h few))

  -- a new balance
  can_close : n.levels ≡ [] → Fifteen s.balance → s.count ≤ 999998 → Can E.Further n s
  can_close none fits few =
      let signs = amount_signed s.balance in
      let made = new_balance_is_made s.account (sign_of s.balance) (nat_abs s.balance) false h.account signs.0 (sum_below (nat_abs s.balance) fits) in
      before (a_new_balance (record { none_open = none; account = made.new_account; balance = made.new_amount ∙ signs.1 })) made.formed
      (closed _ E.FirstCommunication made.link (can_trailer n (counted_one s) (sums_counted s h) (omega arith)))

module _ (n : Numbers) (s : Sums) (h : SumsHold s) (below : n.sequence < 10000) (none : n.levels ≡ []) where
  -- one more main movement
  can_book : (sign k : ℕ) → is_sign sign ≡ true → k ≤ largest_sum → s.debits + cond (eqb sign debit) k 0 ≤ largest_sum → s.credits + cond (eqb sign debit) 0 k ≤ largest_sum
      → Fifteen (s.balance +ℤ signed sign k) → s.count ≤ 999997 → Can E.Further n s
  can_book sign k signs small debits_fit credits_fit fits few =
      let q = succeeding n.sequence in
      let b = movement_made q 0 (spaces 21) sign k 0 0 false false in
      let made = movement_is_made q 0 (spaces 21) sign k 0 0 false false (succeeding_below n.sequence below) (omega arith) blank signs (sum_below k small) (omega arith) (omega arith) in
      let debits_are : debit_of b ≡ cond (eqb sign debit) k 0 = ap (λ x. cond x (amount b) 0) made.is_debit ∙ ap (λ x. cond (eqb sign debit) x 0) made.amount in
      let credits_are : credit_of b ≡ cond (eqb sign debit) 0 k = ap (λ x. cond x 0 (amount b)) made.is_debit ∙ ap (λ x. cond (eqb sign debit) 0 x) made.amount in
      let room : Room s b = (subst⁻¹ (λ x. s.debits + x ≤ largest_sum) debits_are debits_fit, subst⁻¹ (λ x. s.credits + x ≤ largest_sum) credits_are credits_fit) in
      let fit : MainFits n b = record { sequence = made.sequence; none_open = none; detail = made.detail; typed = subst⁻¹ (λ x. x ≤ 3) made.type (omega arith); levelled = λ _. made.level } in
      before (a_main fit room (and_left (next b) (link b) made.next)) made.formed
      (further (next b) (link b) E.Second made.next made.link
      (can_close (behind_main b) (booked s b) (sums_booked s h b room) (ap (levels_behind []) made.level) (subst⁻¹ (λ x. Fifteen (s.balance +ℤ x)) made.signed_amount fits) (omega arith)))

  -- no level is open
  can_balance : s.count ≤ 999997 → Can E.Further n s
  can_balance few = by (restored s.balance s.credits s.debits h.credits h.debits h.balance)
    where
      by : Restored s.balance s.credits s.debits → Can E.Further n s
      by (by_nothing fits) = can_close n s h none fits (omega arith)
      by (by_debit k small room fits) = can_book debit k refl small room (omega arith) fits few
      by (by_credit k small room fits) = can_book credit k refl small (omega arith) room fits few

-- a type of a detail under a main movement of type 1 to 3
record DetailTyped (t : ℕ) (seven : Bool) : Type 0 where
  digit : ℕ
  small : digit ≤ 9
  typed : detail_type t seven digit ≡ true

detail_typed : (t : ℕ) (seven : Bool) → t ≤ 3 → (t ≡ 0 → ⊥) → DetailTyped t seven
detail_typed zero seven h z = absurd (z refl)
detail_typed (suc zero) seven h z = record { digit = 5; small = omega arith; typed = refl }
detail_typed (suc (suc zero)) seven h z = record { digit = 6; small = omega arith; typed = refl }
detail_typed (suc (suc (suc zero))) seven h z = record { digit = 8; small = omega arith; typed = refl }
detail_typed (suc (suc (suc (suc t)))) seven h z = absurd (omega arith)

some_open : (o : ℕ) (os : List ℕ) → (o ∷ os) ≡ [] → ⊥
some_open o os e = let z : ◌≡◌ {A = ℕ} 0 1 = cc in omega arith

module _ (n : Numbers) (s : Sums) (h : BothHold n s) where
  -- a detail that closes the lowest level, and so every level
  can_close_levels : Lowest n.levels → DetailTyped n.type n.seven → s.count ≤ 999996 → Can E.Further n s
  can_close_levels x t few =
      let d = succeeding n.detail in
      let b = movement_made n.sequence d (spaces 21) credit 0 t.digit x.level false false in
      let made =
      movement_is_made n.sequence d (spaces 21) credit 0 t.digit x.level false false h.numbers.sequence (succeeding_below n.detail h.numbers.detail) blank refl (omega arith) t.small x.is_level.1 in
      let fit : DetailFits n b =
      record {
        sequence = made.sequence;
        detail = made.detail;
        typed = subst⁻¹ (λ k. detail_type n.type n.seven k ≡ true) made.type t.typed;
        levelled = subst⁻¹ (λ k. level_fits n.levels k ≡ true) made.level (lowest_fits n.levels x);
      } in
      before (a_detail fit (and_left (next b) (link b) made.next)) made.formed
      (further (next b) (link b) E.Second made.next made.link
      (can_balance (behind_detail n b) (counted_one s) (sums_counted s h.sums) h.numbers.sequence (ap (levels_behind n.levels) made.level ∙ lowest_closes n.levels x) (omega arith)))

  can_further : s.count ≤ 999996 → Can E.Further n s
  can_further few = by n.levels refl
    where
      by : (os : List ℕ) → n.levels ≡ os → Can E.Further n s
      by [] e = can_balance n s h.sums h.numbers.sequence e (omega arith)
      by (o ∷ os) e =
          can_close_levels (subst⁻¹ Lowest e (lowest o os (subst (AllByRecursion _) e h.numbers.levelled)))
          (detail_typed n.type n.seven h.numbers.typed (λ z. some_open o os (sym e ∙ h.numbers.single z))) few

module _ (n : Numbers) (s : Sums) (h : BothHold n s) where
  can_inform : s.count ≤ 999995 → Can E.Information n s
  can_inform few =
      let d = succeeding n.detail in
      let b = information_made n.sequence d n.reference false false in
      let made = information_is_made n.sequence d n.reference false false h.numbers.sequence (succeeding_below n.detail h.numbers.detail) h.numbers.reference in
      before (an_information (record { sequence = made.sequence; detail = made.detail; reference = made.reference }) (and_left (next b) (link b) made.next)) made.formed
      (further (next b) (link b) E.InformationSecond made.next made.link
      (can_further (behind_information n b) (counted_one s)
      (record { numbers = numbers_information n h.numbers b (information_numbers b made.formed).detail; sums = sums_counted s h.sums }) (omega arith)))

  -- a record that continues the one before
  can_continue : {e : Expect} {kind : List ℕ → Leaf} {b : List ℕ} (continued : Expect) → ContinuationMade kind n.sequence n.detail false false b
      → (Repeats n b → Apart b → Moves e n s (kind b) (behind (next b) (link b) continued) n (counted_one s))
      → s.count ≤ 999995 → Can e n s
  can_continue {b = b} continued made may few =
      before (may (made.sequence, made.detail) (and_left (next b) (link b) made.next)) made.formed
      (further (next b) (link b) continued made.next made.link (can_further n (counted_one s) (record { numbers = h.numbers; sums = sums_counted s h.sums }) (omega arith)))

can_opened : (n : Numbers) (s : Sums) → SumsHold s → s.count ≤ 999999 → Can E.Opened n s
can_opened n s h = can_end n s h (λ b. a_lone_trailer)

can_open : (n : Numbers) (s : Sums) → Can E.OldBalance n s
can_open n s =
    let formed = old_balance_is_made.formed in
    before an_old_balance formed (can_opened _ (opened old_balance_made) (sums_opened old_balance_made formed) (omega arith))

pub can : (e : Expect) (n : Numbers) (s : Sums) → Standing e n s → s.count ≤ 999990 → Can e n s
can E.Start n s h few = before a_first_header header_is_made (can_open n s)
can E.Header n s h few = before a_header header_is_made (can_open n s)
can E.OldBalance n s h few = can_open n s
can E.Opened n s h few = can_opened n s h (omega arith)
can E.Second n s h few = can_continue n s h E.Counterparty (counterparty_is_made n.sequence n.detail h.numbers.sequence h.numbers.detail false) a_lone_counterparty (omega arith)
can E.Counterparty n s h few = can_continue n s h E.Counterparty (counterparty_is_made n.sequence n.detail h.numbers.sequence h.numbers.detail false) a_counterparty (omega arith)
can E.Information n s h few = can_inform n s h (omega arith)
can E.InformationSecond n s h few =
    can_continue n s h E.InformationThird (information_second_is_made n.sequence n.detail h.numbers.sequence h.numbers.detail false false) an_information_second (omega arith)
can E.InformationThird n s h few =
    can_continue n s h E.InformationThird (information_third_is_made n.sequence n.detail h.numbers.sequence h.numbers.detail false) an_information_third (omega arith)
can E.Further n s h few = can_further n s h (omega arith)
can E.FirstCommunication n s h few = can_communicate n s h 1 0 (omega arith) (omega arith) (λ b. a_first_communication) (omega arith)
can E.Communication n s h few =
    can_communicate n s h.sums n.sequence (succeeding n.detail) h.sequence (succeeding_below n.detail h.detail) (λ b f. a_communication (inl f)) (omega arith)
can E.Trailer n s h few = can_trailer n s h (omega arith)
can E.End n s h few = record { rest = []; ran = done; formed = tt }
