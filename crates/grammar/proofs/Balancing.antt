-- A balance is brought back to fifteen digits by one more main movement.
--   Balance     thousandths that are an old credit or debit of fifteen digits, plus credits, less debits
--   Restored    what brings a balance back: nothing, a debit or a credit of so much
use Rattle.std.proofs.Common.{◌≡◌, ℕ, add-zero, zero, suc, ◌+◌, ◌-◌, ◌≤◌, Bool, true, false, cond, ◌⊎◌, ℤ, pos, negsuc, ◌+ℤ◌, ◌-ℤ◌, neg_ℤ, nat_abs, sym, refl, ap, ◌∙◌, subst, inl, inr, arith}
use mathlib.Core.Path.{subst⁻¹}
use native.Mathlib.Decide.{dec_le}
use lib.IntN.{pos-+ℤ-pos, +ℤ_assoc, +ℤ_comm, +ℤ-neg_ℤ_cancel, -ℤ-+ℤ_cancel, neg_ℤ-+ℤ, +ℤ_idl, +ℤ_idr}
use Rattle.grammar.specs.Lawful.{largest_sum}

-- at most fifteen digits
abbrev pub Fifteen : ℤ → Type 0
Fifteen z = nat_abs z ≤ largest_sum

-- a credit or a debit
abbrev Either : ℤ → ℕ → Type 0
Either z n = (z ≡ pos n) ⊎ (z ≡ neg_ℤ (pos n))

size_of : (z : ℤ) (n : ℕ) → Either z n → nat_abs z ≡ n
size_of z n (inl e) = ap nat_abs e
size_of z n (inr e) = ap nat_abs e ∙ negated n
  where
    negated : (n : ℕ) → nat_abs (neg_ℤ (pos n)) ≡ n
    negated zero = refl
    negated (suc n) = refl

either : (z : ℤ) → Either z (nat_abs z)
either (pos n) = inl refl
either (negsuc n) = inr refl

fifteen : (z : ℤ) (n : ℕ) → n ≤ largest_sum → Either z n → Fifteen z
fifteen z n h e = subst⁻¹ (λ k. k ≤ largest_sum) (size_of z n e) h

-- BALANCES

pub record Balance (z : ℤ) (credits debits : ℕ) : Type 0 where
  pub credit : ℕ
  pub debit : ℕ
  pub credit_small : credit ≤ largest_sum
  pub debit_small : debit ≤ largest_sum
  pub is : z ≡ pos (credit + credits) -ℤ pos (debit + debits)

pub balance_opened : (z : ℤ) → Fifteen z → Balance z 0 0
balance_opened z h = by (either z)
  where
    by : Either z (nat_abs z) → Balance z 0 0
    by (inl e) =
        record {
          credit = nat_abs z;
          debit = 0;
          credit_small = h;
          debit_small = omega arith;
          is = e ∙ (ap pos (sym (add-zero (nat_abs z))) ∙ sym (+ℤ_idr (pos (nat_abs z + 0))));
        }
    by (inr e) =
        record {
          credit = 0;
          debit = nat_abs z;
          credit_small = omega arith;
          debit_small = h;
          is = e ∙ (ap (λ k. neg_ℤ (pos k)) (sym (add-zero (nat_abs z))) ∙ sym (+ℤ_idl (neg_ℤ (pos (nat_abs z + 0)))));
        }

swap : (x y z : ℤ) → (x +ℤ y) +ℤ z ≡ (x +ℤ z) +ℤ y
swap x y z = +ℤ_assoc x y z ∙ (ap (λ u. x +ℤ u) (+ℤ_comm y z) ∙ sym (+ℤ_assoc x z y))

module _ (z : ℤ) (c d n : ℕ) (b : Balance z c d) where
  balance_credited : Balance (z +ℤ pos n) (c + n) d
  balance_credited =
      let x = b.credit + c in
      let y = b.debit + d in
      let sum : x + n ≡ b.credit + (c + n) = omega arith in
      record {
        credit = b.credit;
        debit = b.debit;
        credit_small = b.credit_small;
        debit_small = b.debit_small;
        is = ap (λ u. u +ℤ pos n) b.is ∙ (swap (pos x) (neg_ℤ (pos y)) (pos n) ∙ ap (λ u. u -ℤ pos y) (pos-+ℤ-pos x n ∙ ap pos sum));
      }

  balance_debited : Balance (z +ℤ neg_ℤ (pos n)) c (d + n)
  balance_debited =
      let x = b.credit + c in
      let y = b.debit + d in
      let sum : y + n ≡ b.debit + (d + n) = omega arith in
      record {
        credit = b.credit;
        debit = b.debit;
        credit_small = b.credit_small;
        debit_small = b.debit_small;
        is = ap (λ u. u +ℤ neg_ℤ (pos n)) b.is ∙ (+ℤ_assoc (pos x) (neg_ℤ (pos y)) (neg_ℤ (pos n)) ∙ ap (λ u. pos x +ℤ u) (sym (neg_ℤ-+ℤ (pos y) (pos n)) ∙ ap neg_ℤ (pos-+ℤ-pos y n ∙ ap pos sum)));
      }

-- behind a main movement
pub balance_booked : (is_debit : Bool) (n : ℕ) (z : ℤ) (c d : ℕ) → Balance z c d → Balance (z +ℤ cond is_debit (neg_ℤ (pos n)) (pos n)) (c + cond is_debit 0 n) (d + cond is_debit n 0)
balance_booked true n z c d b = subst (λ k. Balance (z +ℤ neg_ℤ (pos n)) k (d + n)) (sym (add-zero c)) (balance_debited z c d n b)
balance_booked false n z c d b = subst (λ k. Balance (z +ℤ pos n) (c + n) k) (sym (add-zero d)) (balance_credited z c d n b)

-- BACK TO FIFTEEN DIGITS

-- the difference of two numbers, as a credit or as a debit
data Difference (x y : ℕ) : Type 0 where
  credited : (k : ℕ) → pos x -ℤ pos y ≡ pos k → x ≡ k + y → Difference x y
  debited : (k : ℕ) → pos x -ℤ pos y ≡ neg_ℤ (pos k) → y ≡ k + x → Difference x y

difference : (x y : ℕ) → Difference x y
difference x y = by (dec_le y x)
  where
    by : Dec (y ≤ x) → Difference x y
    by (yes h) =
        let k = x - y in
        let up : x ≡ k + y = omega arith in
        credited k (ap (λ u. pos u -ℤ pos y) up ∙ (ap (λ u. u -ℤ pos y) (sym (pos-+ℤ-pos k y)) ∙ +ℤ-neg_ℤ_cancel (pos k) (pos y))) up
    by (no h) =
        let k = y - x in
        let down : y ≡ k + x = omega arith in
        debited k
        (ap (λ u. pos x -ℤ pos u) down
        ∙ (ap (λ u. pos x -ℤ u) (sym (pos-+ℤ-pos k x))
        ∙ (ap (λ u. pos x +ℤ u) (neg_ℤ-+ℤ (pos k) (pos x)) ∙ (+ℤ_comm (pos x) (neg_ℤ (pos k) +ℤ neg_ℤ (pos x)) ∙ -ℤ-+ℤ_cancel (neg_ℤ (pos k)) (pos x)))))
        down

pub data Restored (z : ℤ) (c d : ℕ) : Type 0 where
  by_nothing : Fifteen z → Restored z c d
  by_debit : (n : ℕ) → n ≤ largest_sum → d + n ≤ largest_sum → Fifteen (z +ℤ neg_ℤ (pos n)) → Restored z c d
  by_credit : (n : ℕ) → n ≤ largest_sum → c + n ≤ largest_sum → Fifteen (z +ℤ pos n) → Restored z c d

-- a number above the largest sum is that and the rest
beyond : (k : ℕ) → ¬ (k ≤ largest_sum) → k ≡ largest_sum + (k - largest_sum)
beyond k h = omega arith

pub restored : (z : ℤ) (c d : ℕ) → c ≤ largest_sum → d ≤ largest_sum → Balance z c d → Restored z c d
restored z c d hc hd b = from (difference (b.credit + c) (b.debit + d))
  where
    over : (k : ℕ) → z ≡ pos k → b.credit + c ≡ k + (b.debit + d) → Dec (k ≤ largest_sum) → Restored z c d
    over k f s (yes h) = by_nothing (fifteen z k h (inl f))
    over k f s (no h) =
        let n = k - largest_sum in
        by_debit n (omega arith) (omega arith)
        (fifteen (z +ℤ neg_ℤ (pos n)) largest_sum (omega arith)
        (inl (ap (λ u. u -ℤ pos n) (f ∙ (ap pos (beyond k h) ∙ sym (pos-+ℤ-pos largest_sum n))) ∙ +ℤ-neg_ℤ_cancel (pos largest_sum) (pos n))))

    short : (k : ℕ) → z ≡ neg_ℤ (pos k) → b.debit + d ≡ k + (b.credit + c) → Dec (k ≤ largest_sum) → Restored z c d
    short k f s (yes h) = by_nothing (fifteen z k h (inr f))
    short k f s (no h) =
        let n = k - largest_sum in
        by_credit n (omega arith) (omega arith)
        (fifteen (z +ℤ pos n) largest_sum (omega arith)
        (inr (ap (λ u. u +ℤ pos n) (f ∙ (ap (λ u. neg_ℤ (pos u)) (beyond k h) ∙ (ap neg_ℤ (sym (pos-+ℤ-pos largest_sum n)) ∙ neg_ℤ-+ℤ (pos largest_sum) (pos n)))) ∙ -ℤ-+ℤ_cancel (neg_ℤ (pos largest_sum)) (pos n))))

    from : Difference (b.credit + c) (b.debit + d) → Restored z c d
    from (credited k e s) = over k (b.is ∙ e) s (dec_le k largest_sum)
    from (debited k e s) = short k (b.is ∙ e) s (dec_le k largest_sum)
