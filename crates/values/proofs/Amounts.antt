-- Amounts as they are written and read.
use Rattle.std.proofs.Common.{◌≡◌, ℕ, zero, suc, ◌^◌, ◌<◌, Bool, true, false, cond, ◌&&◌, eqb, List, [], ◌∷◌, length, take, drop, set, ℤ, pos, negsuc, nat_abs, Some, sym, refl, ap, ◌∙◌, subst, ⊎_elim, arith}
use borrow.Rule.Slice.PartMut.{put_mid, mid_of}
use Rattle.std.specs.Bool.{then_some}
use Rattle.std.proofs.lemmas.List.{append-nil, drop_all, length-take-le}
use Rattle.std.proofs.lemmas.Bool.{and_parts, and_from, or_cases, eqb-true, eq-eqb, ltb-true, lt-ltb}
use Rattle.recordbytes.specs.Classes.{is_digit}
use Rattle.recordbytes.specs.Numbers.{value, digits}
use Rattle.recordbytes.specs.Walks.{all}
use Rattle.recordbytes.proofs.Writing.{digits_write_numbers}
use Rattle.values.specs.Money.{credit, debit, signed, is_sign, is_money, is_amount, money_read, sign_of, written, MoneyReadsBack}

-- what a sign byte and fifteen digits mean is an amount
size_debit : (n : ℕ) → nat_abs (signed debit n) ≡ n
size_debit zero = refl
size_debit (suc n) = refl

size_signed : (sign n : ℕ) → nat_abs (signed sign n) ≡ n
size_signed sign n = elim (eqb sign debit) as (λ b. nat_abs (cond b (signed debit n) (pos n)) ≡ n) [ true ↦ size_debit n | false ↦ refl ]

pub read_is_amount : (thousandths : ℤ) (sign : ℕ) (bytes : List ℕ) → thousandths ≡ signed sign (value bytes) → length bytes ≡ 15 → all is_digit bytes ≡ true → is_amount thousandths ≡ true
read_is_amount thousandths sign bytes e wide t =
    let below : value bytes < 10 ^ 15 = subst (λ n. value bytes < 10 ^ n) wide (digits_write_numbers.below bytes t) in
    lt-ltb (nat_abs thousandths) (10 ^ 15) (omega (arith, ap nat_abs e, size_signed sign (value bytes)))

-- a sign and fifteen digits
money_parts : (sign : ℕ) (bytes : List ℕ) → is_money sign bytes ≡ true → (is_sign sign ≡ true) × (length bytes ≡ 15) × (all is_digit bytes ≡ true)
money_parts sign bytes t =
    let s = and_parts (is_sign sign) (eqb (length bytes) 15 && all is_digit bytes) t in
    let d = and_parts (eqb (length bytes) 15) (all is_digit bytes) s.1 in
    (s.0, eqb-true (length bytes) 15 d.0, d.1)

money_from : (sign : ℕ) (bytes : List ℕ) → is_sign sign ≡ true → length bytes ≡ 15 → all is_digit bytes ≡ true → is_money sign bytes ≡ true
money_from sign bytes s wide t =
    and_from (is_sign sign) (eqb (length bytes) 15 && all is_digit bytes) s (and_from (eqb (length bytes) 15) (all is_digit bytes) (eq-eqb (length bytes) 15 wide) t)

-- reading what was written
read_digits : (sign n : ℕ) → is_sign sign ≡ true → n < 10 ^ 15 → money_read sign (digits 15 n) ≡ Some (signed sign n)
read_digits sign n s small =
    let t = money_from sign (digits 15 n) s (digits_write_numbers.wide 15 n) (digits_write_numbers.only_digits 15 n) in
    ap (λ b. then_some b (signed sign (value (digits 15 n)))) t ∙ ap (λ m. Some (signed sign m)) (digits_write_numbers.read_back 15 n small)

read_written : (z : ℤ) → is_amount z ≡ true → money_read (sign_of z) (digits 15 (nat_abs z)) ≡ Some z
read_written (pos n) few = read_digits credit n refl (ltb-true n (10 ^ 15) few)
read_written (negsuc n) few = read_digits debit (suc n) refl (ltb-true (suc n) (10 ^ 15) few)

-- writing what was read
when_some : (b : Bool) (x z : ℤ) → then_some b x ≡ Some z → (b ≡ true) × (x ≡ z)
when_some true x z e = (refl, (cc))
when_some false x z e = let n : ◌≡◌ {A = ℕ} 0 1 = cc in absurd (omega arith)

write_debit : (n : ℕ) → (signed debit n ≡ pos 0 → ⊥) → written (signed debit n) ≡ debit ∷ digits 15 n
write_debit zero some = absurd (some refl)
write_debit (suc n) some = refl

write_signed : (sign n : ℕ) → is_sign sign ≡ true → (sign ≡ debit → signed sign n ≡ pos 0 → ⊥) → written (signed sign n) ≡ sign ∷ digits 15 n
write_signed sign n s some =
    let At : ℕ → Type 0 = λ byte. (byte ≡ debit → signed byte n ≡ pos 0 → ⊥) → written (signed byte n) ≡ byte ∷ digits 15 n in
    ⊎_elim
    (λ c. subst At (sym (eqb-true sign credit c)) (λ _. refl) some)
    (λ d. subst At (sym (eqb-true sign debit d)) (λ h. write_debit n (h refl)) some)
    (or_cases (eqb sign credit) (eqb sign debit) s)

write_read : (sign : ℕ) (bytes : List ℕ) (z : ℤ) → money_read sign bytes ≡ Some z → (sign ≡ debit → z ≡ pos 0 → ⊥) → written z ≡ sign ∷ bytes
write_read sign bytes z e some =
    let h = when_some (is_money sign bytes) (signed sign (value bytes)) z e in
    let m = money_parts sign bytes h.0 in
    let d : digits 15 (value bytes) ≡ bytes = ap (λ n. digits n (value bytes)) (sym m.1) ∙ digits_write_numbers.written_back bytes m.2 in
    ap written (sym h.1) ∙ (write_signed sign (value bytes) m.0 (λ is zero. some is (sym h.1 ∙ zero)) ∙ ap (λ ys. sign ∷ ys) d)

pub money_reads_back : MoneyReadsBack
money_reads_back = record { read_back = read_written; written_back = write_read; zeros_alike = refl }

-- sixteen bytes after the sign was put first and the digits behind it
pub sign_then_digits : (out rest : List ℕ) (sign size : ℕ) (z : ℤ) → length out ≡ 16 → sign ≡ sign_of z → size ≡ nat_abs z
    → rest ≡ digits (length (mid_of 1 15 (set out 0 sign))) size → put_mid 1 15 (set out 0 sign) rest ≡ written z
sign_then_digits [] rest sign size z wide s n d = absurd (omega arith)
sign_then_digits (x ∷ xs) rest sign size z wide s n d =
    let none : drop 15 xs ≡ [] = drop_all 15 xs (omega arith) in
    let few : length (take 15 xs) ≡ 15 = length-take-le 15 xs (omega arith) in
    rw (none, append-nil, d, few, s, n)
