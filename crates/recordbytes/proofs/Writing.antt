-- Digits of a number: their laws, and writing them from the right.
use Rattle.std.proofs.Common.{◌≡◌, ℕ, zero, suc, ◌+◌, ◌-◌, ◌*◌, ◌/◌, ◌%◌, ◌^◌, ◌<◌, ◌≤◌, true, leb, List, [], ◌∷◌, ◌++◌, length, drop, set, sym, refl, ap, ◌∙◌, add-zero, mul-le-mul_right, mul_assoc, zero-add, arith}
use native.Mathlib.Nat.{pow-succ'}
use Rattle.std.proofs.lemmas.Bool.{and_parts, and_from, leb-true, le-leb}
use Rattle.std.proofs.lemmas.List.{length_push, append-nil, append_assoc, drop-set, length-set}
use Rattle.recordbytes.specs.Classes.{is_digit}
use Rattle.recordbytes.specs.Walks.{all}
use Rattle.recordbytes.proofs.Each.{every_push}
use Rattle.recordbytes.specs.Numbers.{value_behind, value, digits, DigitsWriteNumbers}

digits_none : (n : ℕ) → digits 0 n ≡ []
unfolding digits
digits_none n = refl

digits_more : (width n : ℕ) → digits (suc width) n ≡ digits width (n / 10) ++ ((48 + n % 10) ∷ [])
unfolding digits
digits_more width n = refl

digit_bounds : (byte : ℕ) → is_digit byte ≡ true → (48 ≤ byte) × (byte ≤ 57)
digit_bounds byte t = let h = and_parts (leb 48 byte) (leb byte 57) t in (leb-true 48 byte h.0, leb-true byte 57 h.1)

digit_is : (n : ℕ) → is_digit (48 + n % 10) ≡ true
digit_is n = and_from (leb 48 (48 + n % 10)) (leb (48 + n % 10) 57) (le-leb 48 (48 + n % 10) (omega arith)) (le-leb (48 + n % 10) 57 (omega arith))

-- the widths of numbers
below_behind : (n : ℕ) (bytes : List ℕ) → all is_digit bytes ≡ true → value_behind n bytes < (n + 1) * 10 ^ length bytes
below_behind n [] t = omega arith
below_behind n (x ∷ xs) t =
    let h = and_parts (is_digit x) (all is_digit xs) t in
    let d = digit_bounds x h.0 in
    let r = below_behind (n * 10 + (x - 48)) xs h.1 in
    let m : (n * 10 + (x - 48) + 1) * 10 ^ length xs ≤ ((n + 1) * 10) * 10 ^ length xs = mul-le-mul_right (10 ^ length xs) (omega arith) in
    let e : ((n + 1) * 10) * 10 ^ length xs ≡ (n + 1) * (10 * 10 ^ length xs) = mul_assoc (n + 1) 10 (10 ^ length xs) in
    let p : (n + 1) * 10 ^ suc (length xs) ≡ (n + 1) * (10 * 10 ^ length xs) = ap (λ k. (n + 1) * k) (pow-succ' 10 (length xs)) in
    omega arith

length_digits : (width n : ℕ) → length (digits width n) ≡ width
unfolding digits
length_digits zero n = refl
length_digits (suc width) n = length_push (digits width (n / 10)) (48 + n % 10) ∙ omega (arith, length_digits width (n / 10))

-- one byte more behind
value_push : (n : ℕ) (bytes : List ℕ) (byte : ℕ) → value_behind n (bytes ++ (byte ∷ [])) ≡ value_behind n bytes * 10 + (byte - 48)
value_push n [] byte = refl
value_push n (x ∷ xs) byte = value_push (n * 10 + (x - 48)) xs byte

all_digits : (width n : ℕ) → all is_digit (digits width n) ≡ true
unfolding digits
all_digits zero n = refl
all_digits (suc width) n = every_push is_digit (digits width (n / 10)) (48 + n % 10) (all_digits width (n / 10)) (digit_is n)

value_digits : (width n : ℕ) → n < 10 ^ width → value (digits width n) ≡ n
unfolding digits
value_digits zero n h = omega arith
value_digits (suc width) n h =
    let p : 10 ^ suc width ≡ 10 * 10 ^ width = pow-succ' 10 width in
    let s : n / 10 < 10 ^ width = omega arith in
    value_push 0 (digits width (n / 10)) (48 + n % 10) ∙ omega (arith, value_digits width (n / 10) s)

-- the digits of what digits write behind the number n
digits_behind : (width n : ℕ) (bytes : List ℕ) → all is_digit bytes ≡ true → digits (width + length bytes) (value_behind n bytes) ≡ digits width n ++ bytes
digits_behind width n [] t = rw (add-zero, append-nil)
digits_behind width n (x ∷ xs) t =
    let h = and_parts (is_digit x) (all is_digit xs) t in
    let d = digit_bounds x h.0 in
    let w : width + suc (length xs) ≡ suc width + length xs = omega arith in
    let q : (n * 10 + (x - 48)) / 10 ≡ n = omega arith in
    let m : 48 + (n * 10 + (x - 48)) % 10 ≡ x = omega arith in
    let s : digits (suc width) (n * 10 + (x - 48)) ≡ digits width n ++ (x ∷ []) = digits_more width (n * 10 + (x - 48)) ∙ rw (q, m) refl in
    ap (λ k. digits k (value_behind (n * 10 + (x - 48)) xs)) w
    ∙ (digits_behind (suc width) (n * 10 + (x - 48)) xs h.1
    ∙ (ap (λ ys. ys ++ xs) s ∙ append_assoc (digits width n) (x ∷ []) xs))

digits_value : (bytes : List ℕ) → all is_digit bytes ≡ true → digits (length bytes) (value bytes) ≡ bytes
digits_value bytes t =
    ap (λ k. digits k (value bytes)) (sym (zero-add (length bytes)))
    ∙ (digits_behind 0 0 bytes t ∙ ap (λ ys. ys ++ bytes) (digits_none 0))

pub digits_write_numbers : DigitsWriteNumbers
digits_write_numbers =
    record {
      below = λ bytes t. omega (arith, below_behind 0 bytes t);
      wide = length_digits;
      only_digits = all_digits;
      read_back = value_digits;
      written_back = digits_value;
    }

-- writing from the right: i digits are left to write
abbrev pub Unwritten : List ℕ → ℕ → ℕ → ℕ → Type 0
Unwritten out i rest n = digits i rest ++ drop i out ≡ digits (length out) n

pub write_more : (out : List ℕ) (i rest n : ℕ) → 0 < i → i ≤ length out → Unwritten out i rest n → Unwritten (set out (i - 1) (rest % 10 + 48)) (i - 1) (rest / 10) n
write_more out i rest n p l e =
    let k : i ≡ suc (i - 1) = omega arith in
    let j : i - 1 + 1 ≡ i = omega arith in
    let v : 48 + rest % 10 ≡ rest % 10 + 48 = omega arith in
    let b : i - 1 < length out = omega arith in
    let s : drop (i - 1) (set out (i - 1) (rest % 10 + 48)) ≡ (rest % 10 + 48) ∷ drop i out = drop-set out (i - 1) (rest % 10 + 48) b ∙ ap (λ m. (rest % 10 + 48) ∷ drop m out) j in
    let d : digits i rest ≡ digits (i - 1) (rest / 10) ++ ((rest % 10 + 48) ∷ []) = ap (λ m. digits m rest) k ∙ (digits_more (i - 1) rest ∙ ap (λ x. digits (i - 1) (rest / 10) ++ (x ∷ [])) v) in
    ap (λ ys. digits (i - 1) (rest / 10) ++ ys) s
    ∙ (sym (append_assoc (digits (i - 1) (rest / 10)) ((rest % 10 + 48) ∷ []) (drop i out))
    ∙ (ap (λ ys. ys ++ drop i out) (sym d) ∙ (e ∙ ap (λ m. digits m n) (sym (length-set out (i - 1) (rest % 10 + 48))))))

pub write_end : (out : List ℕ) (i rest n width : ℕ) → i ≤ 0 → length out ≡ width → Unwritten out i rest n → out ≡ digits width n
write_end out i rest n width z l e =
    let k : i ≡ 0 = omega arith in
    sym (ap (λ m. digits m rest ++ drop m out) k ∙ ap (λ ys. ys ++ out) (digits_none rest)) ∙ (e ∙ ap (λ m. digits m n) l)
