-- The parts of made records: that they are of their forms, and how a field is read back from its part.
use Rattle.std.proofs.Common.{◌≡◌, ℕ, suc, ◌+◌, ◌-◌, ◌^◌, ◌<◌, ◌≤◌, Bool, true, false, cond, eqb, leb, List, [], ◌∷◌, length, get_or, take, drop, ℤ, pos, negsuc, nat_abs, codes, sym, refl, ap, ◌∙◌, inl, inr, arith}
use Rattle.std.proofs.lemmas.List.{get_or-take, get_or-drop}
use Rattle.std.proofs.lemmas.Bool.{and_from, or_cases, eqb-true, le-leb, cond-true}
use Rattle.recordbytes.specs.Classes.{is_digit, is_plain}
use Rattle.recordbytes.specs.Numbers.{value, digits}
use Rattle.recordbytes.specs.Walks.{all}
use Rattle.recordbytes.proofs.Writing.{digits_write_numbers}
use Rattle.values.specs.Money.{credit, debit, signed, is_sign, sign_of}
use Rattle.layout.specs.Forms.{Digits, Spaces, Flag, Sign, is_one_of}
use Rattle.layout.specs.Layouts.{Field, field}
use Rattle.rendering.specs.Rendering.{Part, Parts, none, ◌then◌}
use Rattle.grammar.specs.Fields.{digit_of}
use Rattle.grammar.proofs.Made.{spaces, single, flag}

-- a text of some width
pub record PlainBytes (width : ℕ) (b : List ℕ) : Type 0 where
  pub wide : length b ≡ width
  pub plain : all is_plain b ≡ true

-- where a layout has no field
abbrev pub no_field : Field
no_field = field 0 0 Digits

-- PARTS, EACH FROM ITS FIRST POSITION ON

pub number_part : (first width n : ℕ) → (first + length (digits width n) ≡ first + width) × (all is_digit (digits width n) ≡ true)
number_part first width n = (ap (λ k. first + k) (digits_write_numbers.wide width n), digits_write_numbers.only_digits width n)

pub text_part : (first width : ℕ) (b : List ℕ) → PlainBytes width b → (first + length b ≡ first + width) × (all is_plain b ≡ true)
text_part first width b text = (ap (λ k. first + k) text.wide, text.plain)

digit_formed : (t : ℕ) → t ≤ 9 → is_digit (48 + t) ≡ true
digit_formed t small = and_from (leb 48 (48 + t)) (leb (48 + t) 57) (le-leb 48 (48 + t) (omega arith)) (le-leb (48 + t) 57 (omega arith))

-- a digit in front of others
pub digit_front : (t : ℕ) (others : List ℕ) → t ≤ 9 → all is_digit others ≡ true → all is_digit ((48 + t) ∷ others) ≡ true
digit_front t others small o = and_from (is_digit (48 + t)) (all is_digit others) (digit_formed t small) o

flag_formed : (v : Bool) → is_one_of (codes "01") (flag v) ≡ true
flag_formed true = refl
flag_formed false = refl

pub flag_part : (position : ℕ) (v : Bool) → Part (field position position Flag) (flag v)
flag_part position v = (refl, flag_formed v)

sign_formed : (sign : ℕ) → is_sign sign ≡ true → is_one_of (codes "01") (single sign) ≡ true
sign_formed sign t =
    elim (or_cases (eqb sign credit) (eqb sign debit) t) [ inl e ↦ rw (eqb-true sign credit e) refl | inr e ↦ rw (eqb-true sign debit e) refl ]

pub sign_part : (position sign : ℕ) → is_sign sign ≡ true → Part (field position position Sign) (single sign)
sign_part position sign t = (refl, sign_formed sign t)

-- next and link code, the last fields of a record that has both
pub codes_parts : (continued informed : Bool) → Parts (field 126 126 Flag ∷ field 127 127 Spaces ∷ field 128 128 Flag ∷ []) (flag continued ∷ spaces 1 ∷ flag informed ∷ [])
codes_parts continued informed = flag_part 126 continued then (refl, refl) then flag_part 128 informed then none

-- every amount has a sign byte and a number
pub amount_signed : (z : ℤ) → (is_sign (sign_of z) ≡ true) × (signed (sign_of z) (nat_abs z) ≡ z)
amount_signed (pos n) = (refl, refl)
amount_signed (negsuc n) = (refl, refl)

-- FIELDS READ BACK

pub number_read : (width n : ℕ) (bytes : List ℕ) → n < 10 ^ width → bytes ≡ digits width n → value bytes ≡ n
number_read width n bytes below e = ap value e ∙ digits_write_numbers.read_back width n below

-- the first byte of a part behind i bytes
pub first_byte : (b : List ℕ) (i n byte : ℕ) (others : List ℕ) → take (suc n) (drop i b) ≡ byte ∷ others → get_or b i 0 ≡ byte
first_byte b i n byte others e =
    let z : i ≡ i + 0 = omega arith in
    ap (λ k. get_or b k 0) z ∙ (sym (get_or-drop i b 0 0) ∙ (sym (get_or-take (suc n) (drop i b) 0 0 (omega arith)) ∙ ap (λ ys. get_or ys 0 0) e))

pub digit_read : (b : List ℕ) (i n t : ℕ) (others : List ℕ) → t ≤ 9 → take (suc n) (drop i b) ≡ (48 + t) ∷ others → digit_of (get_or b i 0) ≡ t
digit_read b i n t others small e =
    ap digit_of (first_byte b i n (48 + t) others e) ∙ (cond-true (is_digit (48 + t)) (48 + t - 48) 0 (digit_formed t small) ∙ omega arith)

flag_is : (v : Bool) → eqb (cond v 49 48) 49 ≡ v
flag_is true = refl
flag_is false = refl

pub flag_read : (b : List ℕ) (i : ℕ) (v : Bool) → take 1 (drop i b) ≡ flag v → eqb (get_or b i 0) 49 ≡ v
flag_read b i v e = ap (λ byte. eqb byte 49) (first_byte b i 0 (cond v 49 48) [] e) ∙ flag_is v
