-- Numbers written in digits.
--   value    the number that digits write; a byte below 48 counts as 0
--   digits   the last digits of a number, of a given width
use Rattle.std.specs.Prelude.{◌≡◌, ℕ, zero, suc, ◌+◌, ◌-◌, ◌*◌, ◌/◌, ◌%◌, ◌^◌, ◌<◌, true, List, [], ◌∷◌, ◌++◌, length}
use Rattle.recordbytes.specs.Classes.{is_digit}
use Rattle.recordbytes.specs.Walks.{all}

-- the number that digits write behind the number n
abbrev pub value_behind : ℕ → List ℕ → ℕ
value_behind n [] = n
value_behind n (byte ∷ rest) = value_behind (n * 10 + (byte - 48)) rest

abbrev pub value : List ℕ → ℕ
value bytes = value_behind 0 bytes

unfoldable pub digits : ℕ → ℕ → List ℕ
digits zero n = []
digits (suc width) n = digits width (n / 10) ++ ((48 + n % 10) ∷ [])

-- digits and numbers below a power of ten are the same thing, width by width
pub record DigitsWriteNumbers : Type 0 where
  pub below : (bytes : List ℕ) → all is_digit bytes ≡ true → value bytes < 10 ^ length bytes
  pub wide : (width n : ℕ) → length (digits width n) ≡ width
  pub only_digits : (width n : ℕ) → all is_digit (digits width n) ≡ true
  pub read_back : (width n : ℕ) → n < 10 ^ width → value (digits width n) ≡ n
  pub written_back : (bytes : List ℕ) → all is_digit bytes ≡ true → digits (length bytes) (value bytes) ≡ bytes
