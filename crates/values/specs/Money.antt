-- Money in thousandths, negative for a debit, and as a record writes it: a sign byte and fifteen digits.
--   signed       the thousandths that a sign byte and a number mean; a debit of zero is zero
--   is_sign      a byte that is a sign, of a credit or of a debit
--   is_money     a sign and fifteen digits
--   is_amount    thousandths that have at most fifteen digits
--   money_made   the thousandths, where they are an amount
--   money_read   the thousandths that a sign byte and digits write, where they are money
--   sign_of      the sign byte of an amount; zero has that of a credit
--   written      the sign byte and the fifteen digits of an amount
use Rattle.std.specs.Prelude.{◌≡◌, ℕ, ◌^◌, Bool, true, cond, ◌&&◌, ◌||◌, List, ◌∷◌, length, drop, ℤ, pos, negsuc, neg_ℤ, Some, codes, Option, ◌==◌, ◌≢◌, nat_lt, slice_index, unsigned_abs}
use Rattle.std.specs.Bool.{then_some}
use Rattle.recordbytes.specs.Classes.{is_digit}
use Rattle.recordbytes.specs.Numbers.{value, digits}
use Rattle.recordbytes.specs.Walks.{all}

-- the sign byte of a credit, the digit 0
abbrev pub credit : ℕ
credit = 48

-- the sign byte of a debit, the digit 1
abbrev pub debit : ℕ
debit = 49

abbrev pub signed : ℕ → ℕ → ℤ
signed sign n = cond (sign == debit) (neg_ℤ (pos n)) (pos n)

abbrev pub is_sign : ℕ → Bool
is_sign sign = sign == credit || sign == debit

abbrev pub is_money : ℕ → List ℕ → Bool
is_money sign bytes = is_sign sign && (length bytes == 15 && all is_digit bytes)

abbrev pub is_amount : ℤ → Bool
is_amount thousandths = nat_lt (unsigned_abs thousandths) (10 ^ 15)

abbrev pub money_made : ℤ → Option ℤ
money_made thousandths = then_some (is_amount thousandths) thousandths

abbrev pub money_read : ℕ → List ℕ → Option ℤ
money_read sign bytes = then_some (is_money sign bytes) (signed sign (value bytes))

abbrev pub sign_of : ℤ → ℕ
sign_of (pos n) = credit
sign_of (negsuc n) = debit

abbrev pub written : ℤ → List ℕ
written thousandths = sign_of thousandths ∷ digits 15 (unsigned_abs thousandths)

-- an amount is read back as it was written, and written back as it was read but for a debit of zero, which is zero
pub record MoneyReadsBack : Type 0 where
  pub read_back : (z : ℤ) → is_amount z ≡ true → money_read (slice_index (written z) 0) (drop 1 (written z)) ≡ Some z
  pub written_back : (sign : ℕ) (bytes : List ℕ) (z : ℤ) → money_read sign bytes ≡ Some z → (sign ≡ debit → z ≢ pos 0) → written z ≡ sign ∷ bytes
  pub zeros_alike : signed debit 0 ≡ signed credit 0

-- a debit of 1.500, and a debit of zero
pub record MoneyExamples : Type 0 where
  pub debit_of_1500 : money_read debit (codes "000000000001500") ≡ Some (negsuc 1499)
  pub debit_of_zero : money_read debit (codes "000000000000000") ≡ Some (pos 0)
