-- What records say, read by position, whatever their bytes are.
--   byte_at     the byte at a position, counted from 1
--   is_one      the byte at a position is the digit 1
--   digit_at    the digit at a position, 0 where it is none
-- Sequence and detail number, reference, next and link code stand at the same positions in every record that has them.
use Rattle.std.specs.Prelude.{ℕ, ◌-◌, Bool, cond, List, ℤ, ◌==◌, slice_index}
use Rattle.recordbytes.specs.Classes.{is_digit}
use Rattle.recordbytes.specs.Numbers.{value}
use Rattle.recordbytes.specs.Spans.{span}
use Rattle.values.specs.Money.{signed}

abbrev pub byte_at : List ℕ → ℕ → ℕ
byte_at bytes position = slice_index bytes (position - 1)

abbrev pub is_one : List ℕ → ℕ → Bool
is_one bytes position = byte_at bytes position == 49

abbrev pub digit_of : ℕ → ℕ
digit_of byte = cond (is_digit byte) (byte - 48) 0

abbrev pub digit_at : List ℕ → ℕ → ℕ
digit_at bytes position = digit_of (byte_at bytes position)

-- MOVEMENTS AND WHAT BELONGS TO THEM, FREE COMMUNICATIONS

abbrev pub sequence : List ℕ → ℕ
sequence bytes = value (span bytes 3 6)

abbrev pub detail : List ℕ → ℕ
detail bytes = value (span bytes 7 10)

abbrev pub reference : List ℕ → List ℕ
reference bytes = span bytes 11 31

abbrev pub next : List ℕ → Bool
next bytes = is_one bytes 126

abbrev pub link : List ℕ → Bool
link bytes = is_one bytes 128

-- A MOVEMENT

abbrev pub is_debit : List ℕ → Bool
is_debit bytes = is_one bytes 32

abbrev pub amount : List ℕ → ℕ
amount bytes = value (span bytes 33 47)

abbrev pub signed_amount : List ℕ → ℤ
signed_amount bytes = signed (byte_at bytes 32) (amount bytes)

abbrev pub type : List ℕ → ℕ
type bytes = digit_at bytes 54

abbrev pub level : List ℕ → ℕ
level bytes = digit_at bytes 125

-- AN OLD BALANCE

abbrev pub old_account : List ℕ → List ℕ
old_account bytes = span bytes 6 42

abbrev pub old_amount : List ℕ → ℤ
old_amount bytes = signed (byte_at bytes 43) (value (span bytes 44 58))

-- A NEW BALANCE

abbrev pub new_account : List ℕ → List ℕ
new_account bytes = span bytes 5 41

abbrev pub new_amount : List ℕ → ℤ
new_amount bytes = signed (byte_at bytes 42) (value (span bytes 43 57))

-- A TRAILER

abbrev pub count : List ℕ → ℕ
count bytes = value (span bytes 17 22)

abbrev pub debit_sum : List ℕ → ℕ
debit_sum bytes = value (span bytes 23 37)

abbrev pub credit_sum : List ℕ → ℕ
credit_sum bytes = value (span bytes 38 52)

abbrev pub another : List ℕ → Bool
another bytes = is_one bytes 128
