-- The form of a field: what its bytes may be.
--   Digits       digits only
--   Text         plain bytes
--   Spaces       spaces only
--   Day          a day DDMMYY of the calendar
--   DayOrZeros   such a day, or six zeros where it is not known
--   Sign         0 credit, 1 debit
--   Flag         0 or 1
--   Is           exactly these bytes
--   OneOf        one byte out of these
use Rattle.std.specs.Prelude.{ℕ, Bool, ◌&&◌, ◌||◌, List, length, codes, ◌==◌, slice_index}
use Rattle.std.specs.List.{list_any}
use Rattle.std.specs.Str.{bytes_eq}
use Rattle.recordbytes.specs.Classes.{is_digit, is_space, is_plain}
use Rattle.recordbytes.specs.Walks.{all}
use Rattle.values.specs.Days.{is_day}

pub data Form : Type 0 where
  Digits : Form
  Text : Form
  Spaces : Form
  Day : Form
  DayOrZeros : Form
  Sign : Form
  Flag : Form
  Is : List ℕ → Form
  OneOf : List ℕ → Form

-- a byte stands in a list of bytes
abbrev pub among : List ℕ → ℕ → Bool
among choices byte = list_any (λ choice. choice == byte) choices

-- one byte, out of a list of bytes
abbrev pub is_one_of : List ℕ → List ℕ → Bool
is_one_of choices bytes = length bytes == 1 && among choices (slice_index bytes 0)

-- the bytes are of the form
abbrev pub holds : Form → List ℕ → Bool
holds Digits bytes = all is_digit bytes
holds Text bytes = all is_plain bytes
holds Spaces bytes = all is_space bytes
holds Day bytes = is_day bytes
holds DayOrZeros bytes = is_day bytes || bytes_eq bytes (codes "000000")
holds Sign bytes = is_one_of (codes "01") bytes
holds Flag bytes = is_one_of (codes "01") bytes
holds (Is text) bytes = bytes_eq bytes text
holds (OneOf choices) bytes = is_one_of choices bytes
