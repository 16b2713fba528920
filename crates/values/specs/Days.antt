-- Days as six bytes DDMMYY.
--   date         a year, a month and a day of the month, whether there is such a day or not
--   is_date      there is such a day in the calendar
--   is_day       six digits that write a day of the calendar
--   is_before    earlier by year, then by month, then by day of the month
--   is_earlier   the same of the dates that two rows of six bytes write
--   day_read     the bytes, where they are a day
use Rattle.std.specs.Prelude.{◌≡◌, ℕ, ◌+◌, ◌%◌, Bool, true, false, cond, not, ◌&&◌, ◌||◌, List, [], ◌∷◌, map, length, codes, Option, ◌==◌, nat_le, nat_lt}
use Rattle.std.specs.Bool.{then_some}
use Rattle.recordbytes.specs.Classes.{is_digit}
use Rattle.recordbytes.specs.Numbers.{value}
use Rattle.recordbytes.specs.Spans.{span}
use Rattle.recordbytes.specs.Walks.{all}
use Rattle.values.specs.declared.calendar.Date.{Date}

-- the century rule: the year that two digits mean
abbrev pub full_year : ℕ → ℕ
full_year digits = 2000 + digits

abbrev pub date_of : List ℕ → Date
date_of bytes = record { year = full_year (value (span bytes 5 6)); month = value (span bytes 3 4); day = value (span bytes 1 2) }

-- the year has a 29 February
abbrev pub is_leap : ℕ → Bool
is_leap year = year % 4 == 0 && (not (year % 100 == 0) || year % 400 == 0)

abbrev pub has_thirty_days : ℕ → Bool
has_thirty_days month = month == 4 || (month == 6 || (month == 9 || month == 11))

-- a number that is no month has 31
abbrev pub days_of_month : ℕ → ℕ → ℕ
days_of_month year month = cond (month == 2) (cond (is_leap year) 29 28) (cond (has_thirty_days month) 30 31)

abbrev pub is_date : Date → Bool
is_date d = (nat_le 1 d.month && nat_le d.month 12) && (nat_le 1 d.day && nat_le d.day (days_of_month d.year d.month))

abbrev pub is_day : List ℕ → Bool
is_day bytes = (length bytes == 6 && all is_digit bytes) && is_date (date_of bytes)

abbrev pub day_read : List ℕ → Option (List ℕ)
day_read bytes = then_some (is_day bytes) bytes

abbrev pub is_before : Date → Date → Bool
is_before d e =
    nat_lt d.year e.year
    || (d.year == e.year && (nat_lt d.month e.month || (d.month == e.month && nat_lt d.day e.day)))

abbrev pub is_earlier : List ℕ → List ℕ → Bool
is_earlier one other = is_before (date_of one) (date_of other)

-- the order of days is total: of two days one is before the other, or they are the same six bytes
pub record DaysAreOrdered : Type 0 where
  pub never_before_itself : (d : Date) → is_before d d ≡ false
  pub passed_on : (d e f : Date) → is_before d e ≡ true → is_before e f ≡ true → is_before d f ≡ true
  pub same_where_neither : (a b : List ℕ) → is_day a ≡ true → is_day b ≡ true → is_earlier a b ≡ false → is_earlier b a ≡ false → a ≡ b

-- which of some six bytes are days, and which of some days are behind 15 June 2015
pub record DaysExamples : Type 0 where
  -- 29 February of a leap year and of another, day 31 of a month of 30, day 0, month 13
  pub days :
      map is_day (codes "290224" ∷ codes "290223" ∷ codes "310424" ∷ codes "000124" ∷ codes "011324" ∷ [])
      ≡ true ∷ false ∷ false ∷ false ∷ false ∷ []
  -- the next day, the day itself, a later month, an earlier month, a later year, an earlier year
  pub order :
      map (is_earlier (codes "150615")) (codes "160615" ∷ codes "150615" ∷ codes "140715" ∷ codes "160515" ∷ codes "010116" ∷ codes "311214" ∷ [])
      ≡ true ∷ false ∷ true ∷ false ∷ true ∷ false ∷ []
  -- the first day of the century is before its last
  pub century : is_earlier (codes "010100") (codes "311299") ≡ true
