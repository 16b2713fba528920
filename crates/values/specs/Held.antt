-- What a value of the types Day and Money holds.
--   day_bytes        the six bytes of a day
--   in_thousandths   an amount of money in thousandths
use Rattle.std.specs.Prelude.{◌≡◌, ℕ, true, List, ℤ}
use Rattle.values.specs.Days.{is_day}
use Rattle.values.specs.Money.{is_amount}
use Rattle.values.specs.declared.day.Day.{Day}
use Rattle.values.specs.declared.money.Money.{Money}

abbrev pub day_bytes : Day → List ℕ
day_bytes day = day.bytes

abbrev pub in_thousandths : Money → ℤ
in_thousandths money = money.thousandths

-- every Day is a day of the calendar and every Money an amount, and two that hold the same are the same
pub record ValuesHold : Type 0 where
  pub a_day : (day : Day) → is_day (day_bytes day) ≡ true
  pub an_amount : (money : Money) → is_amount (in_thousandths money) ≡ true
  pub same_days : (one other : Day) → day_bytes one ≡ day_bytes other → one ≡ other
  pub same_amounts : (one other : Money) → in_thousandths one ≡ in_thousandths other → one ≡ other
