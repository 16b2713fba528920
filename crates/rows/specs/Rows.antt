-- Which fields are those of a row.
--   fits           so many bytes, of a form
--   is_movement    the fields of a movement row: each of its form and width
--   is_statement   the fields of a statement row: the same, with balances of at most fifteen digits and at most 100,000 movements
--   row_made       the fields, where they are those of a row
--   blank          the fields of a statement of nothing
use Rattle.std.specs.Prelude.{ℕ, Bool, ◌&&◌, List, [], ◌∷◌, length, replicate, ℤ, pos, codes, Option, ◌==◌, nat_le}
use Rattle.std.specs.Bool.{then_some}
use Rattle.layout.specs.Forms.{Form, Digits, Text, Day, DayOrZeros, Sign, Flag, holds}
use Rattle.values.specs.Money.{is_amount}
use Rattle.rows.specs.declared.fields.Fields.{Fields}
use Rattle.rows.specs.declared.fields.Fields.TheVariants.{Movement, Statement}
use Rattle.rows.specs.declared.fields.MovementFields.{MovementFields}
use Rattle.rows.specs.declared.fields.StatementFields.{StatementFields}

unfoldable pub fits : Form → ℕ → List ℕ → Bool
fits form width bytes = length bytes == width && holds form bytes

abbrev pub are_codes : MovementFields → Bool
are_codes m =
    fits Sign 1 (m.sign ∷ [])
    && (fits Digits 15 m.amount
    && (fits Digits 8 m.code
    && (fits Digits 4 m.sequence
    && (fits Digits 4 m.detail
    && fits Flag 1 (m.structured ∷ [])))))

abbrev pub are_days : MovementFields → Bool
are_days m = fits DayOrZeros 6 m.value_day && fits Day 6 m.entry_day

abbrev pub are_texts : MovementFields → Bool
are_texts m =
    fits Text 21 m.reference
    && (fits Text 53 m.communication
    && (fits Text 37 m.counterparty_account
    && fits Text 35 m.counterparty_name))

abbrev pub is_movement : MovementFields → Bool
is_movement m = are_codes m && (are_days m && are_texts m)

abbrev pub is_balance : ℤ → Bool
is_balance thousandths = is_amount thousandths

abbrev pub is_statement : StatementFields → Bool
is_statement s =
    fits Text 38 s.account
    && (is_balance s.old_balance
    && (is_balance s.new_balance
    && (fits Day 6 s.old_day
    && (fits Day 6 s.new_day
    && nat_le s.movements 100000))))

unfoldable pub is_row : Fields → Bool
is_row (Movement m) = is_movement m
is_row (Statement s) = is_statement s

abbrev pub row_made : Fields → Option Fields
row_made fields = then_some (is_row fields) fields

-- a statement of nothing on 1 January 2000
abbrev pub blank : Fields
blank = Statement (record { account = replicate 38 32; old_balance = pos 0; new_balance = pos 0; old_day = codes "010100"; new_day = codes "010100"; movements = 0 })
