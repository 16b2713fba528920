-- What the questions of a book answer.
--   Puts          what a question leaves in the caller's place: the row found, or what was there
--   kept_row      kept row n, counted from 1
--   latest        the last statement row of an account
--   room_answer   whether memory has room for a row, by the capacity that a book on it would have
use Rattle.std.specs.Prelude.{◌≡◌, ℕ, ◌-◌, cond, List, [], ◌∷◌, Some, None, Ok, Err, Option, Result, ◌==◌}
use Rattle.std.specs.Option.{option_or}
use Rattle.std.specs.Bool.{then_some}
use Rattle.std.specs.List.{slice_get}
use Rattle.rows.specs.Accounts.{is_of}
use Rattle.rows.specs.Held.{fields_of}
use Rattle.rows.specs.declared.fields.Fields.{Fields}
use Rattle.rows.specs.declared.row.Row.{Row}
use Rattle.cashbook.specs.declared.fault.BookFault.{BookFault}
use Rattle.cashbook.specs.declared.fault.BookFault.TheVariants.{NoRow, NoMemory}
use Rattle.cashbook.specs.Meaning.{Meaning}

abbrev pub Puts : Option Fields → Row → Row → Type 0
Puts None before behind = behind ≡ before
Puts (Some row) before behind = fields_of behind ≡ row

abbrev pub kept_row : Meaning → ℕ → Option Fields
kept_row b n = cond (n == 0) None (slice_get b.kept (n - 1))

abbrev pub row_answer : Option Fields → Result (Unit {0}) BookFault
row_answer None = Err NoRow
row_answer (Some row) = Ok tt

abbrev pub latest : List ℕ → List Fields → Option Fields
latest account [] = None
latest account (row ∷ rows) = option_or (latest account rows) (then_some (is_of account row) row)

abbrev pub room_answer : ℕ → Result (Unit {0}) BookFault
room_answer capacity = cond (capacity == 0) (Err NoMemory) (Ok tt)
