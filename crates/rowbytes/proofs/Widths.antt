-- The widths of the parts of a row.
use Rattle.std.proofs.Common.{◌≡◌, ℕ, suc, ◌≤◌, true, eqb, List, [], ◌∷◌, length, ℤ, nat_abs, ap, arith, lit≤}
use Rattle.std.proofs.lemmas.Bool.{and_parts, eqb-true, leb-true}
use Rattle.std.proofs.lemmas.Bool.Decides.{nat_tests}
use Rattle.recordbytes.proofs.Writing.{digits_write_numbers}
use Rattle.layout.specs.Forms.{Form, Digits, Text, Day, DayOrZeros, holds}
use Rattle.values.specs.Money.{is_amount, written}
use Rattle.rows.specs.Rows.{fits, is_movement, is_statement}
use Rattle.rows.specs.declared.fields.MovementFields.{MovementFields}
use Rattle.rows.specs.declared.fields.StatementFields.{StatementFields}
use Rattle.recordbytes.specs.Joins.{joined}
use Rattle.rowbytes.specs.RowBytes.{movement_parts, statement_parts}
use Rattle.rowbytes.proofs.Cutting.{widths_of, length_joined, total}

abbrev pub movement_widths : List ℕ
movement_widths = 1 ∷ 1 ∷ 15 ∷ 6 ∷ 6 ∷ 8 ∷ 4 ∷ 4 ∷ 21 ∷ 1 ∷ 53 ∷ 37 ∷ 35 ∷ []

abbrev pub statement_widths : List ℕ
statement_widths = 1 ∷ 38 ∷ 16 ∷ 16 ∷ 6 ∷ 6 ∷ 6 ∷ []

fits_width : (form : Form) (width : ℕ) (bytes : List ℕ) → fits form width bytes ≡ true → length bytes ≡ width
unfolding fits
fits_width form width bytes t = eqb-true (length bytes) width (and_parts (eqb (length bytes) width) (holds form bytes) t).0

length_written : (z : ℤ) → length (written z) ≡ 16
length_written z = ap suc (digits_write_numbers.wide 15 (nat_abs z))

pub movement_wide : (m : MovementFields) → is_movement m ≡ true → widths_of (movement_parts m) ≡ movement_widths
movement_wide m t =
    let amount : length m.amount ≡ 15 = fits_width Digits 15 m.amount (grind (arith, nat_tests)) in
    let code : length m.code ≡ 8 = fits_width Digits 8 m.code (grind (arith, nat_tests)) in
    let sequence : length m.sequence ≡ 4 = fits_width Digits 4 m.sequence (grind (arith, nat_tests)) in
    let detail : length m.detail ≡ 4 = fits_width Digits 4 m.detail (grind (arith, nat_tests)) in
    let value_day : length m.value_day ≡ 6 = fits_width DayOrZeros 6 m.value_day (grind (arith, nat_tests)) in
    let entry_day : length m.entry_day ≡ 6 = fits_width Day 6 m.entry_day (grind (arith, nat_tests)) in
    let reference : length m.reference ≡ 21 = fits_width Text 21 m.reference (grind (arith, nat_tests)) in
    let communication : length m.communication ≡ 53 = fits_width Text 53 m.communication (grind (arith, nat_tests)) in
    let account : length m.counterparty_account ≡ 37 = fits_width Text 37 m.counterparty_account (grind (arith, nat_tests)) in
    let name : length m.counterparty_name ≡ 35 = fits_width Text 35 m.counterparty_name (grind (arith, nat_tests)) in
    cc

pub statement_wide : (s : StatementFields) → is_statement s ≡ true → widths_of (statement_parts s) ≡ statement_widths
statement_wide s t =
    let account : length s.account ≡ 38 = fits_width Text 38 s.account (grind (arith, nat_tests)) in
    let old = length_written s.old_balance in
    let new = length_written s.new_balance in
    let old_day : length s.old_day ≡ 6 = fits_width Day 6 s.old_day (grind (arith, nat_tests)) in
    let new_day : length s.new_day ≡ 6 = fits_width Day 6 s.new_day (grind (arith, nat_tests)) in
    let movements = digits_write_numbers.wide 6 s.movements in
    cc

within : (parts : List (List ℕ)) (widths : List ℕ) → widths_of parts ≡ widths → total widths ≤ 256 → length (joined parts) ≤ 256
within parts widths e few = omega (arith, length_joined parts, ap total e)

pub movement_within : (m : MovementFields) → is_movement m ≡ true → length (joined (movement_parts m)) ≤ 256
movement_within m t = within (movement_parts m) movement_widths (movement_wide m t) (lit≤ tt)

pub statement_within : (s : StatementFields) → is_statement s ≡ true → length (joined (statement_parts s)) ≤ 256
statement_within s t = within (statement_parts s) statement_widths (statement_wide s t) (lit≤ tt)

-- balances and the number of movements of a statement row
pub old_balance_fine : (s : StatementFields) → is_statement s ≡ true → is_amount s.old_balance ≡ true
old_balance_fine s t = grind (arith, nat_tests)

pub new_balance_fine : (s : StatementFields) → is_statement s ≡ true → is_amount s.new_balance ≡ true
new_balance_fine s t = grind (arith, nat_tests)

pub movements_few : (s : StatementFields) → is_statement s ≡ true → s.movements ≤ 100000
movements_few s t = leb-true s.movements 100000 (grind (arith, nat_tests))
