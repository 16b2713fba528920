-- A row is read back as it was written.
use Rattle.std.proofs.Common.{◌≡◌, ℕ, ◌^◌, ◌<◌, Bool, true, false, eqb, List, [], ◌∷◌, length, get_or, take, drop, ℤ, Some, sym, refl, ap, ◌∙◌, add-zero, arith}
use Rattle.std.specs.Bool.{then_some}
use Rattle.std.specs.Str.{bytes_eq}
use Rattle.std.proofs.lemmas.Slice.Eq.{bytes_eq-Decides}
use Rattle.std.proofs.lemmas.List.{get_or-take, get_or-drop}
use Rattle.std.proofs.lemmas.Bool.{and_parts, and_from, cond-true, cond-false}
use Rattle.recordbytes.specs.Numbers.{value, digits}
use Rattle.recordbytes.proofs.Writing.{digits_write_numbers}
use Rattle.values.specs.Money.{is_money, is_amount, written}
use Rattle.values.proofs.Amounts.{money_reads_back}
use Rattle.rows.specs.Rows.{is_row, is_movement, is_statement}
use Rattle.rows.specs.declared.fields.Fields.{Fields}
use Rattle.rows.specs.declared.fields.Fields.TheVariants.{Movement, Statement}
use Rattle.rows.specs.declared.fields.MovementFields.{MovementFields}
use Rattle.rows.specs.declared.fields.Rank.{Rank}
use Rattle.rows.specs.declared.fields.Rank.TheVariants.{Main, Detail}
use Rattle.rows.specs.declared.fields.StatementFields.{StatementFields}
use Rattle.rowbytes.specs.RowBytes.{padded, statement_letter, letter_of, movement_parts, statement_parts, row_bytes, byte_at, rank_of, balance_read, movement_read, statement_read, row_read, is_row_bytes, RowsReadBack}
use Rattle.rowbytes.proofs.Cutting.{cut, cut_padded, length_padded}
use Rattle.rowbytes.proofs.Widths.{movement_widths, statement_widths, movement_wide, statement_wide, movement_within, statement_within, old_balance_fine, new_balance_fine, movements_few}

-- the byte of a part of one
only_at : (bytes : List ℕ) (place : ℕ) → get_or (take 1 (drop place bytes)) 0 0 ≡ get_or bytes place 0
only_at bytes place = get_or-take 1 (drop place bytes) 0 0 (omega arith) ∙ (get_or-drop place bytes 0 0 ∙ ap (λ n. get_or bytes n 0) (add-zero place))

rank_back : (rank : Rank) → rank_of (letter_of rank) ≡ rank
rank_back Main = refl
rank_back Detail = refl

-- a movement row
abbrev movement_of : Rank → ℕ → ℕ → List (List ℕ) → MovementFields
movement_of rank sign structured parts =
    record {
      rank = rank;
      sign = sign;
      amount = get_or parts 2 [];
      value_day = get_or parts 3 [];
      entry_day = get_or parts 4 [];
      code = get_or parts 5 [];
      sequence = get_or parts 6 [];
      detail = get_or parts 7 [];
      reference = get_or parts 8 [];
      structured = structured;
      communication = get_or parts 10 [];
      counterparty_account = get_or parts 11 [];
      counterparty_name = get_or parts 12 [];
    }

movement_from : List (List ℕ) → MovementFields
movement_from parts = movement_of (rank_of (get_or (get_or parts 0 []) 0 0)) (get_or (get_or parts 1 []) 0 0) (get_or (get_or parts 9 []) 0 0) parts

movement_cut : (bytes : List ℕ) → movement_from (cut 0 movement_widths bytes) ≡ movement_read bytes
unfolding movement_from
movement_cut bytes =
    let parts = cut 0 movement_widths bytes in
    ap (λ b. movement_of (rank_of b) (get_or (take 1 (drop 1 bytes)) 0 0) (get_or (take 1 (drop 66 bytes)) 0 0) parts) (only_at bytes 0)
    ∙ (ap (λ b. movement_of (rank_of (get_or bytes 0 0)) b (get_or (take 1 (drop 66 bytes)) 0 0) parts) (only_at bytes 1)
    ∙ ap (λ b. movement_of (rank_of (get_or bytes 0 0)) (get_or bytes 1 0) b parts) (only_at bytes 66))

movement_whole : (m : MovementFields) → movement_from (movement_parts m) ≡ m
unfolding movement_from
movement_whole m = ap (λ rank. movement_of rank m.sign m.structured (movement_parts m)) (rank_back m.rank)

movement_back : (m : MovementFields) → is_movement m ≡ true → movement_read (padded (movement_parts m)) ≡ m
movement_back m t = sym (movement_cut (padded (movement_parts m))) ∙ (ap movement_from (cut_padded (movement_parts m) movement_widths (movement_wide m t)) ∙ movement_whole m)

-- a statement row
pub when_some : {X : Type 0} (b : Bool) (x z : X) → then_some b x ≡ Some z → (b ≡ true) × (x ≡ z)
when_some true x z e = (refl, (cc))
when_some false x z e = let n : ◌≡◌ {A = ℕ} 0 1 = cc in absurd (omega arith)

balance_back : (z : ℤ) → is_amount z ≡ true → balance_read (written z) ≡ z
balance_back z t = (when_some (is_money (get_or (written z) 0 0) (drop 1 (written z))) (balance_read (written z)) z (money_reads_back.read_back z t)).1

abbrev statement_of : List ℕ → ℤ → ℤ → List ℕ → List ℕ → ℕ → StatementFields
statement_of account old new old_day new_day movements =
    record {
      account = account;
      old_balance = old;
      new_balance = new;
      old_day = old_day;
      new_day = new_day;
      movements = movements;
    }

statement_from : List (List ℕ) → StatementFields
statement_from parts = statement_of (get_or parts 1 []) (balance_read (get_or parts 2 [])) (balance_read (get_or parts 3 [])) (get_or parts 4 []) (get_or parts 5 []) (value (get_or parts 6 []))

statement_cut : (bytes : List ℕ) → statement_from (cut 0 statement_widths bytes) ≡ statement_read bytes
unfolding statement_from
statement_cut bytes = refl

statement_whole : (s : StatementFields) → is_statement s ≡ true → statement_from (statement_parts s) ≡ s
unfolding statement_from
statement_whole s t =
    let old = balance_back s.old_balance (old_balance_fine s t) in
    let new = balance_back s.new_balance (new_balance_fine s t) in
    let few : s.movements < 10 ^ 6 = omega (arith, movements_few s t) in
    let n : value (digits 6 s.movements) ≡ s.movements = digits_write_numbers.read_back 6 s.movements few in
    ap (λ z. statement_of s.account z (balance_read (written s.new_balance)) s.old_day s.new_day (value (digits 6 s.movements))) old
    ∙ (ap (λ z. statement_of s.account s.old_balance z s.old_day s.new_day (value (digits 6 s.movements))) new
    ∙ ap (λ k. statement_of s.account s.old_balance s.new_balance s.old_day s.new_day k) n)

statement_back : (s : StatementFields) → is_statement s ≡ true → statement_read (padded (statement_parts s)) ≡ s
statement_back s t =
    sym (statement_cut (padded (statement_parts s)))
    ∙ (ap statement_from (cut_padded (statement_parts s) statement_widths (statement_wide s t)) ∙ statement_whole s t)

-- which row the first byte tells
first_is : (byte : ℕ) (parts : List (List ℕ)) → byte_at (padded ((byte ∷ []) ∷ parts)) 1 ≡ byte
unfolding padded
first_is byte parts = refl

pub reads_statement : (bytes : List ℕ) → eqb (byte_at bytes 1) statement_letter ≡ true → row_read bytes ≡ Statement (statement_read bytes)
unfolding row_read
reads_statement bytes t = cond-true (eqb (byte_at bytes 1) statement_letter) (Statement (statement_read bytes)) (Movement (movement_read bytes)) t

pub reads_movement : (bytes : List ℕ) → eqb (byte_at bytes 1) statement_letter ≡ false → row_read bytes ≡ Movement (movement_read bytes)
unfolding row_read
reads_movement bytes t = cond-false (eqb (byte_at bytes 1) statement_letter) (Statement (statement_read bytes)) (Movement (movement_read bytes)) t

no_statement : (rank : Rank) → eqb (letter_of rank) statement_letter ≡ false
no_statement Main = refl
no_statement Detail = refl

-- rows
row_wide : (fields : Fields) → is_row fields ≡ true → length (row_bytes fields) ≡ 256
unfolding is_row row_bytes
row_wide (Movement m) t = length_padded (movement_parts m) (movement_within m t)
row_wide (Statement s) t = length_padded (statement_parts s) (statement_within s t)

row_back : (fields : Fields) → is_row fields ≡ true → row_read (row_bytes fields) ≡ fields
unfolding is_row row_bytes
row_back (Movement m) t =
    let bytes = padded (movement_parts m) in
    let other : eqb (byte_at bytes 1) statement_letter ≡ false = ap (λ b. eqb b statement_letter) (first_is (letter_of m.rank) _) ∙ no_statement m.rank in
    reads_movement bytes other ∙ ap Movement (movement_back m t)
row_back (Statement s) t =
    let bytes = padded (statement_parts s) in
    let same : eqb (byte_at bytes 1) statement_letter ≡ true = ap (λ b. eqb b statement_letter) (first_is statement_letter _) in
    reads_statement bytes same ∙ ap Statement (statement_back s t)

row_written : (fields : Fields) → is_row fields ≡ true → is_row_bytes (row_bytes fields) ≡ true
unfolding is_row_bytes
row_written fields t =
    let back = row_back fields t in
    and_from (is_row (row_read (row_bytes fields))) (bytes_eq (row_bytes (row_read (row_bytes fields))) (row_bytes fields))
    (ap is_row back ∙ t)
    ((bytes_eq-Decides (row_bytes (row_read (row_bytes fields))) (row_bytes fields)).1 (ap row_bytes back))

row_of : (bytes : List ℕ) → is_row_bytes bytes ≡ true → (is_row (row_read bytes) ≡ true) × (row_bytes (row_read bytes) ≡ bytes)
unfolding is_row_bytes
row_of bytes t =
    let h = and_parts (is_row (row_read bytes)) (bytes_eq (row_bytes (row_read bytes)) bytes) t in
    (h.0, (bytes_eq-Decides (row_bytes (row_read bytes)) bytes).0 h.1)

pub rows_read_back : RowsReadBack
rows_read_back = record { wide = row_wide; read_back = row_back; is_written = row_written; of_a_row = row_of }
