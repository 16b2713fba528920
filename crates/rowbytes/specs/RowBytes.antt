-- A row as 256 bytes, positions counted from 1.
--   padded            joined parts, then zeros up to 256 bytes
--   letter_of         the first byte of a movement, by its rank
--   movement_parts    what a movement row is joined from, in order
--   statement_parts   what a statement row is joined from, in order
--   row_bytes         the bytes that write the fields of a row
--   byte_at           the byte at a position, 0 where there is none
--   rank_of           the rank that the first byte of a movement means
--   balance_read      the thousandths that a sign byte and the digits behind it mean
--   row_read          the fields at their positions in any bytes
--   is_row_bytes      the bytes are exactly those of a row
--   is_statement_of   the bytes begin as a statement row of an account does
use Rattle.std.specs.Prelude.{◌≡◌, ℕ, ◌-◌, Bool, true, cond, ◌&&◌, List, [], ◌∷◌, ◌++◌, map, length, drop, replicate, ℤ, ◌==◌, slice_index}
use Rattle.std.specs.Borrow.{Bor}
use Rattle.std.specs.Str.{bytes_eq}
use Rattle.recordbytes.specs.Joins.{joined}
use Rattle.recordbytes.specs.Numbers.{value, digits}
use Rattle.recordbytes.specs.Spans.{span}
use Rattle.values.specs.Money.{signed, written}
use Rattle.rows.specs.Rows.{is_row}
use Rattle.rows.specs.declared.fields.Fields.{Fields}
use Rattle.rows.specs.declared.fields.Fields.TheVariants.{Movement, Statement}
use Rattle.rows.specs.declared.fields.MovementFields.{MovementFields}
use Rattle.rows.specs.declared.fields.Rank.{Rank}
use Rattle.rows.specs.declared.fields.Rank.TheVariants.{Main, Detail}
use Rattle.rows.specs.declared.fields.StatementFields.{StatementFields}

-- what each of some references points to
abbrev pub held : List (Bor (List ℕ)) → List (List ℕ)
held parts = map (λ part. part.now) parts

unfoldable pub padded : List (List ℕ) → List ℕ
padded parts = joined parts ++ replicate (256 - length (joined parts)) 0

-- the first byte of a main movement, the letter M
abbrev pub main_letter : ℕ
main_letter = 77

-- the first byte of a detail, the letter D
abbrev pub detail_letter : ℕ
detail_letter = 68

-- the first byte of a statement, the letter S
abbrev pub statement_letter : ℕ
statement_letter = 83

abbrev pub letter_of : Rank → ℕ
letter_of Main = main_letter
letter_of Detail = detail_letter

abbrev pub movement_parts : MovementFields → List (List ℕ)
movement_parts m =
    (letter_of m.rank ∷ [])
    ∷ (m.sign ∷ [])
    ∷ m.amount
    ∷ m.value_day
    ∷ m.entry_day
    ∷ m.code
    ∷ m.sequence
    ∷ m.detail
    ∷ m.reference
    ∷ (m.structured ∷ [])
    ∷ m.communication
    ∷ m.counterparty_account
    ∷ m.counterparty_name
    ∷ []

abbrev pub statement_parts : StatementFields → List (List ℕ)
statement_parts s =
    (statement_letter ∷ [])
    ∷ s.account
    ∷ written s.old_balance
    ∷ written s.new_balance
    ∷ s.old_day
    ∷ s.new_day
    ∷ digits 6 s.movements
    ∷ []

unfoldable pub row_bytes : Fields → List ℕ
row_bytes (Movement m) = padded (movement_parts m)
row_bytes (Statement s) = padded (statement_parts s)

abbrev pub byte_at : List ℕ → ℕ → ℕ
byte_at bytes position = slice_index bytes (position - 1)

abbrev pub rank_of : ℕ → Rank
rank_of byte = cond (byte == detail_letter) Detail Main

abbrev pub balance_read : List ℕ → ℤ
balance_read bytes = signed (byte_at bytes 1) (value (drop 1 bytes))

abbrev pub movement_read : List ℕ → MovementFields
movement_read bytes =
    record {
      rank = rank_of (byte_at bytes 1);
      sign = byte_at bytes 2;
      amount = span bytes 3 17;
      value_day = span bytes 18 23;
      entry_day = span bytes 24 29;
      code = span bytes 30 37;
      sequence = span bytes 38 41;
      detail = span bytes 42 45;
      reference = span bytes 46 66;
      structured = byte_at bytes 67;
      communication = span bytes 68 120;
      counterparty_account = span bytes 121 157;
      counterparty_name = span bytes 158 192;
    }

abbrev pub statement_read : List ℕ → StatementFields
statement_read bytes =
    record {
      account = span bytes 2 39;
      old_balance = balance_read (span bytes 40 55);
      new_balance = balance_read (span bytes 56 71);
      old_day = span bytes 72 77;
      new_day = span bytes 78 83;
      movements = value (span bytes 84 89);
    }

unfoldable pub row_read : List ℕ → Fields
row_read bytes = cond (byte_at bytes 1 == statement_letter) (Statement (statement_read bytes)) (Movement (movement_read bytes))

unfoldable pub is_row_bytes : List ℕ → Bool
is_row_bytes bytes = is_row (row_read bytes) && bytes_eq (row_bytes (row_read bytes)) bytes

unfoldable pub is_statement_of : List ℕ → List ℕ → Bool
is_statement_of account bytes = byte_at bytes 1 == statement_letter && bytes_eq (span bytes 2 39) account

-- a row is written in 256 bytes that are read back as its fields, and bytes of a row are what its fields write
pub record RowsReadBack : Type 0 where
  pub wide : (fields : Fields) → is_row fields ≡ true → length (row_bytes fields) ≡ 256
  pub read_back : (fields : Fields) → is_row fields ≡ true → row_read (row_bytes fields) ≡ fields
  pub is_written : (fields : Fields) → is_row fields ≡ true → is_row_bytes (row_bytes fields) ≡ true
  pub of_a_row : (bytes : List ℕ) → is_row_bytes bytes ≡ true → (is_row (row_read bytes) ≡ true) × (row_bytes (row_read bytes) ≡ bytes)
