-- Whose statement the bytes of a row are.
use Rattle.std.proofs.Common.{◌≡◌, ℕ, Bool, true, false, cond, ◌&&◌, eqb, List, refl}
use Rattle.std.specs.Str.{bytes_eq}
use Rattle.recordbytes.specs.Spans.{span}
use Rattle.rows.specs.Accounts.{is_of}
use Rattle.rows.specs.declared.fields.Fields.TheVariants.{Movement, Statement}
use Rattle.rowbytes.specs.RowBytes.{statement_letter, byte_at, movement_read, statement_read, row_read, is_statement_of}

-- the test of bytes is the test of the fields that they write
pub statement_told : (account bytes : List ℕ) → is_statement_of account bytes ≡ is_of account (row_read bytes)
unfolding row_read is_statement_of
statement_told account bytes =
    elim (eqb (byte_at bytes 1) statement_letter) as (λ (t : Bool). (t && bytes_eq (span bytes 2 39) account) ≡ is_of account (cond t (Statement (statement_read bytes)) (Movement (movement_read bytes)))) [ true ↦ refl | false ↦ refl ]
