-- What a row holds.
--   fields_of   the fields of a row
use Rattle.std.specs.Prelude.{◌≡◌, true}
use Rattle.rows.specs.Rows.{is_row}
use Rattle.rows.specs.declared.fields.Fields.{Fields}
use Rattle.rows.specs.declared.row.Row.{Row}

abbrev pub fields_of : Row → Fields
fields_of row = row.fields

-- the fields of every row are those of a row, and two rows that hold the same are the same
pub record RowsHold : Type 0 where
  pub a_row : (row : Row) → is_row (fields_of row) ≡ true
  pub same_rows : (one other : Row) → fields_of one ≡ fields_of other → one ≡ other
