-- Rows by what they hold.
use Rattle.values.proofs.Holding.{same_made}
use Rattle.rows.specs.Rows.{is_row}
use Rattle.rows.specs.Held.{RowsHold}

pub rows_hold : RowsHold
rows_hold =
    record {
      a_row = λ row. row.fine;
      same_rows = λ one other. same_made is_row (λ fields t. record { fields = fields; fine = t }) one.fields other.fields one.fine other.fine;
    }
