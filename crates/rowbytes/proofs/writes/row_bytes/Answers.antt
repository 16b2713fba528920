use Rattle.std.proofs.Common.{ap, ◌∙◌}
use Rattle.rows.specs.Rows.{is_row}
use Rattle.rowbytes.specs.RowBytes.{row_bytes}
use Rattle.rowbytes.proofs.writes.row_bytes.Goals as goal

pub statement_bytes-requires : goal.statement_bytes-requires
unfolding is_row
statement_bytes-requires c = c.in-Statement.ensures.fine

pub returns-in-Movement : goal.returns-in-Movement
unfolding row_bytes
returns-in-Movement c = c.movement_bytes.ensures ∙ ap row_bytes c.in-Movement.ensures.value

pub returns-in-Statement : goal.returns-in-Statement
unfolding row_bytes
returns-in-Statement c = c.statement_bytes.ensures ∙ ap row_bytes c.in-Statement.ensures.value
