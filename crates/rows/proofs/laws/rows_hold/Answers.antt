use Rattle.rows.proofs.Holding.{rows_hold}
use Rattle.rows.proofs.laws.rows_hold.Goals as goal

pub returns : goal.returns
returns c = rows_hold
