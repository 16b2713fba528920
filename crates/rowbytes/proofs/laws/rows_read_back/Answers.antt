use Rattle.rowbytes.proofs.Rereading.{rows_read_back}
use Rattle.rowbytes.proofs.laws.rows_read_back.Goals as goal

pub returns : goal.returns
returns c = rows_read_back
