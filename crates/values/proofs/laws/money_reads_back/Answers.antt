use Rattle.values.proofs.Amounts.{money_reads_back}
use Rattle.values.proofs.laws.money_reads_back.Goals as goal

pub returns : goal.returns
returns c = money_reads_back
