use Rattle.values.proofs.Holding.{values_hold}
use Rattle.values.proofs.laws.values_hold.Goals as goal

pub returns : goal.returns
returns c = values_hold
