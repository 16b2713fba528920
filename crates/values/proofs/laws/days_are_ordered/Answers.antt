use Rattle.values.proofs.Ordering.{days_are_ordered}
use Rattle.values.proofs.laws.days_are_ordered.Goals as goal

pub returns : goal.returns
returns c = days_are_ordered
