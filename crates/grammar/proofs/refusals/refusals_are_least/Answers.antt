use Rattle.grammar.proofs.Judging.{refusals_are_least}
use Rattle.grammar.proofs.refusals.refusals_are_least.Goals as goal

pub returns : goal.returns
returns c = refusals_are_least
