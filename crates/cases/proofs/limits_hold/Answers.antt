use Rattle.std.proofs.Common.{refl}
use Rattle.layout.specs.Layouts.{first_misformed}
use Rattle.grammar.specs.Steps.{checked}
use Rattle.cases.proofs.limits_hold.Goals as goal

pub returns : goal.returns
unfolding checked first_misformed
returns c = record { leap = refl; debits = refl; answered = refl }
