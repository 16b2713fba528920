use Rattle.std.proofs.Common.{ap, ◌∙◌}
use Rattle.layout.specs.Layouts.{first_misformed, first_misformed_of}
use Rattle.layout.proofs.misformed.first_misformed.Goals as goal

pub returns : goal.returns
unfolding first_misformed
returns c = c.first_misformed_of.ensures ∙ ap (λ fs. first_misformed_of fs c.args.bytes.now) c.table.ensures
