use Rattle.std.proofs.Common.{rules}
use Rattle.recordbytes.proofs.Walking.{only_first}
use Rattle.recordbytes.proofs.walks.first_outside.Goals as goal

pub returns-clause-value : goal.returns-clause-value
returns-clause-value g c = only_first g.C.ByteClass.has c.args.bytes.now _ (search rules)
