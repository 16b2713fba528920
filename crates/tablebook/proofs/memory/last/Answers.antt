use Rattle.std.proofs.Common.{rules}
use Rattle.tablebook.proofs.Seeking.{last_sought}
use Rattle.tablebook.proofs.memory.last.Goals as goal

pub returns : goal.returns
returns c = last_sought c.args.account.now c.args.rows.now c.rposition.result (search rules)
