use Rattle.std.proofs.Common.{rules}
use Rattle.rowbytes.specs.RowBytes.{is_statement_of}
use Rattle.rowbytes.proofs.accounts.is_statement_of.Goals as goal

pub returns-then-eq : goal.returns-then-eq
unfolding is_statement_of
returns-then-eq c = search rules

pub returns-else-eq : goal.returns-else-eq
unfolding is_statement_of
returns-else-eq c = search rules
