use Rattle.std.proofs.Common.{arith}
use Rattle.tablebook.proofs.Stepping.{step_none}
use Rattle.tablebook.proofs.table.TableBook.new.Goals as goal

pub invariant_of-result : goal.invariant_of-result
invariant_of-result c = record { backed = (omega arith, omega arith); step = step_none c.args.places.now }
