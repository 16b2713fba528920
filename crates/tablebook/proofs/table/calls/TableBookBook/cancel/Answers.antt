use Rattle.std.proofs.Common.{arith}
use Rattle.cashbook.specs.Counting.{figures, used}
use Rattle.cashbook.proofs.Counting.{cancelled_numbers}
use Rattle.rows.specs.Rows.{is_row}
use Rattle.recordbytes.proofs.Each.{every_fewer}
use Rattle.tablebook.proofs.table.calls.TableBookBook.cancel.Goals as goal

pub invariant_of-self-clause-fine : goal.invariant_of-self-clause-fine
invariant_of-self-clause-fine c =
    let s = c.args.self.now in
    let n = cancelled_numbers s.counts.capacity s.counts.kept s.counts.batch (figures c.in_ok-counts.counts) c.in_ok-counts.ensures in
    rw n.used_is (every_fewer is_row (used (figures s.counts)) s.counts.kept s.memory.rows.now (omega arith) s.fine)
