use Rattle.std.proofs.Common.{◌≤◌, length}
use Rattle.recordbytes.proofs.Writing.{Unwritten}
use Rattle.recordbytes.proofs.numbers.write_digits.Given as goal

abbrev pub invariant-loop-i : goal.invariant-loop-i
invariant-loop-i l = (l.i ≤ length l.out) × Unwritten l.out l.i l.rest l.number
