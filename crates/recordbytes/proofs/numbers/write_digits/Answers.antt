use Rattle.std.proofs.Common.{length, arith, length-set, rules}
use Rattle.recordbytes.proofs.Writing.{write_more, write_end}
use Rattle.recordbytes.proofs.numbers.write_digits.Goals as goal

pub loop-i-preserved : goal.loop-i-preserved
loop-i-preserved c = (simp length-set (omega arith), write_more c.loop-i.out c.loop-i.i c.loop-i.rest c.args.number (search rules) c.loop-i.invariant.0 c.loop-i.invariant.1)

pub returns : goal.returns
returns c = write_end c.loop-i.out c.loop-i.i c.loop-i.rest c.args.number (length c.args.out.now) (search rules) c.loop-i.auto.out c.loop-i.invariant.1
