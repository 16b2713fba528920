use Rattle.std.proofs.Common.{◌≤◌, arith, rules}
use Rattle.recordbytes.proofs.Numbering.{ten_upto, value_end}
use Rattle.recordbytes.proofs.numbers.number_of_few.Goals as goal

pub overflow_mul-number : goal.overflow_mul-number
overflow_mul-number c = let h : c.loop-byte.byte-index ≤ 14 = omega arith in record { fits = omega (arith, ten_upto c.loop-byte.byte-index 14 h) }

pub overflow_add-number : goal.overflow_add-number
overflow_add-number c = let h : c.loop-byte.byte-index ≤ 14 = omega arith in record { fits = omega (arith, ten_upto c.loop-byte.byte-index 14 h) }

pub returns : goal.returns
returns c =
    let h : c.loop-byte.byte-index ≤ 15 = omega arith in
    record {
      value = value_end c.args.digits.now c.loop-byte.byte-index c.loop-byte.number (search rules) c.loop-byte.invariant.0;
      bound = omega (arith, ten_upto c.loop-byte.byte-index 15 h);
    }
