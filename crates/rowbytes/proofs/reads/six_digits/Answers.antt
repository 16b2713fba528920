use Rattle.std.proofs.Common.{arith}
use Rattle.rowbytes.proofs.Reading.{six_below}
use Rattle.rowbytes.proofs.reads.six_digits.Goals as goal

pub overflow_cast-result : goal.overflow_cast-result
overflow_cast-result c =
    let whole = c.number.ensures.whole (omega (arith, c.told-bytes)) in
    record { fits = omega (arith, whole, six_below c.args.bytes.now c.told-bytes c.fits-bytes) }
