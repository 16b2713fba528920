use Rattle.recordbytes.proofs.Writing.{digits_write_numbers}
use Rattle.recordbytes.proofs.numbers.digits_write_numbers.Goals as goal

pub returns : goal.returns
returns c = digits_write_numbers
