use Rattle.recordbytes.specs.Classes.{is_digit}
use Rattle.recordbytes.proofs.Walking.{none_all}
use Rattle.recordbytes.proofs.walks.all_digits.Goals as goal

pub returns : goal.returns
returns c = none_all is_digit c.args.bytes.now c.first_outside.result c.is_none.result c.first_outside.ensures.value c.is_none.ensures
