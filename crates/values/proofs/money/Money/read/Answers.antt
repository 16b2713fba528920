use Rattle.std.proofs.Common.{arith, w64, SFits, rules}
use Rattle.std.proofs.lemmas.Int.{to_z-of_z}
use Rattle.values.proofs.Amounts.{read_is_amount}
use Rattle.values.proofs.money.Money.read.Goals as goal

pub invariant_of-result : goal.invariant_of-result
invariant_of-result c =
    let f : SFits w64 c.signed.result = search rules in
    let g = read_is_amount c.signed.result c.args.sign c.args.digits.now (c.signed.ensures.whole (omega arith)) (search rules) (search rules) in
    record { few = rw (to_z-of_z w64 c.signed.result f) g }
