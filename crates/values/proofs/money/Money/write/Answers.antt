use Rattle.std.proofs.Common.{◌≡◌, nat_abs, ap, ◌∙◌, w64, SFits, rules}
use Rattle.std.proofs.lemmas.Int.{to_z-of_z}
use Rattle.values.proofs.Amounts.{sign_then_digits}
use Rattle.values.proofs.money.Money.write.Goals as goal

pub returns : goal.returns
returns c =
    let z = c.args.self.now.thousandths in
    let f : SFits w64 z = search rules in
    let size : c.unsigned_abs.result ≡ nat_abs z = c.unsigned_abs.ensures.value ∙ ap nat_abs (to_z-of_z w64 z f) in
    sign_then_digits c.args.out.now c.write_digits.new.out c.sign.result c.unsigned_abs.result z (search rules) c.sign.ensures size c.write_digits.ensures
