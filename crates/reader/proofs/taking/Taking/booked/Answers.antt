use Rattle.std.proofs.Common.{◌≡◌, ◌+◌, ◌+ℤ◌, to_z, of_z, w64, arith, rules}
use Rattle.std.proofs.lemmas.Grind.{common_steps}
use Rattle.std.proofs.lemmas.Bool.Decides.{nat_tests}
use Rattle.std.proofs.lemmas.Int.{ints}
use Rattle.grammar.specs.Fields.{signed_amount}
use Rattle.grammar.specs.Lawful.{debit_of, credit_of}
use Rattle.reader.proofs.taking.Taking.booked.Goals as goal

pub returns : goal.returns
returns c =
    let e : to_z w64 (of_z w64 (to_z w64 (of_z w64 c.args.self.now.standing.now.sums.balance) +ℤ to_z w64 (of_z w64 c.signed_amount.result))) ≡ c.args.self.now.standing.now.sums.balance +ℤ signed_amount c.args.self.now.bytes.now =
    grind (arith, ints) in
    let d : c.if-is_debit.debits.0 ≡ c.args.self.now.standing.now.sums.debits + debit_of c.args.self.now.bytes.now = grind (arith, common_steps) in
    let k : c.if-is_debit.debits.1 ≡ c.args.self.now.standing.now.sums.credits + credit_of c.args.self.now.bytes.now = grind (arith, common_steps) in
    record { room = grind (arith, nat_tests, d, k); booked = search rules }
