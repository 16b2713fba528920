use Rattle.std.proofs.Common.{arith}
use Rattle.std.proofs.lemmas.Grind.{common_steps}
use Rattle.std.proofs.lemmas.Bool.Decides.{nat_tests}
use Rattle.reader.proofs.Masks.{behind_is, bit_is}
use Rattle.reader.proofs.levels.Levels.behind.Goals as goal

pub returns-else-self-bit : goal.returns-else-self-bit
returns-else-self-bit c =
    let s = bit_is c.level-level.result c.level-level.ensures.bound in
    let b = behind_is c.args.self.mask c.level-level.result c.args.self.bound c.level-level.ensures.bound in
    grind (arith, common_steps, nat_tests, b, s)

pub returns : goal.returns
returns c =
    let s = bit_is c.level-level.result c.level-level.ensures.bound in
    let b = behind_is c.args.self.mask c.level-level.result c.args.self.bound c.level-level.ensures.bound in
    grind (arith, common_steps, nat_tests, b, s)
