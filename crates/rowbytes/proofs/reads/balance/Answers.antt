use Rattle.std.proofs.Common.{◌∙◌, arith, w64, SFits, rules}
use Rattle.std.proofs.lemmas.Int.{to_z-of_z}
use Rattle.std.proofs.lemmas.List.{length-drop}
use Rattle.rowbytes.proofs.Reading.{balance_is}
use Rattle.rowbytes.proofs.reads.balance.Goals as goal

pub returns : goal.returns
returns c =
    let f : SFits w64 c.signed.result = search rules in
    to_z-of_z w64 c.signed.result f
    ∙ balance_is c.args.bytes.now c.signed.result c.told-bytes (c.signed.ensures.whole (omega (arith, length-drop 1 c.args.bytes.now)))
