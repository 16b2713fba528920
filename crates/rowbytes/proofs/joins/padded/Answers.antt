use Rattle.std.proofs.Common.{◌++◌, length, ap, ◌∙◌}
use Rattle.std.proofs.lemmas.List.{drop-replicate}
use Rattle.recordbytes.specs.Joins.{joined}
use Rattle.rowbytes.specs.RowBytes.{held, padded}
use Rattle.rowbytes.proofs.joins.padded.Goals as goal

pub returns : goal.returns
unfolding padded
returns c =
    c.put_parts.ensures ∙ ap (λ zeros. joined (held c.args.parts.now) ++ zeros) (drop-replicate (length (joined (held c.args.parts.now))) 256 0)
