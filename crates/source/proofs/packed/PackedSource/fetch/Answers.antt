use Rattle.std.proofs.Common.{sym, ap, ◌∙◌, arith, rules}
use Rattle.std.proofs.lemmas.List.{length-map}
use Rattle.source.specs.Fetching.{answer, left_in}
use Rattle.source.specs.Slots.{judge}
use Rattle.source.specs.Packing.{pieces}
use Rattle.source.proofs.Numbered.{judged_at}
use Rattle.source.proofs.packed.PackedSource.fetch.Goals as goal

pub returns-clause-answers : goal.returns-clause-answers
returns-clause-answers c =
    let slot = judged_at (pieces c.args.self.now.file.now) c.args.n c.in_ok-place.place c.piece.result.now (search rules) (omega (arith, length-map (pieces c.args.self.now.file.now) judge)) c.piece.ensures in
    c.deliver.ensures.answers ∙ sym (ap answer slot)

pub returns-clause-writes : goal.returns-clause-writes
returns-clause-writes c =
    let slot = judged_at (pieces c.args.self.now.file.now) c.args.n c.in_ok-place.place c.piece.result.now (search rules) (omega (arith, length-map (pieces c.args.self.now.file.now) judge)) c.piece.ensures in
    c.deliver.ensures.writes ∙ sym (ap (λ found. left_in found c.args.out.now) slot)
