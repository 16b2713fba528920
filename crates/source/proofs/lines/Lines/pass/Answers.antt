use Rattle.std.proofs.Common.{ℕ, ◌<◌, List, [], ◌∷◌, length, drop, sym, ap, ◌∙◌, arith}
use Rattle.std.proofs.lemmas.List.{length-drop, drop-drop}
use Rattle.source.specs.Lining.{lines}
use Rattle.source.proofs.lines.Lines.pass.Goals as goal

-- where a line is left, bytes are left
some_bytes : (rest : List ℕ) → 0 < length (lines rest) → 0 < length rest
some_bytes [] left = left
some_bytes (x ∷ rest) left = omega arith

pub first_line-requires : goal.first_line-requires
first_line-requires c =
    let s = c.args.self.now in
    some_bytes s.rest.now (omega (arith, c.requires, s.counted, length-drop s.passed (lines s.file.now), ap length s.here))

pub invariant_of-self : goal.invariant_of-self
invariant_of-self c =
    let s = c.args.self.now in
    record { counted = s.counted; here = ap (drop 1) (sym c.first_line.ensures ∙ s.here) ∙ drop-drop 1 s.passed (lines s.file.now) }
