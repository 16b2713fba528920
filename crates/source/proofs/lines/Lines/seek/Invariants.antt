use Rattle.std.proofs.Common.{◌≡◌}
use Rattle.source.proofs.lines.Lines.seek.Given as goal

abbrev pub invariant-loop : goal.invariant-loop
invariant-loop l =
    (l.self.passed ≡ l.counter) × (l.self.count ≡ l.initial.self.count) × (l.self.file.now ≡ l.initial.self.file.now)
