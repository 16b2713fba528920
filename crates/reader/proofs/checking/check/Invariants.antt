use Rattle.std.proofs.Common.{◌≡◌, ◌-◌, ◌<◌, drop}
use Rattle.grammar.specs.Places.{beginning}
use Rattle.grammar.specs.Steps.{run}
use Rattle.reader.specs.Means.{means}
use Rattle.reader.proofs.checking.check.Given as goal

abbrev pub invariant-loop-slot : goal.invariant-loop-slot
invariant-loop-slot g l =
    (g.S.Source.slots l.source ≡ g.S.Source.slots l.initial.source)
    × (run (means l.state) l.slot-counter (drop (l.slot-counter - 1) (g.S.Source.slots l.initial.source)) ≡ run beginning 1 (g.S.Source.slots l.initial.source))
    × (l.state.read < l.slot-counter)
