use Rattle.std.proofs.Common.{◌≡◌, ◌-◌, take}
use Rattle.survey.specs.declared.Sort.{Sort}
use Rattle.survey.specs.Sorts.{tally, count_in}
use Rattle.survey.proofs.survey_of.Given as goal

abbrev pub invariant-loop-slot : goal.invariant-loop-slot
invariant-loop-slot g l =
    (g.S.Source.slots l.source ≡ g.S.Source.slots l.initial.source)
    × ((sort : Sort) → count_in l.survey sort ≡ tally sort (take (l.slot - 1) (g.S.Source.slots l.initial.source)))
