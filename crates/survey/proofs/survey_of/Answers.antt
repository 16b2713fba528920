use Rattle.std.proofs.Common.{take, ap, ◌∙◌, arith, rules}
use Rattle.std.proofs.lemmas.List.{take_all}
use Rattle.survey.specs.Sorts.{tally}
use Rattle.survey.proofs.Tallying.{one_more}
use Rattle.survey.proofs.survey_of.Goals as goal

pub loop-slot-preserved : goal.loop-slot-preserved
loop-slot-preserved g c = (
  c.fetch-fetched.ensures.same ∙ c.loop-slot.invariant.0,
  λ sort. one_more (g.S.Source.slots c.args.source.now) _ c.loop-slot.slot c.fetch-fetched.result _ _ c.sort_of.result sort _ _ c.loop-slot.invariant.0 (omega arith) (search rules)
      c.fetch-fetched.ensures.answers c.fetch-fetched.ensures.writes c.sort_of.ensures (c.loop-slot.invariant.1 sort) (c.note.ensures sort)
      ∙ ap (λ k. tally sort (take k (g.S.Source.slots c.args.source.now))) (omega arith),
)

pub returns-2-clause-counts : goal.returns-2-clause-counts
returns-2-clause-counts g c sort =
    one_more (g.S.Source.slots c.args.source.now) _ c.loop-slot.slot c.fetch-fetched.result _ _ c.sort_of.result sort _ _ c.loop-slot.invariant.0 (omega arith) (search rules)
    c.fetch-fetched.ensures.answers c.fetch-fetched.ensures.writes c.sort_of.ensures (c.loop-slot.invariant.1 sort) (c.note.ensures sort)
    ∙ ap (tally sort) (take_all c.loop-slot.slot (g.S.Source.slots c.args.source.now) (search rules))
