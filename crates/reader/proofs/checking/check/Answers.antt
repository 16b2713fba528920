use Rattle.std.proofs.Common.{◌≡◌, ℕ, ◌+◌, ◌-◌, length, drop, Ok, Err, sym, refl, ap, ◌∙◌, arith, rules}
use Rattle.std.proofs.lemmas.Result.{err_from_is_err_and}
use Rattle.grammar.specs.Steps.{run, ended}
use Rattle.grammar.proofs.Completing.{the_check}
use Rattle.grammar.proofs.Judging.{refusals_are_least}
use Rattle.reader.specs.Means.{means}
use Rattle.reader.proofs.Slots.{turn_unread, turn_refused, turn_taken, checked_many, checked_end}
use Rattle.reader.proofs.checking.check.Goals as goal
use Rattle.reader.proofs.checking.check.Goals.{else-loop-slot-test, then-loop-slot-test+in_ok-read+in_ok-map_err+else-slot-counter-slots}

pub returns-then-slots-gt-MOST_SLOTS : goal.returns-then-slots-gt-MOST_SLOTS
returns-then-slots-gt-MOST_SLOTS g c =
    record {
      answers = sym (checked_many (g.S.Source.slots c.args.source.now) (omega (arith, c.count-slots.ensures)));
      law = the_check (g.S.Source.slots c.args.source.now) (g.S.Source.sound c.args.source.now);
      least = refusals_are_least;
      same = refl;
    }

pub returns-in_err-read : goal.returns-in_err-read
returns-in_err-read g c =
    let p = err_from_is_err_and c.from_residual.result c.from_residual.ensures.1 in
    let e = turn_unread (g.S.Source.slots c.args.source.now) _ c.loop-slot.slot-counter (means c.loop-slot.state) c.read.new.out (omega (arith, c.count-slots.ensures)) c.loop-slot.invariant.0
    (omega arith) (omega (arith, c.count-slots.ensures)) c.loop-slot.invariant.1 c.in_err-read.field-0.0 c.in_err-read.ensures.reads in
    record {
      answers = (p.1 ∙ ap Err p.2) ∙ sym e;
      law = the_check (g.S.Source.slots c.args.source.now) (g.S.Source.sound c.args.source.now);
      least = refusals_are_least;
      same = c.read.ensures.same ∙ c.loop-slot.invariant.0;
    }

pub returns-in_err-map_err : goal.returns-in_err-map_err
returns-in_err-map_err g c =
    let p = err_from_is_err_and c.from_residual-in_err-map_err.result c.from_residual-in_err-map_err.ensures.1 in
    let e = turn_refused (g.S.Source.slots c.args.source.now) _ c.loop-slot.slot-counter (means c.loop-slot.state) c.read.new.out (omega (arith, c.count-slots.ensures)) c.loop-slot.invariant.0
    (omega arith) (omega (arith, c.count-slots.ensures)) c.loop-slot.invariant.1 c.in_ok-read.field-0 (means c.step.new.self) c.step.result c.in_ok-read.ensures.reads c.step.ensures.steps
    c.in_err-map_err.field-0.0 (search rules) in
    record {
      answers = (p.1 ∙ ap Err p.2) ∙ sym e;
      law = the_check (g.S.Source.slots c.args.source.now) (g.S.Source.sound c.args.source.now);
      least = refusals_are_least;
      same = c.read.ensures.same ∙ c.loop-slot.invariant.0;
    }

pub loop-slot-preserved : goal.loop-slot-preserved
loop-slot-preserved g c =
    let e = turn_taken (g.S.Source.slots c.args.source.now) _ c.loop-slot.slot-counter (means c.loop-slot.state) c.read.new.out (omega (arith, c.count-slots.ensures)) c.loop-slot.invariant.0
    (omega arith) (omega (arith, c.count-slots.ensures)) c.loop-slot.invariant.1 c.in_ok-read.field-0 (means c.step.new.self) c.step.result c.in_ok-read.ensures.reads c.step.ensures.steps
    c.in_ok-map_err.ensures.variant in
    let next : c.loop-slot.slot-counter ≡ c.loop-slot.slot-counter + 1 - 1 = omega arith in (
      c.read.ensures.same ∙ c.loop-slot.invariant.0,
      ap (λ k. run (means c.step.new.self) (c.loop-slot.slot-counter + 1) (drop k (g.S.Source.slots c.args.source.now))) (sym next) ∙ e,
      omega (arith, c.step.ensures.read, c.loop-slot.invariant.2),
    )

pub returns : goal.returns
returns g c =
    let xs = g.S.Source.slots c.args.source.now in
    let counted : c.count-slots.result ≡ length (g.S.Source.slots c.args.source.now) = c.count-slots.ensures in
    let ended_so = c.end.ensures ∙ ap (λ (k : ℕ). ended (k + 1) (Ok (means c.loop-slot-test.state))) c.count-slots.ensures in
    elim c.loop-slot-test.branch [
      | else-loop-slot-test w ↦
          let none : c.loop-slot.slot-counter - 1 + 1 ≡ c.loop-slot.slot-counter = omega arith in
          let e = checked_end xs (c.loop-slot.slot-counter - 1) (means c.loop-slot.state) (omega (arith, counted)) (omega (arith, counted, w.loop-slot-test.false))
          (ap (λ (k : ℕ). run (means c.loop-slot.state) k (drop (c.loop-slot.slot-counter - 1) (g.S.Source.slots c.args.source.now))) none ∙ c.loop-slot.invariant.1) in
          record {
            answers = ended_so ∙ (ap (λ s. ended (length (g.S.Source.slots c.args.source.now) + 1) (Ok (means s))) w.state-is ∙ sym e);
            law = the_check xs (g.S.Source.sound c.args.source.now);
            least = refusals_are_least;
            same = ap g.S.Source.slots w.source-is ∙ c.loop-slot.invariant.0;
          }
      | then-loop-slot-test+in_ok-read+in_ok-map_err+else-slot-counter-slots w ↦
          let e = turn_taken xs _ c.loop-slot.slot-counter (means c.loop-slot.state) w.read.new.out (omega (arith, counted)) c.loop-slot.invariant.0
          (omega arith) (omega (arith, counted, w.loop-slot-test.true)) c.loop-slot.invariant.1 w.in_ok-read.field-0 (means w.step.new.self) w.step.result w.in_ok-read.ensures.reads w.step.ensures.steps
          w.in_ok-map_err.ensures.variant in
          let d = checked_end xs c.loop-slot.slot-counter (means w.step.new.self) (omega (arith, counted)) (search rules) e in
          record {
            answers = ended_so ∙ (ap (λ s. ended (length (g.S.Source.slots c.args.source.now) + 1) (Ok (means s))) w.state-is ∙ sym d);
            law = the_check xs (g.S.Source.sound c.args.source.now);
            least = refusals_are_least;
            same = ap g.S.Source.slots w.source-is ∙ (w.read.ensures.same ∙ c.loop-slot.invariant.0);
          }
    ]
