-- A record of a kind that may stand here is judged by its form and its rules; one that may not is misplaced.
use Rattle.std.proofs.Common.{◌≡◌, ℕ, Bool, true, false, cond, ◌&&◌, leb, List, length, Some, None, Err, Option, Result, refl, ap, ◌∙◌, arith}
use mathlib.Core.Path.{subst⁻¹}
use Rattle.std.proofs.lemmas.Bool.{lt-leb, cond-true, cond-false}
use Rattle.layout.specs.Kinds.{kind_of}
use Rattle.layout.specs.Layouts.{layout, first_misformed_of, first_misformed}
use Rattle.layout.specs.declared.kind.Kind.{Kind}
use Rattle.layout.specs.declared.kind.Kind.TheVariants as K
use Rattle.grammar.specs.declared.expect.Expect.TheVariants.{Counterparty, InformationThird, FirstCommunication}
use Rattle.grammar.specs.declared.faults.RecordFault.TheVariants.{Misformed}
use Rattle.grammar.specs.declared.faults.StatementFault.{StatementFault}
use Rattle.grammar.specs.declared.faults.StatementFault.TheVariants.{Record, Misplaced}
use Rattle.grammar.specs.Fields.{next, link}
use Rattle.grammar.specs.Order.{may_come, behind, behind_closing}
use Rattle.grammar.specs.Places.{Place}
use Rattle.grammar.specs.Rules.{under, main_rules, detail_rules}
use Rattle.grammar.specs.Steps.{after_header, after_old_balance, after_main, after_detail, after_counted, after_information, after_communication, after_trailer, is_detail, take_kind, take_values, with_form}
use Rattle.grammar.specs.Complaints.{levels_allow, may_stand, rules_at, Complains}
use Rattle.grammar.proofs.Complaining.{Tells}
use Rattle.grammar.proofs.KindBegins.{NotBefore, misformed_behind_first}
use Rattle.grammar.proofs.Joining.{said, record_tells}

-- where a record of a kind leads
abbrev place_behind : Place → Kind → List ℕ → Place
place_behind p K.Header b = after_header p
place_behind p K.OldBalance b = after_old_balance p b
place_behind p K.Movement b = cond (is_detail p b) (after_detail p b) (after_main p b)
place_behind p K.MovementSecond b = after_counted p (behind (next b) (link b) Counterparty)
place_behind p K.Counterparty b = after_counted p (behind (next b) (link b) Counterparty)
place_behind p K.Information b = after_information p b
place_behind p K.InformationSecond b = after_counted p (behind (next b) (link b) InformationThird)
place_behind p K.InformationThird b = after_counted p (behind (next b) (link b) InformationThird)
place_behind p K.NewBalance b = after_counted p (behind_closing (link b) FirstCommunication)
place_behind p K.FreeCommunication b = after_communication p b
place_behind p K.Trailer b = after_trailer p b

-- a record that may stand here, by its rules
abbrev by_rules : Place → Kind → List ℕ → Result Place StatementFault
by_rules p k b = under (rules_at p k b) (place_behind p k b)

kind_by_rules : (p : Place) (k : Kind) (b : List ℕ) → take_kind p k b ≡ cond (levels_allow p k) (by_rules p k b) (Err Misplaced)
kind_by_rules p K.Header b = refl
kind_by_rules p K.OldBalance b = refl
kind_by_rules p K.Movement b = by (is_detail p b)
  where
    by : (d : Bool) → cond d (under (detail_rules p.numbers b) (after_detail p b)) (under (main_rules p.numbers p.sums b) (after_main p b)) ≡ under (cond d (detail_rules p.numbers b) (main_rules p.numbers p.sums b)) (cond d (after_detail p b) (after_main p b))
    by true = refl
    by false = refl
kind_by_rules p K.MovementSecond b = refl
kind_by_rules p K.Counterparty b = refl
kind_by_rules p K.Information b = refl
kind_by_rules p K.InformationSecond b = refl
kind_by_rules p K.InformationThird b = refl
kind_by_rules p K.NewBalance b = refl
kind_by_rules p K.FreeCommunication b = refl
kind_by_rules p K.Trailer b = refl

cond_and : {A : Type 0} (s t : Bool) (x y : A) → cond s (cond t x y) y ≡ cond (s && t) x y
cond_and true t x y = refl
cond_and false t x y = refl

values_by_rules : (p : Place) (k : Kind) (b : List ℕ) → take_values p k b ≡ cond (may_stand p k) (by_rules p k b) (Err Misplaced)
values_by_rules p k b =
    ap (λ (r : Result Place StatementFault). cond (may_come p.expect k) r (Err Misplaced)) (kind_by_rules p k b)
    ∙ cond_and (may_come p.expect k) (levels_allow p k) (by_rules p k b) (Err Misplaced)

-- a form behind the first position leaves a record that may not stand here misplaced
still_misplaced : (o : Option ℕ) → NotBefore 2 o → with_form {A = Place} o (Err Misplaced) ≡ Err Misplaced
still_misplaced None h = refl
still_misplaced (Some p) h = cond-false (leb p 1) (Err (Record (Misformed p))) (Err Misplaced) (lt-leb p 1 (omega arith))

module _ (p : Place) (k : Kind) (b : List ℕ) where
  -- the form and the values of a record
  abbrev pub formed_values : Result Place StatementFault
  formed_values = with_form (first_misformed k b) (take_values p k b)

  by_form : (r : Result Place StatementFault) → take_values p k b ≡ r → formed_values ≡ with_form (first_misformed_of (layout k) b) r
  unfolding first_misformed
  by_form r e = ap (with_form (first_misformed_of (layout k) b)) e

  pub not_standing : length b ≡ 128 → kind_of b ≡ Some k → may_stand p k ≡ false → formed_values ≡ Err Misplaced
  not_standing l known e =
      by_form (Err Misplaced) (values_by_rules p k b ∙ cond-false (may_stand p k) (by_rules p k b) (Err Misplaced) e)
      ∙ still_misplaced (first_misformed_of (layout k) b) (misformed_behind_first k b l known)

  pub standing_tells : may_stand p k ≡ true → Tells (Complains p k b) (said formed_values)
  standing_tells e =
      subst⁻¹ (λ (r : Result Place StatementFault). Tells (Complains p k b) (said r))
      (by_form (by_rules p k b) (values_by_rules p k b ∙ cond-true (may_stand p k) (by_rules p k b) (Err Misplaced) e))
      (record_tells p k b (place_behind p k b))
