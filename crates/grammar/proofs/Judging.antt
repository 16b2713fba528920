-- A record is refused with its least complaint and with no other fault, and taken where nothing can be said against it.
use Rattle.std.proofs.Common.{◌≡◌, ℕ, ◌<◌, true, false, ◌⊎◌, List, length, get_or, Some, None, Ok, Err, Option, Result, refl, ap, ◌∙◌, subst, inl, inr}
use mathlib.Core.Path.{subst⁻¹}
use Rattle.std.proofs.lemmas.Bool.{both_ways, cases_Bool, cases_order}
use Rattle.recordbytes.specs.Classes.{is_plain}
use Rattle.recordbytes.specs.Walks.{first_failing, FirstFailing}
use Rattle.recordbytes.proofs.Walking.{first_failing_named}
use Rattle.layout.specs.Kinds.{kind_of}
use Rattle.layout.specs.declared.kind.Kind.{Kind}
use Rattle.grammar.specs.declared.faults.StatementFault.{StatementFault}
use Rattle.grammar.specs.Places.{Place}
use Rattle.grammar.specs.Steps.{told_by, step_by, step}
use Rattle.grammar.specs.Complaints.{of_fault, may_stand, Complains, Plain, Refused, forbidden, unknown, misplaced, complained, Blameless, RefusalsAreLeast}
use Rattle.grammar.proofs.Complaining.{Tells}
use Rattle.grammar.proofs.Joining.{said}
use Rattle.grammar.proofs.ByRules.{formed_values, not_standing, standing_tells}
use Rattle.grammar.proofs.OneComplaint.{least_told}

-- WHAT A STEP SAYS

abbrev Judged : Place → List ℕ → Result Place StatementFault → Type 0
Judged p b (Ok q) = Blameless p b
Judged p b (Err f) = Refused p b f

module _ (p : Place) (b : List ℕ) (l : length b ≡ 128) where
  module _ (k : Kind) (plain : Plain b) (known : kind_of b ≡ Some k) where
    by_complaints : may_stand p k ≡ true → (r : Result Place StatementFault) → Tells (Complains p k b) (said r) → Judged p b r
    by_complaints placed (Ok q) t = record { kind = k; plain = plain; known = known; placed = placed; none = t }
    by_complaints placed (Err f) t = complained k f plain known placed t

    judged_kind : Judged p b (formed_values p k b)
    judged_kind = by (cases_Bool (may_stand p k))
      where
        by : (may_stand p k ≡ true) ⊎ (may_stand p k ≡ false) → Judged p b (formed_values p k b)
        by (inl e) = by_complaints e (formed_values p k b) (standing_tells p k b e)
        by (inr e) = subst⁻¹ (Judged p b) (not_standing p k b l known e) (misplaced k plain known e)

  judged_told : (o : Option ℕ) (t : Option Kind) → FirstFailing is_plain b o → kind_of b ≡ t → Judged p b (step_by p b (told_by o t))
  judged_told (Some i) t h e = forbidden i h
  judged_told None None h e = unknown h e
  judged_told None (Some k) h e = judged_kind k h e

  judged : Judged p b (step p b)
  judged = judged_told (first_failing is_plain b) (kind_of b) (first_failing_named is_plain b) refl

-- WHAT IS SAID OF A RECORD IS WHAT A STEP SAYS

one_first : (b : List ℕ) (o q : Option ℕ) → FirstFailing is_plain b o → FirstFailing is_plain b q → o ≡ q
one_first b None None g h = refl
one_first b None (Some j) g h = absurd (both_ways (is_plain (get_or b j 0)) h.1 (g j h.0))
one_first b (Some i) None g h = absurd (both_ways (is_plain (get_or b i 0)) g.1 (h i g.0))
one_first b (Some i) (Some j) g h = by (cases_order i j)
  where
    by : (i ≡ j) ⊎ ((i < j) ⊎ (j < i)) → Some i ≡ Some j
    by (inl e) = ap Some e
    by (inr (inl e)) = absurd (both_ways (is_plain (get_or b i 0)) g.1 (h.2 i e))
    by (inr (inr e)) = absurd (both_ways (is_plain (get_or b j 0)) h.1 (g.2 j e))

module _ (p : Place) (b : List ℕ) (l : length b ≡ 128) where
  stepped : (o : Option ℕ) (t : Option Kind) → FirstFailing is_plain b o → kind_of b ≡ t → step p b ≡ step_by p b (told_by o t)
  stepped o t h e =
      ap (λ (q : Option ℕ). step_by p b (told_by q (kind_of b))) (one_first b (first_failing is_plain b) o (first_failing_named is_plain b) h)
      ∙ ap (λ (k : Option Kind). step_by p b (told_by o k)) e

  refuses : (f : StatementFault) → Refused p b f → step p b ≡ Err f
  refuses f (forbidden i h) = stepped (Some i) (kind_of b) h refl
  refuses f (unknown h e) = stepped None None h e
  refuses f (misplaced k h e n) = stepped None (Some k) h e ∙ not_standing p k b l e n
  refuses f (complained k g h e n c) = stepped None (Some k) h e ∙ least_told p k b (formed_values p k b) g (standing_tells p k b n) c

  takes : Blameless p b → (q : Place) × (step p b ≡ Ok q)
  takes x =
      let said_nothing : Tells (Complains p x.kind b) (said (formed_values p x.kind b)) = standing_tells p x.kind b x.placed in
      by (formed_values p x.kind b) (stepped None (Some x.kind) x.plain x.known) said_nothing
    where
      by : (r : Result Place StatementFault) → step p b ≡ r → Tells (Complains p x.kind b) (said r) → (q : Place) × (step p b ≡ Ok q)
      by (Ok q) e t = (q, e)
      by (Err f) e t = absurd (x.none (of_fault f) t.holds)

pub refusals_are_least : RefusalsAreLeast
refusals_are_least = record {
  refused = λ p b f l e. subst (Judged p b) e (judged p b l);
  refuses = λ p b f l r. refuses p b l f r;
  took = λ p b q l e. subst (Judged p b) e (judged p b l);
  takes = λ p b l x. takes p b l x;
}
