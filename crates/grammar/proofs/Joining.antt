-- The walk over the forms and the walk over the rules together tell the least complaint of a record.
use Rattle.std.proofs.Common.{◌≡◌, ℕ, ◌+◌, ◌<◌, ◌≤◌, true, false, cond, leb, ◌⊎◌, List, [], ◌∷◌, Some, None, Ok, Err, Option, Result, sym, refl, subst, inl, inr, arith}
use Rattle.std.proofs.lemmas.Bool.{and_from, le-leb, leb-true, leb-false, cases_order, cond_both}
use Rattle.layout.specs.Layouts.{Field, layout, tiles, is_formed, first_misformed_of}
use Rattle.layout.specs.declared.kind.Kind.{Kind}
use Rattle.rendering.proofs.Tiling.{layouts_tile, first_tile}
use Rattle.grammar.specs.declared.faults.RecordFault.TheVariants.{Misformed}
use Rattle.grammar.specs.declared.faults.StatementFault.{StatementFault}
use Rattle.grammar.specs.declared.faults.StatementFault.TheVariants.{Record}
use Rattle.grammar.specs.Faults.{statement_position}
use Rattle.grammar.specs.Places.{Place}
use Rattle.grammar.specs.Rules.{Rule, under}
use Rattle.grammar.specs.Steps.{with_form}
use Rattle.grammar.specs.Complaints.{Complaint, NotAfter, Least, of_field, of_fault, of_rule, rules_at, FormComplains, RuleComplains, Complains}
use Rattle.grammar.proofs.Complaining.{Tells, ascends, first_against, from_number, first_least}
use Rattle.grammar.proofs.RulesAscend.{rules_orderly}

-- THE RULES

-- what a result says against a record
abbrev pub said : {A : Type 0} → Result A StatementFault → Option Complaint
said (Ok x) = None
said (Err f) = Some (of_fault f)

under_says : {A : Type 0} (rs : List Rule) (x : A) → said (under rs x) ≡ first_against of_rule (λ (r : Rule). r.kept) rs
under_says [] x = refl
under_says (r ∷ rs) x = elim r.kept as (λ v. said (cond v (under rs x) (Err r.fault)) ≡ cond v (first_against of_rule (λ (s : Rule). s.kept) rs) (Some (of_rule r))) [ true ↦ under_says rs x | false ↦ refl ]

rules_tell : (p : Place) (k : Kind) (b : List ℕ) (q : Place) → Tells (RuleComplains p k b) (said (under (rules_at p k b) q))
rules_tell p k b q =
    subst (λ (o : Option Complaint). Tells (RuleComplains p k b) o) (sym (under_says (rules_at p k b) q))
    (first_least of_rule (λ (r : Rule). r.kept) (rules_at p k b) 1 (rules_orderly p k b).ascending)

-- THE FORMS

abbrev misformed_at : Option ℕ → Option Complaint
misformed_at None = None
misformed_at (Some p) = Some (record { position = p; number = 4 })

forms_say : (b : List ℕ) (fs : List Field) → misformed_at (first_misformed_of fs b) ≡ first_against of_field (is_formed b) fs
forms_say b [] = refl
forms_say b (f ∷ fs) = elim (is_formed b f) as (λ v. misformed_at (cond v (first_misformed_of fs b) (Some f.first)) ≡ cond v (first_against of_field (is_formed b) fs) (Some (of_field f))) [ true ↦ forms_say b fs | false ↦ refl ]

ascends_from : (b : List ℕ) (fs : List Field) (p q : ℕ) → p ≤ q → tiles q fs ≡ true → ascends of_field (is_formed b) p fs ≡ true
ascends_from b [] p q l t = refl
ascends_from b (f ∷ fs) p q l t =
    let tile = first_tile q f fs t in
    and_from (leb p f.first) (ascends of_field (is_formed b) (f.first + 1) fs) (le-leb p f.first (omega (arith, tile.starts)))
    (ascends_from b fs (f.first + 1) (f.last + 1) (omega (arith, tile.some)) tile.others)

forms_tell : (k : Kind) (b : List ℕ) → Tells (FormComplains k b) (misformed_at (first_misformed_of (layout k) b))
forms_tell k b =
    subst (λ (o : Option Complaint). Tells (FormComplains k b) o) (sym (forms_say b (layout k)))
    (first_least of_field (is_formed b) (layout k) 1 (ascends_from b (layout k) 1 1 (omega arith) (layouts_tile k)))

-- BOTH

module _ (A B : Complaint → Type 0) (five : (c : Complaint) → B c → 5 ≤ c.number) where
  abbrev Either : Complaint → Type 0
  Either c = A c ⊎ B c

  -- of complaints in two ways, one that is not after those of either
  both : (c : Complaint) → Either c → ((d : Complaint) → A d → NotAfter c d) → ((d : Complaint) → B d → NotAfter c d) → Least Either c
  both c h f g = record { holds = h; least = λ d e. elim e [ inl a ↦ f d a | inr b ↦ g d b ] }

  form_first : (p : ℕ) (c d : Complaint) → p ≤ c.position → NotAfter c d → B d → NotAfter (record { position = p; number = 4 }) d
  form_first p c d l n b = by (cases_order p d.position)
    where
      reaches : p ≤ d.position
      reaches = elim n [ inl h ↦ omega arith | inr h ↦ omega (arith, h.0) ]

      by : (p ≡ d.position) ⊎ ((p < d.position) ⊎ (d.position < p)) → NotAfter (record { position = p; number = 4 }) d
      by (inl e) = inr (e, omega (arith, five d b))
      by (inr (inl h)) = inl h
      by (inr (inr h)) = absurd (omega (arith, reaches))

  rule_first : (p : ℕ) (c d : Complaint) → c.position < p → NotAfter (record { position = p; number = 4 }) d → NotAfter c d
  rule_first p c d l n = inl (elim n [ inl h ↦ omega arith | inr h ↦ omega (arith, h.0) ])

  joined : (o : Option ℕ) (r : Result Place StatementFault) → Tells A (misformed_at o) → Tells B (said r) → Tells Either (said (with_form o r))
  joined None (Ok q) x y = λ c e. elim e [ inl a ↦ x c a | inr b ↦ y c b ]
  joined None (Err f) x y = both (of_fault f) (inr y.holds) (λ d a. absurd (x d a)) y.least
  joined (Some p) (Ok q) x y = both (record { position = p; number = 4 }) (inl x.holds) x.least (λ d b. absurd (y d b))
  joined (Some p) (Err f) x y =
      cond_both (leb p (statement_position f)) (Err (Record (Misformed p))) (Err f) (λ (r : Result Place StatementFault). Tells Either (said r))
      (λ e. both (record { position = p; number = 4 }) (inl x.holds) x.least (λ d b. form_first p (of_fault f) d (leb-true p (statement_position f) e) (y.least d b) b))
      (λ e. both (of_fault f) (inr y.holds) (λ d a. rule_first p (of_fault f) d (leb-false p (statement_position f) e) (x.least d a)) y.least)

pub record_tells : (p : Place) (k : Kind) (b : List ℕ) (q : Place) → Tells (Complains p k b) (said (with_form (first_misformed_of (layout k) b) (under (rules_at p k b) q)))
record_tells p k b q =
    joined (FormComplains k b) (RuleComplains p k b) (λ c a. from_number of_rule (λ (r : Rule). r.kept) (rules_at p k b) 5 c (rules_orderly p k b).numbered a)
    (first_misformed_of (layout k) b) (under (rules_at p k b) q) (forms_tell k b) (rules_tell p k b q)
