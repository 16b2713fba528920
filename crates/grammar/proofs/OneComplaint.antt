-- There is one least complaint of a record, and it names one fault.
use Rattle.std.proofs.Common.{◌≡◌, ℕ, ◌≤◌, true, cond, eqb, List, [], ◌∷◌, Ok, Err, Result, sym, refl, ap, ◌∙◌, inl, inr, arith}
use Rattle.layout.specs.Layouts.{Field, layout, is_formed}
use Rattle.layout.specs.declared.kind.Kind.{Kind}
use Rattle.grammar.specs.declared.faults.RecordFault.TheVariants.{Forbidden, Unknown, Misformed}
use Rattle.grammar.specs.declared.faults.StatementFault.{StatementFault}
use Rattle.grammar.specs.declared.faults.StatementFault.TheVariants.{Record, Misplaced, Number, Money}
use Rattle.grammar.specs.Faults.{statement_number}
use Rattle.grammar.specs.Places.{Place}
use Rattle.grammar.specs.Rules.{Rule}
use Rattle.grammar.specs.Complaints.{Complaint, NotAfter, Least, of_field, of_fault, of_rule, rules_at, Complains}
use Rattle.grammar.proofs.Complaining.{Tells, numbered_from, from_number}
use Rattle.grammar.proofs.RulesAscend.{rules_orderly}
use Rattle.grammar.proofs.Joining.{said}

same_complaint : (c d : Complaint) → c.position ≡ d.position → c.number ≡ d.number → c ≡ d
same_complaint c d e n =
    let first : c ≡ record { position = d.position; number = c.number } = ap (λ (p : ℕ). record { position = p; number = c.number }) e in
    first ∙ ap (λ (m : ℕ). record { position = d.position; number = m }) n

neither_after : (c d : Complaint) → NotAfter c d → NotAfter d c → c ≡ d
neither_after c d (inl g) (inl h) = absurd (omega arith)
neither_after c d (inl g) (inr h) = absurd (omega (arith, h.0))
neither_after c d (inr g) (inl h) = absurd (omega (arith, g.0))
neither_after c d (inr g) (inr h) = same_complaint c d g.0 (omega (arith, g.1, h.1))

-- the fault of a form or of a rule, from its complaint
abbrev fault_of : Complaint → StatementFault
fault_of c = cond (eqb c.number 4) (Record (Misformed c.position)) (cond (eqb c.number 5) (Number c.position) (Money c.position))

fault_back : (f : StatementFault) → 4 ≤ statement_number f → fault_of (of_fault f) ≡ f
fault_back (Record (Forbidden p)) h = absurd (omega arith)
fault_back (Record Unknown) h = absurd (omega arith)
fault_back (Record (Misformed p)) h = refl
fault_back Misplaced h = absurd (omega arith)
fault_back (Number p) h = refl
fault_back (Money p) h = refl

forms_numbered : (b : List ℕ) (fs : List Field) → numbered_from of_field (is_formed b) 4 fs ≡ true
forms_numbered b [] = refl
forms_numbered b (f ∷ fs) = forms_numbered b fs

module _ (p : Place) (k : Kind) (b : List ℕ) where
  from_four : (c : Complaint) → Complains p k b c → 4 ≤ c.number
  from_four c (inl a) = from_number of_field (is_formed b) (layout k) 4 c (forms_numbered b (layout k)) a
  from_four c (inr a) = omega (arith, from_number of_rule (λ (r : Rule). r.kept) (rules_at p k b) 5 c (rules_orderly p k b).numbered a)

  -- a result that tells the least complaint is the fault of it
  pub least_told : (r : Result Place StatementFault) (f : StatementFault) → Tells (Complains p k b) (said r) → Least (Complains p k b) (of_fault f) → r ≡ Err f
  least_told (Ok q) f t l = absurd (t (of_fault f) l.holds)
  least_told (Err g) f t l =
      let e : of_fault g ≡ of_fault f = neither_after (of_fault g) (of_fault f) (t.least (of_fault f) l.holds) (l.least (of_fault g) t.holds) in
      ap Err (sym (fault_back g (from_four (of_fault g) t.holds)) ∙ (ap fault_of e ∙ fault_back f (from_four (of_fault f) l.holds)))
