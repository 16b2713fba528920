-- A step takes a record just where it is formed and its values are taken.
--   leads          128 bytes that a step takes are a formed record with values that are taken
--   step_formed    of a formed record a step sees the values alone
--   same_records   formed records in the same slots are the same
use Rattle.std.proofs.Common.{◌≡◌, ℕ, leb, List, [], ◌∷◌, length, Some, None, Ok, Err, Option, Result, sym, refl, ap, ◌∙◌, arith}
use Rattle.std.specs.List.{AllByRecursion}
use Rattle.std.proofs.lemmas.Bool.{cond_both}
use Rattle.layout.specs.Kinds.{kind_of}
use Rattle.layout.specs.Layouts.{first_misformed}
use Rattle.layout.specs.declared.kind.Kind.{Kind}
use Rattle.layout.specs.declared.kind.Kind.TheVariants as K
use Rattle.rendering.proofs.Plain.{plain}
use Rattle.rendering.proofs.Telling.{kind_told}
use Rattle.source.specs.Slots.{Slot, whole}
use Rattle.grammar.specs.declared.faults.RecordFault.{RecordFault}
use Rattle.grammar.specs.declared.faults.RecordFault.TheVariants.{Misformed}
use Rattle.grammar.specs.declared.faults.StatementFault.{StatementFault}
use Rattle.grammar.specs.declared.faults.StatementFault.TheVariants.{Record}
use Rattle.grammar.specs.Leaves.{Leaf, header, old_balance, movement, movement_second, counterparty, information, information_second, information_third, new_balance, free_communication, trailer, kind, bytes, leaf, Formed}
use Rattle.grammar.specs.Files.{slots}
use Rattle.grammar.specs.Places.{Place}
use Rattle.grammar.specs.Faults.{statement_position}
use Rattle.grammar.specs.Steps.{take_values, with_form, told_by, told, step_by, step}
use Rattle.grammar.proofs.Kept.{refused}
use Rattle.grammar.proofs.Taken.{leaf_of}

-- A RECORD TELLS ITS KIND

pub told_formed : (r : Leaf) → Formed r → told (bytes r) ≡ Ok (kind r)
told_formed r f = ap (λ o. told_by o (kind_of (bytes r))) (plain (kind r) (bytes r) f) ∙ ap (told_by None) (kind_told (kind r) (bytes r) f)

same_kind : (b : List ℕ) (k j : Kind) → told b ≡ Ok k → told b ≡ Ok j → k ≡ j
same_kind b k j h g = cc

same_record : (r s : Leaf) → Formed r → Formed s → bytes r ≡ bytes s → r ≡ s
same_record r s f g h =
    let k : kind r ≡ kind s = same_kind (bytes s) (kind r) (kind s) (sym (ap told h) ∙ told_formed r f) (told_formed s g) in
    sym (leaf_of r) ∙ ap (λ x. leaf x (bytes r)) k ∙ ap (leaf (kind s)) h ∙ leaf_of s

same_bytes : (a b : List ℕ) (xs ys : List Slot) → ◌≡◌ {A = List Slot} (whole a ∷ xs) (whole b ∷ ys) → (a ≡ b) × (xs ≡ ys)
same_bytes a b xs ys h = (cc, cc)

pub same_records : (rs ss : List Leaf) → AllByRecursion Formed rs → AllByRecursion Formed ss → slots rs ≡ slots ss → rs ≡ ss
same_records [] [] f g h = refl
same_records [] (s ∷ ss) f g h = let z : ◌≡◌ {A = ℕ} 0 1 = cc in absurd (omega arith)
same_records (r ∷ rs) [] f g h = let z : ◌≡◌ {A = ℕ} 0 1 = cc in absurd (omega arith)
same_records (r ∷ rs) (s ∷ ss) f g h =
    let e = same_bytes (bytes r) (bytes s) (slots rs) (slots ss) h in
    ap (◌∷ rs) (same_record r s f.0 g.0 e.0) ∙ ap (s ∷◌) (same_records rs ss f.1 g.1 e.1)

-- A STEP

pub step_formed : (p : Place) (r : Leaf) → Formed r → step p (bytes r) ≡ take_values p (kind r) (bytes r)
step_formed p r f =
    ap (step_by p (bytes r)) (told_formed r f)
    ∙ ap (λ o. with_form o (take_values p (kind r) (bytes r))) f.1

-- 128 bytes are a formed record, with values that lead from one place to another
pub record Leads (p : Place) (b : List ℕ) (q : Place) : Type 0 where
  pub one : Leaf
  pub is : bytes one ≡ b
  pub formed : Formed one
  pub taken : take_values p (kind one) (bytes one) ≡ Ok q

form_holds : {A : Type 0} (o : Option ℕ) (r : Result A StatementFault) (x : A) → with_form o r ≡ Ok x → (o ≡ None) × (r ≡ Ok x)
form_holds None r x h = (refl, h)
form_holds (Some i) (Ok y) x h = absurd (refused (Record (Misformed i)) x h)
form_holds {A} (Some i) (Err f) x h =
    absurd (cond_both (leb i (statement_position f)) (Err (Record (Misformed i))) (Err f) (λ (y : Result A StatementFault). y ≡ Ok x → ⊥) (λ _. refused (Record (Misformed i)) x) (λ _. refused f x) h)

leads_as : (p : Place) (b : List ℕ) (q : Place) (k : Kind) → length b ≡ 128 → first_misformed k b ≡ None → take_values p k b ≡ Ok q → Leads p b q
leads_as p b q K.Header l f t = record { one = header b; is = refl; formed = (l, f); taken = t }
leads_as p b q K.OldBalance l f t = record { one = old_balance b; is = refl; formed = (l, f); taken = t }
leads_as p b q K.Movement l f t = record { one = movement b; is = refl; formed = (l, f); taken = t }
leads_as p b q K.MovementSecond l f t = record { one = movement_second b; is = refl; formed = (l, f); taken = t }
leads_as p b q K.Counterparty l f t = record { one = counterparty b; is = refl; formed = (l, f); taken = t }
leads_as p b q K.Information l f t = record { one = information b; is = refl; formed = (l, f); taken = t }
leads_as p b q K.InformationSecond l f t = record { one = information_second b; is = refl; formed = (l, f); taken = t }
leads_as p b q K.InformationThird l f t = record { one = information_third b; is = refl; formed = (l, f); taken = t }
leads_as p b q K.NewBalance l f t = record { one = new_balance b; is = refl; formed = (l, f); taken = t }
leads_as p b q K.FreeCommunication l f t = record { one = free_communication b; is = refl; formed = (l, f); taken = t }
leads_as p b q K.Trailer l f t = record { one = trailer b; is = refl; formed = (l, f); taken = t }

leads_by : (p : Place) (b : List ℕ) (q : Place) (t : Result Kind RecordFault) → length b ≡ 128 → step_by p b t ≡ Ok q → Leads p b q
leads_by p b q (Err f) l h = absurd (refused (Record f) q h)
leads_by p b q (Ok k) l h = let x = form_holds (first_misformed k b) (take_values p k b) q h in leads_as p b q k l x.0 x.1

pub leads : (p : Place) (b : List ℕ) (q : Place) → length b ≡ 128 → step p b ≡ Ok q → Leads p b q
leads p b q l h = leads_by p b q (told b) l h
