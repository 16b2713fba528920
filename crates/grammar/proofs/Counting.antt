-- Sequence and detail numbers: a record that takes up the current numbers or their successors is counted as the law counts.
use Rattle.std.proofs.Common.{◌≡◌, ℕ, suc, ◌%◌, eqb, List, [], ◌∷◌, Some, None, Option, sym, ◌∙◌, arith}
use Rattle.std.specs.List.{AllByRecursion}
use Rattle.std.proofs.lemmas.Bool.{eqb-true, eqb-false, cond_both}
use Rattle.grammar.specs.Fields.{reference}
use Rattle.grammar.specs.Readings.{Rest, Information, Movement}
use Rattle.grammar.specs.Lawful.{Group, with, rest_group, information_groups, groups, Bears, Grouped}
use Rattle.grammar.specs.Places.{Numbers, behind_information}
use Rattle.grammar.specs.Rules.{succeeding}
use Rattle.grammar.proofs.Fits.{InformationFits, Repeats}
use Rattle.grammar.proofs.Threaded.{OptionalOk, RestOk, behind_informations, InformationsOk, BehindOk}

pub succeeding_counts : (n k : ℕ) → n ≡ k % 10000 → succeeding n ≡ suc k % 10000
succeeding_counts n k e = cond_both (eqb n 9999) 0 (suc n) (λ x. x ≡ suc k % 10000)
    (λ t. let z : n ≡ 9999 = eqb-true n 9999 t in omega arith)
    (λ t. let z : n ≡ 9999 → ⊥ = eqb-false n 9999 t in omega arith)

-- a record of group d of transaction s
abbrev pub Belongs : ℕ → ℕ → List ℕ → Type 0
Belongs s d = Bears (s % 10000) (d % 10000)

-- the current numbers are those of group d of transaction s
abbrev pub At : Numbers → ℕ → ℕ → Type 0
At n s d = (n.sequence ≡ s % 10000) × (n.detail ≡ d % 10000)

-- RECORDS THAT CONTINUE THE ONE BEFORE

module _ (n : Numbers) (s d : ℕ) (a : At n s d) where
  belongs : (b : List ℕ) → Repeats n b → Belongs s d b
  belongs b k = (k.0 ∙ a.0, k.1 ∙ a.1)

  repeats : (b : List ℕ) → Belongs s d b → Repeats n b
  repeats b k = (k.0 ∙ sym a.0, k.1 ∙ sym a.1)

  optional_belongs : (o : Option (List ℕ)) (g : Group) → OptionalOk n o → AllByRecursion (Belongs s d) g → AllByRecursion (Belongs s d) (with o g)
  optional_belongs None g k r = r
  optional_belongs (Some b) g k r = (belongs b k, r)

  optional_repeats : (o : Option (List ℕ)) (g : Group) → AllByRecursion (Belongs s d) (with o g) → OptionalOk n o × AllByRecursion (Belongs s d) g
  optional_repeats None g k = (tt, k)
  optional_repeats (Some b) g k = (repeats b k.0, k.1)

  rest_belongs : (r : Option Rest) → RestOk n r → AllByRecursion (Belongs s d) (rest_group r)
  rest_belongs None k = tt
  rest_belongs (Some r) k = (belongs r.two k.0, optional_belongs r.three [] k.1 tt)

  rest_repeats : (r : Option Rest) → AllByRecursion (Belongs s d) (rest_group r) → RestOk n r
  rest_repeats None k = tt
  rest_repeats (Some r) k = (repeats r.two k.0, (optional_repeats r.three [] k.1).0)

-- INFORMATION RECORDS

-- the group of the last information record, or the one before where there is none
abbrev pub group_behind : ℕ → List Information → ℕ
group_behind d [] = d
group_behind d (i ∷ is) = group_behind (suc d) is

-- each 3.1 has this reference
abbrev pub Refers : List ℕ → List Information → Type 0
Refers r is = AllByRecursion (λ i. reference i.one ≡ r) is

pub informations_at : (is : List Information) (n : Numbers) (s d : ℕ) → At n s d → InformationsOk n is → At (behind_informations n is) s (group_behind d is)
informations_at [] n s d a ok = a
informations_at (i ∷ is) n s d a ok =
    informations_at is (behind_information n i.one) s (suc d) (a.0, ok.0.detail ∙ succeeding_counts n.detail d a.1) ok.2

informations_grouped : (is : List Information) (n : Numbers) (s d : ℕ) (k : List Group) → At n s d → InformationsOk n is → Grouped s (suc (group_behind d is)) k → Grouped s (suc d) (information_groups is k)
informations_grouped [] n s d k a ok g = g
informations_grouped (i ∷ is) n s d k a ok g =
    let v : Numbers = behind_information n i.one in
    let b : At v s (suc d) = (a.0, ok.0.detail ∙ succeeding_counts n.detail d a.1) in
    (((ok.0.sequence ∙ a.0, b.1), rest_belongs v s (suc d) b i.rest ok.1), informations_grouped is v s (suc d) k b ok.2 g)

informations_thread : (is : List Information) (n : Numbers) (s d : ℕ) (k : List Group) → At n s d → Grouped s (suc d) (information_groups is k) → Refers n.reference is
    → InformationsOk n is × Grouped s (suc (group_behind d is)) k
informations_thread [] n s d k a g r = (tt, g)
informations_thread (i ∷ is) n s d k a g r =
    let v : Numbers = behind_information n i.one in
    let b : At v s (suc d) = (a.0, g.0.0.1) in
    let fits : InformationFits n i.one = record {
      sequence = g.0.0.0 ∙ sym a.0;
      detail = g.0.0.1 ∙ sym (succeeding_counts n.detail d a.1);
      reference = r.0;
    } in
    let x : InformationsOk v is × Grouped s (suc (group_behind (suc d) is)) k = informations_thread is v s (suc d) k b g.1 r.1 in
    ((fits, rest_repeats v s (suc d) b i.rest g.0.1, x.0), x.1)

pub informations_refer : (is : List Information) (n : Numbers) → InformationsOk n is → Refers n.reference is
informations_refer [] n ok = tt
informations_refer (i ∷ is) n ok = (ok.0.reference, informations_refer is (behind_information n i.one) ok.2)

-- MOVEMENTS: the current numbers are those of the 2.1, and the movements ms stand behind

pub movement_grouped : (m : Movement) (ms : List Movement) (n : Numbers) (s d : ℕ) → At n s d → Belongs s d m.one → BehindOk n m → Grouped s (suc (group_behind d m.informations)) (groups ms [])
    → Grouped s d (groups (m ∷ ms) [])
movement_grouped m ms n s d a b ok g = (
  (b, optional_belongs n s d a m.two (with m.three []) ok.0 (optional_belongs n s d a m.three [] ok.1 tt)),
  informations_grouped m.informations n s d (groups ms []) a ok.2 g,
)

pub movement_threads : (m : Movement) (ms : List Movement) (n : Numbers) (s d : ℕ) → At n s d → Grouped s d (groups (m ∷ ms) []) → Refers n.reference m.informations
    → BehindOk n m × Grouped s (suc (group_behind d m.informations)) (groups ms [])
movement_threads m ms n s d a g r =
    let x : OptionalOk n m.two × AllByRecursion (Belongs s d) (with m.three []) = optional_repeats n s d a m.two (with m.three []) g.0.1 in
    let y : InformationsOk n m.informations × Grouped s (suc (group_behind d m.informations)) (groups ms []) = informations_thread m.informations n s d (groups ms []) a g.1 r in
    ((x.0, (optional_repeats n s d a m.three [] x.1).0, y.0), y.1)
