-- Where records announce each other by their codes, the machine expects behind a record what comes.
use Rattle.std.proofs.Common.{◌≡◌, ℕ, Bool, true, false, ◌&&◌, List, ◌∷◌, sym, refl, ap, ◌∙◌, subst}
use Rattle.std.specs.List.{AllByRecursion}
use Rattle.grammar.specs.declared.expect.Expect.{Expect}
use Rattle.grammar.specs.declared.expect.Expect.TheVariants as E
use Rattle.grammar.specs.Fields.{next, link}
use Rattle.grammar.specs.Leaves.{Leaf, Formed}
use Rattle.grammar.specs.Codes.{Sort, heading, continuing, informing, communicating, other, nothing, first_sort, continues, informs, communicates, Codes}
use Rattle.grammar.specs.Order.{behind, behind_closing}
use Rattle.grammar.specs.Places.{Numbers, Sums}
use Rattle.grammar.proofs.Moves.{Apart, Run}

-- the codes of records, and their forms
pub record Coded (rs : List Leaf) : Type 0 where
  pub codes : Codes rs
  pub formed : AllByRecursion Formed rs

pub later : {r : Leaf} {rs : List Leaf} → Coded (r ∷ rs) → Coded rs
later c = record { codes = c.codes.1; formed = c.formed.1 }

-- what comes behind a 2 or 3 record that announces this sort
abbrev pub behind_sort : Sort → Expect → Expect
behind_sort s e = behind (continues s) (informs s) e

pub apart : (b : List ℕ) (s : Sort) → (next b ≡ continues s) × (link b ≡ informs s) → Apart b
apart b s c = ap (λ x. x && link b) c.0 ∙ ap (λ x. continues s && x) c.1 ∙ never s
  where
    never : (s : Sort) → (continues s && informs s) ≡ false
    never heading = refl
    never continuing = refl
    never informing = refl
    never communicating = refl
    never other = refl
    never nothing = refl

pub announced : {n : Numbers} {s : Sums} {k : List Leaf} (b : List ℕ) (e : Expect) → (next b ≡ continues (first_sort k)) × (link b ≡ informs (first_sort k)) → Run (behind_sort (first_sort k) e) n s k → Run (behind (next b) (link b) e) n s k
announced {n} {s} {k} b e c x = subst (λ y. Run y n s k) (ap (λ y. behind y (informs (first_sort k)) e) (sym c.0) ∙ ap (λ y. behind (next b) y e) (sym c.1)) x

-- behind a record that nothing continues
pub announced_last : {n : Numbers} {s : Sums} {k : List Leaf} (b : List ℕ) (e : Expect) → next b ≡ false → link b ≡ informs (first_sort k) → Run (behind_sort (first_sort k) E.Further) n s k → Run (behind (next b) (link b) e) n s k
announced_last {n} {s} {k} b e c l x =
    subst (λ y. Run y n s k) (plain (continues (first_sort k)) (informs (first_sort k)) ∙ ap (λ y. behind y (informs (first_sort k)) e) (sym c) ∙ ap (λ y. behind (next b) y e) (sym l)) x
  where
    plain : (c l : Bool) → behind c l E.Further ≡ behind false l e
    plain true l = refl
    plain false l = refl

pub apart_last : (b : List ℕ) → next b ≡ false → Apart b
apart_last b c = ap (λ x. x && link b) c

pub linked : {n : Numbers} {s : Sums} {k : List Leaf} (b : List ℕ) (e : Expect) → link b ≡ communicates (first_sort k) → Run (behind_closing (communicates (first_sort k)) e) n s k → Run (behind_closing (link b) e) n s k
linked {n} {s} {k} b e c x = subst (λ y. Run (behind_closing y e) n s k) (sym c) x
