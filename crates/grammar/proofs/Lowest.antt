-- All open levels are closed by closing the lowest.
use Rattle.std.proofs.Common.{◌≡◌, ℕ, ◌≤◌, Bool, true, false, cond, eqb, leb, List, [], ◌∷◌, refl, ◌∙◌, le_trans, le_refl, le_of_lt, arith}
use Rattle.std.specs.List.{AllByRecursion}
use Rattle.std.proofs.lemmas.Bool.{eq-eqb, eqb-false, leb-true, leb-false, le-leb, or_left, or_right, cond-true, cond-false, cond_both}
use Rattle.grammar.specs.Places.{is_open, is_above, closed_from, level_fits, levels_behind}
use Rattle.grammar.proofs.Levelling.{positive_test}

-- a level that can be open
abbrev pub IsLevel : ℕ → Type 0
IsLevel l = (1 ≤ l) × (l ≤ 9)

pub record Lowest (os : List ℕ) : Type 0 where
  pub level : ℕ
  pub is_level : IsLevel level
  pub opened : is_open level os ≡ true
  pub least : AllByRecursion (λ o. level ≤ o) os

lower : (k l : ℕ) (os : List ℕ) → k ≤ l → AllByRecursion (λ o. l ≤ o) os → AllByRecursion (λ o. k ≤ o) os
lower k l [] h a = tt
lower k l (o ∷ os) h a = (le_trans h a.0, lower k l os h a.1)

pub lowest : (o : ℕ) (os : List ℕ) → AllByRecursion IsLevel (o ∷ os) → Lowest (o ∷ os)
lowest o [] h = record { level = o; is_level = h.0; opened = or_left (eqb o o) false (eq-eqb o o refl); least = (le_refl o, tt) }
lowest o (p ∷ ps) h = choose (lowest p ps h.1)
  where
    by_test : (x : Lowest (p ∷ ps)) (b : Bool) → leb o x.level ≡ b → Lowest (o ∷ p ∷ ps)
    by_test x true e =
        record {
          level = o;
          is_level = h.0;
          opened = or_left (eqb o o) (is_open o (p ∷ ps)) (eq-eqb o o refl);
          least = (le_refl o, lower o x.level (p ∷ ps) (leb-true o x.level e) x.least);
        }
    by_test x false e =
        record {
          level = x.level;
          is_level = x.is_level;
          opened = or_right (eqb x.level o) (is_open x.level (p ∷ ps)) x.opened;
          least = (le_of_lt (leb-false o x.level e), x.least);
        }

    choose : Lowest (p ∷ ps) → Lowest (o ∷ p ∷ ps)
    choose x = by_test x (leb o x.level) refl

all_closed : (l : ℕ) (os : List ℕ) → AllByRecursion (λ o. l ≤ o) os → closed_from l os ≡ []
all_closed l [] a = refl
all_closed l (o ∷ os) a = cond-true (leb l o) (closed_from l os) (o ∷ os) (le-leb l o a.0) ∙ all_closed l os a.1

module _ (os : List ℕ) (x : Lowest os) where
  pub lowest_closes : levels_behind os x.level ≡ []
  lowest_closes =
      let l = x.level in
      cond-false (eqb l 0) os (cond (is_open l os) (closed_from l os) (l ∷ os)) (positive_test l x.is_level.0)
      ∙ (cond-true (is_open l os) (closed_from l os) (l ∷ os) x.opened ∙ all_closed l os x.least)

  pub lowest_fits : level_fits os x.level ≡ true
  lowest_fits = or_right (eqb x.level 0) _ (or_left (is_open x.level os) (is_above x.level os) x.opened)

closed_levels : (l : ℕ) (os : List ℕ) → AllByRecursion IsLevel os → AllByRecursion IsLevel (closed_from l os)
closed_levels l [] h = tt
closed_levels l (o ∷ os) h = cond_both (leb l o) (closed_from l os) (o ∷ os) (AllByRecursion IsLevel) (λ _. closed_levels l os h.1) (λ _. h)

-- behind a level of at most 9, the open levels can be open
pub levels_kept : (os : List ℕ) (l : ℕ) → l ≤ 9 → AllByRecursion IsLevel os → AllByRecursion IsLevel (levels_behind os l)
levels_kept os l small h =
    cond_both (eqb l 0) os (cond (is_open l os) (closed_from l os) (l ∷ os)) (AllByRecursion IsLevel) (λ _. h)
    (λ z. cond_both (is_open l os) (closed_from l os) (l ∷ os) (AllByRecursion IsLevel) (λ _. closed_levels l os h) (λ _. ((positive (eqb-false l 0 z), small), h)))
  where
    positive : (l ≡ 0 → ⊥) → 1 ≤ l
    positive f = omega arith
