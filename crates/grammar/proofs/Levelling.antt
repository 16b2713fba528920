-- The test of a level and the open levels behind it are those of the law's relation.
use Rattle.std.proofs.Common.{◌≡◌, ℕ, ◌<◌, ◌≤◌, Bool, true, false, cond, ◌||◌, eqb, leb, ◌⊎◌, List, [], ◌∷◌, ◌++◌, sym, refl, ap, ◌∙◌, subst, inl, inr, le_refl, le_of_lt, arith}
use mathlib.Core.Path.{subst⁻¹}
use Rattle.std.proofs.ByRecursion.{All-weaker}
use Rattle.std.proofs.lemmas.Bool.{false≢true, eqb-true, eqb-false, eq-eqb, ne_eqb, ltb-true, lt-ltb, le-leb, lt-leb, or_cases, or_left, or_right, or_from, cond-true, cond-false}
use Rattle.grammar.specs.Lawful.{Above, Level, nothing, closes, opens}
use Rattle.grammar.specs.Places.{is_open, is_above, closed_from, level_fits, levels_behind}

-- the open levels, each above the next and none 0
abbrev pub Descending : List ℕ → Type 0
Descending [] = Unit {0}
Descending (o ∷ os) = (1 ≤ o) × Above o os × Descending os

-- WHICH LEVELS ARE OPEN

record Found (l : ℕ) (os : List ℕ) : Type 0 where
  higher : List ℕ
  lower : List ℕ
  is : os ≡ higher ++ (l ∷ lower)

found : (l : ℕ) (os : List ℕ) → is_open l os ≡ true → Found l os
found l [] t = absurd (false≢true t)
found l (o ∷ os) t = elim (or_cases (eqb l o) (is_open l os) t) [
  | inl e ↦ record { higher = []; lower = os; is = ap (λ (x : ℕ). x ∷ os) (sym (eqb-true l o e)) }
  | inr e ↦ let f : Found l os = found l os e in record { higher = o ∷ f.higher; lower = f.lower; is = ap (o ∷◌) f.is }
]

open_between : (hs : List ℕ) (l : ℕ) (ls : List ℕ) → is_open l (hs ++ (l ∷ ls)) ≡ true
open_between [] l ls = or_left (eqb l l) (is_open l ls) (eq-eqb l l refl)
open_between (h ∷ hs) l ls = or_right (eqb l h) (is_open l (hs ++ (l ∷ ls))) (open_between hs l ls)

above_is_not_open : (l : ℕ) (os : List ℕ) → Above l os → is_open l os ≡ false
above_is_not_open l [] a = refl
above_is_not_open l (o ∷ os) a = let h : o < l = a.0 in or_from (eqb l o) (is_open l os) (ne_eqb l o (λ e. omega arith)) (above_is_not_open l os a.1)

above_test : (l : ℕ) (os : List ℕ) → Descending os → is_above l os ≡ true → Above l os
above_test l [] d t = tt
above_test l (o ∷ os) d t = let h : o < l = ltb-true o l t in (h, All-weaker (λ p. p < o) (λ p. p < l) (λ p q. omega arith) os d.1)

above_passes : (l : ℕ) (os : List ℕ) → Above l os → is_above l os ≡ true
above_passes l [] a = refl
above_passes l (o ∷ os) a = lt-ltb o l a.0

-- WHAT A CLOSED LEVEL LEAVES

drop_one : (l o : ℕ) (os : List ℕ) → l ≤ o → closed_from l (o ∷ os) ≡ closed_from l os
drop_one l o os h = cond-true (leb l o) (closed_from l os) (o ∷ os) (le-leb l o h)

keep_lower : (l : ℕ) (os : List ℕ) → Above l os → closed_from l os ≡ os
keep_lower l [] a = refl
keep_lower l (o ∷ os) a = cond-false (leb l o) (closed_from l os) (o ∷ os) (lt-leb l o a.0)

between_is_below : (o : ℕ) (hs : List ℕ) (l : ℕ) (ls : List ℕ) → Above o (hs ++ (l ∷ ls)) → l < o
between_is_below o [] l ls a = a.0
between_is_below o (h ∷ hs) l ls a = between_is_below o hs l ls a.1

closed_between : (hs : List ℕ) (l : ℕ) (ls : List ℕ) → Descending (hs ++ (l ∷ ls)) → closed_from l (hs ++ (l ∷ ls)) ≡ ls
closed_between [] l ls d = drop_one l l ls (le_refl l) ∙ keep_lower l ls d.1
closed_between (h ∷ hs) l ls d = drop_one l h (hs ++ (l ∷ ls)) (le_of_lt (between_is_below h hs l ls d.1)) ∙ closed_between hs l ls d.2

descending_lower : (hs : List ℕ) (l : ℕ) (ls : List ℕ) → Descending (hs ++ (l ∷ ls)) → Descending ls
descending_lower [] l ls d = d.2
descending_lower (h ∷ hs) l ls d = descending_lower hs l ls d.2

-- WHAT IS OPEN BEHIND A LEVEL THAT IS NOT 0

positive : (l : ℕ) → eqb l 0 ≡ false → 1 ≤ l
positive l e = let z : l ≡ 0 → ⊥ = eqb-false l 0 e in omega arith

pub positive_test : (l : ℕ) → 1 ≤ l → eqb l 0 ≡ false
positive_test l h = ne_eqb l 0 (λ e. omega arith)

behind_positive : (os : List ℕ) (l : ℕ) → 1 ≤ l → levels_behind os l ≡ cond (is_open l os) (closed_from l os) (l ∷ os)
behind_positive os l p = cond-false (eqb l 0) os (cond (is_open l os) (closed_from l os) (l ∷ os)) (positive_test l p)

closes_behind : (os hs : List ℕ) (l : ℕ) (ls : List ℕ) → os ≡ hs ++ (l ∷ ls) → 1 ≤ l → Descending os → levels_behind os l ≡ ls
closes_behind os hs l ls e p d =
    behind_positive os l p
    ∙ cond-true (is_open l os) (closed_from l os) (l ∷ os) (ap (is_open l) e ∙ open_between hs l ls)
    ∙ ap (closed_from l) e
    ∙ closed_between hs l ls (subst Descending e d)

opens_behind : (os : List ℕ) (l : ℕ) → 1 ≤ l → Above l os → levels_behind os l ≡ l ∷ os
opens_behind os l p a = behind_positive os l p ∙ cond-false (is_open l os) (closed_from l os) (l ∷ os) (above_is_not_open l os a)

-- THE TEST IS THE RELATION

pub level_allowed : (os : List ℕ) (l : ℕ) → Descending os → level_fits os l ≡ true → Level os l (levels_behind os l)
level_allowed os l d t = by_zero (eqb l 0) refl t
  where
    by_open : 1 ≤ l → (is_open l os ≡ true) ⊎ (is_above l os ≡ true) → Level os l (levels_behind os l)
    by_open p (inl o) = let f : Found l os = found l os o in subst⁻¹ (Level os l) (closes_behind os f.higher l f.lower f.is p d) (closes f.higher l f.lower f.is p)
    by_open p (inr u) = let a : Above l os = above_test l os d u in subst⁻¹ (Level os l) (opens_behind os l p a) (opens l p a)

    by_zero : (b : Bool) → eqb l 0 ≡ b → (b || (is_open l os || is_above l os)) ≡ true → Level os l (levels_behind os l)
    by_zero true z u = subst⁻¹ (λ (x : ℕ). Level os x (levels_behind os x)) (eqb-true l 0 z) nothing
    by_zero false z u = by_open (positive l z) (or_cases (is_open l os) (is_above l os) u)

pub level_passes : (os : List ℕ) (l : ℕ) (new : List ℕ) → Descending os → Level os l new → (level_fits os l ≡ true) × (levels_behind os l ≡ new)
level_passes os l new d nothing = (refl, refl)
level_passes os l new d (closes hs k ls e p) =
    (or_right (eqb k 0) (is_open k os || is_above k os) (or_left (is_open k os) (is_above k os) (ap (is_open k) e ∙ open_between hs k ls)), closes_behind os hs k ls e p d)
level_passes os l new d (opens k p a) =
    (or_right (eqb k 0) (is_open k os || is_above k os) (or_right (is_open k os) (is_above k os) (above_passes k os a)), opens_behind os k p a)

pub descending_behind : (os : List ℕ) (l : ℕ) (new : List ℕ) → Descending os → Level os l new → Descending new
descending_behind os l new d nothing = d
descending_behind os l new d (closes hs k ls e p) = descending_lower hs k ls (subst Descending e d)
descending_behind os l new d (opens k p a) = (p, a, d)
