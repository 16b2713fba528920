-- A walk over bytes, turn by turn, for any test.
use Rattle.std.proofs.Common.{◌≡◌, ℕ, zero, suc, ◌+◌, ◌-◌, ◌<◌, ◌≤◌, Bool, true, false, cond, not, ◌&&◌, is_some, List, [], ◌∷◌, length, get_or, Some, None, Option, sym, refl, ap, ◌∙◌, ⊎_elim, arith}
use native.Mathlib.Nat.{sub_self}
use Rattle.std.proofs.Math.Bool.{not-not}
use Rattle.std.proofs.lemmas.Bool.{cond-true, and_parts, cond_both, cases_lt}
use Rattle.recordbytes.specs.Walks.{all, first_failing_from, first_failing, FirstFailing}

-- where all pass none fails
pub all_none : (test : ℕ → Bool) (i : ℕ) (bytes : List ℕ) → all test bytes ≡ true → first_failing_from test i bytes ≡ None
all_none test i [] t = refl
all_none test i (x ∷ xs) t = let h = and_parts (test x) (all test xs) t in cond-true (test x) (first_failing_from test (i + 1) xs) (Some i) h.0 ∙ all_none test (i + 1) xs h.1

-- no byte fails exactly where all pass
none_fails : (test : ℕ → Bool) (i : ℕ) (bytes : List ℕ) → is_some (first_failing_from test i bytes) ≡ not (all test bytes)
none_fails test i [] = refl
none_fails test i (x ∷ xs) = elim (test x) as (λ v. is_some (cond v (first_failing_from test (i + 1) xs) (Some i)) ≡ not (v && all test xs)) [ true ↦ none_fails test (i + 1) xs | false ↦ refl ]

pub none_all : (test : ℕ → Bool) (bytes : List ℕ) (o : Option ℕ) (r : Bool) → o ≡ first_failing test bytes → is_some o ≡ not r → r ≡ all test bytes
none_all test bytes o r e t = sym (not-not r) ∙ (ap not (sym t ∙ (ap is_some e ∙ none_fails test 0 bytes)) ∙ not-not (all test bytes))

-- the place of the first byte that fails, counted from i
abbrev FirstFrom : (ℕ → Bool) → ℕ → List ℕ → Option ℕ → Type 0
FirstFrom test i bytes None = FirstFailing test bytes None
FirstFrom test i bytes (Some j) = (i ≤ j) × FirstFailing test bytes (Some (j - i))

passing_front : (test : ℕ → Bool) (x : ℕ) (xs : List ℕ) (n : ℕ) → test x ≡ true → ((k : ℕ) → k < n → test (get_or xs k 0) ≡ true) → (k : ℕ) → k < suc n → test (get_or (x ∷ xs) k 0) ≡ true
passing_front test x xs n passes rest zero l = passes
passing_front test x xs n passes rest (suc k) l = rest k (omega arith)

passed : (test : ℕ → Bool) (x : ℕ) (xs : List ℕ) (i : ℕ) (o : Option ℕ) → test x ≡ true → FirstFrom test (i + 1) xs o → FirstFrom test i (x ∷ xs) o
passed test x xs i None passes h = passing_front test x xs (length xs) passes h
passed test x xs i (Some j) passes h =
    let n : j - i ≡ suc (j - (i + 1)) = omega (arith, h.0) in (
      omega (arith, h.0),
      (
        omega (arith, h.0, h.1.0),
        ap (λ k. test (get_or (x ∷ xs) k 0)) n ∙ h.1.1,
        λ k l. passing_front test x xs (j - (i + 1)) passes h.1.2 k (omega arith),
      ),
    )

first_from : (test : ℕ → Bool) (i : ℕ) (bytes : List ℕ) → FirstFrom test i bytes (first_failing_from test i bytes)
first_from test i [] = λ k h. absurd (omega arith)
first_from test i (x ∷ xs) =
    cond_both (test x) (first_failing_from test (i + 1) xs) (Some i) (FirstFrom test i (x ∷ xs))
    (λ e. passed test x xs i (first_failing_from test (i + 1) xs) e (first_from test (i + 1) xs))
    (λ e. (omega arith, (omega arith, rw (sub_self) e, λ k h. absurd (omega arith))))

from_zero : (test : ℕ → Bool) (bytes : List ℕ) (o : Option ℕ) → FirstFrom test 0 bytes o → FirstFailing test bytes o
from_zero test bytes None h = h
from_zero test bytes (Some j) h =
    let n : j - 0 ≡ j = omega arith in
    (omega (arith, h.1.0), ap (λ k. test (get_or bytes k 0)) (sym n) ∙ h.1.1, λ k l. h.1.2 k (omega arith))

-- a byte that passes does not fail
apart : {b : Bool} → b ≡ true → b ≡ false → ⊥
apart p q = let z : ◌≡◌ {A = ℕ} 0 1 = cc in omega arith

-- the first failing byte by definition is the first failing byte
pub first_failing_named : (test : ℕ → Bool) (bytes : List ℕ) → FirstFailing test bytes (first_failing test bytes)
first_failing_named test bytes = from_zero test bytes (first_failing test bytes) (first_from test 0 bytes)

-- and the only one
one_first : (test : ℕ → Bool) (bytes : List ℕ) (o p : Option ℕ) → FirstFailing test bytes o → FirstFailing test bytes p → o ≡ p
one_first test bytes None None h k = refl
one_first test bytes None (Some j) h k = absurd (apart (h j k.0) k.1)
one_first test bytes (Some i) None h k = absurd (apart (k i h.0) h.1)
one_first test bytes (Some i) (Some j) h k =
    ⊎_elim
    (λ less. absurd (apart (k.2 i less) h.1))
    (λ not_less.
    ⊎_elim (λ more. absurd (apart (h.2 j more) k.1)) (λ not_more. ap Some (omega (arith, not_less, not_more))) (cases_lt j i))
    (cases_lt i j)

pub only_first : (test : ℕ → Bool) (bytes : List ℕ) (o : Option ℕ) → FirstFailing test bytes o → o ≡ first_failing test bytes
only_first test bytes o h = one_first test bytes o (first_failing test bytes) h (first_failing_named test bytes)
