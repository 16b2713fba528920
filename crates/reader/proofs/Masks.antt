-- Open levels as bits of a number: all masks with all levels, by computation.
use Rattle.std.proofs.Common.{◌≡◌, ℕ, zero, suc, ◌+◌, ◌/◌, ◌%◌, ◌^◌, ◌<◌, ◌≤◌, Bool, true, false, cond, not, ◌&&◌, eqb, ltb, List, Some, None, Option, sym, refl, arith, rules, ◌*◌}
use Rattle.std.specs.Option.{is_some, IfSome}
use Rattle.std.specs.Str.{bytes_eq}
use Rattle.std.proofs.lemmas.Bool.Decides.{Decides-below_and}
use Rattle.std.proofs.lemmas.Slice.Eq.{bytes_eq-Decides}
use Rattle.grammar.specs.Places.{none_open, level_fits, levels_behind}
use Rattle.reader.specs.Levels.{open_levels, bits_below}

abbrev all_below : ℕ → (ℕ → Bool) → Bool
all_below zero f = true
all_below (suc k) f = f k && all_below k f

among_all : (n : ℕ) (f : ℕ → Bool) (k : ℕ) → all_below n f ≡ true → k < n → f k ≡ true
among_all n f k e h = (Decides-below_and f (λ i. f i ≡ true) (λ i. all_below i f) (λ _. (λ t. t, λ t. t)) refl (λ _. refl) n).0 e k h

-- NO LEVEL OPEN

agreed : (a b : Bool) → cond a b (not b) ≡ true → a ≡ b
agreed true b e = sym e
agreed false true e = e
agreed false false e = refl

none_alike : ℕ → Bool
none_alike m = cond (eqb m 0) (none_open (bits_below 10 m)) (not (none_open (bits_below 10 m)))

pub none_is : (m : ℕ) → m < 1024 → eqb m 0 ≡ none_open (open_levels m)
unfolding open_levels none_alike
none_is m h = agreed (eqb m 0) (none_open (bits_below 10 m)) (among_all 1024 none_alike m refl h)

-- BEHIND A LEVEL

-- the mask behind a level that fits
abbrev pub mask_behind : ℕ → ℕ → Option ℕ
mask_behind m l = cond (eqb l 0) (Some m) (cond (eqb (m / 2 ^ l % 2) 1) (Some (m % 2 ^ l)) (cond (ltb m (2 ^ l)) (Some (m + 2 ^ l)) None))

abbrev stands_for : Option ℕ → Bool → List ℕ → Bool
stands_for None fits os = not fits
stands_for (Some m) fits os = fits && bytes_eq (bits_below 10 m) os

pub record StandsFor (o : Option ℕ) (fitting : Bool) (os : List ℕ) : Type 0 where
  pub fits : is_some o ≡ fitting
  pub levels : IfSome o (λ m. open_levels m ≡ os)

stands : (o : Option ℕ) (fits : Bool) (os : List ℕ) → stands_for o fits os ≡ true → StandsFor o fits os
unfolding open_levels
stands None false os e = record { fits = refl; levels = tt }
stands None true os e = absurd (cc)
stands (Some m) true os e = record { fits = refl; levels = (bytes_eq-Decides (bits_below 10 m) os).0 e }
stands (Some m) false os e = absurd (cc)

behind_alike : ℕ → ℕ → Bool
behind_alike m l = stands_for (mask_behind m l) (level_fits (bits_below 10 m) l) (levels_behind (bits_below 10 m) l)

pub behind_is : (m l : ℕ) → m < 1024 → l ≤ 9 → StandsFor (mask_behind m l) (level_fits (open_levels m) l) (levels_behind (open_levels m) l)
unfolding open_levels behind_alike
behind_is m l h k =
    stands (mask_behind m l) (level_fits (bits_below 10 m) l) (levels_behind (bits_below 10 m) l)
    (among_all 10 (behind_alike m) l (among_all 1024 (λ n. all_below 10 (behind_alike n)) m refl h) (omega (arith, k)))

pub bit_is : (l : ℕ) → l ≤ 9 → (1 * 2 ^ l) % 18446744073709551616 ≡ 2 ^ l
bit_is l k = search rules
