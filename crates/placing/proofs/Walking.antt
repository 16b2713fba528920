-- Where an account stands among accounts.
use Rattle.std.proofs.Common.{◌≡◌, ℕ, zero, suc, ◌+◌, ◌<◌, Bool, true, false, ◌||◌, List, [], ◌∷◌, length, get_or, is_some, Some, refl, inl, inr, arith}
use Rattle.std.specs.Str.{bytes_eq}
use Rattle.std.proofs.lemmas.Bool.{cases_Bool, or_left, or_right}
use Rattle.placing.specs.Places.{index_from, index_of}

abbrev pub among : List ℕ → List (List ℕ) → Bool
among account [] = false
among account (other ∷ rest) = bytes_eq other account || among account rest

pub among_at : (account : List ℕ) (all : List (List ℕ)) (j : ℕ) → j < length all → bytes_eq (get_or all j []) account ≡ true → among account all ≡ true
among_at account [] j inside same = absurd (omega arith)
among_at account (other ∷ rest) zero inside same = or_left (bytes_eq other account) (among account rest) same
among_at account (other ∷ rest) (suc j) inside same = or_right (bytes_eq other account) (among account rest) (among_at account rest j (omega arith) same)

pub among_index : (first : ℕ) (account : List ℕ) (all : List (List ℕ)) → among account all ≡ is_some (index_from first account all)
unfolding index_from
among_index first account [] = refl
among_index first account (other ∷ rest) = let h = among_index (first + 1) account rest in grind arith

index_from_found : (first : ℕ) (account : List ℕ) (all : List (List ℕ)) (j : ℕ) → index_from first account all ≡ Some j → (i : ℕ) × (j ≡ first + i) × (i < length all) × (bytes_eq (get_or all i []) account ≡ true)
unfolding index_from
index_from_found first account [] j e = absurd (grind arith)
index_from_found first account (other ∷ rest) j e =
    elim (cases_Bool (bytes_eq other account)) [
      | inl same ↦ (0, grind arith, omega arith, same)
      | inr apart ↦ let r = index_from_found (first + 1) account rest j (grind arith) in (suc r.0, omega (arith, r.1), omega (arith, r.2), r.3)
    ]

pub index_found : (account : List ℕ) (all : List (List ℕ)) (j : ℕ) → index_of account all ≡ Some j → (j < length all) × (bytes_eq (get_or all j []) account ≡ true)
index_found account all j e =
    let r = index_from_found 0 account all j e in
    let q : j ≡ r.0 = omega (arith, r.1) in
    (omega (arith, r.2), rw q r.3)

pub index_inside : (account : List ℕ) (all : List (List ℕ)) (j : ℕ) → index_of account all ≡ Some j → j < length all
index_inside account all j e = (index_found account all j e).0
