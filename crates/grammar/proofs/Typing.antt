-- The test of each detail's type, with the flag that a 7 has come, is the law's relation on the details earlier.
use Rattle.std.proofs.Common.{◌≡◌, ℕ, Bool, true, false, ◌&&◌, ◌||◌, eqb, ◌⊎◌, List, [], ◌∷◌, ◌++◌, refl, ap, subst, inl, inr, arith}
use mathlib.Core.Path.{subst⁻¹}
use Rattle.std.proofs.lemmas.Bool.{false≢true, eqb-true, eq-eqb, and_parts, or_cases, or_left, or_right}
use Rattle.grammar.specs.Fields.{type}
use Rattle.grammar.specs.Readings.{Movement}
use Rattle.grammar.specs.Lawful.{Any, DetailType, five, six, seven, nine, eight}
use Rattle.grammar.specs.Rules.{detail_type}

-- A 7 AMONG DETAILS

-- the flag behind some details
abbrev seven_behind : Bool → List Movement → Bool
seven_behind b [] = b
seven_behind b (d ∷ ds) = seven_behind (b || eqb (type d.one) 7) ds

abbrev AnySeven : List Movement → Type 0
AnySeven = Any (λ d. type d.one ≡ 7)

seven_found : (b : Bool) (ds : List Movement) → seven_behind b ds ≡ true → (b ≡ true) ⊎ AnySeven ds
seven_found b [] t = inl t
seven_found b (d ∷ ds) t = elim (seven_found (b || eqb (type d.one) 7) ds t) [
  | inl x ↦ elim (or_cases b (eqb (type d.one) 7) x) [ inl y ↦ inl y | inr y ↦ inr (inl (eqb-true (type d.one) 7 y)) ]
  | inr x ↦ inr (inr x)
]

seven_passes : (b : Bool) (ds : List Movement) → (b ≡ true) ⊎ AnySeven ds → seven_behind b ds ≡ true
seven_passes b [] (inl e) = e
seven_passes b [] (inr x) = absurd x
seven_passes b (d ∷ ds) (inl e) = seven_passes (b || eqb (type d.one) 7) ds (inl (or_left b (eqb (type d.one) 7) e))
seven_passes b (d ∷ ds) (inr (inl e)) = seven_passes (b || eqb (type d.one) 7) ds (inl (or_right b (eqb (type d.one) 7) (eq-eqb (type d.one) 7 e)))
seven_passes b (d ∷ ds) (inr (inr x)) = seven_passes (b || eqb (type d.one) 7) ds (inr x)

-- ONE DETAIL

type_passes : (ds : List Movement) {m t : ℕ} → DetailType ds m t → detail_type m (seven_behind false ds) t ≡ true
type_passes ds five = refl
type_passes ds six = refl
type_passes ds seven = refl
type_passes ds (nine s) = or_left (seven_behind false ds) false (seven_passes false ds (inr s))
type_passes ds eight = refl

type_as : (ds : List Movement) (m t a b : ℕ) → eqb m a ≡ true → eqb t b ≡ true → DetailType ds a b → DetailType ds m t
type_as ds m t a b e f x = subst⁻¹ (λ (y : ℕ). DetailType ds y t) (eqb-true m a e) (subst⁻¹ (DetailType ds a) (eqb-true t b f) x)

pair_allowed : (ds : List Movement) (m t a b : ℕ) → (eqb m a && eqb t b) ≡ true → DetailType ds a b → DetailType ds m t
pair_allowed ds m t a b h = let e : (eqb m a ≡ true) × (eqb t b ≡ true) = and_parts (eqb m a) (eqb t b) h in type_as ds m t a b e.0 e.1

-- the types under a 2
abbrev second_type : Bool → ℕ → Bool
second_type b t = eqb t 6 || (eqb t 7 || (eqb t 9 && b))

second_allowed : (ds : List Movement) (m t : ℕ) → eqb m 2 ≡ true → second_type (seven_behind false ds) t ≡ true → DetailType ds m t
second_allowed ds m t e h = elim (or_cases (eqb t 6) (eqb t 7 || (eqb t 9 && seven_behind false ds)) h) [
  | inl x ↦ type_as ds m t 2 6 e x six
  | inr x ↦ elim (or_cases (eqb t 7) (eqb t 9 && seven_behind false ds) x) [
    | inl y ↦ type_as ds m t 2 7 e y seven
    | inr y ↦ behind_seven (and_parts (eqb t 9) (seven_behind false ds) y)
  ]
]
  where
    behind_seven : (eqb t 9 ≡ true) × (seven_behind false ds ≡ true) → DetailType ds m t
    behind_seven x = elim (seven_found false ds x.1) [ inl y ↦ absurd (false≢true y) | inr y ↦ type_as ds m t 2 9 e x.0 (nine y) ]

type_allowed : (ds : List Movement) (m t : ℕ) → detail_type m (seven_behind false ds) t ≡ true → DetailType ds m t
type_allowed ds m t h = elim (or_cases (eqb m 1 && eqb t 5) ((eqb m 2 && second_type b t) || (eqb m 3 && eqb t 8)) h) [
  | inl x ↦ pair_allowed ds m t 1 5 x five
  | inr x ↦ elim (or_cases (eqb m 2 && second_type b t) (eqb m 3 && eqb t 8) x) [
    | inl y ↦ let z : (eqb m 2 ≡ true) × (second_type b t ≡ true) = and_parts (eqb m 2) (second_type b t) y in second_allowed ds m t z.0 z.1
    | inr y ↦ pair_allowed ds m t 3 8 y eight
  ]
]
  where
    b : Bool
    b = seven_behind false ds

-- ALL DETAILS UNDER A MAIN MOVEMENT

-- each passes the test with the flag behind those earlier
abbrev pub Tested : ℕ → Bool → List Movement → Type 0
Tested m b [] = Unit {0}
Tested m b (d ∷ ds) = (detail_type m b (type d.one) ≡ true) × Tested m (b || eqb (type d.one) 7) ds

-- a fact of each detail and those earlier
abbrev pub EachBehind : (List Movement → Movement → Type 0) → List Movement → Type 0
EachBehind P ds = (earlier : List Movement) (d : Movement) (later : List Movement) → ds ≡ earlier ++ (d ∷ later) → P earlier d

each_tested : (m : ℕ) (b : Bool) (ds : List Movement) → Tested m b ds → EachBehind (λ earlier d. detail_type m (seven_behind b earlier) (type d.one) ≡ true) ds
each_tested m b [] t [] d later e = let z : ◌≡◌ {A = ℕ} 0 1 = cc in absurd (omega arith)
each_tested m b [] t (y ∷ earlier) d later e = let z : ◌≡◌ {A = ℕ} 0 1 = cc in absurd (omega arith)
each_tested m b (x ∷ ds) t [] d later e = let z : x ≡ d = cc in subst (λ (y : Movement). detail_type m b (type y.one) ≡ true) z t.0
each_tested m b (x ∷ ds) t (y ∷ earlier) d later e =
    let z : x ≡ y = cc in
    let f : ds ≡ earlier ++ (d ∷ later) = cc in
    subst (λ (v : Movement). detail_type m (seven_behind (b || eqb (type v.one) 7) earlier) (type d.one) ≡ true) z (each_tested m (b || eqb (type x.one) 7) ds t.1 earlier d later f)

tested_each : (m : ℕ) (b : Bool) (ds : List Movement) → EachBehind (λ earlier d. detail_type m (seven_behind b earlier) (type d.one) ≡ true) ds → Tested m b ds
tested_each m b [] t = tt
tested_each m b (x ∷ ds) t = (t [] x ds refl, tested_each m (b || eqb (type x.one) 7) ds (λ earlier d later e. t (x ∷ earlier) d later (ap (x ∷◌) e)))

pub types_allowed : (m : ℕ) (ds : List Movement) → Tested m false ds → EachBehind (λ earlier d. DetailType earlier m (type d.one)) ds
types_allowed m ds t earlier d later e = type_allowed earlier m (type d.one) (each_tested m false ds t earlier d later e)

pub types_pass : (m : ℕ) (ds : List Movement) → EachBehind (λ earlier d. DetailType earlier m (type d.one)) ds → Tested m false ds
types_pass m ds t = tested_each m false ds (λ earlier d later e. type_passes earlier (t earlier d later e))
