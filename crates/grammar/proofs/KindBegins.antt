-- The first field of a record is of its form by the bytes that tell the kind, so that a misformed field begins behind it.
use Rattle.std.proofs.Common.{◌≡◌, ℕ, ◌+◌, ◌≤◌, Bool, true, cond, ◌&&◌, eqb, List, [], ◌∷◌, length, Some, None, Option, refl, subst, arith}
use Rattle.std.proofs.lemmas.Bool.{and_from, both_ways, cond_both}
use Rattle.layout.specs.Kinds.{by_article, kind_by, kind_of}
use Rattle.layout.specs.Layouts.{Field, layout, tiles, is_formed, first_misformed_of}
use Rattle.layout.specs.declared.kind.Kind.{Kind}
use Rattle.layout.specs.declared.kind.Kind.TheVariants.{Header, OldBalance, Movement, MovementSecond, Counterparty, Information, InformationSecond, InformationThird, NewBalance, FreeCommunication, Trailer}
use Rattle.rendering.proofs.Tiling.{layouts_tile, first_tile}

abbrev first_formed : List ℕ → List Field → Bool
first_formed b [] = true
first_formed b (f ∷ fs) = is_formed b f

-- a record begins as those of the kind that its first bytes tell
abbrev Begins : List ℕ → Option Kind → Type 0
Begins b None = Unit
Begins b (Some k) = first_formed b (layout k) ≡ true

module _ (x y : ℕ) (b : List ℕ) where
  one : (code : ℕ) → eqb x code ≡ true → (eqb x code && true) ≡ true
  one code e = and_from (eqb x code) true e refl

  two : (code article : ℕ) → eqb x code ≡ true → eqb y article ≡ true → (eqb x code && (eqb y article && true)) ≡ true
  two code article e a = and_from (eqb x code) (eqb y article && true) e (and_from (eqb y article) true a refl)

  by_articles : (k l m : Kind) → (eqb y 49 ≡ true → Begins (x ∷ y ∷ b) (Some k)) → (eqb y 50 ≡ true → Begins (x ∷ y ∷ b) (Some l)) → (eqb y 51 ≡ true → Begins (x ∷ y ∷ b) (Some m)) → Begins (x ∷ y ∷ b) (by_article y k l m)
  by_articles k l m f g h =
      let P : Option Kind → Type 0 = Begins (x ∷ y ∷ b) in
      cond_both (eqb y 49) (Some k) (cond (eqb y 50) (Some l) (cond (eqb y 51) (Some m) None)) P f (λ _.
      cond_both (eqb y 50) (Some l) (cond (eqb y 51) (Some m) None) P g (λ _.
      cond_both (eqb y 51) (Some m) None P h (λ _. tt)))

  begins_told : Begins (x ∷ y ∷ b) (kind_by x y)
  begins_told =
      let P : Option Kind → Type 0 = Begins (x ∷ y ∷ b) in
      cond_both (eqb x 48) (Some Header) _ P (one 48) (λ _.
      cond_both (eqb x 49) (Some OldBalance) _ P (one 49) (λ _.
      cond_both (eqb x 50) (by_article y Movement MovementSecond Counterparty) _ P (λ e. by_articles Movement MovementSecond Counterparty (two 50 49 e) (two 50 50 e) (two 50 51 e)) (λ _.
      cond_both (eqb x 51) (by_article y Information InformationSecond InformationThird) _ P (λ e. by_articles Information InformationSecond InformationThird (two 51 49 e) (two 51 50 e) (two 51 51 e)) (λ _.
      cond_both (eqb x 52) (Some FreeCommunication) _ P (one 52) (λ _.
      cond_both (eqb x 56) (Some NewBalance) _ P (one 56) (λ _.
      cond_both (eqb x 57) (Some Trailer) None P (one 57) (λ _. tt)))))))

begins : (b : List ℕ) → length b ≡ 128 → Begins b (kind_of b)
begins [] l = absurd (omega arith)
begins (x ∷ []) l = absurd (omega arith)
begins (x ∷ y ∷ b) l = begins_told x y b

-- a position, if there is one, is not before p
abbrev pub NotBefore : ℕ → Option ℕ → Type 0
NotBefore p None = Unit
NotBefore p (Some q) = p ≤ q

later : (p q : ℕ) (o : Option ℕ) → p ≤ q → NotBefore q o → NotBefore p o
later p q None l h = tt
later p q (Some n) l h = omega arith

misformed_from : (b : List ℕ) (fs : List Field) (p : ℕ) → tiles p fs ≡ true → NotBefore p (first_misformed_of fs b)
misformed_from b [] p t = tt
misformed_from b (f ∷ fs) p t =
    let tile = first_tile p f fs t in
    cond_both (is_formed b f) (first_misformed_of fs b) (Some f.first) (NotBefore p)
    (λ e. later p (f.last + 1) (first_misformed_of fs b) (omega (arith, tile.starts, tile.some)) (misformed_from b fs (f.last + 1) tile.others))
    (λ e. omega (arith, tile.starts))

misformed_behind : (b : List ℕ) (fs : List Field) → tiles 1 fs ≡ true → first_formed b fs ≡ true → NotBefore 2 (first_misformed_of fs b)
misformed_behind b [] t e = tt
misformed_behind b (f ∷ fs) t e =
    let tile = first_tile 1 f fs t in
    cond_both (is_formed b f) (first_misformed_of fs b) (Some f.first) (NotBefore 2)
    (λ _. later 2 (f.last + 1) (first_misformed_of fs b) (omega (arith, tile.starts, tile.some)) (misformed_from b fs (f.last + 1) tile.others))
    (λ n. absurd (both_ways (is_formed b f) n e))

pub misformed_behind_first : (k : Kind) (b : List ℕ) → length b ≡ 128 → kind_of b ≡ Some k → NotBefore 2 (first_misformed_of (layout k) b)
misformed_behind_first k b l e = misformed_behind b (layout k) (layouts_tile k) (subst (λ (o : Option Kind). Begins b o) e (begins b l))
