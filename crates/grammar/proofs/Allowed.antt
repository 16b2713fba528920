-- The kinds that may come at a place, one by one.
use Rattle.std.proofs.Math.Bool.{or-false}
use Rattle.std.proofs.Common.{◌≡◌, ℕ, true, eqb, ◌⊎◌, List, [], ◌∷◌, get_or, sym, refl, ap, ◌∙◌, inl, inr}
use Rattle.std.proofs.lemmas.Bool.{eqb-true, or_cases, false≢true}
use Rattle.layout.specs.declared.kind.Kind.{Kind}
use Rattle.layout.specs.declared.kind.Kind.TheVariants as K
use Rattle.grammar.specs.Order.{rank, is_among}

abbrev kind_at : ℕ → Kind
kind_at i = get_or (K.Header ∷ K.OldBalance ∷ K.Movement ∷ K.MovementSecond ∷ K.Counterparty ∷ K.Information ∷ K.InformationSecond ∷ K.InformationThird ∷ K.NewBalance ∷ K.FreeCommunication ∷ []) i K.Trailer

kind_at_rank : (k : Kind) → kind_at (rank k) ≡ k
kind_at_rank K.Header = refl
kind_at_rank K.OldBalance = refl
kind_at_rank K.Movement = refl
kind_at_rank K.MovementSecond = refl
kind_at_rank K.Counterparty = refl
kind_at_rank K.Information = refl
kind_at_rank K.InformationSecond = refl
kind_at_rank K.InformationThird = refl
kind_at_rank K.NewBalance = refl
kind_at_rank K.FreeCommunication = refl
kind_at_rank K.Trailer = refl

same_kind : (j k : Kind) → eqb (rank j) (rank k) ≡ true → k ≡ j
same_kind j k h = sym (kind_at_rank k) ∙ ap kind_at (sym (eqb-true (rank j) (rank k) h)) ∙ kind_at_rank j

abbrev pub Among : Kind → List Kind → Type 0
Among k [] = ⊥
Among k (j ∷ []) = k ≡ j
Among k (j ∷ i ∷ js) = (k ≡ j) ⊎ Among k (i ∷ js)

pub among : (k : Kind) (js : List Kind) → is_among k js ≡ true → Among k js
among k [] h = false≢true h
among k (j ∷ []) h = same_kind j k (sym (or-false (eqb (rank j) (rank k))) ∙ h)
among k (j ∷ i ∷ js) h = by (among k (i ∷ js)) (or_cases (eqb (rank j) (rank k)) (is_among k (i ∷ js)) h)
  where
    by : (is_among k (i ∷ js) ≡ true → Among k (i ∷ js)) → (eqb (rank j) (rank k) ≡ true) ⊎ (is_among k (i ∷ js) ≡ true) → (k ≡ j) ⊎ Among k (i ∷ js)
    by f (inl x) = inl (same_kind j k x)
    by f (inr x) = inr (f x)
