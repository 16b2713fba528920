-- The first of ascending things that is not in order has the least complaint.
use Rattle.std.proofs.Common.{◌≡◌, ℕ, ◌+◌, ◌≤◌, Bool, true, false, cond, ◌&&◌, leb, List, [], ◌∷◌, Some, None, Option, sym, refl, ap, inl, inr, arith}
use mathlib.Core.Path.{subst⁻¹}
use Rattle.std.proofs.lemmas.Bool.{and_parts, leb-true, both_ways, cond_both}
use Rattle.grammar.specs.Complaints.{Complaint, NotAfter, Least, Against}

-- the complaint that is told is the least, and none is told where there is none
abbrev pub Tells : (Complaint → Type 0) → Option Complaint → Type 0
Tells Says None = (c : Complaint) → Says c → ⊥
Tells Says (Some c) = Least Says c

module _ {X : Type 0} (complaint : X → Complaint) (in_order : X → Bool) where
  -- each stands behind the one before, the first at p or behind
  abbrev pub ascends : ℕ → List X → Bool
  ascends p [] = true
  ascends p (x ∷ xs) = leb p (complaint x).position && ascends ((complaint x).position + 1) xs

  -- no number is below n
  abbrev pub numbered_from : ℕ → List X → Bool
  numbered_from n [] = true
  numbered_from n (x ∷ xs) = leb n (complaint x).number && numbered_from n xs

  abbrev pub first_against : List X → Option Complaint
  first_against [] = None
  first_against (x ∷ xs) = cond (in_order x) (first_against xs) (Some (complaint x))

  pub from_position : (xs : List X) (p : ℕ) (c : Complaint) → ascends p xs ≡ true → Against complaint in_order xs c → p ≤ c.position
  from_position [] p c t a = absurd a
  from_position (x ∷ xs) p c t (inl a) =
      let h = and_parts (leb p (complaint x).position) (ascends ((complaint x).position + 1) xs) t in
      subst⁻¹ (λ (d : Complaint). p ≤ d.position) a.1 (leb-true p (complaint x).position h.0)
  from_position (x ∷ xs) p c t (inr a) =
      let h = and_parts (leb p (complaint x).position) (ascends ((complaint x).position + 1) xs) t in
      omega (arith, leb-true p (complaint x).position h.0, from_position xs ((complaint x).position + 1) c h.1 a)

  pub from_number : (xs : List X) (n : ℕ) (c : Complaint) → numbered_from n xs ≡ true → Against complaint in_order xs c → n ≤ c.number
  from_number [] n c t a = absurd a
  from_number (x ∷ xs) n c t (inl a) =
      let h = and_parts (leb n (complaint x).number) (numbered_from n xs) t in
      subst⁻¹ (λ (d : Complaint). n ≤ d.number) a.1 (leb-true n (complaint x).number h.0)
  from_number (x ∷ xs) n c t (inr a) =
      let h = and_parts (leb n (complaint x).number) (numbered_from n xs) t in
      from_number xs n c h.1 a

  itself : (c d : Complaint) → d ≡ c → NotAfter c d
  itself c d e = inr (sym (ap (λ (x : Complaint). x.position) e), omega (arith, ap (λ (x : Complaint). x.number) e))

  here : (x : X) (xs : List X) → ascends ((complaint x).position + 1) xs ≡ true → in_order x ≡ false → Least (Against complaint in_order (x ∷ xs)) (complaint x)
  here x xs t e = record { holds = inl (e, refl); least = none_before }
    where
      none_before : (d : Complaint) → Against complaint in_order (x ∷ xs) d → NotAfter (complaint x) d
      none_before d (inl a) = itself (complaint x) d a.1
      none_before d (inr a) = inl (omega (arith, from_position xs ((complaint x).position + 1) d t a))

  not_here : (x : X) (xs : List X) (c : Complaint) → in_order x ≡ true → Against complaint in_order (x ∷ xs) c → Against complaint in_order xs c
  not_here x xs c e (inl a) = absurd (both_ways (in_order x) a.0 e)
  not_here x xs c e (inr a) = a

  further : (x : X) (xs : List X) (o : Option Complaint) → in_order x ≡ true → Tells (Against complaint in_order xs) o → Tells (Against complaint in_order (x ∷ xs)) o
  further x xs None e t = λ c a. t c (not_here x xs c e a)
  further x xs (Some c) e t = record { holds = inr t.holds; least = λ d a. t.least d (not_here x xs d e a) }

  pub first_least : (xs : List X) (p : ℕ) → ascends p xs ≡ true → Tells (Against complaint in_order xs) (first_against xs)
  first_least [] p t = λ c a. a
  first_least (x ∷ xs) p t =
      let h = and_parts (leb p (complaint x).position) (ascends ((complaint x).position + 1) xs) t in
      cond_both (in_order x) (first_against xs) (Some (complaint x)) (λ (o : Option Complaint). Tells (Against complaint in_order (x ∷ xs)) o)
      (λ e. further x xs (first_against xs) e (first_least xs ((complaint x).position + 1) h.1)) (λ e. here x xs h.1 e)
