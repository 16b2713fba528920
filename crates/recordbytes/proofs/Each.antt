-- What passes a test all over: parts of it, one element of it, and one element more.
use Rattle.std.proofs.Common.{◌≡◌, ℕ, zero, suc, ◌+◌, ◌<◌, ◌≤◌, Bool, true, List, [], ◌∷◌, ◌++◌, length, get_or, take, drop, set, sym, refl, ap, ◌∙◌, arith}
use Rattle.std.proofs.lemmas.List.{take-take, take_more_set}
use Rattle.std.proofs.lemmas.Bool.{and_parts, and_from}
use Rattle.recordbytes.specs.Each.{every}

module _ {X : Type 0} (test : X → Bool) where
  pub every_take : (n : ℕ) (xs : List X) → every test xs ≡ true → every test (take n xs) ≡ true
  every_take zero xs t = refl
  every_take (suc n) [] t = refl
  every_take (suc n) (x ∷ xs) t = let h = and_parts (test x) (every test xs) t in and_from (test x) (every test (take n xs)) h.0 (every_take n xs h.1)

  pub every_drop : (n : ℕ) (xs : List X) → every test xs ≡ true → every test (drop n xs) ≡ true
  every_drop zero xs t = t
  every_drop (suc n) [] t = refl
  every_drop (suc n) (x ∷ xs) t = every_drop n xs (and_parts (test x) (every test xs) t).1

  pub every_fewer : (n m : ℕ) (xs : List X) → m ≤ n → every test (take n xs) ≡ true → every test (take m xs) ≡ true
  every_fewer n m xs less t = ap (every test) (sym (take-take m n xs less)) ∙ every_take m (take n xs) t

  pub every_at : (n i : ℕ) (xs : List X) (d : X) → i < n → n ≤ length xs → every test (take n xs) ≡ true → test (get_or xs i d) ≡ true
  every_at n i [] d inside room t = absurd (omega arith)
  every_at zero i (x ∷ xs) d inside room t = absurd (omega arith)
  every_at (suc n) zero (x ∷ xs) d inside room t = (and_parts (test x) (every test (take n xs)) t).0
  every_at (suc n) (suc i) (x ∷ xs) d inside room t = every_at n i xs d (omega arith) (omega arith) (and_parts (test x) (every test (take n xs)) t).1

  pub every_push : (xs : List X) (x : X) → every test xs ≡ true → test x ≡ true → every test (xs ++ x ∷ []) ≡ true
  every_push [] x t is = and_from (test x) true is refl
  every_push (y ∷ xs) x t is = let h = and_parts (test y) (every test xs) t in and_from (test y) (every test (xs ++ x ∷ [])) h.0 (every_push xs x h.1 is)

  pub every_more : (n : ℕ) (xs : List X) (x : X) → n < length xs → test x ≡ true → every test (take n xs) ≡ true → every test (take (n + 1) (set xs n x)) ≡ true
  every_more n xs x inside is t = ap (every test) (take_more_set xs n x inside) ∙ every_push (take n xs) x t is
