-- Numbers written one behind the other.
use Rattle.std.proofs.Common.{◌≡◌, ℕ, List, [], ◌∷◌, ◌++◌, map, length, get_or, sym, refl, ap, ◌∙◌, arith}
use denote.Param.Members.{Mut}
use Rattle.std.specs.Array.{IsMapOf}
use Rattle.std.specs.Fn.{Called}
use Rattle.std.specs.List.{flat_map}
use Rattle.std.proofs.lemmas.List.{length-map, get_or-map, same_lists}
use Rattle.recordbytes.specs.Joins.{joined}

-- what calls at each number gave is the list of what each gives
pub mapped : {F : Type 0} (g : Mut F (ℕ × Unit {0}) (List ℕ)) (f : F) (v : ℕ → List ℕ) (xs : List ℕ) (ys : List (List ℕ)) (n : ℕ) → IsMapOf g f xs ys n → length xs ≡ n
    → ((p q : F) (x : ℕ) (y : List ℕ) → Called g p (x, tt) y q → y ≡ v x) → ys ≡ map v xs
mapped g f v xs ys n calls long gives =
    same_lists ys (map v xs) (calls.long ∙ (sym long ∙ sym (length-map xs v)))
    (λ k d inside.
    let call = calls.at k 0 d (omega (arith, inside, calls.long)) in
    gives call.0 call.1 (get_or xs k 0) (get_or ys k d) call.2 ∙ sym (get_or-map v xs k 0 d (omega (arith, inside, calls.long, long))))

-- parts laid flat are joined
pub flattened : (parts : List (List ℕ)) → flat_map (λ part. part) parts ≡ joined parts
flattened [] = refl
flattened (part ∷ parts) = ap (λ rest. part ++ rest) (flattened parts)
