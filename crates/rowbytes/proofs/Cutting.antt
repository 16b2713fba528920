-- Joined parts, cut apart again by their widths.
use Rattle.std.proofs.Common.{◌≡◌, ℕ, ◌+◌, ◌-◌, ◌≤◌, List, [], ◌∷◌, ◌++◌, map, length, take, drop, replicate, sym, refl, ap, ◌∙◌, arith}
use Rattle.std.proofs.lemmas.List.{append_assoc, length-append, length-replicate, take_at, drop_at}
use Rattle.recordbytes.specs.Joins.{joined}
use Rattle.rowbytes.specs.RowBytes.{padded}

-- the widths of parts, and their sum
abbrev pub widths_of : List (List ℕ) → List ℕ
widths_of parts = map (λ (part : List ℕ). length part) parts

abbrev pub total : List ℕ → ℕ
total [] = 0
total (width ∷ widths) = width + total widths

pub length_joined : (parts : List (List ℕ)) → length (joined parts) ≡ total (widths_of parts)
length_joined [] = refl
length_joined (part ∷ parts) = length-append part (joined parts) ∙ ap (λ n. length part + n) (length_joined parts)

-- the parts of these widths, one behind the other from a place on
abbrev pub cut : ℕ → List ℕ → List ℕ → List (List ℕ)
cut start [] bytes = []
cut start (width ∷ widths) bytes = take width (drop start bytes) ∷ cut (start + width) widths bytes

same_cons : (p q : List ℕ) (ps qs : List (List ℕ)) → p ≡ q → ps ≡ qs → ◌≡◌ {A = List (List ℕ)} (p ∷ ps) (q ∷ qs)
same_cons p q ps qs e f = cc

cut_behind : (before : List ℕ) (parts : List (List ℕ)) (behind : List ℕ) → cut (length before) (widths_of parts) (before ++ (joined parts ++ behind)) ≡ parts
cut_behind before [] behind = refl
cut_behind before (part ∷ parts) behind =
    let rest = joined parts ++ behind in
    let bytes = before ++ ((part ++ joined parts) ++ behind) in
    let onward : (part ++ joined parts) ++ behind ≡ part ++ rest = append_assoc part (joined parts) behind in
    let regrouped : bytes ≡ (before ++ part) ++ rest = ap (λ t. before ++ t) onward ∙ sym (append_assoc before part rest) in
    let first : take (length part) (drop (length before) bytes) ≡ part =
    ap (take (length part)) (drop_at before ((part ++ joined parts) ++ behind) (length before) refl ∙ onward) ∙ take_at part rest (length part) refl in
    let others : cut (length before + length part) (widths_of parts) bytes ≡ parts =
    ap (λ n. cut n (widths_of parts) bytes) (sym (length-append before part))
    ∙ (ap (cut (length (before ++ part)) (widths_of parts)) regrouped ∙ cut_behind (before ++ part) parts behind) in
    same_cons (take (length part) (drop (length before) bytes)) part (cut (length before + length part) (widths_of parts) bytes) parts first others

pub cut_padded : (parts : List (List ℕ)) (widths : List ℕ) → widths_of parts ≡ widths → cut 0 widths (padded parts) ≡ parts
unfolding padded
cut_padded parts widths e = ap (λ ws. cut 0 ws (padded parts)) (sym e) ∙ cut_behind [] parts (replicate (256 - length (joined parts)) 0)

pub length_padded : (ps : List (List ℕ)) → length (joined ps) ≤ 256 → length (padded ps) ≡ 256
unfolding padded
length_padded ps few = length-append (joined ps) (replicate (256 - length (joined ps)) 0) ∙ omega (arith, length-replicate {A = ℕ} (256 - length (joined ps)) 0)
