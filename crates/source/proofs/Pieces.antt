-- The pieces of a packed file.
use Rattle.std.proofs.Common.{◌≡◌, ℕ, ◌+◌, ◌*◌, ◌/◌, ◌<◌, ◌≤◌, min, List, [], length, get_or, take, drop, sym, ap, ◌∙◌, ⊎_elim, arith}
use Rattle.std.proofs.lemmas.List.{length-map, take_all}
use Rattle.std.proofs.lemmas.List.FromFn.{length-map-range_with_len, get_or-map-range_with_len}
use Rattle.std.proofs.lemmas.Bool.{cases_lt}
use Rattle.source.specs.Slots.{judge}
use Rattle.source.specs.Packing.{piece, pieces, packed}

pub length_pieces : (file : List ℕ) → length (pieces file) ≡ (length file + 127) / 128
length_pieces file = length-map-range_with_len (piece file) 0 ((length file + 127) / 128)

pub length_packed : (file : List ℕ) → length (packed file) ≡ (length file + 127) / 128
length_packed file = length-map (pieces file) judge ∙ length_pieces file

piece_at : (file : List ℕ) (k : ℕ) → k < length (pieces file) → get_or (pieces file) k [] ≡ piece file k
piece_at file k within =
    get_or-map-range_with_len (piece file) 0 ((length file + 127) / 128) k k [] (omega (arith, length_pieces file)) (omega arith)

-- up to k bytes are taken by the lesser of k and their number
take_least : (xs : List ℕ) (k least : ℕ) → least ≡ min (length xs) k → take least xs ≡ take k xs
take_least xs k least e =
    ⊎_elim
    (λ short. take_all least xs (omega (arith, short)) ∙ sym (take_all k xs (omega (arith, short))))
    (λ long. ap (λ j. take j xs) (exact long))
    (cases_lt (length xs) k)
  where
    exact : k ≤ length xs → least ≡ k
    exact long = omega (arith, long)

-- the piece behind k pieces, as it is cut from the rest of the file
pub piece_cut : (file rest : List ℕ) (k least : ℕ) → rest ≡ drop (k * 128) file → least ≡ min (length rest) 128 → k < length (pieces file) → take least rest ≡ get_or (pieces file) k []
piece_cut file rest k least behind e within =
    take_least rest 128 least e ∙ (ap (take 128) behind ∙ sym (piece_at file k within))
