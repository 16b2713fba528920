-- Parts of a list that stop at its end.
use Rattle.std.proofs.Common.{◌≡◌, ℕ, ◌-◌, ◌≤◌, List, length, drop, ap, arith}
use Rattle.std.proofs.lemmas.List.{length-take}
use Rattle.recordbytes.specs.Spans.{span}

-- a part by position is at most as long as its positions say
pub length_span : (xs part : List ℕ) (first last : ℕ) → part ≡ span xs first last → length part ≤ last - (first - 1)
length_span xs part first last e = omega (arith, ap length e, length-take (last - (first - 1)) (drop (first - 1) xs))
