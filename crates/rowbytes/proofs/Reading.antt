-- Parts of bytes by their positions: their widths, and the numbers that they write.
use Rattle.std.proofs.Common.{◌≡◌, ℕ, suc, ◌+◌, ◌-◌, ◌*◌, ◌^◌, ◌<◌, ◌≤◌, List, [], ◌∷◌, length, get_or, take, drop, ℤ, ap, ◌∙◌, mul-le-mul_right, mul_assoc, arith}
use native.Mathlib.Nat.{pow-succ'}
use Rattle.std.proofs.lemmas.List.{length-take, length-drop, take_all}
use Rattle.recordbytes.specs.Numbers.{value_behind, value}
use Rattle.recordbytes.specs.Spans.{span}
use Rattle.values.specs.Money.{signed}
use Rattle.rowbytes.specs.RowBytes.{balance_read}

pub length_part : (bytes : List ℕ) (first width : ℕ) → 1 ≤ first → first + width ≤ length bytes + 1 → length (span bytes first (first - 1 + width)) ≡ width
length_part bytes first width one within = length-take (first - 1 + width - (first - 1)) (drop (first - 1) bytes) ∙ omega (arith, length-drop (first - 1) bytes)

-- all that stands behind a sign
pub balance_is : (bytes : List ℕ) (z : ℤ) → length bytes ≡ 16 → z ≡ signed (get_or bytes 0 0) (value (take 15 (drop 1 bytes))) → z ≡ balance_read bytes
balance_is bytes z wide e = e ∙ ap (λ digits. signed (get_or bytes 0 0) (value digits)) (take_all 15 (drop 1 bytes) (omega (arith, length-drop 1 bytes)))

-- what bytes write, digits or not, is below 23 times a power of ten
below_behind : (n : ℕ) (bytes : List ℕ) → ((i : ℕ) → get_or bytes i 0 < 256) → value_behind n bytes + 23 ≤ (n + 23) * 10 ^ length bytes
below_behind n [] small = omega arith
below_behind n (x ∷ xs) small =
    let first : x < 256 = small 0 in
    let others = below_behind (n * 10 + (x - 48)) xs (λ i. small (suc i)) in
    let m : (n * 10 + (x - 48) + 23) * 10 ^ length xs ≤ ((n + 23) * 10) * 10 ^ length xs = mul-le-mul_right (10 ^ length xs) (omega arith) in
    let e : ((n + 23) * 10) * 10 ^ length xs ≡ (n + 23) * (10 * 10 ^ length xs) = mul_assoc (n + 23) 10 (10 ^ length xs) in
    let p : (n + 23) * 10 ^ suc (length xs) ≡ (n + 23) * (10 * 10 ^ length xs) = ap (λ k. (n + 23) * k) (pow-succ' 10 (length xs)) in
    omega arith

pub six_below : (bytes : List ℕ) → length bytes ≡ 6 → ((i : ℕ) → get_or bytes i 0 < 256) → value bytes < 2 ^ 32
six_below bytes wide small =
    let p : (0 + 23) * 10 ^ length bytes ≡ (0 + 23) * 10 ^ 6 = ap (λ k. (0 + 23) * 10 ^ k) wide in
    omega (arith, below_behind 0 bytes small)
