-- The number that digits write, turn by turn, and its bounds.
use Rattle.std.proofs.Common.{◌≡◌, ℕ, ◌^◌, ◌≤◌, List, length, drop, sym, ◌∙◌, arith}
use native.Mathlib.Nat.{pow-le-pow_right}
use Rattle.std.proofs.lemmas.List.{at_drop_all}
use Rattle.recordbytes.specs.Numbers.{value_behind, value}

pub ten_upto : (i n : ℕ) → i ≤ n → 10 ^ i ≤ 10 ^ n
ten_upto i n h = pow-le-pow_right (omega arith) h

module _ (bytes : List ℕ) (i n : ℕ) where
  -- what is left to read behind the number n
  abbrev pub Unread : Type 0
  Unread = value_behind n (drop i bytes) ≡ value bytes

  pub value_end : length bytes ≤ i → Unread → n ≡ value bytes
  value_end behind unread = sym (at_drop_all (value_behind n) bytes i behind) ∙ unread
