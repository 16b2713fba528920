-- Rows made of fields, and other values that a test lets through.
use Rattle.std.proofs.Common.{◌≡◌, Bool, Some, arith}
use Rattle.std.specs.Bool.{then_some}

-- what a test let through is what it was given
pub let_through : {X : Type 0} (test : Bool) (one other : X) → Some one ≡ then_some test other → one ≡ other
let_through test one other e = grind arith
