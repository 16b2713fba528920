-- What the forms of records say of their values, as far as runs need it.
use Rattle.std.proofs.Common.{◌≡◌, ℕ, ◌≤◌, false, List}
use Rattle.grammar.specs.Fields.{next, debit_sum, credit_sum}
use Rattle.grammar.specs.Leaves.{Formed, counterparty, information_third, trailer}
use Rattle.grammar.specs.Lawful.{largest_sum}

pub record FormedGives : Type 0 where
  -- nothing continues a 2.3 or a 3.3
  pub counterparty_last : (b : List ℕ) → Formed (counterparty b) → next b ≡ false
  pub information_third_last : (b : List ℕ) → Formed (information_third b) → next b ≡ false
  -- fifteen digits
  pub debit_limit : (b : List ℕ) → Formed (trailer b) → debit_sum b ≤ largest_sum
  pub credit_limit : (b : List ℕ) → Formed (trailer b) → credit_sum b ≤ largest_sum
