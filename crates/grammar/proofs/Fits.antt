-- What a record must say where a file stands, as facts: the rules of specs/Rules without their faults.
use Rattle.std.proofs.Common.{◌≡◌, ℕ, ◌+◌, ◌≤◌, true, ◌⊎◌, List, []}
use Rattle.grammar.specs.Fields.{sequence, detail, reference, type, level, new_account, new_amount, count, debit_sum, credit_sum}
use Rattle.grammar.specs.Lawful.{Bears, debit_of, credit_of, largest_sum}
use Rattle.grammar.specs.Places.{Numbers, Sums, level_fits}
use Rattle.grammar.specs.Rules.{succeeding, detail_type}

pub record MainFits (n : Numbers) (b : List ℕ) : Type 0 where
  pub sequence : sequence b ≡ succeeding n.sequence
  pub none_open : n.levels ≡ []
  pub detail : detail b ≡ 0
  pub typed : type b ≤ 3
  pub levelled : type b ≡ 0 → level b ≡ 0

pub record DetailFits (n : Numbers) (b : List ℕ) : Type 0 where
  pub sequence : sequence b ≡ n.sequence
  pub detail : detail b ≡ succeeding n.detail
  pub typed : detail_type n.type n.seven (type b) ≡ true
  pub levelled : level_fits n.levels (level b) ≡ true

pub record InformationFits (n : Numbers) (b : List ℕ) : Type 0 where
  pub sequence : sequence b ≡ n.sequence
  pub detail : detail b ≡ succeeding n.detail
  pub reference : reference b ≡ n.reference

-- the numbers of the record before
abbrev pub Repeats : Numbers → List ℕ → Type 0
Repeats n b = Bears n.sequence n.detail b

-- the sums stay within their limit
abbrev pub Room : Sums → List ℕ → Type 0
Room s b = (s.debits + debit_of b ≤ largest_sum) × (s.credits + credit_of b ≤ largest_sum)

pub record NewBalanceFits (n : Numbers) (s : Sums) (b : List ℕ) : Type 0 where
  pub none_open : n.levels ≡ []
  pub account : new_account b ≡ s.account
  pub balance : new_amount b ≡ s.balance

-- a free communication behind one with these numbers
abbrev pub CommunicationFits : ℕ → ℕ → List ℕ → Type 0
CommunicationFits s d b = Bears s (succeeding d) b ⊎ Bears (succeeding s) 0 b

pub record TrailerFits (s : Sums) (b : List ℕ) : Type 0 where
  pub count : count b ≡ s.count
  pub debits : debit_sum b ≡ s.debits
  pub credits : credit_sum b ≡ s.credits
