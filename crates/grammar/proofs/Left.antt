-- What is left of a statement behind some of its records, and the rules on its sums.
use Rattle.std.proofs.Common.{◌≡◌, ℕ, ◌+◌, ◌≤◌, Bool, true, false, List, [], ◌∷◌, length, ◌+ℤ◌, Some, None, Option}
use Rattle.grammar.specs.Fields.{link, new_account, new_amount, count, debit_sum, credit_sum}
use Rattle.grammar.specs.Leaves.{Leaf, trailer}
use Rattle.grammar.specs.Readings.{Information, Movement, Transaction, Closing, Statement, information_leaves, movements_leaves, transactions_leaves, closing_leaves, leaves}
use Rattle.grammar.specs.Lawful.{largest_sum, total, debits, credits, balance_leaves}
use Rattle.grammar.specs.Places.{Numbers, Sums}
use Rattle.grammar.proofs.Threaded.{behind_informations, InformationsOk, behind_details, DetailsOk, behind_transactions, TransactionsOk, CommunicationsOk, StatementsOk}

-- WHAT IS LEFT

-- behind the transactions of a statement
pub record Late : Type 0 where
  pub closing : Option Closing
  pub end : List ℕ
  pub others : List Statement

abbrev pub late_leaves : Late → List Leaf
late_leaves l = closing_leaves l.closing (trailer l.end ∷ leaves l.others)

-- behind an old balance, or behind a transaction
pub record Body : Type 0 where
  pub transactions : List Transaction
  pub late : Late

abbrev pub body_leaves : Body → List Leaf
body_leaves b = transactions_leaves b.transactions (late_leaves b.late)

-- its records 2, 3 and 8
abbrev pub body_counted : Body → List Leaf
body_counted b = transactions_leaves b.transactions (balance_leaves b.late.closing)

-- behind the 2 records of a movement
pub record Told : Type 0 where
  pub informations : List Information
  pub details : List Movement
  pub body : Body

abbrev pub told_leaves : Told → List Leaf
told_leaves t = information_leaves t.informations (movements_leaves t.details (body_leaves t.body))

abbrev pub told_counted : Told → List Leaf
told_counted t = information_leaves t.informations (movements_leaves t.details (body_counted t.body))

-- ITS RULES

-- the transactions ts are left, n are the numbers behind them; moved: a movement has come before
abbrev pub ClosingFrom : Bool → Numbers → Sums → List Transaction → Option Closing → Type 0
ClosingFrom moved n s ts None = (moved ≡ false) × (ts ≡ [])
ClosingFrom moved n s ts (Some c) =
    (n.levels ≡ [])
    × (new_account c.balance ≡ s.account)
    × (new_amount c.balance ≡ s.balance +ℤ total ts)
    × (moved ≡ false → ts ≡ [] → link c.balance ≡ true)
    × CommunicationsOk c.communications

-- the transactions ts and then l are left, with the counted records own
pub record LateOk (moved : Bool) (n : Numbers) (s : Sums) (ts : List Transaction) (own : List Leaf) (l : Late) : Type 0 where
  pub closing : ClosingFrom moved n s ts l.closing
  pub count : count l.end ≡ s.count + length own
  pub debits : debit_sum l.end ≡ s.debits + debits ts
  pub credits : credit_sum l.end ≡ s.credits + credits ts
  pub debit_limit : debit_sum l.end ≤ largest_sum
  pub credit_limit : credit_sum l.end ≤ largest_sum
  pub others : StatementsOk l.others

pub record BodyOk (moved : Bool) (n : Numbers) (s : Sums) (b : Body) : Type 0 where
  pub numbers : TransactionsOk n b.transactions
  pub late : LateOk moved (behind_transactions n b.transactions) s b.transactions (body_counted b) b.late

abbrev pub behind_told : Numbers → Told → Numbers
behind_told n t = behind_details (behind_informations n t.informations) t.details

-- own: the counted records that are left
pub record ToldOk (n : Numbers) (s : Sums) (own : List Leaf) (t : Told) : Type 0 where
  pub informations : InformationsOk n t.informations
  pub details : DetailsOk (behind_informations n t.informations) t.details
  pub transactions : TransactionsOk (behind_told n t) t.body.transactions
  pub late : LateOk true (behind_transactions (behind_told n t) t.body.transactions) s t.body.transactions own t.body.late
