-- Where a file stands behind some of its records.
--   numbers   the current sequence and detail number, the reference of the latest 2.1, the type of the main movement,
--             whether a detail of type 7 has come under it, and the open levels, the highest first
--   sums      the account, the balance so far, the debit and credit sums and the number of counted records so far
use Rattle.std.specs.Prelude.{ℕ, suc, ◌+◌, Bool, true, false, cond, ◌||◌, List, [], ◌∷◌, replicate, ℤ, pos, ◌+ℤ◌, ◌==◌, nat_le, nat_lt}
use Rattle.grammar.specs.declared.expect.Expect.{Expect}
use Rattle.grammar.specs.declared.expect.Expect.TheVariants.{Start}
use Rattle.grammar.specs.Fields.{sequence, detail, reference, signed_amount, type, level, old_account, old_amount}
use Rattle.grammar.specs.Lawful.{debit_of, credit_of}

pub record Numbers : Type 0 where
  pub sequence : ℕ
  pub detail : ℕ
  pub reference : List ℕ
  pub type : ℕ
  pub seven : Bool
  pub levels : List ℕ

pub record Sums : Type 0 where
  pub account : List ℕ
  pub balance : ℤ
  pub debits : ℕ
  pub credits : ℕ
  pub count : ℕ

pub record Place : Type 0 where
  pub expect : Expect
  pub numbers : Numbers
  pub sums : Sums
  pub statements : ℕ
  pub movements : ℕ

-- LEVELS

abbrev pub is_open : ℕ → List ℕ → Bool
is_open l [] = false
is_open l (o ∷ os) = l == o || is_open l os

abbrev pub is_above : ℕ → List ℕ → Bool
is_above l [] = true
is_above l (o ∷ os) = nat_lt o l

abbrev pub none_open : List ℕ → Bool
none_open [] = true
none_open (o ∷ os) = false

abbrev pub closed_from : ℕ → List ℕ → List ℕ
closed_from l [] = []
closed_from l (o ∷ os) = cond (nat_le l o) (closed_from l os) (o ∷ os)

-- 0 does nothing; an open level is closed with every higher one; a level above all open ones is opened
abbrev pub level_fits : List ℕ → ℕ → Bool
level_fits os l = l == 0 || (is_open l os || is_above l os)

abbrev pub levels_behind : List ℕ → ℕ → List ℕ
levels_behind os l = cond (l == 0) os (cond (is_open l os) (closed_from l os) (l ∷ os))

-- NUMBERS

-- before the first movement of a statement: no number, and a reference of spaces
abbrev pub unnumbered : Numbers
unnumbered = record { sequence = 0; detail = 0; reference = replicate 21 32; type = 0; seven = false; levels = [] }

abbrev pub behind_main : List ℕ → Numbers
behind_main b = record { sequence = sequence b; detail = detail b; reference = reference b; type = type b; seven = false; levels = levels_behind [] (level b) }

abbrev pub behind_detail : Numbers → List ℕ → Numbers
behind_detail n b = record { sequence = n.sequence; detail = detail b; reference = reference b; type = n.type; seven = n.seven || (type b == 7); levels = levels_behind n.levels (level b) }

abbrev pub behind_information : Numbers → List ℕ → Numbers
behind_information n b = record { sequence = n.sequence; detail = detail b; reference = n.reference; type = n.type; seven = n.seven; levels = n.levels }

abbrev pub behind_communication : Numbers → List ℕ → Numbers
behind_communication n b = record { sequence = sequence b; detail = detail b; reference = n.reference; type = n.type; seven = n.seven; levels = n.levels }

-- SUMS

abbrev pub opened : List ℕ → Sums
opened b = record { account = old_account b; balance = old_amount b; debits = 0; credits = 0; count = 1 }

abbrev pub counted_one : Sums → Sums
counted_one s = record { account = s.account; balance = s.balance; debits = s.debits; credits = s.credits; count = suc s.count }

abbrev pub booked : Sums → List ℕ → Sums
booked s b = record { account = s.account; balance = s.balance +ℤ signed_amount b; debits = s.debits + debit_of b; credits = s.credits + credit_of b; count = suc s.count }

-- before the first record
abbrev pub beginning : Place
beginning = record { expect = Start; numbers = unnumbered; sums = record { account = replicate 37 32; balance = pos 0; debits = 0; credits = 0; count = 0 }; statements = 0; movements = 0 }
