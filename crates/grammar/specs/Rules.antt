-- What a record must say where a file stands, rule by rule in the order of positions.
--   Rule     the fault where the rule is not kept, and whether it is kept
--   under    a value where every rule is kept, else the fault of the first that is not
use Rattle.std.specs.Prelude.{ℕ, suc, ◌+◌, Bool, false, cond, not, ◌&&◌, ◌||◌, List, [], ◌∷◌, ℤ, pos, negsuc, Ok, Err, Result, ◌==◌, nat_le}
use Rattle.std.specs.Str.{bytes_eq}
use Rattle.grammar.specs.declared.faults.StatementFault.{StatementFault}
use Rattle.grammar.specs.declared.faults.StatementFault.TheVariants.{Number, Money}
use Rattle.grammar.specs.Fields.{sequence, detail, reference, next, link, type, level, new_account, new_amount, count, debit_sum, credit_sum}
use Rattle.grammar.specs.Lawful.{debit_of, credit_of, largest_sum}
use Rattle.grammar.specs.Places.{Numbers, Sums, none_open, level_fits}

pub record Rule : Type 0 where
  pub fault : StatementFault
  pub kept : Bool

abbrev pub number_at : ℕ → Bool → Rule
number_at position kept = record { fault = Number position; kept = kept }

abbrev pub money_at : ℕ → Bool → Rule
money_at position kept = record { fault = Money position; kept = kept }

abbrev pub under : {A : Type 0} → List Rule → A → Result A StatementFault
under [] x = Ok x
under (r ∷ rs) x = cond r.kept (under rs x) (Err r.fault)

-- the successor of a number of four digits
abbrev pub succeeding : ℕ → ℕ
succeeding n = cond (n == 9999) 0 (suc n)

-- next and link are not both 1
abbrev pub apart : List ℕ → Rule
apart b = number_at 128 (not (next b && link b))

-- the types of details: 5 under 1; 6, 7, and 9 once a 7 has come, under 2; 8 under 3
abbrev pub detail_type : ℕ → Bool → ℕ → Bool
detail_type main seven t = (main == 1 && t == 5) || ((main == 2 && (t == 6 || (t == 7 || (t == 9 && seven)))) || (main == 3 && t == 8))

abbrev pub in_turn : Numbers → List ℕ → Bool
in_turn n b = sequence b == succeeding n.sequence && none_open n.levels

abbrev pub has_room : Sums → List ℕ → Bool
has_room s b = nat_le (s.debits + debit_of b) largest_sum && nat_le (s.credits + credit_of b) largest_sum

abbrev pub main_rules : Numbers → Sums → List ℕ → List Rule
main_rules n s b =
    number_at 3 (in_turn n b)
    ∷ number_at 7 (detail b == 0)
    ∷ money_at 33 (has_room s b)
    ∷ number_at 54 (nat_le (type b) 3)
    ∷ number_at 125 (not (type b == 0) || level b == 0)
    ∷ apart b
    ∷ []

abbrev pub detail_rules : Numbers → List ℕ → List Rule
detail_rules n b =
    number_at 3 (not (n.type == 0))
    ∷ number_at 7 (detail b == succeeding n.detail)
    ∷ number_at 54 (detail_type n.type n.seven (type b))
    ∷ number_at 125 (level_fits n.levels (level b))
    ∷ apart b
    ∷ []

-- a record that continues the one before repeats its numbers
abbrev pub repeat_rules : Numbers → List ℕ → List Rule
repeat_rules n b =
    number_at 3 (sequence b == n.sequence)
    ∷ number_at 7 (detail b == n.detail)
    ∷ apart b
    ∷ []

abbrev pub information_rules : Numbers → List ℕ → List Rule
information_rules n b =
    number_at 3 (sequence b == n.sequence)
    ∷ number_at 7 (detail b == succeeding n.detail)
    ∷ number_at 11 (bytes_eq (reference b) n.reference)
    ∷ apart b
    ∷ []

abbrev pub same_amount : ℤ → ℤ → Bool
same_amount (pos m) (pos n) = m == n
same_amount (pos m) (negsuc n) = false
same_amount (negsuc m) (pos n) = false
same_amount (negsuc m) (negsuc n) = m == n

abbrev pub new_balance_rules : Bool → Sums → List ℕ → List Rule
new_balance_rules right_behind s b =
    number_at 5 (bytes_eq (new_account b) s.account)
    ∷ money_at 43 (same_amount (new_amount b) s.balance)
    ∷ number_at 128 (not right_behind || link b)
    ∷ []

abbrev pub first_communication_rules : List ℕ → List Rule
first_communication_rules b =
    number_at 3 (sequence b == 1)
    ∷ number_at 7 (detail b == 0)
    ∷ []

abbrev pub communication_rules : Numbers → List ℕ → List Rule
communication_rules n b =
    number_at 3 (sequence b == n.sequence || sequence b == succeeding n.sequence)
    ∷ number_at 7 ((sequence b == n.sequence && detail b == succeeding n.detail) || (sequence b == succeeding n.sequence && detail b == 0))
    ∷ []

abbrev pub trailer_rules : Sums → List ℕ → List Rule
trailer_rules s b =
    number_at 17 (count b == s.count)
    ∷ money_at 23 (debit_sum b == s.debits)
    ∷ money_at 38 (credit_sum b == s.credits)
    ∷ []
