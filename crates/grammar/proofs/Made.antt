-- Records made from what they say, one of each kind: texts are spaces, what is not given is zero, days are 010100.
use Rattle.std.proofs.Common.{◌≡◌, ℕ, ◌+◌, Bool, false, cond, eqb, List, [], ◌∷◌, replicate, pos, codes}
use Rattle.recordbytes.specs.Numbers.{digits}
use Rattle.values.specs.Money.{debit, signed}
use Rattle.recordbytes.specs.Joins.{joined}
use Rattle.grammar.specs.Leaves.{Leaf, Formed, old_balance, movement, information, new_balance, free_communication, trailer}
use Rattle.grammar.specs.Fields.{sequence, detail, reference, next, link, is_debit, amount, signed_amount, type, level, old_account, old_amount, new_account, new_amount, count, debit_sum, credit_sum, another}

abbrev pub spaces : ℕ → List ℕ
spaces n = replicate n 32

abbrev pub zeros : ℕ → List ℕ
zeros n = replicate n 48

abbrev pub first_day : List ℕ
first_day = codes "010100"

-- a field of one byte
abbrev pub single : ℕ → List ℕ
single byte = byte ∷ []

-- a digit, 1 for true
abbrev pub flag : Bool → List ℕ
flag v = single (cond v 49 48)

-- HEADER AND OLD BALANCE

unfoldable pub header_made : List ℕ
header_made =
    joined
    (codes "0"
    ∷ zeros 4
    ∷ first_day
    ∷ zeros 3
    ∷ codes "05"
    ∷ spaces 1
    ∷ spaces 7
    ∷ spaces 47
    ∷ zeros 11
    ∷ spaces 1
    ∷ zeros 5
    ∷ spaces 32
    ∷ spaces 7
    ∷ codes "2"
    ∷ [])

unfoldable pub old_balance_made : List ℕ
old_balance_made =
    joined (codes "1" ∷ zeros 1 ∷ zeros 3 ∷ spaces 37 ∷ zeros 1 ∷ zeros 15 ∷ first_day ∷ spaces 61 ∷ zeros 3 ∷ [])

pub record OldBalanceMade (b : List ℕ) : Type 0 where
  pub formed : Formed (old_balance b)
  pub old_account : old_account b ≡ spaces 37
  pub old_amount : old_amount b ≡ pos 0

-- MOVEMENTS

module _ (s d : ℕ) (r : List ℕ) (sign n t l : ℕ) (continued informed : Bool) where
  abbrev pub movement_parts : List (List ℕ)
  movement_parts =
      codes "21"
      ∷ digits 4 s
      ∷ digits 4 d
      ∷ r
      ∷ single sign
      ∷ digits 15 n
      ∷ first_day
      ∷ ((48 + t) ∷ zeros 7)
      ∷ zeros 1
      ∷ spaces 53
      ∷ first_day
      ∷ zeros 3
      ∷ single (48 + l)
      ∷ flag continued
      ∷ spaces 1
      ∷ flag informed
      ∷ []

  unfoldable pub movement_made : List ℕ
  movement_made = joined movement_parts

  pub record MovementMade (b : List ℕ) : Type 0 where
    pub formed : Formed (movement b)
    pub sequence : sequence b ≡ s
    pub detail : detail b ≡ d
    pub reference : reference b ≡ r
    pub is_debit : is_debit b ≡ eqb sign debit
    pub amount : amount b ≡ n
    pub signed_amount : signed_amount b ≡ signed sign n
    pub type : type b ≡ t
    pub level : level b ≡ l
    pub next : next b ≡ continued
    pub link : link b ≡ informed

-- RECORDS THAT CONTINUE A MOVEMENT OR AN INFORMATION RECORD

-- a record of a kind that continues another; a 2.3 and a 3.3 are themselves not continued
pub record ContinuationMade (kind : List ℕ → Leaf) (s d : ℕ) (continued informed : Bool) (b : List ℕ) : Type 0 where
  pub formed : Formed (kind b)
  pub sequence : sequence b ≡ s
  pub detail : detail b ≡ d
  pub next : next b ≡ continued
  pub link : link b ≡ informed

module _ (s d : ℕ) (continued informed : Bool) where
  abbrev pub movement_second_parts : List (List ℕ)
  movement_second_parts =
      codes "22" ∷ digits 4 s ∷ digits 4 d ∷ spaces 99 ∷ spaces 8 ∷ spaces 8 ∷ flag continued ∷ spaces 1 ∷ flag informed ∷ []

  unfoldable pub movement_second_made : List ℕ
  movement_second_made = joined movement_second_parts

  abbrev pub information_second_parts : List (List ℕ)
  information_second_parts =
      codes "32" ∷ digits 4 s ∷ digits 4 d ∷ spaces 105 ∷ spaces 10 ∷ flag continued ∷ spaces 1 ∷ flag informed ∷ []

  unfoldable pub information_second_made : List ℕ
  information_second_made = joined information_second_parts

module _ (s d : ℕ) (informed : Bool) where
  abbrev pub counterparty_parts : List (List ℕ)
  counterparty_parts =
      codes "23" ∷ digits 4 s ∷ digits 4 d ∷ spaces 37 ∷ spaces 35 ∷ spaces 43 ∷ flag false ∷ spaces 1 ∷ flag informed ∷ []

  unfoldable pub counterparty_made : List ℕ
  counterparty_made = joined counterparty_parts

  abbrev pub information_third_parts : List (List ℕ)
  information_third_parts =
      codes "33" ∷ digits 4 s ∷ digits 4 d ∷ spaces 90 ∷ spaces 25 ∷ flag false ∷ spaces 1 ∷ flag informed ∷ []

  unfoldable pub information_third_made : List ℕ
  information_third_made = joined information_third_parts

-- INFORMATION RECORDS

module _ (s d : ℕ) (r : List ℕ) (continued informed : Bool) where
  abbrev pub information_parts : List (List ℕ)
  information_parts =
      codes "31" ∷ digits 4 s ∷ digits 4 d ∷ r ∷ zeros 8 ∷ zeros 1 ∷ spaces 73 ∷ spaces 12 ∷ flag continued ∷ spaces 1 ∷ flag informed ∷ []

  unfoldable pub information_made : List ℕ
  information_made = joined information_parts

  pub record InformationMade (b : List ℕ) : Type 0 where
    pub formed : Formed (information b)
    pub sequence : sequence b ≡ s
    pub detail : detail b ≡ d
    pub reference : reference b ≡ r
    pub next : next b ≡ continued
    pub link : link b ≡ informed

-- NEW BALANCES, FREE COMMUNICATIONS AND TRAILERS

module _ (account : List ℕ) (sign n : ℕ) (communicated : Bool) where
  abbrev pub new_balance_parts : List (List ℕ)
  new_balance_parts = codes "8" ∷ zeros 3 ∷ account ∷ single sign ∷ digits 15 n ∷ first_day ∷ spaces 64 ∷ flag communicated ∷ []

  unfoldable pub new_balance_made : List ℕ
  new_balance_made = joined new_balance_parts

  pub record NewBalanceMade (b : List ℕ) : Type 0 where
    pub formed : Formed (new_balance b)
    pub new_account : new_account b ≡ account
    pub new_amount : new_amount b ≡ signed sign n
    pub link : link b ≡ communicated

module _ (s d : ℕ) (communicated : Bool) where
  abbrev pub free_communication_parts : List (List ℕ)
  free_communication_parts =
      codes "4" ∷ spaces 1 ∷ digits 4 s ∷ digits 4 d ∷ spaces 22 ∷ spaces 80 ∷ spaces 15 ∷ flag communicated ∷ []

  unfoldable pub free_communication_made : List ℕ
  free_communication_made = joined free_communication_parts

  pub record FreeCommunicationMade (b : List ℕ) : Type 0 where
    pub formed : Formed (free_communication b)
    pub sequence : sequence b ≡ s
    pub detail : detail b ≡ d
    pub link : link b ≡ communicated

module _ (records debits credits : ℕ) (followed : Bool) where
  abbrev pub trailer_parts : List (List ℕ)
  trailer_parts =
      codes "9" ∷ spaces 15 ∷ digits 6 records ∷ digits 15 debits ∷ digits 15 credits ∷ spaces 75 ∷ single (cond followed 49 50) ∷ []

  unfoldable pub trailer_made : List ℕ
  trailer_made = joined trailer_parts

  pub record TrailerMade (b : List ℕ) : Type 0 where
    pub formed : Formed (trailer b)
    pub count : count b ≡ records
    pub debit_sum : debit_sum b ≡ debits
    pub credit_sum : credit_sum b ≡ credits
    pub another : another b ≡ followed
