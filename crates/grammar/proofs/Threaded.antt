-- The rules of specs/Lawful with the current numbers threaded through the tree: the middle between the law and the runs.
use Rattle.std.proofs.Common.{◌≡◌, ℕ, ◌≤◌, true, List, [], ◌∷◌, length, ◌+ℤ◌, Some, None, Option}
use Rattle.grammar.specs.Fields.{sequence, detail, link, old_account, old_amount, new_account, new_amount, count, debit_sum, credit_sum}
use Rattle.grammar.specs.Readings.{Rest, Information, Movement, Transaction, Closing, Statement}
use Rattle.grammar.specs.Lawful.{Bears, largest_sum, total, debits, credits, counted}
use Rattle.grammar.specs.Places.{Numbers, unnumbered, behind_main, behind_detail, behind_information}
use Rattle.grammar.proofs.Fits.{MainFits, DetailFits, InformationFits, Repeats, CommunicationFits}

-- NUMBERS, TYPES AND LEVELS: the current numbers behind a part, and what the part must say from given ones on

abbrev pub OptionalOk : Numbers → Option (List ℕ) → Type 0
OptionalOk n None = Unit {0}
OptionalOk n (Some b) = Repeats n b

abbrev pub RestOk : Numbers → Option Rest → Type 0
RestOk n None = Unit {0}
RestOk n (Some r) = Repeats n r.two × OptionalOk n r.three

abbrev pub behind_informations : Numbers → List Information → Numbers
behind_informations n [] = n
behind_informations n (i ∷ is) = behind_informations (behind_information n i.one) is

abbrev pub InformationsOk : Numbers → List Information → Type 0
InformationsOk n [] = Unit {0}
InformationsOk n (i ∷ is) = InformationFits n i.one × RestOk (behind_information n i.one) i.rest × InformationsOk (behind_information n i.one) is

-- behind the 2.1 of a movement
abbrev pub BehindOk : Numbers → Movement → Type 0
BehindOk n m = OptionalOk n m.two × OptionalOk n m.three × InformationsOk n m.informations

abbrev pub behind_details : Numbers → List Movement → Numbers
behind_details n [] = n
behind_details n (d ∷ ds) = behind_details (behind_informations (behind_detail n d.one) d.informations) ds

abbrev pub DetailsOk : Numbers → List Movement → Type 0
DetailsOk n [] = Unit {0}
DetailsOk n (d ∷ ds) = DetailFits n d.one × BehindOk (behind_detail n d.one) d × DetailsOk (behind_informations (behind_detail n d.one) d.informations) ds

abbrev pub behind_transaction : Transaction → Numbers
behind_transaction t = behind_details (behind_informations (behind_main t.main.one) t.main.informations) t.details

abbrev pub TransactionOk : Numbers → Transaction → Type 0
TransactionOk n t = MainFits n t.main.one × BehindOk (behind_main t.main.one) t.main × DetailsOk (behind_informations (behind_main t.main.one) t.main.informations) t.details

abbrev pub behind_transactions : Numbers → List Transaction → Numbers
behind_transactions n [] = n
behind_transactions n (t ∷ ts) = behind_transactions (behind_transaction t) ts

abbrev pub TransactionsOk : Numbers → List Transaction → Type 0
TransactionsOk n [] = Unit {0}
TransactionsOk n (t ∷ ts) = TransactionOk n t × TransactionsOk (behind_transaction t) ts

-- free communications behind one with these numbers
abbrev pub FurtherOk : ℕ → ℕ → List (List ℕ) → Type 0
FurtherOk s d [] = Unit {0}
FurtherOk s d (f ∷ fs) = CommunicationFits s d f × FurtherOk (sequence f) (detail f) fs

abbrev pub CommunicationsOk : List (List ℕ) → Type 0
CommunicationsOk [] = Unit {0}
CommunicationsOk (f ∷ fs) = Bears 1 0 f × FurtherOk (sequence f) (detail f) fs

-- only a statement without movement may have no record 8; at an 8 no level is open, and right behind record 1 it has link 1
abbrev pub ClosingOk : List ℕ → List Transaction → Option Closing → Type 0
ClosingOk old ts None = ts ≡ []
ClosingOk old ts (Some c) =
    ((behind_transactions unnumbered ts).levels ≡ [])
    × (new_account c.balance ≡ old_account old)
    × (new_amount c.balance ≡ old_amount old +ℤ total ts)
    × (ts ≡ [] → link c.balance ≡ true)
    × CommunicationsOk c.communications

pub record StatementOk (s : Statement) : Type 0 where
  pub numbers : TransactionsOk unnumbered s.transactions
  pub closing : ClosingOk s.old s.transactions s.closing
  pub count : count s.end ≡ length (counted s)
  pub debits : debit_sum s.end ≡ debits s.transactions
  pub credits : credit_sum s.end ≡ credits s.transactions
  pub debit_limit : debit_sum s.end ≤ largest_sum
  pub credit_limit : credit_sum s.end ≤ largest_sum

abbrev pub StatementsOk : List Statement → Type 0
StatementsOk [] = Unit {0}
StatementsOk (s ∷ ss) = StatementOk s × StatementsOk ss
