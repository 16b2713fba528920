-- Which readings are lawful: each rule by itself, on the tree of the reading, and nothing of the machine.
use Rattle.std.specs.Prelude.{◌≡◌, ℕ, suc, ◌+◌, ◌%◌, ◌<◌, ◌≤◌, true, cond, ◌⊎◌, List, [], ◌∷◌, ◌++◌, length, ℤ, pos, ◌+ℤ◌, Some, None, Option}
use Rattle.std.specs.List.{AllByRecursion}
use Rattle.grammar.specs.Fields.{sequence, detail, reference, link, is_debit, amount, signed_amount, type, level, old_account, old_amount, new_account, new_amount, count, debit_sum, credit_sum}
use Rattle.grammar.specs.Leaves as L
use Rattle.grammar.specs.Leaves.{Leaf, Formed}
use Rattle.grammar.specs.Readings.{Rest, Information, Movement, Transaction, Closing, Statement, Reading, transactions_leaves, leaves}
use Rattle.grammar.specs.Codes.{Codes}

-- one of a list
abbrev pub Any : {A : Type 0} → (A → Type 0) → List A → Type 0
Any P [] = ⊥
Any P (x ∷ xs) = P x ⊎ Any P xs

-- the main movement and its details
abbrev pub movements : Transaction → List Movement
movements t = t.main ∷ t.details

-- NUMBERS: a number n is written in four digits, so as n % 10000

-- a group: a 2.1 or a 3.1 with the records that continue it
abbrev pub Group : Type 0
Group = List (List ℕ)

abbrev pub with : Option (List ℕ) → Group → Group
with None g = g
with (Some b) g = b ∷ g

abbrev pub rest_group : Option Rest → Group
rest_group None = []
rest_group (Some r) = r.two ∷ with r.three []

-- the groups of movements and of their information records, in the order of the file, in front of the groups k
abbrev pub information_groups : List Information → List Group → List Group
information_groups [] k = k
information_groups (i ∷ is) k = (i.one ∷ rest_group i.rest) ∷ information_groups is k

abbrev pub groups : List Movement → List Group → List Group
groups [] k = k
groups (m ∷ ms) k = (m.one ∷ with m.two (with m.three [])) ∷ information_groups m.informations (groups ms k)

-- a record has these two numbers
abbrev pub Bears : ℕ → ℕ → List ℕ → Type 0
Bears s d b = (sequence b ≡ s) × (detail b ≡ d)

-- the groups d, d + 1 and so on of transaction s: each record of a group has the number of the transaction and that of the group
abbrev pub Grouped : ℕ → ℕ → List Group → Type 0
Grouped s d [] = Unit {0}
Grouped s d (g ∷ gs) = AllByRecursion (Bears (s % 10000) (d % 10000)) g × Grouped s (suc d) gs

-- the transactions s, s + 1 and so on of a statement, the groups of each from 0 on
abbrev pub Numbered : ℕ → List Transaction → Type 0
Numbered s [] = Unit {0}
Numbered s (t ∷ ts) = Grouped s 0 (groups (movements t) []) × Numbered (suc s) ts

-- REFERENCES: each 3.1 has that of its movement's 2.1
abbrev pub Referenced : Movement → Type 0
Referenced m = AllByRecursion (λ i. reference i.one ≡ reference m.one) m.informations

-- TYPES

-- the details earlier under a main movement, its type, and the type of a detail: 9 only behind a 7
pub data DetailType (earlier : List Movement) : ℕ → ℕ → Type 0 where
  five : DetailType earlier 1 5
  six : DetailType earlier 2 6
  seven : DetailType earlier 2 7
  nine : Any (λ e. type e.one ≡ 7) earlier → DetailType earlier 2 9
  eight : DetailType earlier 3 8

pub record Typed (t : Transaction) : Type 0 where
  pub main : type t.main.one ≤ 3
  pub details : (earlier : List Movement) (d : Movement) (later : List Movement) → t.details ≡ earlier ++ (d ∷ later) → DetailType earlier (type t.main.one) (type d.one)

-- LEVELS: the open ones, the latest first

-- above all of these
abbrev pub Above : ℕ → List ℕ → Type 0
Above l os = AllByRecursion (λ o. o < l) os

-- the open levels before a 2.1, its level, and the open levels behind it
pub data Level : List ℕ → ℕ → List ℕ → Type 0 where
  -- 0 does nothing
  nothing : {os : List ℕ} → Level os 0 os
  -- an open level is closed, and with it every higher one
  closes : {os : List ℕ} (higher : List ℕ) (l : ℕ) (lower : List ℕ) → os ≡ higher ++ (l ∷ lower) → 1 ≤ l → Level os l lower
  -- a level above all open ones is opened
  opens : {os : List ℕ} (l : ℕ) → 1 ≤ l → Above l os → Level os l (l ∷ os)

-- the same of movements one after the other
pub data Levels : List ℕ → List Movement → List ℕ → Type 0 where
  none_left : {os : List ℕ} → Levels os [] os
  one_more : {os mid new : List ℕ} {m : Movement} {ms : List Movement} → Level os (level m.one) mid → Levels mid ms new → Levels os (m ∷ ms) new

-- no level is open before a transaction and none behind it; a main movement of type 0 has level 0
pub record Levelled (t : Transaction) : Type 0 where
  pub closed : Levels [] (movements t) []
  pub single : type t.main.one ≡ 0 → level t.main.one ≡ 0

-- MONEY in thousandths, of main movements alone

abbrev pub debit_of : List ℕ → ℕ
debit_of b = cond (is_debit b) (amount b) 0

abbrev pub credit_of : List ℕ → ℕ
credit_of b = cond (is_debit b) 0 (amount b)

abbrev pub total : List Transaction → ℤ
total [] = pos 0
total (t ∷ ts) = signed_amount t.main.one +ℤ total ts

abbrev pub debits : List Transaction → ℕ
debits [] = 0
debits (t ∷ ts) = debit_of t.main.one + debits ts

abbrev pub credits : List Transaction → ℕ
credits [] = 0
credits (t ∷ ts) = credit_of t.main.one + credits ts

-- the largest sum, 999,999,999,999.999
abbrev pub largest_sum : ℕ
largest_sum = 999999999999999

-- RECORDS 8 AND 4

-- the successor of a number of four digits
abbrev pub successor : ℕ → ℕ
successor n = suc n % 10000

-- a free communication behind another: the current number and the succeeding detail, or the succeeding number and 0
abbrev pub Next : List ℕ → List ℕ → Type 0
Next f g = ((sequence g ≡ sequence f) × (detail g ≡ successor (detail f))) ⊎ ((sequence g ≡ successor (sequence f)) × (detail g ≡ 0))

abbrev pub FollowOn : List ℕ → List (List ℕ) → Type 0
FollowOn f [] = Unit {0}
FollowOn f (g ∷ gs) = Next f g × FollowOn g gs

-- the first has 1 and 0
abbrev pub Communicated : List (List ℕ) → Type 0
Communicated [] = Unit {0}
Communicated (f ∷ fs) = Bears 1 0 f × FollowOn f fs

-- what record 8 says behind record 1 and the transactions, and the records 4 behind it
pub record Closed (old : List ℕ) (ts : List Transaction) (c : Closing) : Type 0 where
  pub account : new_account c.balance ≡ old_account old
  pub balance : new_amount c.balance ≡ old_amount old +ℤ total ts
  -- right behind record 1 it has link 1
  pub linked : ts ≡ [] → link c.balance ≡ true
  pub communications : Communicated c.communications

-- only a statement without movement may have no record 8
abbrev pub ClosedIfMoved : List ℕ → List Transaction → Option Closing → Type 0
ClosedIfMoved old ts None = ts ≡ []
ClosedIfMoved old ts (Some c) = Closed old ts c

-- THE STATEMENT

abbrev pub balance_leaves : Option Closing → List Leaf
balance_leaves None = []
balance_leaves (Some c) = L.new_balance c.balance ∷ []

-- the records 1, 2, 3 and 8 of a statement
abbrev pub counted : Statement → List Leaf
counted s = L.old_balance s.old ∷ transactions_leaves s.transactions (balance_leaves s.closing)

pub record StatementLaw (s : Statement) : Type 0 where
  pub numbered : Numbered 1 s.transactions
  pub referenced : AllByRecursion (λ t. AllByRecursion Referenced (movements t)) s.transactions
  pub typed : AllByRecursion Typed s.transactions
  pub levelled : AllByRecursion Levelled s.transactions
  pub closing : ClosedIfMoved s.old s.transactions s.closing
  pub count : count s.end ≡ length (counted s)
  pub debits : debit_sum s.end ≡ debits s.transactions
  pub credits : credit_sum s.end ≡ credits s.transactions
  pub debit_limit : debit_sum s.end ≤ largest_sum
  pub credit_limit : credit_sum s.end ≤ largest_sum

-- THE READING: a list of statements, at least one
pub record Lawful (r : Reading) : Type 0 where
  pub one : r ≡ [] → ⊥
  pub statements : AllByRecursion StatementLaw r
  pub codes : Codes (leaves r)
  pub formed : AllByRecursion Formed (leaves r)
