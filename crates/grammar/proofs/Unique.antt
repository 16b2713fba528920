-- Statements can be read off their records, from the last to the first: so no file has two readings.
use Rattle.std.proofs.Common.{◌≡◌, ℕ, Bool, true, false, leb, List, [], ◌∷◌, Some, None, Option, sym, refl, ap, ◌∙◌, arith}
use Rattle.std.proofs.lemmas.Bool.{le-leb}
use Rattle.std.proofs.lemmas.Bool.Decides.{nat_tests}
use Rattle.grammar.specs.Fields.{type}
use Rattle.grammar.specs.Leaves.{Leaf, header, old_balance, movement, movement_second, counterparty, information, information_second, information_third, new_balance, free_communication, trailer}
use Rattle.grammar.specs.Readings.{Rest, Information, Movement, Transaction, Closing, Statement, optional, rest_leaves, information_leaves, movement_leaves, movements_leaves, transactions_leaves, communications_leaves, closing_leaves, leaves}
use Rattle.grammar.specs.Places.{Numbers, unnumbered, behind_main, behind_detail}
use Rattle.grammar.specs.Rules.{detail_type}
use Rattle.grammar.proofs.Fits.{MainFits}
use Rattle.grammar.proofs.Threaded.{behind_informations, DetailsOk, behind_transaction, TransactionsOk, StatementsOk}

-- WHAT HAS BEEN SEEN of a file, from its end on

record Seen : Type 0 where
  second : Option (List ℕ)
  third : Option (List ℕ)
  information_second : Option (List ℕ)
  information_third : Option (List ℕ)
  informations : List Information
  details : List Movement
  transactions : List Transaction
  communications : List (List ℕ)
  closing : Option Closing
  end : List ℕ
  old : List ℕ
  others : List Statement

abbrev seen : List Information → List Movement → List Transaction → Option Closing → List ℕ → List Statement → Seen
seen is ds ts c e ss = record { second = None; third = None; information_second = None; information_third = None; informations = is; details = ds; transactions = ts; communications = []; closing = c; end = e; old = []; others = ss }

-- with the 2.2 and 2.3 of a movement
abbrev seen_movement : Option (List ℕ) → Option (List ℕ) → Seen → Seen
seen_movement two three x = record { second = two; third = three; information_second = None; information_third = None; informations = x.informations; details = x.details; transactions = x.transactions; communications = []; closing = x.closing; end = x.end; old = []; others = x.others }

-- with the 3.2 and 3.3 of an information
abbrev seen_information : Option (List ℕ) → Option (List ℕ) → Seen → Seen
seen_information two three x = record { second = None; third = None; information_second = two; information_third = three; informations = x.informations; details = x.details; transactions = x.transactions; communications = []; closing = x.closing; end = x.end; old = []; others = x.others }

abbrev make_rest : Option (List ℕ) → Option (List ℕ) → Option Rest
make_rest None three = None
make_rest (Some b) three = Some (record { two = b; three = three })

abbrev make_movement : List ℕ → Seen → Movement
make_movement b x = record { one = b; two = x.second; three = x.third; informations = x.informations }

-- a main movement, or else a detail
abbrev push_movement : Bool → List ℕ → Seen → Seen
push_movement true b x = seen [] [] (record { main = make_movement b x; details = x.details } ∷ x.transactions) x.closing x.end x.others
push_movement false b x = seen [] (make_movement b x ∷ x.details) x.transactions x.closing x.end x.others

abbrev push : Leaf → Seen → Seen
push (header b) x = seen [] [] [] None [] (record { head = b; old = x.old; transactions = x.transactions; closing = x.closing; end = x.end } ∷ x.others)
push (old_balance b) x = record { second = None; third = None; information_second = None; information_third = None; informations = []; details = []; transactions = x.transactions; communications = []; closing = x.closing; end = x.end; old = b; others = x.others }
push (movement b) x = push_movement (leb (type b) 3) b x
push (movement_second b) x = seen_movement (Some b) x.third x
push (counterparty b) x = seen_movement None (Some b) x
push (information b) x = seen (record { one = b; rest = make_rest x.information_second x.information_third } ∷ x.informations) x.details x.transactions x.closing x.end x.others
push (information_second b) x = seen_information (Some b) x.information_third x
push (information_third b) x = seen_information None (Some b) x
push (new_balance b) x = seen [] [] [] (Some (record { balance = b; communications = x.communications })) x.end x.others
push (free_communication b) x = record { second = None; third = None; information_second = None; information_third = None; informations = []; details = []; transactions = []; communications = b ∷ x.communications; closing = None; end = x.end; old = []; others = x.others }
push (trailer b) x = seen [] [] [] None b x.others

abbrev read : List Leaf → Seen
read [] = seen [] [] [] None [] []
read (r ∷ rs) = push r (read rs)

-- MAIN MOVEMENTS AND DETAILS are told apart by their types

main_type : (n : Numbers) (b : List ℕ) → MainFits n b → leb (type b) 3 ≡ true
main_type n b f = le-leb (type b) 3 f.typed

not_main_type : (main : ℕ) (seven : Bool) (t : ℕ) → detail_type main seven t ≡ true → leb t 3 ≡ false
not_main_type main seven t h = grind (arith, nat_tests)

-- READING BACK

module _ (ts : List Transaction) (c : Option Closing) (e : List ℕ) (ss : List Statement) where
  read_information : (b : List ℕ) (o : Option Rest) (is : List Information) (ds : List Movement) (k : List Leaf) → read k ≡ seen is ds ts c e ss
      → read (information b ∷ rest_leaves o k) ≡ seen (record { one = b; rest = o } ∷ is) ds ts c e ss
  read_information b None is ds k h = ap (push (information b)) h
  read_information b (Some r) is ds k h = by r.two r.three
    where
      by : (two : List ℕ) (three : Option (List ℕ)) → read (information b ∷ information_second two ∷ optional information_third three k) ≡ seen (record { one = b; rest = Some (record { two = two; three = three }) } ∷ is) ds ts c e ss
      by two None = ap (λ x. push (information b) (push (information_second two) x)) h
      by two (Some three) = ap (λ x. push (information b) (push (information_second two) (push (information_third three) x))) h

  read_informations : (is : List Information) (ds : List Movement) (k : List Leaf) → read k ≡ seen [] ds ts c e ss → read (information_leaves is k) ≡ seen is ds ts c e ss
  read_informations [] ds k h = h
  read_informations (i ∷ is) ds k h = read_information i.one i.rest is ds (information_leaves is k) (read_informations is ds k h)

  read_group : (two three : Option (List ℕ)) (is : List Information) (ds : List Movement) (k : List Leaf) → read k ≡ seen is ds ts c e ss
      → read (optional movement_second two (optional counterparty three k)) ≡ seen_movement two three (seen is ds ts c e ss)
  read_group None None is ds k h = h
  read_group None (Some b) is ds k h = ap (push (counterparty b)) h
  read_group (Some a) None is ds k h = ap (push (movement_second a)) h
  read_group (Some a) (Some b) is ds k h = ap (λ x. push (movement_second a) (push (counterparty b) x)) h

  -- a movement, once it is known whether it is a main movement
  read_movement : (main : Bool) (m : Movement) (ds : List Movement) (k : List Leaf) → leb (type m.one) 3 ≡ main → read k ≡ seen [] ds ts c e ss
      → read (movement_leaves m k) ≡ push_movement main m.one (seen_movement m.two m.three (seen m.informations ds ts c e ss))
  read_movement main m ds k t h =
      ap (push (movement m.one)) (read_group m.two m.three m.informations ds (information_leaves m.informations k) (read_informations m.informations ds k h))
      ∙ ap (λ y. push_movement y m.one (seen_movement m.two m.three (seen m.informations ds ts c e ss))) t

module _ (c : Option Closing) (e : List ℕ) (ss : List Statement) where
  read_details : (ts : List Transaction) (ds : List Movement) (n : Numbers) (k : List Leaf) → DetailsOk n ds → read k ≡ seen [] [] ts c e ss → read (movements_leaves ds k) ≡ seen [] ds ts c e ss
  read_details ts [] n k ok h = h
  read_details ts (d ∷ ds) n k ok h =
      read_movement ts c e ss false d ds (movements_leaves ds k) (not_main_type n.type n.seven (type d.one) ok.0.typed)
      (read_details ts ds (behind_informations (behind_detail n d.one) d.informations) k ok.2 h)

  read_transactions : (ts : List Transaction) (n : Numbers) (k : List Leaf) → TransactionsOk n ts → read k ≡ seen [] [] [] c e ss → read (transactions_leaves ts k) ≡ seen [] [] ts c e ss
  read_transactions [] n k ok h = h
  read_transactions (t ∷ ts) n k ok h =
      read_movement ts c e ss true t.main t.details (movements_leaves t.details (transactions_leaves ts k)) (main_type n t.main.one ok.0.0)
      (read_details ts t.details (behind_informations (behind_main t.main.one) t.main.informations) (transactions_leaves ts k) ok.0.2
      (read_transactions ts (behind_transaction t) k ok.1 h))

-- with the free communications fs
abbrev seen_communications : List (List ℕ) → List ℕ → List Statement → Seen
seen_communications fs e ss = record { second = None; third = None; information_second = None; information_third = None; informations = []; details = []; transactions = []; communications = fs; closing = None; end = e; old = []; others = ss }

read_communications : (fs : List (List ℕ)) (e : List ℕ) (k : List Leaf) (ss : List Statement) → (read k).others ≡ ss → read (communications_leaves fs (trailer e ∷ k)) ≡ seen_communications fs e ss
read_communications [] e k ss h = ap (seen [] [] [] None e) h
read_communications (f ∷ fs) e k ss h = ap (push (free_communication f)) (read_communications fs e k ss h)

read_closing : (c : Option Closing) (e : List ℕ) (k : List Leaf) (ss : List Statement) → (read k).others ≡ ss → read (closing_leaves c (trailer e ∷ k)) ≡ seen [] [] [] c e ss
read_closing None e k ss h = ap (seen [] [] [] None e) h
read_closing (Some c) e k ss h = ap (push (new_balance c.balance)) (read_communications c.communications e k ss h)

read_statements : (ss : List Statement) → StatementsOk ss → (read (leaves ss)).others ≡ ss
read_statements [] ok = refl
read_statements (s ∷ ss) ok = ap (λ (x : Seen). (push (header s.head) (push (old_balance s.old) x)).others)
    (read_transactions s.closing s.end ss s.transactions unnumbered (closing_leaves s.closing (trailer s.end ∷ leaves ss)) ok.0.numbers
    (read_closing s.closing s.end (leaves ss) ss (read_statements ss ok.1)))

pub unique : (ss ts : List Statement) → StatementsOk ss → StatementsOk ts → leaves ss ≡ leaves ts → ss ≡ ts
unique ss ts a b h = sym (read_statements ss a) ∙ ap (λ rs. (read rs).others) h ∙ read_statements ts b
