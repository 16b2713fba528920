-- The rules of what is left, with one record more or less in front.
use Rattle.std.proofs.Common.{◌≡◌, ℕ, Bool, true, List, ◌∷◌, Some, None, Option, sym, ◌∙◌, arith}
use lib.IntN.{+ℤ_assoc}
use Rattle.std.proofs.lemmas.Bool.{true≢false}
use Rattle.grammar.specs.Fields.{signed_amount}
use Rattle.grammar.specs.Leaves.{Leaf, movement}
use Rattle.grammar.specs.Readings.{Transaction, Closing}
use Rattle.grammar.specs.Lawful.{total}
use Rattle.grammar.specs.Places.{Numbers, Sums, counted_one, booked}
use Rattle.grammar.proofs.Fits.{Room}
use Rattle.grammar.proofs.Left.{Late, Told, ClosingFrom, LateOk, ToldOk}

-- ONE RECORD LESS

pub uncount : {moved : Bool} {n : Numbers} {s : Sums} {ts : List Transaction} {own : List Leaf} {l : Late} {r : Leaf} → LateOk moved n s ts (r ∷ own) l → LateOk moved n (counted_one s) ts own l
uncount x = record {
  closing = x.closing;
  count = omega arith;
  debits = x.debits;
  credits = x.credits;
  debit_limit = x.debit_limit;
  credit_limit = x.credit_limit;
  others = x.others;
}

uncloses : (n : Numbers) (s : Sums) (moved : Bool) (t : Transaction) (ts : List Transaction) (c : Option Closing) → ClosingFrom moved n s (t ∷ ts) c → ClosingFrom true n (booked s t.main.one) ts c
uncloses n s moved t ts None x = let z : ◌≡◌ {A = ℕ} 0 1 = cc x.1 in absurd (omega arith)
uncloses n s moved t ts (Some c) x = (x.0, x.1, x.2 ∙ sym (+ℤ_assoc s.balance (signed_amount t.main.one) (total ts)), (λ z _. absurd (true≢false z)), x.4)

pub unbook : {moved : Bool} {n : Numbers} {s : Sums} {t : Transaction} {ts : List Transaction} {own : List Leaf} {l : Late} {r : Leaf} → LateOk moved n s (t ∷ ts) (r ∷ own) l → LateOk true n (booked s t.main.one) ts own l
unbook {moved} {n} {s} {t} {ts} {l = l} x = record {
  closing = uncloses n s moved t ts l.closing x.closing;
  count = omega arith;
  debits = omega arith;
  credits = omega arith;
  debit_limit = x.debit_limit;
  credit_limit = x.credit_limit;
  others = x.others;
}

pub room : {moved : Bool} {n : Numbers} {s : Sums} {t : Transaction} {ts : List Transaction} {own : List Leaf} {l : Late} → LateOk moved n s (t ∷ ts) own l → Room s t.main.one
room x = (omega arith, omega arith)

-- ONE RECORD MORE

pub counts : {moved : Bool} {n : Numbers} {s : Sums} {ts : List Transaction} {own : List Leaf} {l : Late} (r : Leaf) → LateOk moved n (counted_one s) ts own l → LateOk moved n s ts (r ∷ own) l
counts r x = record {
  closing = x.closing;
  count = omega arith;
  debits = x.debits;
  credits = x.credits;
  debit_limit = x.debit_limit;
  credit_limit = x.credit_limit;
  others = x.others;
}

closes : (moved : Bool) (n : Numbers) (s : Sums) (t : Transaction) (ts : List Transaction) (c : Option Closing) → ClosingFrom true n (booked s t.main.one) ts c → ClosingFrom moved n s (t ∷ ts) c
closes moved n s t ts None x = absurd (true≢false x.0)
closes moved n s t ts (Some c) x =
    (x.0, x.1, x.2 ∙ +ℤ_assoc s.balance (signed_amount t.main.one) (total ts), (λ _ z. let y : ◌≡◌ {A = ℕ} 0 1 = cc z in absurd (omega arith)), x.4)

pub books : {moved : Bool} {n : Numbers} {s : Sums} {ts : List Transaction} {own : List Leaf} {l : Late} (t : Transaction) → LateOk true n (booked s t.main.one) ts own l → LateOk moved n s (t ∷ ts) (movement t.main.one ∷ own) l
books {moved} {n} {s} {ts} {l = l} t x = record {
  closing = closes moved n s t ts l.closing x.closing;
  count = omega arith;
  debits = omega arith;
  credits = omega arith;
  debit_limit = x.debit_limit;
  credit_limit = x.credit_limit;
  others = x.others;
}

pub told_counts : {n : Numbers} {s : Sums} {own : List Leaf} {t : Told} (r : Leaf) → ToldOk n (counted_one s) own t → ToldOk n s (r ∷ own) t
told_counts r x = record { informations = x.informations; details = x.details; transactions = x.transactions; late = counts r x.late }
