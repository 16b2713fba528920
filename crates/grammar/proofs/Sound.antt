-- A run of the machine is the records of statements that keep the threaded rules.
use Rattle.std.proofs.Common.{◌≡◌, ℕ, Bool, true, false, List, [], ◌∷◌, Some, None, Option, sym, refl, ap, ◌∙◌, arith}
use lib.IntN.{+ℤ_idr}
use Rattle.std.specs.List.{AllByRecursion}
use Rattle.std.proofs.lemmas.Bool.{true≢false}
use Rattle.grammar.specs.declared.expect.Expect.{Expect}
use Rattle.grammar.specs.declared.expect.Expect.TheVariants as E
use Rattle.grammar.specs.Fields.{next, link, another}
use Rattle.grammar.specs.Leaves.{Leaf, Formed, header, old_balance, movement, movement_second, counterparty, information, information_second, information_third, new_balance, free_communication, trailer}
use Rattle.grammar.specs.Readings.{Movement, Transaction, Closing, Statement, leaves}
use Rattle.grammar.specs.Codes.{Codes}
use Rattle.grammar.specs.Places.{Numbers, Sums, unnumbered, behind_main, opened, counted_one, booked}
use Rattle.grammar.proofs.Fits.{MainFits, NewBalanceFits, TrailerFits}
use Rattle.grammar.proofs.Threaded.{behind_transactions, ClosingOk, StatementOk, StatementsOk}
use Rattle.grammar.proofs.Moves.{Moves, a_first_header, a_header, an_old_balance, a_first_main, a_main, a_detail, a_second, a_lone_counterparty, a_counterparty, an_information, an_information_second, an_information_third, a_lone_new_balance, a_new_balance, a_first_communication, a_communication, a_lone_trailer, a_trailer, Run, done, go}
use Rattle.grammar.proofs.FormedGives.{FormedGives}
use Rattle.grammar.proofs.Left.{Body, body_leaves, Told, ClosingFrom, BodyOk}
use Rattle.grammar.proofs.Announced.{codes_run}
use Rattle.grammar.proofs.Booked.{counts, books, told_counts}
use Rattle.grammar.proofs.LeftAt.{Left, LeftOk, Ended, Good, any_behind_communication, any_behind_information, any_behind_information_second, any_behind_last, any_behind_movement, any_behind_new_balance, any_behind_second, any_behind_trailer}

-- WHAT A RECORD IN FRONT MAKES of what is left

-- a movement with the 2.1 b, and what is left behind that
abbrev made : List ℕ → Left E.Second → Movement
made b x = record { one = b; two = x.0; three = x.1; informations = x.2.informations }

abbrev transacted : List ℕ → Left E.Second → Transaction
transacted b x = record { main = made b x; details = x.2.details }

abbrev with_main : List ℕ → Left E.Second → Body
with_main b x = record { transactions = transacted b x ∷ x.2.body.transactions; late = x.2.body.late }

with_main_ok : (moved : Bool) (n : Numbers) (s : Sums) (b : List ℕ) (x : Left E.Second) → MainFits n b → LeftOk E.Second (behind_main b) (booked s b) x → BodyOk moved n s (with_main b x)
with_main_ok moved n s b x f ok = record { numbers = ((f, (ok.0, ok.1, ok.2.informations), ok.2.details), ok.2.transactions); late = books (transacted b x) ok.2.late }

-- a body at a place where more might be told
abbrev bare : Body → Told
bare b = record { informations = []; details = []; body = b }

bare_good : {n : Numbers} {s : Sums} {rs : List Leaf} (b : Body) → BodyOk true n s b → body_leaves b ≡ rs → Good E.Further n s rs
bare_good b x h = record { left = bare b; ok = record { informations = tt; details = tt; transactions = x.numbers; late = x.late }; is = h }

abbrev with_new_balance : List ℕ → Left E.FirstCommunication → Body
with_new_balance b x = record { transactions = []; late = record { closing = Some (record { balance = b; communications = x.0 }); end = x.1; others = x.2 } }

with_new_balance_ok : (moved : Bool) (n : Numbers) (s : Sums) (b : List ℕ) (x : Left E.FirstCommunication) → NewBalanceFits n s b → (moved ≡ false → link b ≡ true)
    → LeftOk E.FirstCommunication n (counted_one s) x → BodyOk moved n s (with_new_balance b x)
with_new_balance_ok moved n s b x f l ok = record {
  numbers = tt;
  late = record {
    closing = (f.none_open, f.account, f.balance ∙ sym (+ℤ_idr s.balance), (λ m _. l m), ok.0);
    count = omega arith;
    debits = omega arith;
    credits = omega arith;
    debit_limit = ok.1.debit_limit;
    credit_limit = ok.1.credit_limit;
    others = ok.2;
  };
}

abbrev with_trailer : List ℕ → List Statement → Body
with_trailer b ss = record { transactions = []; late = record { closing = None; end = b; others = ss } }

with_trailer_ok : (n : Numbers) (s : Sums) (b : List ℕ) (ss : List Statement) → Ended s b → StatementsOk ss → BodyOk false n s (with_trailer b ss)
with_trailer_ok n s b ss x ok = record {
  numbers = tt;
  late = record {
    closing = (refl, refl);
    count = omega arith;
    debits = omega arith;
    credits = omega arith;
    debit_limit = x.debit_limit;
    credit_limit = x.credit_limit;
    others = ok;
  };
}

-- A STATEMENT

closing_of : (b : List ℕ) (ts : List Transaction) (c : Option Closing) → ClosingFrom false (behind_transactions unnumbered ts) (opened b) ts c → ClosingOk b ts c
closing_of b ts None x = x.1
closing_of b ts (Some c) x = (x.0, x.1, x.2, x.3 refl, x.4)

abbrev stated : List ℕ → Left E.OldBalance → Statement
stated b x = record { head = b; old = x.0; transactions = x.1.transactions; closing = x.1.late.closing; end = x.1.late.end }

stated_ok : (b : List ℕ) (x : Left E.OldBalance) → BodyOk false unnumbered (opened x.0) x.1 → StatementOk (stated b x)
stated_ok b x k = record {
  numbers = k.numbers;
  closing = closing_of x.0 x.1.transactions x.1.late.closing k.late.closing;
  count = omega arith;
  debits = omega arith;
  credits = omega arith;
  debit_limit = k.late.debit_limit;
  credit_limit = k.late.credit_limit;
}

header_good : {n : Numbers} {s : Sums} {rs : List Leaf} (b : List ℕ) → Good E.OldBalance n s rs → Good E.Header n s (header b ∷ rs)
header_good b g = record { left = stated b g.left ∷ g.left.1.late.others; ok = (stated_ok b g.left g.ok, g.ok.late.others); is = ap (header b ∷◌) g.is }

-- A MOVE

main_good : {n : Numbers} {s : Sums} {rs : List Leaf} (moved : Bool) (b : List ℕ) → MainFits n b → Good E.Second (behind_main b) (booked s b) rs → (x : Body) × BodyOk moved n s x × (body_leaves x ≡ (movement b ∷ rs))
main_good {n} {s} moved b f g = (with_main b g.left, with_main_ok moved n s b g.left f g.ok, ap (movement b ∷◌) g.is)

new_balance_good : {n : Numbers} {s : Sums} {rs : List Leaf} (moved : Bool) (b : List ℕ) → NewBalanceFits n s b → (moved ≡ false → link b ≡ true) → Good E.FirstCommunication n (counted_one s) rs
    → (x : Body) × BodyOk moved n s x × (body_leaves x ≡ (new_balance b ∷ rs))
new_balance_good {n} {s} moved b f l g = (with_new_balance b g.left, with_new_balance_ok moved n s b g.left f l g.ok, ap (new_balance b ∷◌) g.is)

opened_good : {n : Numbers} {s : Sums} {rs : List Leaf} → (x : Body) × BodyOk false n s x × (body_leaves x ≡ rs) → Good E.Opened n s rs
opened_good y = record { left = y.0; ok = y.1; is = y.2 }

further_good : {n : Numbers} {s : Sums} {rs : List Leaf} → (x : Body) × BodyOk true n s x × (body_leaves x ≡ rs) → Good E.Further n s rs
further_good y = bare_good y.0 y.1 y.2

module _ (given : FormedGives) where
  ended : (s : Sums) (b : List ℕ) → TrailerFits s b → Formed (trailer b) → Ended s b
  ended s b f formed = record { fits = f; debit_limit = given.debit_limit b formed; credit_limit = given.credit_limit b formed }

  grow : {e f : Expect} {n m : Numbers} {s t : Sums} {r : Leaf} {rs : List Leaf} → Moves e n s r f m t → Formed r → Good f m t rs → Good e n s (r ∷ rs)
  grow (a_first_header {b = b}) formed g = let h = header_good b g in record { left = h.left; ok = h.ok; is = h.is }
  grow (a_header {b = b}) formed g = header_good b g
  grow (an_old_balance {b = b}) formed g = record { left = (b, g.left); ok = g.ok; is = ap (old_balance b ∷◌) g.is }
  grow (a_first_main {b = b} f r a) formed g = opened_good (main_good false b f (any_behind_movement (next b) (link b) g))
  grow (a_main {b = b} f r a) formed g = further_good (main_good true b f (any_behind_movement (next b) (link b) g))
  grow (a_detail {b = b} f a) formed g =
      let h = any_behind_movement (next b) (link b) g in
      record {
        left = record { informations = []; details = made b h.left ∷ h.left.2.details; body = h.left.2.body };
        ok = record { informations = tt; details = (f, (h.ok.0, h.ok.1, h.ok.2.informations), h.ok.2.details); transactions = h.ok.2.transactions; late = counts (movement b) h.ok.2.late };
        is = ap (movement b ∷◌) h.is;
      }
  grow (a_second {b = b} f a) formed g =
      let h = any_behind_second (next b) (link b) g in
      record { left = (Some b, h.left.0, h.left.1); ok = (f, h.ok.0, told_counts (movement_second b) h.ok.1); is = ap (movement_second b ∷◌) h.is }
  grow (a_lone_counterparty {b = b} f a) formed g =
      let h = any_behind_last E.Counterparty (next b) (link b) (given.counterparty_last b formed) g in
      record { left = (None, Some b, h.left); ok = (tt, f, told_counts (counterparty b) h.ok); is = ap (counterparty b ∷◌) h.is }
  grow (a_counterparty {b = b} f a) formed g =
      let h = any_behind_last E.Counterparty (next b) (link b) (given.counterparty_last b formed) g in
      record { left = (Some b, h.left); ok = (f, told_counts (counterparty b) h.ok); is = ap (counterparty b ∷◌) h.is }
  grow (an_information {b = b} f a) formed g =
      let h = any_behind_information (next b) (link b) g in
      record {
        left = record { informations = record { one = b; rest = h.left.0 } ∷ h.left.1.informations; details = h.left.1.details; body = h.left.1.body };
        ok = record { informations = (f, h.ok.0, h.ok.1.informations); details = h.ok.1.details; transactions = h.ok.1.transactions; late = counts (information b) h.ok.1.late };
        is = ap (information b ∷◌) h.is;
      }
  grow (an_information_second {b = b} f a) formed g =
      let h = any_behind_information_second (next b) (link b) g in
      record { left = (Some (record { two = b; three = h.left.0 }), h.left.1); ok = ((f, h.ok.0), told_counts (information_second b) h.ok.1); is = ap (information_second b ∷◌) h.is }
  grow (an_information_third {b = b} f a) formed g =
      let h = any_behind_last E.InformationThird (next b) (link b) (given.information_third_last b formed) g in
      record { left = (Some b, h.left); ok = (f, told_counts (information_third b) h.ok); is = ap (information_third b ∷◌) h.is }
  grow (a_lone_new_balance {b = b} f l) formed g = opened_good (new_balance_good false b f (λ _. l) (any_behind_new_balance (link b) g))
  grow (a_new_balance {b = b} f) formed g = further_good (new_balance_good true b f (λ z. absurd (true≢false z)) (any_behind_new_balance (link b) g))
  grow (a_first_communication {b = b} f) formed g =
      let h = any_behind_communication (link b) g in
      record { left = (b ∷ h.left.0, h.left.1, h.left.2); ok = ((f, h.ok.0), h.ok.1, h.ok.2); is = ap (free_communication b ∷◌) h.is }
  grow (a_communication {b = b} f) formed g =
      let h = any_behind_communication (link b) g in
      record { left = (b ∷ h.left.0, h.left.1, h.left.2); ok = ((f, h.ok.0), h.ok.1, h.ok.2); is = ap (free_communication b ∷◌) h.is }
  grow (a_lone_trailer {n = n} {s = s} {b = b} f) formed g =
      let h = any_behind_trailer (another b) g in
      opened_good (with_trailer b h.left, with_trailer_ok n s b h.left (ended s b f formed) h.ok, ap (trailer b ∷◌) h.is)
  grow (a_trailer {s = s} {b = b} f) formed g =
      let h = any_behind_trailer (another b) g in
      record { left = (b, h.left); ok = (ended s b f formed, h.ok); is = ap (trailer b ∷◌) h.is }

  good : {e : Expect} {n : Numbers} {s : Sums} {rs : List Leaf} → Run e n s rs → AllByRecursion Formed rs → Good e n s rs
  good done formed = record { left = []; ok = tt; is = refl }
  good (go m x) formed = grow m formed.0 (good x formed.1)

-- the records are those of at least one statement
pub record Reads (rs : List Leaf) : Type 0 where
  pub statements : List Statement
  pub one : statements ≡ [] → ⊥
  pub ok : StatementsOk statements
  pub is : leaves statements ≡ rs
  pub codes : Codes rs

not_empty : {n : Numbers} {s : Sums} {rs : List Leaf} → Run E.Start n s rs → rs ≡ [] → ⊥
not_empty (go m x) h = let z : ◌≡◌ {A = ℕ} 0 1 = cc h in absurd (omega arith)

pub sound : FormedGives → {n : Numbers} {s : Sums} {rs : List Leaf} → Run E.Start n s rs → AllByRecursion Formed rs → Reads rs
sound given x formed =
    let g = good given x formed in
    record { statements = g.left; one = λ h. not_empty x (sym g.is ∙ ap leaves h); ok = g.ok; is = g.is; codes = codes_run x }
