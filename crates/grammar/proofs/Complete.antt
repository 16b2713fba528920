-- The records of statements that keep the threaded rules, with their codes and forms, are a run of the machine.
use Rattle.std.proofs.Common.{◌≡◌, ℕ, Bool, true, false, List, [], ◌∷◌, Some, None, Option, sym, refl, ◌∙◌, subst, arith}
use lib.IntN.{+ℤ_idr}
use Rattle.std.specs.List.{AllByRecursion}
use Rattle.std.proofs.lemmas.Bool.{true≢false}
use Rattle.grammar.specs.declared.expect.Expect.{Expect}
use Rattle.grammar.specs.declared.expect.Expect.TheVariants as E
use Rattle.grammar.specs.Fields.{next, link, another}
use Rattle.grammar.specs.Leaves.{Formed, header, movement, new_balance, trailer}
use Rattle.grammar.specs.Readings.{Transaction, Closing, Statement, movements_leaves, transactions_leaves, communications_leaves, closing_leaves, leaves}
use Rattle.grammar.specs.Codes.{first_sort, communicates, heads, Codes}
use Rattle.grammar.specs.Lawful.{balance_leaves}
use Rattle.grammar.specs.Order.{behind, behind_closing, behind_trailer}
use Rattle.grammar.specs.Places.{Numbers, Sums, unnumbered, behind_main, behind_communication, opened, counted_one, booked, beginning}
use Rattle.grammar.proofs.Fits.{Room, NewBalanceFits, TrailerFits}
use Rattle.grammar.proofs.Threaded.{behind_transaction, TransactionOk, behind_transactions, TransactionsOk, FurtherOk, CommunicationsOk, ClosingOk, StatementOk, StatementsOk}
use Rattle.grammar.proofs.Moves.{Apart, Moves, a_first_header, a_header, an_old_balance, a_first_main, a_main, a_lone_new_balance, a_new_balance, a_first_communication, a_communication, a_lone_trailer, a_trailer, Run, done, go}
use Rattle.grammar.proofs.FormedGives.{FormedGives}
use Rattle.grammar.proofs.Left.{Late, late_leaves, ClosingFrom, LateOk}
use Rattle.grammar.proofs.Booked.{uncount, unbook, room}
use Rattle.grammar.proofs.Expected.{Coded, later, behind_sort, apart, announced, linked}
use Rattle.grammar.proofs.Transacted.{behind_one, Onward, run_transaction}

-- WHAT IS LEFT OF A STATEMENT

trailer_fits : {moved : Bool} {n : Numbers} {s : Sums} {l : Late} → LateOk moved n s [] [] l → TrailerFits s l.end
trailer_fits x = record {
  count = omega arith;
  debits = omega arith;
  credits = omega arith;
}

closing_from : (b : List ℕ) (ts : List Transaction) (c : Option Closing) → ClosingOk b ts c → ClosingFrom false (behind_transactions unnumbered ts) (opened b) ts c
closing_from b ts None x = (refl, x)
closing_from b ts (Some c) x = (x.0, x.1, x.2, (λ _. x.3), x.4)

abbrev late_of : Statement → List Statement → Late
late_of s ss = record { closing = s.closing; end = s.end; others = ss }

late_ok : (s : Statement) (ss : List Statement) → StatementOk s → StatementsOk ss
    → LateOk false (behind_transactions unnumbered s.transactions) (opened s.old) s.transactions (transactions_leaves s.transactions (balance_leaves s.closing)) (late_of s ss)
late_ok s ss x others = record {
  closing = closing_from s.old s.transactions s.closing x.closing;
  count = omega arith;
  debits = omega arith;
  credits = omega arith;
  debit_limit = x.debit_limit;
  credit_limit = x.credit_limit;
  others = others;
}

-- BEHIND THE TRANSACTIONS OF A STATEMENT

-- the statements behind a trailer
abbrev Others : List Statement → Type 0
Others ss = (n : Numbers) (s : Sums) → Coded (leaves ss) → Run (behind_trailer (heads (first_sort (leaves ss)))) n s (leaves ss)

run_others : (ss : List Statement) (n : Numbers) (s : Sums) (b : List ℕ) → Others ss → Coded (trailer b ∷ leaves ss) → Run (behind_trailer (another b)) n s (leaves ss)
run_others ss n s b on c = subst (λ y. Run (behind_trailer y) n s (leaves ss)) (sym c.codes.0) (on n s (later c))

run_further : (fs : List (List ℕ)) (n : Numbers) (s : Sums) (b : List ℕ) (ss : List Statement) → FurtherOk n.sequence n.detail fs → TrailerFits s b → Others ss → Coded (communications_leaves fs (trailer b ∷ leaves ss))
    → Run (behind_closing (communicates (first_sort (communications_leaves fs (trailer b ∷ leaves ss)))) E.Communication) n s (communications_leaves fs (trailer b ∷ leaves ss))
run_further [] n s b ss ok t on c = go (a_trailer t) (run_others ss n s b on c)
run_further (f ∷ fs) n s b ss ok t on c = go (a_communication ok.0) (linked f E.Communication c.codes.0 (run_further fs (behind_communication n f) s b ss ok.1 t on (later c)))

run_communications : (fs : List (List ℕ)) (n : Numbers) (s : Sums) (b : List ℕ) (ss : List Statement) → CommunicationsOk fs → TrailerFits s b → Others ss → Coded (communications_leaves fs (trailer b ∷ leaves ss))
    → Run (behind_closing (communicates (first_sort (communications_leaves fs (trailer b ∷ leaves ss)))) E.FirstCommunication) n s (communications_leaves fs (trailer b ∷ leaves ss))
run_communications [] n s b ss ok t on c = go (a_trailer t) (run_others ss n s b on c)
run_communications (f ∷ fs) n s b ss ok t on c = go (a_first_communication ok.0) (linked f E.Communication c.codes.0 (run_further fs (behind_communication n f) s b ss ok.1 t on (later c)))

run_new_balance : (e : Expect) (moved : Bool) (n : Numbers) (s : Sums) (c : Closing) (b : List ℕ) (ss : List Statement)
    → LateOk moved n s [] (new_balance c.balance ∷ []) (record { closing = Some c; end = b; others = ss }) → Others ss → Coded (new_balance c.balance ∷ communications_leaves c.communications (trailer b ∷ leaves ss))
    → (NewBalanceFits n s c.balance → Moves e n s (new_balance c.balance) (behind_closing (link c.balance) E.FirstCommunication) n (counted_one s))
    → Run e n s (new_balance c.balance ∷ communications_leaves c.communications (trailer b ∷ leaves ss))
run_new_balance e moved n s c b ss x on k may =
    go (may (record { none_open = x.closing.0; account = x.closing.1; balance = x.closing.2 ∙ +ℤ_idr s.balance }))
    (linked c.balance E.FirstCommunication k.codes.0 (run_communications c.communications n (counted_one s) b ss x.closing.4 (trailer_fits (uncount x)) on (later k)))

run_late : (c : Option Closing) (b : List ℕ) (ss : List Statement) (n : Numbers) → Others ss → (e : Expect) (s : Sums) → LateOk true n s [] (balance_leaves c) (record { closing = c; end = b; others = ss })
    → Coded (closing_leaves c (trailer b ∷ leaves ss)) → Run (behind_sort (first_sort (closing_leaves c (trailer b ∷ leaves ss))) e) n s (closing_leaves c (trailer b ∷ leaves ss))
run_late None b ss n on e s x k = absurd (true≢false x.closing.0)
run_late (Some c) b ss n on e s x k = run_new_balance E.Further true n s c b ss x on k a_new_balance

-- right behind an old balance
run_unmoved : (c : Option Closing) (b : List ℕ) (ss : List Statement) (n : Numbers) (s : Sums) → LateOk false n s [] (balance_leaves c) (record { closing = c; end = b; others = ss }) → Others ss
    → Coded (closing_leaves c (trailer b ∷ leaves ss)) → Run E.Opened n s (closing_leaves c (trailer b ∷ leaves ss))
run_unmoved None b ss n s x on k = go (a_lone_trailer (trailer_fits x)) (run_others ss n s b on k)
run_unmoved (Some c) b ss n s x on k = run_new_balance E.Opened false n s c b ss x on k (λ f. a_lone_new_balance f (x.closing.3 refl refl))

-- STATEMENTS

module _ (given : FormedGives) where
  -- a main movement with what belongs to it, and then the transactions ts
  run_main : (moved : Bool) (e : Expect) (l : Late) (t : Transaction) (ts : List Transaction) (a : Numbers) (s : Sums) → TransactionOk a t
      → (Room s t.main.one → Apart t.main.one → Moves e a s (movement t.main.one) (behind (next t.main.one) (link t.main.one) E.Second) (behind_main t.main.one) (booked s t.main.one))
      → LateOk moved (behind_transactions a (t ∷ ts)) s (t ∷ ts) (transactions_leaves (t ∷ ts) (balance_leaves l.closing)) l → Coded (transactions_leaves (t ∷ ts) (late_leaves l))
      → Onward (behind_transactions (behind_transaction t) ts) ts l (behind_transaction t) (transactions_leaves ts (balance_leaves l.closing)) (transactions_leaves ts (late_leaves l))
      → Run e a s (transactions_leaves (t ∷ ts) (late_leaves l))
  run_main moved e l t ts a s ok may x c on =
      go (may (room x) (apart t.main.one (first_sort (behind_one t.main (movements_leaves t.details (transactions_leaves ts (late_leaves l))))) c.codes.0))
      (announced t.main.one E.Second c.codes.0
      (run_transaction given (behind_transactions (behind_transaction t) ts) ts l t a (transactions_leaves ts (balance_leaves l.closing)) (transactions_leaves ts (late_leaves l)) ok on (booked s t.main.one) (unbook x) (later c)))

  run_transactions : (l : Late) (ts : List Transaction) (a : Numbers) → TransactionsOk a ts → Others l.others
      → Onward (behind_transactions a ts) ts l a (transactions_leaves ts (balance_leaves l.closing)) (transactions_leaves ts (late_leaves l))
  run_transactions l [] a ok on = run_late l.closing l.end l.others a on
  run_transactions l (t ∷ ts) a ok on = λ e s x c. run_main true E.Further l t ts a s ok.0 (a_main ok.0.0) x c (run_transactions l ts (behind_transaction t) ok.1 on)

  -- behind an old balance
  run_body : (l : Late) (ts : List Transaction) (a : Numbers) (s : Sums) → TransactionsOk a ts → LateOk false (behind_transactions a ts) s ts (transactions_leaves ts (balance_leaves l.closing)) l → Others l.others
      → Coded (transactions_leaves ts (late_leaves l)) → Run E.Opened a s (transactions_leaves ts (late_leaves l))
  run_body l [] a s ok x on c = run_unmoved l.closing l.end l.others a s x on c
  run_body l (t ∷ ts) a s ok x on c = run_main false E.Opened l t ts a s ok.0 (a_first_main ok.0.0) x c (run_transactions l ts (behind_transaction t) ok.1 on)

  run_statement : (e : Expect) (n : Numbers) (t : Sums) (s : Statement) (ss : List Statement) → Moves e n t (header s.head) E.OldBalance n t → StatementOk s → StatementsOk ss → Others ss → Coded (leaves (s ∷ ss)) → Run e n t (leaves (s ∷ ss))
  run_statement e n t s ss may x others on c =
      go may (go an_old_balance (run_body (late_of s ss) s.transactions unnumbered (opened s.old) x.numbers (late_ok s ss x others) on (later (later c))))

  run_statements : (ss : List Statement) → StatementsOk ss → Others ss
  run_statements [] ok n s c = done
  run_statements (s ∷ ss) ok n t c = run_statement E.Header n t s ss a_header ok.0 ok.1 (run_statements ss ok.1) c

  pub complete : (ss : List Statement) → StatementsOk ss → Codes (leaves ss) → AllByRecursion Formed (leaves ss) → (ss ≡ [] → ⊥) → Run E.Start unnumbered beginning.sums (leaves ss)
  complete [] ok codes formed one = absurd (one refl)
  complete (s ∷ ss) ok codes formed one =
      run_statement E.Start unnumbered beginning.sums s ss a_first_header ok.0 ok.1 (run_statements ss ok.1) (record { codes = codes; formed = formed })
