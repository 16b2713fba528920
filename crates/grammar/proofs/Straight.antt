-- The threaded rules are the law: from the thread each rule by itself, and back.
--   straight   what is threaded is lawful
--   threaded   what is lawful is threaded
use Rattle.std.proofs.Common.{◌≡◌, ℕ, List, [], ◌∷◌, Some, None, Option, refl}
use mathlib.Core.Path.{subst⁻¹}
use Rattle.std.specs.List.{AllByRecursion}
use Rattle.grammar.specs.Readings.{Transaction, Closing, Statement}
use Rattle.grammar.specs.Lawful.{ClosedIfMoved, StatementLaw}
use Rattle.grammar.specs.Places.{unnumbered}
use Rattle.grammar.proofs.Threaded.{behind_transactions, TransactionsOk, ClosingOk, StatementOk, StatementsOk}
use Rattle.grammar.proofs.Transacting.{TransactionsLaw, transactions_straight, transactions_threaded}
use Rattle.grammar.proofs.Communicating.{communications_follow_on, communications_thread}

closing_straight : (old : List ℕ) (ts : List Transaction) (c : Option Closing) → ClosingOk old ts c → ClosedIfMoved old ts c × ((behind_transactions unnumbered ts).levels ≡ [])
closing_straight old ts None k = (k, subst⁻¹ (λ (x : List Transaction). (behind_transactions unnumbered x).levels ≡ []) k refl)
closing_straight old ts (Some c) k = (record { account = k.1; balance = k.2; linked = k.3; communications = communications_follow_on c.communications k.4 }, k.0)

closing_threaded : (old : List ℕ) (ts : List Transaction) (c : Option Closing) → (behind_transactions unnumbered ts).levels ≡ [] → ClosedIfMoved old ts c → ClosingOk old ts c
closing_threaded old ts None none k = k
closing_threaded old ts (Some c) none k = (none, k.account, k.balance, k.linked, communications_thread c.communications k.communications)

statement_straight : (s : Statement) → StatementOk s → StatementLaw s
statement_straight s k =
    let c : ClosedIfMoved s.old s.transactions s.closing × ((behind_transactions unnumbered s.transactions).levels ≡ []) = closing_straight s.old s.transactions s.closing k.closing in
    let x : TransactionsLaw 1 s.transactions = transactions_straight s.transactions unnumbered 0 refl k.numbers c.1 in
    record {
      numbered = x.numbered;
      referenced = x.referenced;
      typed = x.typed;
      levelled = x.levelled;
      closing = c.0;
      count = k.count;
      debits = k.debits;
      credits = k.credits;
      debit_limit = k.debit_limit;
      credit_limit = k.credit_limit;
    }

statement_threaded : (s : Statement) → StatementLaw s → StatementOk s
statement_threaded s k =
    let x : TransactionsOk unnumbered s.transactions × ((behind_transactions unnumbered s.transactions).levels ≡ []) =
    transactions_threaded s.transactions unnumbered 0 refl refl (record { numbered = k.numbered; referenced = k.referenced; typed = k.typed; levelled = k.levelled }) in
    record {
      numbers = x.0;
      closing = closing_threaded s.old s.transactions s.closing x.1 k.closing;
      count = k.count;
      debits = k.debits;
      credits = k.credits;
      debit_limit = k.debit_limit;
      credit_limit = k.credit_limit;
    }

pub straight : (ss : List Statement) → StatementsOk ss → AllByRecursion StatementLaw ss
straight [] k = tt
straight (s ∷ ss) k = (statement_straight s k.0, straight ss k.1)

pub threaded : (ss : List Statement) → AllByRecursion StatementLaw ss → StatementsOk ss
threaded [] k = tt
threaded (s ∷ ss) k = (statement_threaded s k.0, threaded ss k.1)
