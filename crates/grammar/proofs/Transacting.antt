-- The transactions of a statement: threaded, they are numbered, referenced, typed and levelled as the law says, and back.
use Rattle.std.proofs.Common.{◌≡◌, ℕ, suc, ◌%◌, Bool, true, eqb, List, [], ◌∷◌, sym, refl, ◌∙◌, subst}
use mathlib.Core.Path.{subst⁻¹}
use Rattle.std.specs.List.{AllByRecursion}
use Rattle.std.proofs.lemmas.Bool.{or_right}
use Rattle.grammar.specs.Fields.{level}
use Rattle.grammar.specs.Readings.{Transaction}
use Rattle.grammar.specs.Lawful.{movements, groups, Grouped, Numbered, Referenced, Typed, Level, Levels, one_more, Levelled}
use Rattle.grammar.specs.Places.{Numbers, behind_main}
use Rattle.grammar.proofs.Fits.{MainFits}
use Rattle.grammar.proofs.Threaded.{behind_informations, BehindOk, DetailsOk, behind_transaction, TransactionOk, behind_transactions, TransactionsOk}
use Rattle.grammar.proofs.Counting.{succeeding_counts, At, group_behind, informations_at, informations_refer, movement_grouped, movement_threads}
use Rattle.grammar.proofs.Keeping.{informations_types, informations_levels, transaction_sequence}
use Rattle.grammar.proofs.Typing.{Tested, types_allowed, types_pass}
use Rattle.grammar.proofs.Levelling.{Descending, level_allowed, level_passes, descending_behind}
use Rattle.grammar.proofs.Detailing.{details_grouped, details_refer, details_tested, details_levelled, Levelwise, levelwise, details_thread}

-- ONE TRANSACTION

-- the numbers behind the main movement with its information records
abbrev behind_main_movement : Transaction → Numbers
behind_main_movement t = behind_informations (behind_main t.main.one) t.main.informations

main_level : (b : List ℕ) → Level [] (level b) (behind_main b).levels
main_level b = level_allowed [] (level b) tt (or_right (eqb (level b) 0) true refl)

main_descending : (t : Transaction) → Descending (behind_main_movement t).levels
main_descending t =
    let v : Numbers = behind_main t.main.one in
    subst⁻¹ Descending (informations_levels t.main.informations v) (descending_behind [] (level t.main.one) v.levels tt (main_level t.main.one))

transaction_grouped : (t : Transaction) (n : Numbers) (s : ℕ) → n.sequence ≡ s % 10000 → TransactionOk n t → Grouped (suc s) 0 (groups (movements t) [])
transaction_grouped t n s e ok =
    let v : Numbers = behind_main t.main.one in
    let a : At v (suc s) 0 = (ok.0.sequence ∙ succeeding_counts n.sequence s e, ok.0.detail) in
    let b : At (behind_main_movement t) (suc s) (group_behind 0 t.main.informations) = informations_at t.main.informations v (suc s) 0 a ok.1.2 in
    movement_grouped t.main t.details v (suc s) 0 a a ok.1
    (details_grouped t.details (behind_main_movement t) (suc s) (group_behind 0 t.main.informations) b ok.2)

transaction_refers : (t : Transaction) (n : Numbers) → TransactionOk n t → AllByRecursion Referenced (movements t)
transaction_refers t n ok = (informations_refer t.main.informations (behind_main t.main.one) ok.1.2, details_refer t.details (behind_main_movement t) ok.2)

transaction_typed : (t : Transaction) (n : Numbers) → TransactionOk n t → Typed t
transaction_typed t n ok =
    let v : Numbers = behind_main t.main.one in
    let x : Tested v.type v.seven t.details =
    subst (λ (z : ℕ × Bool). Tested z.0 z.1 t.details) (informations_types t.main.informations v) (details_tested t.details (behind_main_movement t) ok.2) in
    record { main = ok.0.typed; details = types_allowed v.type t.details x }

transaction_levelled : (t : Transaction) (n : Numbers) → TransactionOk n t → (behind_transaction t).levels ≡ [] → Levelled t
transaction_levelled t n ok e =
    let v : Numbers = behind_main_movement t in
    let x : Levels v.levels t.details [] = subst (Levels v.levels t.details) e (details_levelled t.details v (main_descending t) ok.2) in
    record {
      closed = one_more (main_level t.main.one) (subst (λ (os : List ℕ). Levels os t.details []) (informations_levels t.main.informations (behind_main t.main.one)) x);
      single = ok.0.levelled;
    }

transaction_threads : (t : Transaction) (n : Numbers) (s : ℕ) → n.sequence ≡ s % 10000 → n.levels ≡ [] → Grouped (suc s) 0 (groups (movements t) []) → AllByRecursion Referenced (movements t) → Typed t → Levelled t
    → TransactionOk n t × ((behind_transaction t).levels ≡ [])
transaction_threads t n s e none g r y l =
    let v : Numbers = behind_main t.main.one in
    let u : Numbers = behind_main_movement t in
    let x : Levelwise [] t.main t.details [] = levelwise l.closed in
    let o : v.levels ≡ x.between = (level_passes [] (level t.main.one) x.between tt x.first).1 in
    let a : At v (suc s) 0 = g.0.0 in
    let fits : MainFits n t.main.one = record {
      sequence = g.0.0.0 ∙ sym (succeeding_counts n.sequence s e);
      none_open = none;
      detail = g.0.0.1;
      typed = y.main;
      levelled = l.single;
    } in
    let k : BehindOk v t.main × Grouped (suc s) (suc (group_behind 0 t.main.informations)) (groups t.details []) = movement_threads t.main t.details v (suc s) 0 a g r.0 in
    let z : DetailsOk u t.details × ((behind_transaction t).levels ≡ []) =
    details_thread t.details u (suc s) (group_behind 0 t.main.informations) [] (informations_at t.main.informations v (suc s) 0 a k.0.2) k.1 r.1
    (subst⁻¹ (λ (w : ℕ × Bool). Tested w.0 w.1 t.details) (informations_types t.main.informations v) (types_pass v.type t.details y.details))
    (main_descending t)
    (subst⁻¹ (λ (os : List ℕ). Levels os t.details []) (informations_levels t.main.informations v ∙ o) x.others) in
    ((fits, k.0, z.0), z.1)

-- THE TRANSACTIONS OF A STATEMENT, from transaction s on

pub record TransactionsLaw (s : ℕ) (ts : List Transaction) : Type 0 where
  pub numbered : Numbered s ts
  pub referenced : AllByRecursion (λ t. AllByRecursion Referenced (movements t)) ts
  pub typed : AllByRecursion Typed ts
  pub levelled : AllByRecursion Levelled ts

-- no level is open behind a transaction: the next main movement says so, or what stands behind the last
none_open_behind : (t : Transaction) (ts : List Transaction) → TransactionsOk (behind_transaction t) ts → (behind_transactions (behind_transaction t) ts).levels ≡ [] → (behind_transaction t).levels ≡ []
none_open_behind t [] ok e = e
none_open_behind t (u ∷ ts) ok e = ok.0.0.none_open

pub transactions_straight : (ts : List Transaction) (n : Numbers) (s : ℕ) → n.sequence ≡ s % 10000 → TransactionsOk n ts → (behind_transactions n ts).levels ≡ [] → TransactionsLaw (suc s) ts
transactions_straight [] n s e ok none = record { numbered = tt; referenced = tt; typed = tt; levelled = tt }
transactions_straight (t ∷ ts) n s e ok none =
    let f : (behind_transaction t).sequence ≡ suc s % 10000 = transaction_sequence t ∙ ok.0.0.sequence ∙ succeeding_counts n.sequence s e in
    let x : TransactionsLaw (suc (suc s)) ts = transactions_straight ts (behind_transaction t) (suc s) f ok.1 none in
    record {
      numbered = (transaction_grouped t n s e ok.0, x.numbered);
      referenced = (transaction_refers t n ok.0, x.referenced);
      typed = (transaction_typed t n ok.0, x.typed);
      levelled = (transaction_levelled t n ok.0 (none_open_behind t ts ok.1 none), x.levelled);
    }

pub transactions_threaded : (ts : List Transaction) (n : Numbers) (s : ℕ) → n.sequence ≡ s % 10000 → n.levels ≡ [] → TransactionsLaw (suc s) ts → TransactionsOk n ts × ((behind_transactions n ts).levels ≡ [])
transactions_threaded [] n s e none x = (tt, none)
transactions_threaded (t ∷ ts) n s e none x =
    let y : TransactionOk n t × ((behind_transaction t).levels ≡ []) = transaction_threads t n s e none x.numbered.0 x.referenced.0 x.typed.0 x.levelled.0 in
    let z : TransactionsOk (behind_transaction t) ts × ((behind_transactions (behind_transaction t) ts).levels ≡ []) =
    transactions_threaded ts (behind_transaction t) (suc s) (transaction_sequence t ∙ x.numbered.0.0.0.0) y.1
    (record { numbered = x.numbered.1; referenced = x.referenced.1; typed = x.typed.1; levelled = x.levelled.1 }) in
    ((y.0, z.0), z.1)
