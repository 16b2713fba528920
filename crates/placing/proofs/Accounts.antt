-- The accounts of rows: each once, each with a last place, and one more where a row of a new account comes.
use Rattle.std.proofs.Common.{◌≡◌, ℕ, ◌≤◌, true, false, cond, not, ◌&&◌, List, [], ◌∷◌, ◌++◌, length, is_some, sym, refl, ap, ◌∙◌, arith}
use Rattle.std.specs.Str.{bytes_eq}
use Rattle.std.proofs.lemmas.Slice.Eq.{bytes_eq-Decides}
use Rattle.std.proofs.lemmas.List.{append-nil}
use Rattle.std.proofs.lemmas.Bool.{cond_both}
use Rattle.std.proofs.lemmas.Bool.Decides.{Decides-like, same_from_decides}
use Rattle.rows.specs.declared.fields.Fields.{Fields}
use Rattle.rows.specs.declared.fields.Fields.TheVariants.{Movement, Statement}
use Rattle.rows.specs.declared.fields.MovementFields.{MovementFields}
use Rattle.rows.specs.declared.fields.StatementFields.{StatementFields}
use Rattle.placing.specs.Places.{others, accounts, last_place}
use Rattle.placing.proofs.Walking.{among}

pub same_itself : (account : List ℕ) → bytes_eq account account ≡ true
same_itself account = (bytes_eq-Decides account account).1 refl

pub same_turned : (one other : List ℕ) → bytes_eq one other ≡ bytes_eq other one
same_turned one other = same_from_decides (bytes_eq one other) (bytes_eq other one) (bytes_eq-Decides one other) (Decides-like (bytes_eq other one) sym sym (bytes_eq-Decides other one))

-- ALL BUT ONE

among_others : (account one : List ℕ) (all : List (List ℕ)) → among account (others one all) ≡ (not (bytes_eq one account) && among account all)
unfolding others
among_others account one [] = grind arith
among_others account one (other ∷ rest) =
    let h = among_others account one rest in
    let d = bytes_eq-Decides other one in
    let k = bytes_eq-Decides one account in
    grind arith

others_push : (one : List ℕ) (all : List (List ℕ)) (account : List ℕ) → others one (all ++ account ∷ []) ≡ others one all ++ cond (bytes_eq account one) [] (account ∷ [])
unfolding others
others_push one [] account = refl
others_push one (other ∷ rest) account = let h = others_push one rest account in grind arith

few_others : (one : List ℕ) (all : List (List ℕ)) → length (others one all) ≤ length all
unfolding others
few_others one [] = omega arith
few_others one (other ∷ rest) = let h = few_others one rest in grind arith

-- EACH ONCE

abbrev pub Distinct : List (List ℕ) → Type 0
Distinct [] = Unit {0}
Distinct (account ∷ rest) = (among account rest ≡ false) × Distinct rest

distinct_others : (one : List ℕ) (all : List (List ℕ)) → Distinct all → Distinct (others one all)
unfolding others
distinct_others one [] h = tt
distinct_others one (other ∷ rest) h =
    let r = distinct_others one rest h.1 in
    cond_both (bytes_eq other one) (others one rest) (other ∷ others one rest) Distinct (λ _. r) (λ _. (grind (arith, among_others), r))

pub accounts_distinct : (rows : List Fields) → Distinct (accounts rows)
unfolding accounts
accounts_distinct [] = tt
accounts_distinct (Movement m ∷ rows) = accounts_distinct rows
accounts_distinct (Statement s ∷ rows) = (grind (arith, among_others, same_itself), distinct_others s.account (accounts rows) (accounts_distinct rows))

pub few_accounts : (rows : List Fields) → length (accounts rows) ≤ length rows
unfolding accounts
few_accounts [] = omega arith
few_accounts (Movement m ∷ rows) = omega (arith, few_accounts rows)
few_accounts (Statement s ∷ rows) = omega (arith, few_accounts rows, few_others s.account (accounts rows))

-- the accounts of rows are those that have a last place
pub among_accounts : (account : List ℕ) (rows : List Fields) → among account (accounts rows) ≡ is_some (last_place account rows)
unfolding accounts last_place
among_accounts account [] = refl
among_accounts account (Movement m ∷ rows) = let h = among_accounts account rows in grind arith
among_accounts account (Statement s ∷ rows) = let h = among_accounts account rows in grind (arith, among_others)

-- ONE ROW MORE

pub accounts_movement : (rows : List Fields) (m : MovementFields) → accounts (rows ++ Movement m ∷ []) ≡ accounts rows
unfolding accounts
accounts_movement [] m = refl
accounts_movement (Movement n ∷ rows) m = accounts_movement rows m
accounts_movement (Statement s ∷ rows) m = ap (λ all. s.account ∷ others s.account all) (accounts_movement rows m)

-- accounts with one more at the end, unless it is among them
abbrev pub joined : List (List ℕ) → List ℕ → List (List ℕ)
joined all account = cond (among account all) all (all ++ account ∷ [])

joined_others : (one account : List ℕ) (all : List (List ℕ)) → one ∷ others one (joined all account) ≡ joined (one ∷ others one all) account
joined_others one account all = grind (arith, among_others account one all, others_push one all account, same_turned one account, append-nil)

pub accounts_statement : (rows : List Fields) (s : StatementFields) → accounts (rows ++ Statement s ∷ []) ≡ joined (accounts rows) s.account
unfolding accounts others
accounts_statement [] s = refl
accounts_statement (Movement m ∷ rows) s = accounts_statement rows s
accounts_statement (Statement first ∷ rows) s =
    ap (λ all. first.account ∷ others first.account all) (accounts_statement rows s)
    ∙ joined_others first.account s.account (accounts rows)
