-- The last statement row of an account among rows, sought from the end.
use Rattle.std.proofs.Common.{◌≡◌, ℕ, zero, suc, ◌+◌, ◌-◌, ◌<◌, ◌≤◌, true, false, List, [], ◌∷◌, ◌++◌, length, get_or, take, drop, Some, None, Option, sym, refl, ap, ◌∙◌, subst, take-add, arith}
use Rattle.std.specs.Bool.{then_some}
use Rattle.std.proofs.lemmas.List.{length-take-le, get_or-take}
use Rattle.std.specs.Option.{MatchOption, IfSome, option_or, option_map}
use Rattle.rows.specs.Accounts.{is_of}
use Rattle.rows.specs.declared.fields.Fields.{Fields}
use Rattle.std.specs.Str.{bytes_eq}
use Rattle.cashbook.specs.Questions.{latest}
use Rattle.placing.specs.Places.{last_place, index_from, index_of}
use Rattle.placing.proofs.Standing.{latest_last, last_stands}

-- no row of a list from a place on is a statement row of the account
abbrev pub NoneFrom : List ℕ → List Fields → ℕ → Type 0
NoneFrom account rows start = (k : ℕ) (d : Fields) → start ≤ k → k < length rows → is_of account (get_or rows k d) ≡ false

last_none : (account : List ℕ) (rows : List Fields) → NoneFrom account rows 0 → last_place account rows ≡ None
unfolding last_place
last_none account [] none = refl
last_none account (row ∷ rows) none =
    let rest = last_none account rows (λ k d from inside. none (suc k) d (omega arith) (omega arith)) in
    let here = none 0 row (omega arith) (omega arith) in
    grind arith

last_some : (account : List ℕ) (rows : List Fields) (i : ℕ) → i < length rows → ((d : Fields) → is_of account (get_or rows i d) ≡ true) → NoneFrom account rows (i + 1) → last_place account rows ≡ Some i
unfolding last_place
last_some account [] i inside here behind = absurd (omega arith)
last_some account (row ∷ rows) zero inside here behind =
    let rest = last_none account rows (λ k d from inside. behind (suc k) d (omega arith) (omega arith)) in
    let own = here row in
    grind arith
last_some account (row ∷ rows) (suc i) inside here behind =
    let rest = last_some account rows i (omega arith) here (λ k d from inside. behind (suc k) d (omega arith) (omega arith)) in
    grind arith

pub last_sought :
    (account : List ℕ) (rows : List Fields) (r : Option ℕ)
    → MatchOption r (NoneFrom account rows 0) (λ i. (i < length rows) × ((d : Fields) → is_of account (get_or rows i d) ≡ true) × NoneFrom account rows (i + 1))
    → r ≡ last_place account rows
last_sought account rows None h = sym (last_none account rows h)
last_sought account rows (Some i) h = sym (last_some account rows i h.0 h.1 h.2)

-- among rows put together, the last of the second ones, else of the first ones
from_none : (o : Option ℕ) → o ≡ option_or (option_map (λ i. 0 + i) o) None
from_none None = refl
from_none (Some i) = ap Some (omega arith)

one_further : (n : ℕ) (o p q : Option ℕ) → option_or (option_map suc (option_or (option_map (λ i. n + i) o) p)) q ≡ option_or (option_map (λ i. suc n + i) o) (option_or (option_map suc p) q)
one_further n None p q = refl
one_further n (Some i) p q = ap Some (omega arith)

last_joined : (account : List ℕ) (front behind : List Fields) → last_place account (front ++ behind) ≡ option_or (option_map (λ i. length front + i) (last_place account behind)) (last_place account front)
unfolding last_place
last_joined account [] behind = from_none (last_place account behind)
last_joined account (row ∷ front) behind =
    let own : Option ℕ = then_some (is_of account row) 0 in
    ap (λ o. option_or (option_map suc o) own) (last_joined account front behind) ∙ one_further (length front) (last_place account behind) (last_place account front) own

module _ (account : List ℕ) (rows : List Fields) (start end : ℕ) (less : start ≤ end) (room : end ≤ length rows) where
  joined : last_place account (take end rows) ≡ option_or (option_map (λ i. start + i) (last_place account (take (end - start) (drop start rows)))) (last_place account (take start rows))
  joined =
      let whole : start + (end - start) ≡ end = omega arith in
      let long = length-take-le start rows (omega arith) in
      ap (λ n. last_place account (take n rows)) (sym whole)
      ∙ (ap (last_place account) (take-add start (end - start) rows)
      ∙ (last_joined account (take start rows) (take (end - start) (drop start rows))
      ∙ ap (λ n. option_or (option_map (λ i. n + i) (last_place account (take (end - start) (drop start rows)))) (last_place account (take start rows))) long))

  last_behind : (i : ℕ) → Some i ≡ last_place account (take (end - start) (drop start rows)) → Some (start + i) ≡ last_place account (take end rows)
  last_behind i e = sym (joined ∙ ap (λ (o : Option ℕ). option_or (option_map (λ i. start + i) o) (last_place account (take start rows))) (sym e))

  last_before : None ≡ last_place account (take (end - start) (drop start rows)) → last_place account (take start rows) ≡ last_place account (take end rows)
  last_before e = sym (joined ∙ ap (λ (o : Option ℕ). option_or (option_map (λ i. start + i) o) (last_place account (take start rows))) (sym e))

  -- found behind the first ones, else among them
  pub last_of_both :
      (found there r : Option ℕ)
      → found ≡ last_place account (take (end - start) (drop start rows))
      → MatchOption found (there ≡ None) (λ i. there ≡ Some (start + i))
      → MatchOption there (r ≡ last_place account (take start rows)) (λ i. r ≡ Some i)
      → r ≡ last_place account (take end rows)
  last_of_both None there r e told given = subst (λ (o : Option ℕ). MatchOption o (r ≡ last_place account (take start rows)) (λ i. r ≡ Some i)) told given ∙ last_before e
  last_of_both (Some i) there r e told given = subst (λ (o : Option ℕ). MatchOption o (r ≡ last_place account (take start rows)) (λ k. r ≡ Some k)) told given ∙ last_behind i e

module _ (account : List ℕ) (all : List Fields) (n : ℕ) (room : n ≤ length all) where
  last_within : (i : ℕ) → Some i ≡ last_place account (take n all) → i < n
  last_within i e = let inside = (last_stands account (take n all) i (sym e)).inside in let long = length-take-le n all room in omega arith

  pub last_inside : (place : Option ℕ) (m : ℕ) → place ≡ last_place account (take n all) → n ≤ m → IfSome place (λ i. i < m)
  last_inside None m e less = tt
  last_inside (Some i) m e less = let inside = last_within i e in omega arith

  -- the row at the last place of an account is the latest
  pub latest_told : (place : Option ℕ) (d : Fields) → place ≡ last_place account (take n all) → option_map (λ i. get_or all i d) place ≡ latest account (take n all)
  latest_told None d e = sym (latest_last account (take n all) d ∙ ap (option_map (λ i. get_or (take n all) i d)) (sym e))
  latest_told (Some i) d e =
      ap Some (sym (get_or-take n all i d (last_within i e))) ∙ sym (latest_last account (take n all) d ∙ ap (option_map (λ k. get_or (take n all) k d)) (sym e))

-- WHERE AN ACCOUNT STANDS AMONG ACCOUNTS

module _ (account : List ℕ) where
  index_none : (first : ℕ) (all : List (List ℕ)) → ((k : ℕ) → k < length all → bytes_eq (get_or all k []) account ≡ false) → index_from first account all ≡ None
  unfolding index_from
  index_none first [] none = refl
  index_none first (other ∷ rest) none =
      let more = index_none (first + 1) rest (λ k inside. none (suc k) (omega arith)) in
      let here = none 0 (omega arith) in
      grind arith

  index_some : (first : ℕ) (all : List (List ℕ)) (i : ℕ) → i < length all → bytes_eq (get_or all i []) account ≡ true → ((k : ℕ) → k < i → bytes_eq (get_or all k []) account ≡ false) → index_from first account all ≡ Some (first + i)
  unfolding index_from
  index_some first [] i inside here before = absurd (omega arith)
  index_some first (other ∷ rest) zero inside here before = grind arith
  index_some first (other ∷ rest) (suc i) inside here before =
      let more = index_some (first + 1) rest i (omega arith) here (λ k inside. before (suc k) (omega arith)) in
      let first_other = before 0 (omega arith) in
      grind arith

-- the place of the first of the accounts that is the account
pub index_sought :
    (account : List ℕ) (all : List (List ℕ)) (r : Option ℕ)
    → MatchOption r ((k : ℕ) → k < length all → bytes_eq (get_or all k []) account ≡ false) (λ i. (i < length all) × (bytes_eq (get_or all i []) account ≡ true) × ((k : ℕ) → k < i → bytes_eq (get_or all k []) account ≡ false))
    → r ≡ index_of account all
index_sought account all None h = sym (index_none account 0 all h)
index_sought account all (Some i) h = let e = index_some account 0 all i h.0 h.1 h.2 in grind arith
