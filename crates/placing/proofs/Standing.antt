-- What stands at the places: the latest statement row of each account.
use Rattle.std.proofs.Common.{◌≡◌, ℕ, suc, ◌<◌, ◌≤◌, true, List, [], ◌∷◌, length, get_or, is_some, Some, None, Option, unwrap_or, sym, refl, ap, ◌∙◌, inl, inr, arith}
use Rattle.std.specs.Option.{option_map}
use Rattle.std.specs.Str.{bytes_eq}
use Rattle.std.proofs.lemmas.Slice.Eq.{bytes_eq-Decides}
use Rattle.std.proofs.lemmas.List.{get_or-map, length-map}
use Rattle.std.proofs.lemmas.Bool.{cases_Bool}
use Rattle.rows.specs.declared.fields.Fields.{Fields}
use Rattle.rows.specs.declared.fields.Fields.TheVariants.{Movement, Statement}
use Rattle.rows.specs.Accounts.{is_of}
use Rattle.cashbook.specs.Questions.{latest}
use Rattle.placing.specs.Places.{accounts, last_place, places, index_of}
use Rattle.placing.proofs.Walking.{among_at, among_index, index_found}
use Rattle.placing.proofs.Accounts.{same_itself, few_accounts, among_accounts}

pub length_places : (rows : List Fields) → length (places rows) ≡ length (accounts rows)
unfolding places
length_places rows = length-map (accounts rows) (λ account. unwrap_or (last_place account rows) 0)

pub few_places : (rows : List Fields) → length (places rows) ≤ length rows
few_places rows = omega (arith, length_places rows, few_accounts rows)

-- THE LAST PLACE OF AN ACCOUNT

some_value : (o : Option ℕ) → is_some o ≡ true → o ≡ Some (unwrap_or o 0)
some_value o e = grind arith

row_of : (account : List ℕ) (row : Fields) → is_of account row ≡ true → (a : List ℕ) → is_of a row ≡ bytes_eq account a
row_of account (Movement m) e a = grind arith
row_of account (Statement s) e a = ap (λ own. bytes_eq own a) ((bytes_eq-Decides s.account account).0 e)

-- a statement row of an account stands at a place
pub record Stands (account : List ℕ) (rows : List Fields) (place : ℕ) : Type 0 where
  pub inside : place < length rows
  own : (d : Fields) (a : List ℕ) → is_of a (get_or rows place d) ≡ bytes_eq account a

pub last_stands : (account : List ℕ) (rows : List Fields) (place : ℕ) → last_place account rows ≡ Some place → Stands account rows place
unfolding last_place
last_stands account [] place e = absurd (grind arith)
last_stands account (row ∷ rows) place e =
    let later = last_place account rows in
    elim (cases_Bool (is_some later)) [
      | inl t ↦
          let s = last_stands account rows (unwrap_or later 0) (some_value later t) in
          let q : place ≡ suc (unwrap_or later 0) = grind arith in
          rw q (record { inside = omega (arith, s.inside); own = s.own })
      | inr t ↦
          let q : place ≡ 0 = grind arith in
          rw q (record { inside = omega arith; own = λ _. row_of account row (grind arith) })
    ]

pub latest_last : (account : List ℕ) (rows : List Fields) (d : Fields) → latest account rows ≡ option_map (λ place. get_or rows place d) (last_place account rows)
unfolding last_place
latest_last account [] d = refl
latest_last account (row ∷ rows) d = let h = latest_last account rows d in grind arith

-- THE PLACES

place_last : (rows : List Fields) (j : ℕ) → j < length (accounts rows) → last_place (get_or (accounts rows) j []) rows ≡ Some (get_or (places rows) j 0)
unfolding places
place_last rows j inside =
    let account = get_or (accounts rows) j [] in
    some_value (last_place account rows) (sym (among_accounts account rows) ∙ among_at account (accounts rows) j inside (same_itself account))
    ∙ ap Some (sym (get_or-map (λ a. unwrap_or (last_place a rows) 0) (accounts rows) j [] 0 inside))

place_stands : (rows : List Fields) (j : ℕ) → j < length (places rows) → Stands (get_or (accounts rows) j []) rows (get_or (places rows) j 0)
place_stands rows j inside = last_stands (get_or (accounts rows) j []) rows (get_or (places rows) j 0) (place_last rows j (omega (arith, length_places rows)))

pub place_inside : (rows : List Fields) (j : ℕ) → j < length (places rows) → get_or (places rows) j 0 < length rows
place_inside rows j inside = (place_stands rows j inside).inside

pub place_of : (rows : List Fields) (j : ℕ) → j < length (places rows) → (d : Fields) (account : List ℕ) → is_of account (get_or rows (get_or (places rows) j 0) d) ≡ bytes_eq (get_or (accounts rows) j []) account
place_of rows j inside = (place_stands rows j inside).own

-- THE LATEST ROW

pub last_found : (account : List ℕ) (rows : List Fields) (j : ℕ) → index_of account (accounts rows) ≡ Some j → last_place account rows ≡ Some (get_or (places rows) j 0)
last_found account rows j e =
    let h = index_found account (accounts rows) j e in
    rw (sym ((bytes_eq-Decides (get_or (accounts rows) j []) account).0 h.1)) (place_last rows j h.0)

pub last_missing : (account : List ℕ) (rows : List Fields) → index_of account (accounts rows) ≡ None → last_place account rows ≡ None
last_missing account rows e = grind (arith, among_accounts account rows, among_index 0 account (accounts rows))

pub latest_found : (account : List ℕ) (rows : List Fields) (d : Fields) (j : ℕ) → index_of account (accounts rows) ≡ Some j → latest account rows ≡ Some (get_or rows (get_or (places rows) j 0) d)
latest_found account rows d j e = rw (latest_last account rows d, last_found account rows j e)

pub latest_none : (account : List ℕ) (rows : List Fields) → index_of account (accounts rows) ≡ None → latest account rows ≡ None
latest_none account [] e = refl
latest_none account (row ∷ rows) e = rw (latest_last account (row ∷ rows) row, last_missing account (row ∷ rows) e)
