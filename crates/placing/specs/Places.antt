-- Where the latest statement rows of accounts stand among rows.
--   others        all accounts but one
--   accounts      the accounts of the statement rows, each once, in the order in which they first come
--   last_place    the place, counted from 0, of the last statement row of an account
--   places        the place of the last statement row of each account, in the order of the accounts
--   index_from    where an account stands among accounts, counted from a number
--   index_of      the same, counted from 0
use Rattle.std.specs.Prelude.{◌≡◌, ℕ, suc, ◌+◌, cond, List, [], ◌∷◌, ◌++◌, map, length, Some, None, Option, slice_index, slice_index_or, slice_set}
use Rattle.std.specs.Option.{option_map, option_or, unwrap_or}
use Rattle.std.specs.Bool.{then_some}
use Rattle.std.specs.Str.{bytes_eq}
use Rattle.rows.specs.declared.fields.Fields.{Fields}
use Rattle.rows.specs.declared.fields.Fields.TheVariants.{Movement, Statement}
use Rattle.rows.specs.declared.fields.MovementFields.{MovementFields}
use Rattle.rows.specs.declared.fields.StatementFields.{StatementFields}
use Rattle.rows.specs.Accounts.{is_of}
use Rattle.cashbook.specs.Questions.{latest}

unfoldable pub others : List ℕ → List (List ℕ) → List (List ℕ)
others account [] = []
others account (other ∷ rest) = cond (bytes_eq other account) (others account rest) (other ∷ others account rest)

unfoldable pub accounts : List Fields → List (List ℕ)
accounts [] = []
accounts (Movement m ∷ rows) = accounts rows
accounts (Statement s ∷ rows) = s.account ∷ others s.account (accounts rows)

unfoldable pub last_place : List ℕ → List Fields → Option ℕ
last_place account [] = None
last_place account (row ∷ rows) = option_or (option_map suc (last_place account rows)) (then_some (is_of account row) 0)

unfoldable pub places : List Fields → List ℕ
places rows = map (λ account. unwrap_or (last_place account rows) 0) (accounts rows)

unfoldable pub index_from : ℕ → List ℕ → List (List ℕ) → Option ℕ
index_from first account [] = None
index_from first account (other ∷ rest) = cond (bytes_eq other account) (Some first) (index_from (first + 1) account rest)

abbrev pub index_of : List ℕ → List (List ℕ) → Option ℕ
index_of account all = index_from 0 account all

-- the places lead to the latest statement row of each account, and one row more at the end changes one place, adds one or changes nothing
pub record PlacesFollowRows : Type 0 where
  -- an account of the rows has its latest row at its place; another has none
  pub found :
      (account : List ℕ) (rows : List Fields) (d : Fields) (j : ℕ)
      → index_of account (accounts rows) ≡ Some j
      → latest account rows ≡ Some (slice_index_or rows (slice_index (places rows) j) d)
  pub none : (account : List ℕ) (rows : List Fields) → index_of account (accounts rows) ≡ None → latest account rows ≡ None
  -- a movement row changes nothing
  pub movement : (rows : List Fields) (m : MovementFields) → places (rows ++ Movement m ∷ []) ≡ places rows
  -- a statement row of an account of the rows changes its place
  pub known :
      (rows : List Fields) (s : StatementFields) (j : ℕ)
      → index_of s.account (accounts rows) ≡ Some j
      → places (rows ++ Statement s ∷ []) ≡ slice_set (places rows) j (length rows)
  -- one of a new account adds a place
  pub new :
      (rows : List Fields) (s : StatementFields)
      → index_of s.account (accounts rows) ≡ None
      → places (rows ++ Statement s ∷ []) ≡ places rows ++ length rows ∷ []
