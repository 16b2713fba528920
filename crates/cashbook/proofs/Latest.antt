-- The latest statement row of an account, sought from the end.
use Rattle.std.proofs.Common.{◌≡◌, ℕ, ◌+◌, ◌-◌, ◌<◌, ◌≤◌, true, false, cond, List, [], ◌∷◌, ◌++◌, length, get_or, take, Some, ap, ◌∙◌, arith}
use Rattle.std.proofs.lemmas.List.{take_more}
use Rattle.std.proofs.lemmas.Bool.{cond-true, cond-false}
use Rattle.rows.specs.Accounts.{is_of}
use Rattle.rows.specs.declared.fields.Fields.{Fields}
use Rattle.cashbook.specs.Questions.{latest}

-- with one row more at the end
pub latest_push : (account : List ℕ) (rows : List Fields) (row : Fields) → latest account (rows ++ row ∷ []) ≡ cond (is_of account row) (Some row) (latest account rows)
latest_push account [] row = grind arith
latest_push account (first ∷ rows) row = let h = latest_push account rows row in grind arith

-- among the first rows, by the last of them
module _ (account : List ℕ) (rows : List Fields) (i : ℕ) (d : Fields) (some : 0 < i) (inside : i ≤ length rows) where
  abbrev last : Fields
  last = get_or rows (i - 1) d

  back : latest account (take i rows) ≡ cond (is_of account last) (Some last) (latest account (take (i - 1) rows))
  back =
      let whole : i ≡ i - 1 + 1 = omega arith in
      ap (λ n. latest account (take n rows)) whole ∙ (ap (latest account) (take_more rows (i - 1) d (omega arith)) ∙ latest_push account (take (i - 1) rows) last)

  pub latest_here : is_of account last ≡ true → latest account (take i rows) ≡ Some last
  latest_here t = back ∙ cond-true (is_of account last) (Some last) (latest account (take (i - 1) rows)) t

  pub latest_before : is_of account last ≡ false → latest account (take i rows) ≡ latest account (take (i - 1) rows)
  latest_before t = back ∙ cond-false (is_of account last) (Some last) (latest account (take (i - 1) rows)) t
