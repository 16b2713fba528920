-- What a book cites for its soundness when it keeps its rows in a list by its numbers.
--   counted_sound   numbers in order, room in the list, and rows in it give a sound meaning
use Rattle.std.specs.Prelude.{◌≡◌, ℕ, ◌+◌, ◌≤◌, true, List, length, take, drop, Some, None, Option}
use Rattle.std.proofs.Common.{sym, ap, ◌∙◌, add-zero, arith, length-drop, take-add}
use Rattle.std.proofs.lemmas.List.{length-take-le, append-nil}
use Rattle.rows.specs.declared.fields.Fields.{Fields}
use Rattle.cashbook.specs.Meaning.{Sound, are_rows, all_rows, batch_rows}
use Rattle.cashbook.specs.Counting.{figure, used, counted}

module _ (capacity kept : ℕ) (rows : List Fields) where
  -- the rows in use stand first in the list
  pub all_counted : (batch : Option ℕ) → all_rows (counted (figure capacity kept batch) rows) ≡ take (used (figure capacity kept batch)) rows
  all_counted None = append-nil (take kept rows) ∙ ap (λ n. take n rows) (sym (add-zero kept))
  all_counted (Some n) = sym (take-add kept n rows)

  pub counted_batch : (batch : Option ℕ) → used (figure capacity kept batch) ≤ length rows → length (batch_rows (counted (figure capacity kept batch) rows)) + kept ≡ used (figure capacity kept batch)
  counted_batch None h = omega arith
  counted_batch (Some n) h = let e = length-take-le n (drop kept rows) (omega (arith, length-drop kept rows)) in omega arith

  pub counted_sound :
      (batch : Option ℕ) → capacity ≤ 100000 → used (figure capacity kept batch) ≤ capacity → capacity ≤ length rows
      → are_rows (take (used (figure capacity kept batch)) rows) ≡ true → Sound (counted (figure capacity kept batch) rows)
  counted_sound batch small room backed fine =
      record {
        small = small;
        room = (let e = length-take-le kept rows (omega arith) in let b = counted_batch batch (omega arith) in omega arith);
        rows = ap are_rows (all_counted batch) ∙ fine;
      }
