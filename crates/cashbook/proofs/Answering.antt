-- The answers of a question, by what it found.
use Rattle.std.proofs.Common.{◌≡◌, Bool, true, false, is_some, Some, None, Ok, Err, Option, sym, refl, ap, ◌∙◌, subst}
use Rattle.rows.specs.Held.{fields_of}
use Rattle.rows.specs.declared.fields.Fields.{Fields}
use Rattle.rows.specs.declared.row.Row.{Row}
use Rattle.cashbook.specs.declared.fault.BookFault.TheVariants.{NoRow}
use Rattle.cashbook.specs.Questions.{Puts, row_answer}

pub record Found (o : Option Fields) (before behind : Row) : Type 0 where
  pub answers : Ok tt ≡ row_answer o
  pub told : true ≡ is_some o
  pub puts : Puts o before behind

pub found : (o : Option Fields) (before behind : Row) (row : Fields) → o ≡ Some row → fields_of behind ≡ row → Found o before behind
found o before behind row e put =
    record { answers = ap row_answer (sym e); told = ap is_some (sym e); puts = subst (λ (p : Option Fields). Puts p before behind) (sym e) put }

pub record Missed (o : Option Fields) (row : Row) : Type 0 where
  pub answers : Err NoRow ≡ row_answer o
  pub told : false ≡ is_some o
  pub puts : Puts o row row

pub missed : (o : Option Fields) (row : Row) → o ≡ None → Missed o row
missed o row e = record { answers = ap row_answer (sym e); told = ap is_some (sym e); puts = subst (λ (p : Option Fields). Puts p row row) (sym e) refl }

-- the same answer, told of an equal finding
pub told_of : (o p : Option Fields) (r : Bool) (before behind : Row) → o ≡ p → r ≡ is_some o → Puts o before behind → (r ≡ is_some p) × Puts p before behind
told_of o p r before behind e answers puts = (answers ∙ ap is_some e, subst (λ (q : Option Fields). Puts q before behind) e puts)
