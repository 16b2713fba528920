-- What the calls of a book do.
--   Outcome      a call is refused, or it is done, with an answer and what the book means behind it
--   answer       what a call answers
--   after        what a book means behind a call: a refusal changes nothing
--   when_done    one of two values, by whether a call is done or refused
--   opening, adding, committing, cancelling   the calls
use Rattle.std.specs.Prelude.{ℕ, cond, [], ◌∷◌, ◌++◌, length, Some, None, Ok, Err, Result, ◌==◌}
use Rattle.rows.specs.declared.fields.Fields.{Fields}
use Rattle.cashbook.specs.declared.fault.BookFault.{BookFault}
use Rattle.cashbook.specs.declared.fault.BookFault.TheVariants.{BatchOpen, NoRoom, NoBatch}
use Rattle.cashbook.specs.Meaning.{Meaning, meaning, is_open, batch_rows, all_rows, free_rows}

pub data Outcome (T : Type 0) : Type 0 where
  refused : BookFault → Outcome T
  done : T → Meaning → Outcome T

abbrev pub answer : {T : Type 0} → Outcome T → Result T BookFault
answer (refused fault) = Err fault
answer (done x b) = Ok x

abbrev pub after : {T : Type 0} → Meaning → Outcome T → Meaning
after before (refused fault) = before
after before (done x b) = b

abbrev pub when_done : {T X : Type 0} → Outcome T → X → X → X
when_done (refused fault) new old = old
when_done (done x b) new old = new

-- what a book means once a call is done
abbrev pub opened : Meaning → Meaning
opened b = meaning b.capacity b.kept (Some [])

abbrev pub added : Meaning → Fields → Meaning
added b row = meaning b.capacity b.kept (Some (batch_rows b ++ row ∷ []))

abbrev pub committed : Meaning → Meaning
committed b = meaning b.capacity (all_rows b) None

abbrev pub cancelled : Meaning → Meaning
cancelled b = meaning b.capacity b.kept None

-- the calls
abbrev pub opening : Meaning → Outcome (Unit {0})
opening b = cond (is_open b) (refused BatchOpen) (done tt (opened b))

abbrev pub adding : Meaning → Fields → Outcome (Unit {0})
adding b row = cond (is_open b) (cond (free_rows b == 0) (refused NoRoom) (done tt (added b row))) (refused NoBatch)

abbrev pub committing : Meaning → Outcome ℕ
committing b = cond (is_open b) (done (length (batch_rows b)) (committed b)) (refused NoBatch)

abbrev pub cancelling : Meaning → Outcome ℕ
cancelling b = cond (is_open b) (done (length (batch_rows b)) (cancelled b)) (refused NoBatch)
