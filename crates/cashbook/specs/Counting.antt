-- The numbers of a book, and what a book means that keeps its rows in a list by these numbers.
--   Figures      the capacity, the number of kept rows, and no batch or the number of its rows
--   used         the number of rows in use
--   opened, added, committed, cancelled   the numbers behind a call, or its refusal
--   counted      what a list of rows means: kept rows first, those of the batch behind them
--   figures_of   the numbers of a meaning
use Rattle.std.specs.Prelude.{ℕ, ◌+◌, cond, List, length, take, drop, is_some, Some, None, Ok, Err, Option, Result, ◌==◌}
use Rattle.std.specs.Option.{unwrap_or, option_map}
use Rattle.rows.specs.declared.fields.Fields.{Fields}
use Rattle.cashbook.specs.declared.counts.Counts.{Counts}
use Rattle.cashbook.specs.declared.fault.BookFault.{BookFault}
use Rattle.cashbook.specs.declared.fault.BookFault.TheVariants.{BatchOpen, NoRoom, NoBatch}
use Rattle.cashbook.specs.Meaning.{Meaning, meaning}

pub record Figures : Type 0 where
  pub capacity : ℕ
  pub kept : ℕ
  pub batch : Option ℕ

abbrev pub figure : ℕ → ℕ → Option ℕ → Figures
figure capacity kept batch = record { capacity = capacity; kept = kept; batch = batch }

abbrev pub figures : Counts → Figures
figures c = figure c.capacity c.kept c.batch

abbrev pub counts_result : Result Counts BookFault → Result Figures BookFault
counts_result (Ok c) = Ok (figures c)
counts_result (Err fault) = Err fault

abbrev pub batched : Figures → ℕ
batched f = unwrap_or f.batch 0

abbrev pub used : Figures → ℕ
used f = f.kept + batched f

abbrev pub opened : Figures → Result Figures BookFault
opened f = cond (is_some f.batch) (Err BatchOpen) (Ok (figure f.capacity f.kept (Some 0)))

abbrev pub added : Figures → Result Figures BookFault
added f =
    cond (is_some f.batch)
    (cond (used f == f.capacity) (Err NoRoom) (Ok (figure f.capacity f.kept (Some (batched f + 1)))))
    (Err NoBatch)

abbrev pub committed : Figures → Result Figures BookFault
committed f = cond (is_some f.batch) (Ok (figure f.capacity (used f) None)) (Err NoBatch)

abbrev pub cancelled : Figures → Result Figures BookFault
cancelled f = cond (is_some f.batch) (Ok (figure f.capacity f.kept None)) (Err NoBatch)

abbrev pub counted : Figures → List Fields → Meaning
counted f rows = meaning f.capacity (take f.kept rows) (option_map (λ n. take n (drop f.kept rows)) f.batch)

abbrev pub figures_of : Meaning → Figures
figures_of b = figure b.capacity (length b.kept) (option_map length b.batch)
