-- What the memory of a book on a table holds.
--   means_of       what the book means
--   rows_in        the caller's list of rows
--   places_in      the caller's list of places
--   with_row       the list of rows behind an add: the row behind those in use, or at a refusal what it was
--   with_places    the list of places behind a commit: those of all rows first, or at a refusal what it was
--   HoldsRows      a list of rows begins with those of a meaning
--   HoldsPlaces    a list of places begins with those of the kept rows
use Rattle.std.specs.Prelude.{◌≡◌, ℕ, min, List, length, take, slice_set}
use Rattle.rows.specs.declared.fields.Fields.{Fields}
use Rattle.cashbook.specs.Calls.{adding, committing, when_done}
use Rattle.cashbook.specs.Counting.{figures, counted}
use Rattle.cashbook.specs.Meaning.{Meaning, all_rows}
use Rattle.placing.specs.Places.{places}
use Rattle.tablebook.specs.Held.{placed}
use Rattle.tablebook.specs.declared.table.TableBook.{TableBook}

abbrev pub rows_in : TableBook → List Fields
rows_in s = s.memory.rows.now

abbrev pub places_in : TableBook → List ℕ
places_in s = s.memory.places.now

abbrev pub means_of : TableBook → Meaning
means_of s = counted (figures s.counts) (rows_in s)

-- the shorter length, at most 100,000
abbrev pub table_capacity : List Fields → List ℕ → ℕ
table_capacity rows held = min (min (length rows) (length held)) 100000

abbrev pub with_row : Meaning → Fields → List Fields → List Fields
with_row b row rows = when_done (adding b row) (slice_set rows (length (all_rows b)) row) rows

abbrev pub with_places : Meaning → List ℕ → List ℕ
with_places b held = when_done (committing b) (placed (all_rows b) held) held

abbrev pub HoldsRows : Meaning → List Fields → Type 0
HoldsRows b rows = take (length (all_rows b)) rows ≡ all_rows b

abbrev pub HoldsPlaces : Meaning → List ℕ → Type 0
HoldsPlaces b held = take (length (places b.kept)) held ≡ places b.kept
