-- What the memory of a book on an image holds.
--   means_of      what the book means
--   memory        the caller's bytes
--   rewritten     the bytes behind a call that writes no row: the new header, or at a refusal what they were
--   with_row      the bytes behind an add: the row behind those in use and the new header, or at a refusal what they were
use Rattle.std.specs.Prelude.{ℕ, List, length}
use Rattle.rows.specs.declared.fields.Fields.{Fields}
use Rattle.cashbook.specs.Calls.{Outcome, after, adding, when_done}
use Rattle.cashbook.specs.Counting.{figures, figures_of, counted}
use Rattle.cashbook.specs.Meaning.{Meaning, all_rows}
use Rattle.rowbytes.specs.RowBytes.{row_bytes}
use Rattle.images.specs.Images.{image_rows, put_row, put_header, Exact}
use Rattle.imagebook.specs.declared.book.ImageBook.{ImageBook}

abbrev pub memory : ImageBook → List ℕ
memory s = s.bytes.now

abbrev pub means_of : ImageBook → Meaning
means_of s = counted (figures s.counts) (image_rows s.counts.capacity (memory s))

abbrev pub rewritten : {T : Type 0} → Meaning → Outcome T → List ℕ → List ℕ
rewritten b outcome bytes = when_done outcome (put_header (figures_of (after b outcome)) bytes) bytes

abbrev pub with_row : Meaning → Fields → List ℕ → List ℕ
with_row b row bytes = when_done (adding b row) (put_header (figures_of (after b (adding b row))) (put_row (length (all_rows b)) (row_bytes row) bytes)) bytes

-- whatever calls made it, the image of a book is exactly that of its meaning
abbrev pub ImagesAreExact : Type 0
ImagesAreExact = (s : ImageBook) → Exact (means_of s) (memory s)
