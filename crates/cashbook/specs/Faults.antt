-- The number of each refusal of a book.
use Rattle.std.specs.Prelude.{ℕ}
use Rattle.cashbook.specs.declared.fault.BookFault.{BookFault}
use Rattle.cashbook.specs.declared.fault.BookFault.TheVariants.{BatchOpen, NoRoom, NoBatch, NoRow, NoMemory}

abbrev pub number : BookFault → ℕ
number BatchOpen = 21
number NoRoom = 24
number NoBatch = 25
number NoRow = 26
number NoMemory = 27
