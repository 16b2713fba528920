-- Number, record, position and cause of every fault. What is not given is 0.
use Rattle.std.specs.Prelude.{ℕ}
use Rattle.grammar.specs.declared.faults.RecordFault.{RecordFault}
use Rattle.grammar.specs.declared.faults.RecordFault.TheVariants.{Forbidden, Unknown, Misformed}
use Rattle.grammar.specs.declared.faults.StatementFault.{StatementFault}
use Rattle.grammar.specs.declared.faults.StatementFault.TheVariants.{Record, Misplaced, Number, Money}
use Rattle.grammar.specs.declared.faults.FileFault.{FileFault}
use Rattle.grammar.specs.declared.faults.FileFault.TheVariants.{Source, Statement, EndsEarly, TooManySlots}

abbrev pub record_number : RecordFault → ℕ
record_number (Forbidden p) = 2
record_number Unknown = 3
record_number (Misformed p) = 4

abbrev pub record_position : RecordFault → ℕ
record_position (Forbidden p) = p
record_position Unknown = 1
record_position (Misformed p) = p

abbrev pub statement_number : StatementFault → ℕ
statement_number (Record f) = record_number f
statement_number Misplaced = 3
statement_number (Number p) = 5
statement_number (Money p) = 6

abbrev pub statement_position : StatementFault → ℕ
statement_position (Record f) = record_position f
statement_position Misplaced = 1
statement_position (Number p) = p
statement_position (Money p) = p

abbrev pub fault_number : FileFault → ℕ
fault_number (Source f) = 1
fault_number (Statement f) = statement_number f.fault
fault_number (EndsEarly slot) = 7
fault_number TooManySlots = 8

abbrev pub fault_record : FileFault → ℕ
fault_record (Source f) = f.slot
fault_record (Statement f) = f.slot
fault_record (EndsEarly slot) = slot
fault_record TooManySlots = 0

abbrev pub fault_position : FileFault → ℕ
fault_position (Source f) = 0
fault_position (Statement f) = statement_position f.fault
fault_position (EndsEarly slot) = 0
fault_position TooManySlots = 0

abbrev pub fault_cause : FileFault → ℕ
fault_cause (Source f) = f.damage.cause
fault_cause (Statement f) = 0
fault_cause (EndsEarly slot) = 0
fault_cause TooManySlots = 0
