-- The refusal of a fault: the four numbers that are defined for it.
use Rattle.std.specs.Prelude.{◌≡◌}
use Rattle.grammar.specs.declared.faults.FileFault.{FileFault}
use Rattle.grammar.specs.Faults.{fault_number, fault_record, fault_position, fault_cause}
use Rattle.refusals.specs.declared.Refusal.{Refusal}

abbrev pub IsRefusalOf : FileFault → Refusal → Type 0
IsRefusalOf fault refusal =
    refusal ≡ record { number = fault_number fault; «record» = fault_record fault; position = fault_position fault; cause = fault_cause fault }
