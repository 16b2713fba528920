use Rattle.std.proofs.Common.{◌≡◌, map, drop}
use Rattle.layout.specs.Layouts.{first_misformed_of}
use Rattle.layout.specs.Tables.{field_of}
use Rattle.layout.proofs.misformed.first_misformed_of.Given as goal

-- what is left to test
abbrev pub invariant-loop-field : goal.invariant-loop-field
invariant-loop-field l = first_misformed_of (map field_of (drop l.field-index l.fields)) l.bytes ≡ first_misformed_of (map field_of l.fields) l.bytes
