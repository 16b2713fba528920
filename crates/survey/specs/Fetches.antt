-- The sort of a slot, told from what fetching it answered.
use Rattle.std.specs.Prelude.{ℕ, List, Ok, Err, Result}
use Rattle.layout.specs.Kinds.{kind_of}
use Rattle.source.specs.declared.source.NoRecord.{NoRecord}
use Rattle.survey.specs.declared.Sort.{Sort}
use Rattle.survey.specs.declared.Sort.TheVariants.{Damaged}
use Rattle.survey.specs.Sorts.{sort_by}

abbrev pub fetched_sort : Result (Unit {0}) NoRecord → List ℕ → Sort
fetched_sort (Ok there) bytes = sort_by (kind_of bytes)
fetched_sort (Err reason) bytes = Damaged
