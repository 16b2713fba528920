-- What slots hold, counted by sort.
--   sort       a record of a kind, a record of no known kind, or a damaged slot
--   tally      how many slots are of a sort
--   count_in   how many a survey says they are
use Rattle.std.specs.Prelude.{ℕ, Bool, true, false, List, Some, None, Option, ◌==◌, slice_index, count_by}
use Rattle.layout.specs.declared.kind.Kind.{Kind}
use Rattle.layout.specs.declared.kind.Kind.TheVariants.{Header, OldBalance, Movement, MovementSecond, Counterparty, Information, InformationSecond, InformationThird, NewBalance, FreeCommunication, Trailer}
use Rattle.layout.specs.Kinds.{kind_of}
use Rattle.source.specs.Slots.{Slot, whole, damaged}
use Rattle.survey.specs.declared.Sort.{Sort}
use Rattle.survey.specs.declared.Sort.TheVariants.{Record, Unknown, Damaged}
use Rattle.survey.specs.declared.Survey.{Survey}

-- a number of its own for each kind
abbrev pub kind_number : Kind → ℕ
kind_number Header = 0
kind_number OldBalance = 1
kind_number Movement = 2
kind_number MovementSecond = 3
kind_number Counterparty = 4
kind_number Information = 5
kind_number InformationSecond = 6
kind_number InformationThird = 7
kind_number NewBalance = 8
kind_number FreeCommunication = 9
kind_number Trailer = 10

abbrev pub is_same : Sort → Sort → Bool
is_same (Record one) (Record other) = kind_number one == kind_number other
is_same (Record one) Unknown = false
is_same (Record one) Damaged = false
is_same Unknown (Record other) = false
is_same Unknown Unknown = true
is_same Unknown Damaged = false
is_same Damaged (Record other) = false
is_same Damaged Unknown = false
is_same Damaged Damaged = true

abbrev pub sort_by : Option Kind → Sort
sort_by None = Unknown
sort_by (Some kind) = Record kind

abbrev pub sort_of : Slot → Sort
sort_of (whole bytes) = sort_by (kind_of bytes)
sort_of (damaged damage) = Damaged

abbrev pub tally : Sort → List Slot → ℕ
tally sort slots = count_by (λ slot. is_same (sort_of slot) sort) slots

abbrev pub count_in : Survey → Sort → ℕ
count_in survey (Record kind) = slice_index survey.kinds (kind_number kind)
count_in survey Unknown = survey.unknown
count_in survey Damaged = survey.damaged
