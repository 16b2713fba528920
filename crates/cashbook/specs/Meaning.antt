-- What a cash book means.
--   Meaning      a capacity, the kept rows, and no batch or a batch of rows
--   is_open      a batch is open
--   batch_rows   the rows of the batch; none where no batch is open
--   all_rows     the kept rows and behind them those of the batch
--   free_rows    how many rows there is room for yet
--   Sound        what every book keeps to
use Rattle.std.specs.Prelude.{◌≡◌, ℕ, ◌+◌, ◌-◌, ◌≤◌, Bool, true, List, [], ◌++◌, length, is_some, Option}
use Rattle.std.specs.Option.{unwrap_or}
use Rattle.recordbytes.specs.Each.{every}
use Rattle.rows.specs.Rows.{is_row}
use Rattle.rows.specs.declared.fields.Fields.{Fields}

pub record Meaning : Type 0 where
  pub capacity : ℕ
  pub kept : List Fields
  pub batch : Option (List Fields)

abbrev pub meaning : ℕ → List Fields → Option (List Fields) → Meaning
meaning capacity kept batch = record { capacity = capacity; kept = kept; batch = batch }

abbrev pub is_open : Meaning → Bool
is_open b = is_some b.batch

abbrev pub batch_rows : Meaning → List Fields
batch_rows b = unwrap_or b.batch []

abbrev pub all_rows : Meaning → List Fields
all_rows b = b.kept ++ batch_rows b

abbrev pub free_rows : Meaning → ℕ
free_rows b = b.capacity - (length b.kept + length (batch_rows b))

-- each of some fields are those of a row
abbrev pub are_rows : List Fields → Bool
are_rows rows = every is_row rows

pub record Sound (b : Meaning) : Type 0 where
  pub small : b.capacity ≤ 100000
  pub room : length b.kept + length (batch_rows b) ≤ b.capacity
  pub rows : are_rows (all_rows b) ≡ true
