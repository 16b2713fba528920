-- Walks over bytes.
--   all             every byte passes a test
--   first_failing   the place, counted from 0, of the first byte that fails a test
use Rattle.std.specs.Prelude.{◌≡◌, ℕ, ◌+◌, ◌<◌, Bool, true, false, cond, List, [], ◌∷◌, length, Some, None, Option, slice_index}
use Rattle.recordbytes.specs.Each.{every}

abbrev pub all : (ℕ → Bool) → List ℕ → Bool
all = every

-- the same place, counted from i
abbrev pub first_failing_from : (ℕ → Bool) → ℕ → List ℕ → Option ℕ
first_failing_from test i [] = None
first_failing_from test i (byte ∷ rest) = cond (test byte) (first_failing_from test (i + 1) rest) (Some i)

abbrev pub first_failing : (ℕ → Bool) → List ℕ → Option ℕ
first_failing test bytes = first_failing_from test 0 bytes

-- what it means to name the first byte that fails
abbrev pub FirstFailing : (ℕ → Bool) → List ℕ → Option ℕ → Type 0
FirstFailing test bytes None = (k : ℕ) → k < length bytes → test (slice_index bytes k) ≡ true
FirstFailing test bytes (Some i) =
    (i < length bytes) × (test (slice_index bytes i) ≡ false) × ((k : ℕ) → k < i → test (slice_index bytes k) ≡ true)
