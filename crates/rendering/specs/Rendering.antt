-- Records written from their parts.
--   Part       bytes as wide as a field and of its form
--   Parts      a part for each field
--   Conforms   128 bytes of which every field is of its form
use Rattle.std.specs.Prelude.{◌≡◌, ℕ, ◌+◌, ◌<◌, true, List, [], ◌∷◌, length, Some, None, slice_index_or}
use Rattle.recordbytes.specs.Classes.{is_plain}
use Rattle.recordbytes.specs.Joins.{joined}
use Rattle.recordbytes.specs.Walks.{first_failing}
use Rattle.layout.specs.Forms.{holds}
use Rattle.layout.specs.Kinds.{kind_of}
use Rattle.layout.specs.Layouts.{Field, layout, bytes_of, is_formed, first_misformed}
use Rattle.layout.specs.declared.kind.Kind.{Kind}

abbrev pub Part : Field → List ℕ → Type 0
Part f p = (f.first + length p ≡ f.last + 1) × (holds f.form p ≡ true)

infixr 40 ◌then◌
pub data Parts : List Field → List (List ℕ) → Type 0 where
  none : Parts [] []
  ◌then◌ : {f : Field} {p : List ℕ} {fs : List Field} {ps : List (List ℕ)} → Part f p → Parts fs ps → Parts (f ∷ fs) (p ∷ ps)

abbrev pub Conforms : Kind → List ℕ → Type 0
Conforms k b = (length b ≡ 128) × (first_misformed k b ≡ None)

-- a record is written from its parts, has them as its fields, and tells its kind
pub record RecordsAreWritten : Type 0 where
  pub written : (k : Kind) (ps : List (List ℕ)) → Parts (layout k) ps → Conforms k (joined ps)
  pub part_back : (k : Kind) (ps : List (List ℕ)) (d : Field) → Parts (layout k) ps → (i : ℕ) → i < length (layout k) → bytes_of (joined ps) (slice_index_or (layout k) i d) ≡ slice_index_or ps i []
  pub kind : (k : Kind) (b : List ℕ) → Conforms k b → kind_of b ≡ Some k
  pub plain : (k : Kind) (b : List ℕ) → Conforms k b → first_failing is_plain b ≡ None
  pub formed : (k : Kind) (b : List ℕ) (d : Field) (i : ℕ) → i < length (layout k) → Conforms k b → is_formed b (slice_index_or (layout k) i d) ≡ true
