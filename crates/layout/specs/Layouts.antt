-- The layouts of the eleven records.
--   field    its first and its last position, counted from 1, and its form
--   layout   the fields of a kind of record, from the left
--   tiles    the fields follow on without a gap
use Rattle.std.specs.Prelude.{◌≡◌, ℕ, ◌+◌, Bool, true, cond, ◌&&◌, List, [], ◌∷◌, Some, None, codes, Option, ◌==◌, nat_le}
use Rattle.recordbytes.specs.Spans.{span}
use Rattle.layout.specs.declared.kind.Kind.{Kind}
use Rattle.layout.specs.declared.kind.Kind.TheVariants.{Header, OldBalance, Movement, MovementSecond, Counterparty, Information, InformationSecond, InformationThird, NewBalance, FreeCommunication, Trailer}
use Rattle.layout.specs.Forms.{Form, Digits, Text, Spaces, Day, DayOrZeros, Sign, Flag, Is, OneOf, holds}

pub record Field : Type 0 where
  pub first : ℕ
  pub last : ℕ
  pub form : Form

abbrev pub field : ℕ → ℕ → Form → Field
field a z f = record { first = a; last = z; form = f }

abbrev pub layout : Kind → List Field
layout Header =
    field 1 1 (Is (codes "0"))
    ∷ field 2 5 (Is (codes "0000"))
    ∷ field 6 11 Day
    ∷ field 12 14 Digits
    ∷ field 15 16 (Is (codes "05"))
    ∷ field 17 17 (OneOf (codes "D "))
    ∷ field 18 24 Spaces
    ∷ field 25 71 Text
    ∷ field 72 82 Digits
    ∷ field 83 83 Spaces
    ∷ field 84 88 (Is (codes "00000"))
    ∷ field 89 120 Text
    ∷ field 121 127 Spaces
    ∷ field 128 128 (Is (codes "2"))
    ∷ []
layout OldBalance =
    field 1 1 (Is (codes "1"))
    ∷ field 2 2 (OneOf (codes "0123"))
    ∷ field 3 5 Digits
    ∷ field 6 42 Text
    ∷ field 43 43 Sign
    ∷ field 44 58 Digits
    ∷ field 59 64 Day
    ∷ field 65 125 Text
    ∷ field 126 128 Digits
    ∷ []
layout Movement =
    field 1 2 (Is (codes "21"))
    ∷ field 3 6 Digits
    ∷ field 7 10 Digits
    ∷ field 11 31 Text
    ∷ field 32 32 Sign
    ∷ field 33 47 Digits
    ∷ field 48 53 DayOrZeros
    ∷ field 54 61 Digits
    ∷ field 62 62 Flag
    ∷ field 63 115 Text
    ∷ field 116 121 Day
    ∷ field 122 124 Digits
    ∷ field 125 125 Digits
    ∷ field 126 126 Flag
    ∷ field 127 127 Spaces
    ∷ field 128 128 Flag
    ∷ []
layout MovementSecond =
    field 1 2 (Is (codes "22"))
    ∷ field 3 6 Digits
    ∷ field 7 10 Digits
    ∷ field 11 109 Text
    ∷ field 110 117 Spaces
    ∷ field 118 125 Text
    ∷ field 126 126 Flag
    ∷ field 127 127 Spaces
    ∷ field 128 128 Flag
    ∷ []
layout Counterparty =
    field 1 2 (Is (codes "23"))
    ∷ field 3 6 Digits
    ∷ field 7 10 Digits
    ∷ field 11 47 Text
    ∷ field 48 82 Text
    ∷ field 83 125 Text
    ∷ field 126 126 (Is (codes "0"))
    ∷ field 127 127 Spaces
    ∷ field 128 128 Flag
    ∷ []
layout Information =
    field 1 2 (Is (codes "31"))
    ∷ field 3 6 Digits
    ∷ field 7 10 Digits
    ∷ field 11 31 Text
    ∷ field 32 39 Digits
    ∷ field 40 40 Flag
    ∷ field 41 113 Text
    ∷ field 114 125 Spaces
    ∷ field 126 126 Flag
    ∷ field 127 127 Spaces
    ∷ field 128 128 Flag
    ∷ []
layout InformationSecond =
    field 1 2 (Is (codes "32"))
    ∷ field 3 6 Digits
    ∷ field 7 10 Digits
    ∷ field 11 115 Text
    ∷ field 116 125 Spaces
    ∷ field 126 126 Flag
    ∷ field 127 127 Spaces
    ∷ field 128 128 Flag
    ∷ []
layout InformationThird =
    field 1 2 (Is (codes "33"))
    ∷ field 3 6 Digits
    ∷ field 7 10 Digits
    ∷ field 11 100 Text
    ∷ field 101 125 Spaces
    ∷ field 126 126 (Is (codes "0"))
    ∷ field 127 127 Spaces
    ∷ field 128 128 Flag
    ∷ []
layout NewBalance =
    field 1 1 (Is (codes "8"))
    ∷ field 2 4 Digits
    ∷ field 5 41 Text
    ∷ field 42 42 Sign
    ∷ field 43 57 Digits
    ∷ field 58 63 Day
    ∷ field 64 127 Spaces
    ∷ field 128 128 Flag
    ∷ []
layout FreeCommunication =
    field 1 1 (Is (codes "4"))
    ∷ field 2 2 Spaces
    ∷ field 3 6 Digits
    ∷ field 7 10 Digits
    ∷ field 11 32 Spaces
    ∷ field 33 112 Text
    ∷ field 113 127 Spaces
    ∷ field 128 128 Flag
    ∷ []
layout Trailer =
    field 1 1 (Is (codes "9"))
    ∷ field 2 16 Spaces
    ∷ field 17 22 Digits
    ∷ field 23 37 Digits
    ∷ field 38 52 Digits
    ∷ field 53 127 Spaces
    ∷ field 128 128 (OneOf (codes "12"))
    ∷ []

-- the bytes of a field
abbrev pub bytes_of : List ℕ → Field → List ℕ
bytes_of bytes f = span bytes f.first f.last

-- a field is of its form
abbrev pub is_formed : List ℕ → Field → Bool
is_formed bytes f = holds f.form (bytes_of bytes f)

-- the start of the leftmost of some fields that is not of its form
abbrev pub first_misformed_of : List Field → List ℕ → Option ℕ
first_misformed_of [] bytes = None
first_misformed_of (f ∷ fs) bytes = cond (is_formed bytes f) (first_misformed_of fs bytes) (Some f.first)

unfoldable pub first_misformed : Kind → List ℕ → Option ℕ
first_misformed kind bytes = first_misformed_of (layout kind) bytes

-- fields follow on from a position to the last
abbrev pub tiles : ℕ → List Field → Bool
tiles position [] = position == 129
tiles position (f ∷ fs) = f.first == position && (nat_le f.first f.last && tiles (f.last + 1) fs)

abbrev pub LayoutsTile : Type 0
LayoutsTile = (kind : Kind) → tiles 1 (layout kind) ≡ true
