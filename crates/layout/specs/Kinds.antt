-- The kind of a record, told from its first two bytes, or none of the eleven.
use Rattle.std.specs.Prelude.{ℕ, cond, List, Some, None, Option, ◌==◌, slice_index}
use Rattle.layout.specs.declared.kind.Kind.{Kind}
use Rattle.layout.specs.declared.kind.Kind.TheVariants.{Header, OldBalance, Movement, MovementSecond, Counterparty, Information, InformationSecond, InformationThird, NewBalance, FreeCommunication, Trailer}

-- one of three kinds, by the article code in byte 2
abbrev pub by_article : ℕ → Kind → Kind → Kind → Option Kind
by_article code one two three =
    cond (code == 49) (Some one) (cond (code == 50) (Some two) (cond (code == 51) (Some three) None))

abbrev pub kind_by : ℕ → ℕ → Option Kind
kind_by identification article =
    cond (identification == 48) (Some Header)
    (cond (identification == 49) (Some OldBalance)
    (cond (identification == 50) (by_article article Movement MovementSecond Counterparty)
    (cond (identification == 51) (by_article article Information InformationSecond InformationThird)
    (cond (identification == 52) (Some FreeCommunication)
    (cond (identification == 56) (Some NewBalance)
    (cond (identification == 57) (Some Trailer) None))))))

abbrev pub kind_of : List ℕ → Option Kind
kind_of bytes = kind_by (slice_index bytes 0) (slice_index bytes 1)
