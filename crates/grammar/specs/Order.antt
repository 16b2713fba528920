-- Which kinds of record may come next.
use Rattle.std.specs.Prelude.{ℕ, Bool, true, false, cond, ◌||◌, List, [], ◌∷◌, ◌==◌}
use Rattle.layout.specs.declared.kind.Kind.{Kind}
use Rattle.layout.specs.declared.kind.Kind.TheVariants as K
use Rattle.grammar.specs.declared.expect.Expect.{Expect}
use Rattle.grammar.specs.declared.expect.Expect.TheVariants.{Start, Header, OldBalance, Opened, Second, Counterparty, Information, InformationSecond, InformationThird, Further, FirstCommunication, Communication, Trailer, End}

abbrev pub rank : Kind → ℕ
rank K.Header = 0
rank K.OldBalance = 1
rank K.Movement = 2
rank K.MovementSecond = 3
rank K.Counterparty = 4
rank K.Information = 5
rank K.InformationSecond = 6
rank K.InformationThird = 7
rank K.NewBalance = 8
rank K.FreeCommunication = 9
rank K.Trailer = 10

abbrev pub is_among : Kind → List Kind → Bool
is_among k [] = false
is_among k (x ∷ xs) = rank x == rank k || is_among k xs

abbrev pub allowed : Expect → List Kind
allowed Start = K.Header ∷ []
allowed Header = K.Header ∷ []
allowed OldBalance = K.OldBalance ∷ []
allowed Opened = K.Movement ∷ K.NewBalance ∷ K.Trailer ∷ []
allowed Second = K.MovementSecond ∷ K.Counterparty ∷ []
allowed Counterparty = K.Counterparty ∷ []
allowed Information = K.Information ∷ []
allowed InformationSecond = K.InformationSecond ∷ []
allowed InformationThird = K.InformationThird ∷ []
allowed Further = K.Movement ∷ K.NewBalance ∷ []
allowed FirstCommunication = K.FreeCommunication ∷ []
allowed Communication = K.FreeCommunication ∷ []
allowed Trailer = K.Trailer ∷ []
allowed End = []

abbrev pub may_come : Expect → Kind → Bool
may_come e k = is_among k (allowed e)

-- behind a 2 or 3 record with these codes, of which the given continues it
abbrev pub behind : Bool → Bool → Expect → Expect
behind next link continued = cond link Information (cond next continued Further)

-- behind an 8 or a 4
abbrev pub behind_closing : Bool → Expect → Expect
behind_closing link communication = cond link communication Trailer

-- behind a 9
abbrev pub behind_trailer : Bool → Expect
behind_trailer another = cond another Header End

abbrev pub is_opened : Expect → Bool
is_opened Start = false
is_opened Header = false
is_opened OldBalance = false
is_opened Opened = true
is_opened Second = false
is_opened Counterparty = false
is_opened Information = false
is_opened InformationSecond = false
is_opened InformationThird = false
is_opened Further = false
is_opened FirstCommunication = false
is_opened Communication = false
is_opened Trailer = false
is_opened End = false

abbrev pub is_first_communication : Expect → Bool
is_first_communication Start = false
is_first_communication Header = false
is_first_communication OldBalance = false
is_first_communication Opened = false
is_first_communication Second = false
is_first_communication Counterparty = false
is_first_communication Information = false
is_first_communication InformationSecond = false
is_first_communication InformationThird = false
is_first_communication Further = false
is_first_communication FirstCommunication = true
is_first_communication Communication = false
is_first_communication Trailer = false
is_first_communication End = false

-- the file may end here
abbrev pub may_end : Expect → Bool
may_end Start = false
may_end Header = false
may_end OldBalance = false
may_end Opened = false
may_end Second = false
may_end Counterparty = false
may_end Information = false
may_end InformationSecond = false
may_end InformationThird = false
may_end Further = false
may_end FirstCommunication = false
may_end Communication = false
may_end Trailer = false
may_end End = true
