-- The records of a run have the codes that announce them.
use Rattle.std.proofs.Common.{◌≡◌, Bool, true, false, ◌&&◌, List, sym, refl, ap, subst}
use Rattle.std.proofs.lemmas.Bool.{true≢false}
use Rattle.grammar.specs.declared.expect.Expect.{Expect}
use Rattle.grammar.specs.declared.expect.Expect.TheVariants as E
use Rattle.grammar.specs.Fields.{next, link, another}
use Rattle.grammar.specs.Leaves.{Leaf}
use Rattle.grammar.specs.Codes.{Sort, heading, continuing, informing, communicating, other, nothing, sort, first_sort, continues, informs, communicates, heads, Announces, Codes}
use Rattle.grammar.specs.Order.{behind, behind_closing, behind_trailer}
use Rattle.grammar.specs.Places.{Numbers, Sums}
use Rattle.grammar.proofs.Moves.{Moves, a_first_header, a_header, an_old_balance, a_first_main, a_main, a_detail, a_second, a_lone_counterparty, a_counterparty, an_information, an_information_second, an_information_third, a_lone_new_balance, a_new_balance, a_first_communication, a_communication, a_lone_trailer, a_trailer, Run, done, go}

-- the sort of what may come
abbrev sort_at : Expect → Sort
sort_at E.Start = heading
sort_at E.Header = heading
sort_at E.OldBalance = other
sort_at E.Opened = other
sort_at E.Second = continuing
sort_at E.Counterparty = continuing
sort_at E.Information = informing
sort_at E.InformationSecond = continuing
sort_at E.InformationThird = continuing
sort_at E.Further = other
sort_at E.FirstCommunication = communicating
sort_at E.Communication = communicating
sort_at E.Trailer = other
sort_at E.End = nothing

sort_moved : {e f : Expect} {n m : Numbers} {s t : Sums} {r : Leaf} → Moves e n s r f m t → sort r ≡ sort_at e
sort_moved a_first_header = refl
sort_moved a_header = refl
sort_moved an_old_balance = refl
sort_moved (a_first_main f r a) = refl
sort_moved (a_main f r a) = refl
sort_moved (a_detail f a) = refl
sort_moved (a_second f a) = refl
sort_moved (a_lone_counterparty f a) = refl
sort_moved (a_counterparty f a) = refl
sort_moved (an_information f a) = refl
sort_moved (an_information_second f a) = refl
sort_moved (an_information_third f a) = refl
sort_moved (a_lone_new_balance f l) = refl
sort_moved (a_new_balance f) = refl
sort_moved (a_first_communication f) = refl
sort_moved (a_communication f) = refl
sort_moved (a_lone_trailer f) = refl
sort_moved (a_trailer f) = refl

first_sort_run : {e : Expect} {n : Numbers} {s : Sums} {rs : List Leaf} → Run e n s rs → first_sort rs ≡ sort_at e
first_sort_run done = refl
first_sort_run (go m x) = sort_moved m

-- the two codes of a record, with what comes behind it
two_codes : (next link : Bool) (e : Expect) → sort_at e ≡ continuing → (next && link) ≡ false → (next ≡ continues (sort_at (behind next link e))) × (link ≡ informs (sort_at (behind next link e)))
two_codes true true e h a = absurd (true≢false a)
two_codes true false e h a = (ap continues (sym h), ap informs (sym h))
two_codes false true e h a = (refl, refl)
two_codes false false e h a = (refl, refl)

closing_code : (link : Bool) (e : Expect) → sort_at e ≡ communicating → link ≡ communicates (sort_at (behind_closing link e))
closing_code true e h = ap communicates (sym h)
closing_code false e h = refl

trailer_code : (another : Bool) → another ≡ heads (sort_at (behind_trailer another))
trailer_code true = refl
trailer_code false = refl

announces : {e f : Expect} {n m : Numbers} {s t : Sums} {r : Leaf} → Moves e n s r f m t → Announces r (sort_at f)
announces a_first_header = tt
announces a_header = tt
announces an_old_balance = tt
announces (a_first_main {b = b} f r a) = two_codes (next b) (link b) E.Second refl a
announces (a_main {b = b} f r a) = two_codes (next b) (link b) E.Second refl a
announces (a_detail {b = b} f a) = two_codes (next b) (link b) E.Second refl a
announces (a_second {b = b} f a) = two_codes (next b) (link b) E.Counterparty refl a
announces (a_lone_counterparty {b = b} f a) = (two_codes (next b) (link b) E.Counterparty refl a).1
announces (a_counterparty {b = b} f a) = (two_codes (next b) (link b) E.Counterparty refl a).1
announces (an_information {b = b} f a) = two_codes (next b) (link b) E.InformationSecond refl a
announces (an_information_second {b = b} f a) = two_codes (next b) (link b) E.InformationThird refl a
announces (an_information_third {b = b} f a) = (two_codes (next b) (link b) E.InformationThird refl a).1
announces (a_lone_new_balance {b = b} f l) = closing_code (link b) E.FirstCommunication refl
announces (a_new_balance {b = b} f) = closing_code (link b) E.FirstCommunication refl
announces (a_first_communication {b = b} f) = closing_code (link b) E.Communication refl
announces (a_communication {b = b} f) = closing_code (link b) E.Communication refl
announces (a_lone_trailer {b = b} f) = trailer_code (another b)
announces (a_trailer {b = b} f) = trailer_code (another b)

pub codes_run : {e : Expect} {n : Numbers} {s : Sums} {rs : List Leaf} → Run e n s rs → Codes rs
codes_run done = tt
codes_run (go {r = r} m x) = (subst (Announces r) (sym (first_sort_run x)) (announces m), codes_run x)
