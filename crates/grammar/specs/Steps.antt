-- One record after the other: where each leads, or the fault it is refused with.
use Rattle.std.specs.Prelude.{ℕ, ◌+◌, Bool, cond, not, ◌&&◌, List, [], ◌∷◌, length, Some, None, Ok, Err, Option, Result, ◌==◌, nat_le, nat_lt}
use Rattle.recordbytes.specs.Classes.{is_plain}
use Rattle.recordbytes.specs.Walks.{first_failing}
use Rattle.layout.specs.Kinds.{kind_of}
use Rattle.layout.specs.Layouts.{first_misformed}
use Rattle.layout.specs.declared.kind.Kind.{Kind}
use Rattle.layout.specs.declared.kind.Kind.TheVariants as K
use Rattle.source.specs.Slots.{Slot, whole, damaged}
use Rattle.grammar.specs.declared.expect.Expect.{Expect}
use Rattle.grammar.specs.declared.expect.Expect.TheVariants.{OldBalance, Opened, Second, Counterparty, InformationSecond, InformationThird, FirstCommunication, Communication}
use Rattle.grammar.specs.declared.faults.RecordFault.{RecordFault}
use Rattle.grammar.specs.declared.faults.RecordFault.TheVariants.{Forbidden, Unknown, Misformed}
use Rattle.grammar.specs.declared.faults.StatementFault.{StatementFault}
use Rattle.grammar.specs.declared.faults.StatementFault.TheVariants.{Record, Misplaced}
use Rattle.grammar.specs.declared.faults.FileFault.{FileFault}
use Rattle.grammar.specs.declared.faults.FileFault.TheVariants.{Source, Statement, EndsEarly, TooManySlots}
use Rattle.grammar.specs.declared.faults.Counts.{Counts}
use Rattle.grammar.specs.Fields.{sequence, next, link, another}
use Rattle.grammar.specs.Order.{may_come, behind, behind_closing, behind_trailer, is_opened, is_first_communication, may_end}
use Rattle.grammar.specs.Places.{Numbers, Sums, Place, none_open, unnumbered, behind_main, behind_detail, behind_information, behind_communication, opened, counted_one, booked, beginning}
use Rattle.grammar.specs.Rules.{under, main_rules, detail_rules, repeat_rules, information_rules, new_balance_rules, first_communication_rules, communication_rules, trailer_rules}
use Rattle.grammar.specs.Faults.{statement_position}

-- WHERE A RECORD LEADS

abbrev pub led : Place → Expect → Numbers → Sums → Place
led p e n s = record { expect = e; numbers = n; sums = s; statements = p.statements; movements = p.movements }

abbrev pub led_by_movement : Place → List ℕ → Numbers → Sums → Place
led_by_movement p b n s = record { expect = behind (next b) (link b) Second; numbers = n; sums = s; statements = p.statements; movements = p.movements + 1 }

abbrev pub after_header : Place → Place
after_header p = led p OldBalance p.numbers p.sums

abbrev pub after_old_balance : Place → List ℕ → Place
after_old_balance p b = record { expect = Opened; numbers = unnumbered; sums = opened b; statements = p.statements + 1; movements = p.movements }

abbrev pub after_main : Place → List ℕ → Place
after_main p b = led_by_movement p b (behind_main b) (booked p.sums b)

abbrev pub after_detail : Place → List ℕ → Place
after_detail p b = led_by_movement p b (behind_detail p.numbers b) (counted_one p.sums)

-- behind a record that changes only the count
abbrev pub after_counted : Place → Expect → Place
after_counted p e = led p e p.numbers (counted_one p.sums)

abbrev pub after_information : Place → List ℕ → Place
after_information p b = led p (behind (next b) (link b) InformationSecond) (behind_information p.numbers b) (counted_one p.sums)

abbrev pub after_communication : Place → List ℕ → Place
after_communication p b = led p (behind_closing (link b) Communication) (behind_communication p.numbers b) p.sums

abbrev pub after_trailer : Place → List ℕ → Place
after_trailer p b = led p (behind_trailer (another b)) p.numbers p.sums

-- WHAT A RECORD OF A KIND THAT MAY COME DOES

-- the current sequence number makes a movement a detail, unless it is the first of its statement
abbrev pub is_detail : Place → List ℕ → Bool
is_detail p b = sequence b == p.numbers.sequence && not (is_opened p.expect)

abbrev pub take_movement : Place → List ℕ → Result Place StatementFault
take_movement p b =
    cond (is_detail p b)
    (under (detail_rules p.numbers b) (after_detail p b))
    (under (main_rules p.numbers p.sums b) (after_main p b))

abbrev pub take_repeat : Place → List ℕ → Expect → Result Place StatementFault
take_repeat p b e = under (repeat_rules p.numbers b) (after_counted p (behind (next b) (link b) e))

-- no new balance while a level is open
abbrev pub take_new_balance : Place → List ℕ → Result Place StatementFault
take_new_balance p b =
    cond (none_open p.numbers.levels)
    (under (new_balance_rules (is_opened p.expect) p.sums b) (after_counted p (behind_closing (link b) FirstCommunication)))
    (Err Misplaced)

abbrev pub take_communication : Place → List ℕ → Result Place StatementFault
take_communication p b =
    under (cond (is_first_communication p.expect) (first_communication_rules b) (communication_rules p.numbers b)) (after_communication p b)

abbrev pub take_kind : Place → Kind → List ℕ → Result Place StatementFault
take_kind p K.Header b = Ok (after_header p)
take_kind p K.OldBalance b = Ok (after_old_balance p b)
take_kind p K.Movement b = take_movement p b
take_kind p K.MovementSecond b = take_repeat p b Counterparty
take_kind p K.Counterparty b = take_repeat p b Counterparty
take_kind p K.Information b = under (information_rules p.numbers b) (after_information p b)
take_kind p K.InformationSecond b = take_repeat p b InformationThird
take_kind p K.InformationThird b = take_repeat p b InformationThird
take_kind p K.NewBalance b = take_new_balance p b
take_kind p K.FreeCommunication b = take_communication p b
take_kind p K.Trailer b = under (trailer_rules p.sums b) (after_trailer p b)

-- the values of a record, its forms aside
abbrev pub take_values : Place → Kind → List ℕ → Result Place StatementFault
take_values p k b = cond (may_come p.expect k) (take_kind p k b) (Err Misplaced)

-- WHAT A RECORD DOES

-- the fault further left; of two at one position, that of the form
abbrev pub with_form : {A : Type 0} → Option ℕ → Result A StatementFault → Result A StatementFault
with_form None r = r
with_form (Some p) (Ok x) = Err (Record (Misformed p))
with_form (Some p) (Err f) = cond (nat_le p (statement_position f)) (Err (Record (Misformed p))) (Err f)

abbrev pub told_by : Option ℕ → Option Kind → Result Kind RecordFault
told_by (Some i) k = Err (Forbidden (i + 1))
told_by None None = Err Unknown
told_by None (Some k) = Ok k

-- the kind of a record with no forbidden byte
abbrev pub told : List ℕ → Result Kind RecordFault
told b = told_by (first_failing is_plain b) (kind_of b)

abbrev pub step_by : Place → List ℕ → Result Kind RecordFault → Result Place StatementFault
step_by p b (Err f) = Err (Record f)
step_by p b (Ok k) = with_form (first_misformed k b) (take_values p k b)

abbrev pub step : Place → List ℕ → Result Place StatementFault
step p b = step_by p b (told b)

-- A FILE

abbrev pub onward : ℕ → (Place → Result Place FileFault) → Result Place StatementFault → Result Place FileFault
onward n go (Ok p) = go p
onward n go (Err f) = Err (Statement (record { slot = n; fault = f }))

-- the place behind the slots, of which the first has number n, or the first fault
abbrev pub run : Place → ℕ → List Slot → Result Place FileFault
run p n [] = Ok p
run p n (damaged damage ∷ xs) = Err (Source (record { slot = n; damage = damage }))
run p n (whole b ∷ xs) = onward n (λ q. run q (n + 1) xs) (step p b)

abbrev pub counts : Place → Counts
counts p = record { statements = p.statements; movements = p.movements }

abbrev pub ended : ℕ → Result Place FileFault → Result Counts FileFault
ended n (Err f) = Err f
ended n (Ok p) = cond (may_end p.expect) (Ok (counts p)) (Err (EndsEarly n))

abbrev pub most_slots : ℕ
most_slots = 100000

unfoldable pub checked : List Slot → Result Counts FileFault
checked xs = cond (nat_lt most_slots (length xs)) (Err TooManySlots) (ended (length xs + 1) (run beginning 1 xs))
