-- The fields of a record, by its kind.
--   free field   a field that is neither fixed bytes nor spaces
--   fields       the bytes of a record's fields, from the left
use Rattle.std.specs.Prelude.{ℕ, Bool, true, false, cond, List, [], ◌∷◌, map}
use Rattle.layout.specs.Forms.{Form, Digits, Text, Spaces, Day, DayOrZeros, Sign, Flag, Is, OneOf}
use Rattle.layout.specs.Layouts.{Field, layout, bytes_of}
use Rattle.layout.specs.declared.kind.Kind.{Kind}
use Rattle.layout.specs.declared.kind.Kind.TheVariants as K
use Rattle.records.specs.declared.cases.Record.{Record}
use Rattle.records.specs.declared.cases.Record.TheVariants.{Header, OldBalance, Movement, MovementSecond, Counterparty, Information, InformationSecond, InformationThird, NewBalance, FreeCommunication, Trailer}

abbrev pub is_free : Form → Bool
is_free Digits = true
is_free Text = true
is_free Spaces = false
is_free Day = true
is_free DayOrZeros = true
is_free Sign = true
is_free Flag = true
is_free (Is text) = false
is_free (OneOf choices) = true

abbrev pub free_of : List Field → List Field
free_of [] = []
free_of (f ∷ fs) = cond (is_free f.form) (f ∷ free_of fs) (free_of fs)

-- the bytes of the free fields of a kind of record
abbrev pub free_fields : Kind → List ℕ → List (List ℕ)
free_fields kind bytes = map (bytes_of bytes) (free_of (layout kind))

abbrev pub kind_of_record : Record → Kind
kind_of_record (Header r) = K.Header
kind_of_record (OldBalance r) = K.OldBalance
kind_of_record (Movement r) = K.Movement
kind_of_record (MovementSecond r) = K.MovementSecond
kind_of_record (Counterparty r) = K.Counterparty
kind_of_record (Information r) = K.Information
kind_of_record (InformationSecond r) = K.InformationSecond
kind_of_record (InformationThird r) = K.InformationThird
kind_of_record (NewBalance r) = K.NewBalance
kind_of_record (FreeCommunication r) = K.FreeCommunication
kind_of_record (Trailer r) = K.Trailer

abbrev pub fields : Record → List (List ℕ)
fields (Header r) =
    r.creation_day.now ∷ r.bank.now ∷ r.duplicate.now ∷ r.addressee.now ∷ r.holder.now ∷ r.references.now ∷ []
fields (OldBalance r) =
    r.structure.now ∷ r.paper_number.now ∷ r.account.now ∷ r.sign.now ∷ r.balance.now ∷ r.day.now ∷ r.holder.now ∷ r.statement_number.now ∷ []
fields (Movement r) =
    r.sequence.now ∷ r.detail.now ∷ r.reference.now ∷ r.sign.now ∷ r.amount.now ∷ r.value_day.now ∷ r.code.now ∷ r.structured.now ∷ r.communication.now ∷ r.entry_day.now ∷ r.paper_number.now ∷ r.level.now ∷ r.next.now ∷ r.link.now ∷ []
fields (MovementSecond r) =
    r.sequence.now ∷ r.detail.now ∷ r.communication.now ∷ r.purpose.now ∷ r.next.now ∷ r.link.now ∷ []
fields (Counterparty r) =
    r.sequence.now ∷ r.detail.now ∷ r.account.now ∷ r.name.now ∷ r.communication.now ∷ r.link.now ∷ []
fields (Information r) =
    r.sequence.now ∷ r.detail.now ∷ r.reference.now ∷ r.code.now ∷ r.structured.now ∷ r.communication.now ∷ r.next.now ∷ r.link.now ∷ []
fields (InformationSecond r) =
    r.sequence.now ∷ r.detail.now ∷ r.communication.now ∷ r.next.now ∷ r.link.now ∷ []
fields (InformationThird r) =
    r.sequence.now ∷ r.detail.now ∷ r.communication.now ∷ r.link.now ∷ []
fields (NewBalance r) =
    r.paper_number.now ∷ r.account.now ∷ r.sign.now ∷ r.balance.now ∷ r.day.now ∷ r.link.now ∷ []
fields (FreeCommunication r) =
    r.sequence.now ∷ r.detail.now ∷ r.text.now ∷ r.link.now ∷ []
fields (Trailer r) =
    r.count.now ∷ r.debits.now ∷ r.credits.now ∷ r.follows.now ∷ []
