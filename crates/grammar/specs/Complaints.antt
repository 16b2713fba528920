-- Which fault a record is refused with where it stands.
--   Complaint   what can be said against a record: a position and a number
--   Complains   a field of the layout is not of its form, or a rule for the record is not kept
--   Least       a complaint that is not after any other: by position, then by number
--   Refused     a forbidden byte, else none of the eleven kinds, else a kind that may not come here, else the least complaint
use Rattle.std.specs.Prelude.{◌≡◌, ℕ, ◌+◌, ◌<◌, ◌≤◌, Bool, true, false, cond, ◌&&◌, ◌⊎◌, List, [], ◌∷◌, length, Some, None, Ok, Err}
use Rattle.recordbytes.specs.Classes.{is_plain}
use Rattle.recordbytes.specs.Walks.{FirstFailing}
use Rattle.layout.specs.Kinds.{kind_of}
use Rattle.layout.specs.Layouts.{Field, layout, is_formed}
use Rattle.layout.specs.declared.kind.Kind.{Kind}
use Rattle.layout.specs.declared.kind.Kind.TheVariants as K
use Rattle.grammar.specs.declared.faults.RecordFault.TheVariants.{Forbidden, Unknown}
use Rattle.grammar.specs.declared.faults.StatementFault.{StatementFault}
use Rattle.grammar.specs.declared.faults.StatementFault.TheVariants.{Record, Misplaced}
use Rattle.grammar.specs.Faults.{statement_position, statement_number}
use Rattle.grammar.specs.Order.{may_come, is_opened, is_first_communication}
use Rattle.grammar.specs.Places.{Place, none_open}
use Rattle.grammar.specs.Rules.{Rule, main_rules, detail_rules, repeat_rules, information_rules, new_balance_rules, first_communication_rules, communication_rules, trailer_rules}
use Rattle.grammar.specs.Steps.{is_detail, step}

-- COMPLAINTS

pub record Complaint : Type 0 where
  pub position : ℕ
  pub number : ℕ

abbrev pub NotAfter : Complaint → Complaint → Type 0
NotAfter c d = (c.position < d.position) ⊎ ((c.position ≡ d.position) × (c.number ≤ d.number))

pub record Least (Says : Complaint → Type 0) (c : Complaint) : Type 0 where
  pub holds : Says c
  pub least : (d : Complaint) → Says d → NotAfter c d

-- one of some things is not in order, and this is its complaint
abbrev pub Against : {X : Type 0} → (X → Complaint) → (X → Bool) → List X → Complaint → Type 0
Against complaint in_order [] c = ⊥
Against complaint in_order (x ∷ xs) c = ((in_order x ≡ false) × (c ≡ complaint x)) ⊎ Against complaint in_order xs c

-- a field is not of its form: 4 at its first position
abbrev pub of_field : Field → Complaint
of_field f = record { position = f.first; number = 4 }

abbrev pub of_fault : StatementFault → Complaint
of_fault f = record { position = statement_position f; number = statement_number f }

abbrev pub of_rule : Rule → Complaint
of_rule r = of_fault r.fault

-- WHAT A RECORD OF A KIND HAS TO KEEP

-- no new balance while a level is open
abbrev pub levels_allow : Place → Kind → Bool
levels_allow p K.Header = true
levels_allow p K.OldBalance = true
levels_allow p K.Movement = true
levels_allow p K.MovementSecond = true
levels_allow p K.Counterparty = true
levels_allow p K.Information = true
levels_allow p K.InformationSecond = true
levels_allow p K.InformationThird = true
levels_allow p K.NewBalance = none_open p.numbers.levels
levels_allow p K.FreeCommunication = true
levels_allow p K.Trailer = true

-- a record of a kind may come here
abbrev pub may_stand : Place → Kind → Bool
may_stand p k = may_come p.expect k && levels_allow p k

-- the rules that a record of a kind has to keep here
abbrev pub rules_at : Place → Kind → List ℕ → List Rule
rules_at p K.Header b = []
rules_at p K.OldBalance b = []
rules_at p K.Movement b = cond (is_detail p b) (detail_rules p.numbers b) (main_rules p.numbers p.sums b)
rules_at p K.MovementSecond b = repeat_rules p.numbers b
rules_at p K.Counterparty b = repeat_rules p.numbers b
rules_at p K.Information b = information_rules p.numbers b
rules_at p K.InformationSecond b = repeat_rules p.numbers b
rules_at p K.InformationThird b = repeat_rules p.numbers b
rules_at p K.NewBalance b = new_balance_rules (is_opened p.expect) p.sums b
rules_at p K.FreeCommunication b = cond (is_first_communication p.expect) (first_communication_rules b) (communication_rules p.numbers b)
rules_at p K.Trailer b = trailer_rules p.sums b

abbrev pub FormComplains : Kind → List ℕ → Complaint → Type 0
FormComplains k b c = Against of_field (is_formed b) (layout k) c

abbrev pub RuleComplains : Place → Kind → List ℕ → Complaint → Type 0
RuleComplains p k b c = Against of_rule (λ (r : Rule). r.kept) (rules_at p k b) c

abbrev pub Complains : Place → Kind → List ℕ → Complaint → Type 0
Complains p k b c = FormComplains k b c ⊎ RuleComplains p k b c

-- REFUSALS

-- no byte is forbidden
abbrev pub Plain : List ℕ → Type 0
Plain b = FirstFailing is_plain b None

pub data Refused (p : Place) (b : List ℕ) : StatementFault → Type 0 where
  forbidden : (i : ℕ) → FirstFailing is_plain b (Some i) → Refused p b (Record (Forbidden (i + 1)))
  unknown : Plain b → kind_of b ≡ None → Refused p b (Record Unknown)
  misplaced : (k : Kind) → Plain b → kind_of b ≡ Some k → may_stand p k ≡ false → Refused p b Misplaced
  complained : (k : Kind) (f : StatementFault) → Plain b → kind_of b ≡ Some k → may_stand p k ≡ true → Least (Complains p k b) (of_fault f) → Refused p b f

-- nothing can be said against a record
pub record Blameless (p : Place) (b : List ℕ) : Type 0 where
  pub kind : Kind
  pub plain : Plain b
  pub known : kind_of b ≡ Some kind
  pub placed : may_stand p kind ≡ true
  pub none : (c : Complaint) → Complains p kind b c → ⊥

-- a record is refused with its least complaint and no other, and taken just where nothing can be said against it
pub record RefusalsAreLeast : Type 0 where
  pub refused : (p : Place) (b : List ℕ) (f : StatementFault) → length b ≡ 128 → step p b ≡ Err f → Refused p b f
  pub refuses : (p : Place) (b : List ℕ) (f : StatementFault) → length b ≡ 128 → Refused p b f → step p b ≡ Err f
  pub took : (p : Place) (b : List ℕ) (q : Place) → length b ≡ 128 → step p b ≡ Ok q → Blameless p b
  pub takes : (p : Place) (b : List ℕ) → length b ≡ 128 → Blameless p b → (q : Place) × (step p b ≡ Ok q)
