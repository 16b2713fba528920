-- What is left of a reading behind a place, with its rules.
use Rattle.std.proofs.Common.{◌≡◌, ℕ, ◌≤◌, Bool, true, false, List, [], ◌∷◌, None, Option}
use Rattle.std.proofs.lemmas.Bool.{true≢false}
use Rattle.grammar.specs.declared.expect.Expect.{Expect}
use Rattle.grammar.specs.declared.expect.Expect.TheVariants as E
use Rattle.grammar.specs.Fields.{debit_sum, credit_sum}
use Rattle.grammar.specs.Leaves.{Leaf, old_balance, movement_second, counterparty, information_third, trailer}
use Rattle.grammar.specs.Readings.{Rest, Statement, optional, rest_leaves, communications_leaves, leaves}
use Rattle.grammar.specs.Lawful.{largest_sum}
use Rattle.grammar.specs.Order.{behind, behind_closing, behind_trailer}
use Rattle.grammar.specs.Places.{Numbers, Sums, unnumbered, opened}
use Rattle.grammar.proofs.Fits.{TrailerFits}
use Rattle.grammar.proofs.Threaded.{OptionalOk, RestOk, FurtherOk, CommunicationsOk, StatementsOk}
use Rattle.grammar.proofs.Left.{Body, body_leaves, Told, told_leaves, told_counted, BodyOk, ToldOk}

abbrev pub Left : Expect → Type 0
Left E.Start = List Statement
Left E.Header = List Statement
Left E.OldBalance = List ℕ × Body
Left E.Opened = Body
Left E.Second = Option (List ℕ) × Option (List ℕ) × Told
Left E.Counterparty = Option (List ℕ) × Told
Left E.Information = Told
Left E.InformationSecond = Option Rest × Told
Left E.InformationThird = Option (List ℕ) × Told
Left E.Further = Told
Left E.FirstCommunication = List (List ℕ) × List ℕ × List Statement
Left E.Communication = List (List ℕ) × List ℕ × List Statement
Left E.Trailer = List ℕ × List Statement
Left E.End = List Statement

abbrev pub left_leaves : (e : Expect) → Left e → List Leaf
left_leaves E.Start ss = leaves ss
left_leaves E.Header ss = leaves ss
left_leaves E.OldBalance x = old_balance x.0 ∷ body_leaves x.1
left_leaves E.Opened b = body_leaves b
left_leaves E.Second x = optional movement_second x.0 (optional counterparty x.1 (told_leaves x.2))
left_leaves E.Counterparty x = optional counterparty x.0 (told_leaves x.1)
left_leaves E.Information t = told_leaves t
left_leaves E.InformationSecond x = rest_leaves x.0 (told_leaves x.1)
left_leaves E.InformationThird x = optional information_third x.0 (told_leaves x.1)
left_leaves E.Further t = told_leaves t
left_leaves E.FirstCommunication x = communications_leaves x.0 (trailer x.1 ∷ leaves x.2)
left_leaves E.Communication x = communications_leaves x.0 (trailer x.1 ∷ leaves x.2)
left_leaves E.Trailer x = trailer x.0 ∷ leaves x.1
left_leaves E.End ss = leaves ss

-- a trailer with these sums, within their limit
pub record Ended (s : Sums) (b : List ℕ) : Type 0 where
  pub fits : TrailerFits s b
  pub debit_limit : debit_sum b ≤ largest_sum
  pub credit_limit : credit_sum b ≤ largest_sum

abbrev pub LeftOk : (e : Expect) → Numbers → Sums → Left e → Type 0
LeftOk E.Start n s ss = StatementsOk ss
LeftOk E.Header n s ss = StatementsOk ss
LeftOk E.OldBalance n s x = BodyOk false unnumbered (opened x.0) x.1
LeftOk E.Opened n s b = BodyOk false n s b
LeftOk E.Second n s x = OptionalOk n x.0 × OptionalOk n x.1 × ToldOk n s (optional movement_second x.0 (optional counterparty x.1 (told_counted x.2))) x.2
LeftOk E.Counterparty n s x = OptionalOk n x.0 × ToldOk n s (optional counterparty x.0 (told_counted x.1)) x.1
LeftOk E.Information n s t = ToldOk n s (told_counted t) t
LeftOk E.InformationSecond n s x = RestOk n x.0 × ToldOk n s (rest_leaves x.0 (told_counted x.1)) x.1
LeftOk E.InformationThird n s x = OptionalOk n x.0 × ToldOk n s (optional information_third x.0 (told_counted x.1)) x.1
LeftOk E.Further n s t = ToldOk n s (told_counted t) t
LeftOk E.FirstCommunication n s x = CommunicationsOk x.0 × Ended s x.1 × StatementsOk x.2
LeftOk E.Communication n s x = FurtherOk n.sequence n.detail x.0 × Ended s x.1 × StatementsOk x.2
LeftOk E.Trailer n s x = Ended s x.0 × StatementsOk x.1
LeftOk E.End n s ss = StatementsOk ss

-- what is left, with its rules, has the records rs
pub record Good (e : Expect) (n : Numbers) (s : Sums) (rs : List Leaf) : Type 0 where
  pub left : Left e
  pub ok : LeftOk e n s left
  pub is : left_leaves e left ≡ rs

-- WHATEVER THE CODES of a record are, what is left behind it is of the form of what may follow it at all

-- behind a record that e continues, or nothing does
any_behind : {n : Numbers} {s : Sums} {rs : List Leaf} (e : Expect) → (Good E.Further n s rs → Good e n s rs) → (x l : Bool) → Good (behind x l e) n s rs → Good e n s rs
any_behind e none x true g = none (record { left = g.left; ok = g.ok; is = g.is })
any_behind e none true false g = g
any_behind e none false false g = none g

pub any_behind_movement : {n : Numbers} {s : Sums} {rs : List Leaf} (x l : Bool) → Good (behind x l E.Second) n s rs → Good E.Second n s rs
any_behind_movement = any_behind E.Second (λ g. record { left = (None, None, g.left); ok = (tt, tt, g.ok); is = g.is })

pub any_behind_second : {n : Numbers} {s : Sums} {rs : List Leaf} (x l : Bool) → Good (behind x l E.Counterparty) n s rs → Good E.Counterparty n s rs
any_behind_second = any_behind E.Counterparty (λ g. record { left = (None, g.left); ok = (tt, g.ok); is = g.is })

pub any_behind_information : {n : Numbers} {s : Sums} {rs : List Leaf} (x l : Bool) → Good (behind x l E.InformationSecond) n s rs → Good E.InformationSecond n s rs
any_behind_information = any_behind E.InformationSecond (λ g. record { left = (None, g.left); ok = (tt, g.ok); is = g.is })

pub any_behind_information_second : {n : Numbers} {s : Sums} {rs : List Leaf} (x l : Bool) → Good (behind x l E.InformationThird) n s rs → Good E.InformationThird n s rs
any_behind_information_second = any_behind E.InformationThird (λ g. record { left = (None, g.left); ok = (tt, g.ok); is = g.is })

-- behind a record that nothing continues
pub any_behind_last : {n : Numbers} {s : Sums} {rs : List Leaf} (e : Expect) (x l : Bool) → x ≡ false → Good (behind x l e) n s rs → Good E.Further n s rs
any_behind_last e true l h g = absurd (true≢false h)
any_behind_last e false true h g = record { left = g.left; ok = g.ok; is = g.is }
any_behind_last e false false h g = g

pub any_behind_new_balance : {n : Numbers} {s : Sums} {rs : List Leaf} (l : Bool) → Good (behind_closing l E.FirstCommunication) n s rs → Good E.FirstCommunication n s rs
any_behind_new_balance true g = g
any_behind_new_balance false g = record { left = ([], g.left.0, g.left.1); ok = (tt, g.ok.0, g.ok.1); is = g.is }

pub any_behind_communication : {n : Numbers} {s : Sums} {rs : List Leaf} (l : Bool) → Good (behind_closing l E.Communication) n s rs → Good E.Communication n s rs
any_behind_communication true g = g
any_behind_communication false g = record { left = ([], g.left.0, g.left.1); ok = (tt, g.ok.0, g.ok.1); is = g.is }

pub any_behind_trailer : {n : Numbers} {s : Sums} {rs : List Leaf} (a : Bool) → Good (behind_trailer a) n s rs → Good E.Header n s rs
any_behind_trailer true g = g
any_behind_trailer false g = record { left = g.left; ok = g.ok; is = g.is }
