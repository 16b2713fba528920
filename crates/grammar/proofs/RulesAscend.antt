-- The rules of every kind ascend by position, and their numbers are 5 and 6.
use Rattle.std.proofs.Common.{◌≡◌, ℕ, true, List, refl}
use Rattle.std.proofs.lemmas.Bool.{cond_both}
use Rattle.layout.specs.declared.kind.Kind.{Kind}
use Rattle.layout.specs.declared.kind.Kind.TheVariants as K
use Rattle.grammar.specs.Order.{is_first_communication}
use Rattle.grammar.specs.Places.{Place}
use Rattle.grammar.specs.Rules.{Rule, main_rules, detail_rules, first_communication_rules, communication_rules}
use Rattle.grammar.specs.Steps.{is_detail}
use Rattle.grammar.specs.Complaints.{of_rule, rules_at}
use Rattle.grammar.proofs.Complaining.{ascends, numbered_from}

pub record Orderly (rs : List Rule) : Type 0 where
  pub ascending : ascends of_rule (λ (r : Rule). r.kept) 1 rs ≡ true
  pub numbered : numbered_from of_rule (λ (r : Rule). r.kept) 5 rs ≡ true

pub rules_orderly : (p : Place) (k : Kind) (b : List ℕ) → Orderly (rules_at p k b)
rules_orderly p K.Header b = record { ascending = refl; numbered = refl }
rules_orderly p K.OldBalance b = record { ascending = refl; numbered = refl }
rules_orderly p K.Movement b =
    cond_both (is_detail p b) (detail_rules p.numbers b) (main_rules p.numbers p.sums b) (λ (rs : List Rule). Orderly rs)
    (λ e. record { ascending = refl; numbered = refl }) (λ e. record { ascending = refl; numbered = refl })
rules_orderly p K.MovementSecond b = record { ascending = refl; numbered = refl }
rules_orderly p K.Counterparty b = record { ascending = refl; numbered = refl }
rules_orderly p K.Information b = record { ascending = refl; numbered = refl }
rules_orderly p K.InformationSecond b = record { ascending = refl; numbered = refl }
rules_orderly p K.InformationThird b = record { ascending = refl; numbered = refl }
rules_orderly p K.NewBalance b = record { ascending = refl; numbered = refl }
rules_orderly p K.FreeCommunication b =
    cond_both (is_first_communication p.expect) (first_communication_rules b) (communication_rules p.numbers b) (λ (rs : List Rule). Orderly rs)
    (λ e. record { ascending = refl; numbered = refl }) (λ e. record { ascending = refl; numbered = refl })
rules_orderly p K.Trailer b = record { ascending = refl; numbered = refl }
