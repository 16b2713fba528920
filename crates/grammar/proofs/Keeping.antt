-- What information records and details leave of the current numbers.
use Rattle.std.proofs.Common.{◌≡◌, ℕ, Bool, List, [], ◌∷◌, refl, ◌∙◌}
use Rattle.grammar.specs.Fields.{sequence}
use Rattle.grammar.specs.Readings.{Information, Movement, Transaction}
use Rattle.grammar.specs.Places.{Numbers, behind_main, behind_detail, behind_information}
use Rattle.grammar.proofs.Threaded.{behind_informations, behind_details, behind_transaction}

informations_keep : {A : Type 0} (f : Numbers → A) → ((n : Numbers) (b : List ℕ) → f (behind_information n b) ≡ f n) → (is : List Information) (n : Numbers) → f (behind_informations n is) ≡ f n
informations_keep f h [] n = refl
informations_keep f h (i ∷ is) n = informations_keep f h is (behind_information n i.one) ∙ h n i.one

informations_sequence : (is : List Information) (n : Numbers) → (behind_informations n is).sequence ≡ n.sequence
informations_sequence = informations_keep (λ n. n.sequence) (λ n b. refl)

pub informations_types : (is : List Information) (n : Numbers) → ◌≡◌ {A = ℕ × Bool} ((behind_informations n is).type, (behind_informations n is).seven) (n.type, n.seven)
informations_types = informations_keep (λ n. (n.type, n.seven)) (λ n b. refl)

pub informations_levels : (is : List Information) (n : Numbers) → (behind_informations n is).levels ≡ n.levels
informations_levels = informations_keep (λ n. n.levels) (λ n b. refl)

details_sequence : (ds : List Movement) (n : Numbers) → (behind_details n ds).sequence ≡ n.sequence
details_sequence [] n = refl
details_sequence (d ∷ ds) n =
    let v : Numbers = behind_detail n d.one in details_sequence ds (behind_informations v d.informations) ∙ informations_sequence d.informations v

pub transaction_sequence : (t : Transaction) → (behind_transaction t).sequence ≡ sequence t.main.one
transaction_sequence t =
    let v : Numbers = behind_main t.main.one in details_sequence t.details (behind_informations v t.main.informations) ∙ informations_sequence t.main.informations v
