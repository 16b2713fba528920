-- Slots by their number.
use Rattle.std.proofs.Common.{◌≡◌, ℕ, ◌+◌, ◌-◌, ◌<◌, ◌≤◌, eqb, List, [], map, length, get_or, Some, None, sym, ap, ◌∙◌, arith}
use Rattle.std.specs.List.{slice_get}
use Rattle.std.proofs.lemmas.List.{length-map, get_or-map}
use Rattle.std.proofs.lemmas.Option.{slice_get-get_or}
use Rattle.std.proofs.lemmas.Bool.{ne_eqb, cond-false}
use Rattle.source.specs.Slots.{Slot, judge, slot_at}

-- a number from 1 on is a place
slot_nth : (slots : List Slot) (n : ℕ) → 0 < n → slot_at slots n ≡ slice_get slots (n - 1)
slot_nth slots n positive = cond-false (eqb n 0) None (slice_get slots (n - 1)) (ne_eqb n 0 (λ e. omega arith))

-- inside the list it is the slot at its place
pub present : (slots : List Slot) (n : ℕ) (default : Slot) → 0 < n → n ≤ length slots → slot_at slots n ≡ Some (get_or slots (n - 1) default)
present slots n default positive within = slot_nth slots n positive ∙ slice_get-get_or slots (n - 1) default (omega arith)

-- and of judged bytes the judgement of those at its place
pub judged_at : (all : List (List ℕ)) (n place : ℕ) (bytes : List ℕ) → place + 1 ≡ n → place < length all → bytes ≡ get_or all place [] → slot_at (map judge all) n ≡ Some (judge bytes)
judged_at all n place bytes number within here =
    present (map judge all) n (judge []) (omega arith) (simp length-map (omega arith))
    ∙ ap Some (ap (λ k. get_or (map judge all) k (judge [])) (omega arith) ∙ (get_or-map judge all place [] (judge []) within ∙ ap judge (sym here)))
