-- The loop over the slots: what is left of the list gives the answer.
use Rattle.std.proofs.Common.{◌≡◌, ℕ, ◌+◌, ◌-◌, ◌<◌, ◌≤◌, true, ltb, List, [], ◌∷◌, length, get_or, drop, Some, Ok, Err, Result, is_ok, sym, ap, ◌∙◌, subst, arith}
use Rattle.std.specs.Result.{MatchResult}
use Rattle.std.proofs.lemmas.List.{at_drop_more, at_drop_all}
use Rattle.std.proofs.lemmas.Bool.{cond-true, cond-false, lt-ltb, le-ltb}
use Rattle.source.specs.Slots.{Slot, whole, damaged, slot_at}
use Rattle.source.proofs.Numbered.{present}
use Rattle.grammar.specs.declared.faults.SourceFault.{SourceFault}
use Rattle.grammar.specs.declared.faults.StatementFault.{StatementFault}
use Rattle.grammar.specs.declared.faults.Located.{Located}
use Rattle.grammar.specs.declared.faults.FileFault.{FileFault}
use Rattle.grammar.specs.declared.faults.FileFault.TheVariants.{Source, Statement, TooManySlots}
use Rattle.grammar.specs.Places.{Place, beginning}
use Rattle.grammar.specs.Steps.{step, run, onward, ended, most_slots, checked}
use Rattle.reader.specs.Means.{Stepped}
use Rattle.reader.specs.Reads.{FetchedAs}

-- ONE SLOT

read_fails : (x : Slot) (p : Place) (n : ℕ) (rest : List Slot) (bytes : List ℕ) (f : SourceFault) → FetchedAs n (Some x) bytes (Err f) → run p n (x ∷ rest) ≡ Err (Source f)
read_fails (whole b) p n rest bytes f h = let e = h.0 in let z : ◌≡◌ {A = ℕ} 0 1 = cc in absurd (omega arith)
read_fails (damaged d) p n rest bytes f h = cc

read_whole : (x : Slot) (n : ℕ) (bytes : List ℕ) (u : Unit {0}) → FetchedAs n (Some x) bytes (Ok u) → x ≡ whole bytes
read_whole (whole b) n bytes u h = ap whole (sym h.1)
read_whole (damaged d) n bytes u h = let z : ◌≡◌ {A = ℕ} 0 1 = cc in absurd (omega arith)

stepped_ok : (q : Result Place StatementFault) (p t : Place) (r : Result (Unit {0}) StatementFault) → Stepped p q t r → true ≡ is_ok r → q ≡ Ok t
stepped_ok (Ok x) p t r h taken = ap Ok (sym h.1)
stepped_ok (Err f) p t r h taken = let k = ap is_ok h.0 in let z : ◌≡◌ {A = ℕ} 0 1 = cc in absurd (omega arith)

-- a refusal at slot n, to which its slot was put
abbrev pub Located_at : ℕ → Result (Unit {0}) StatementFault → Located → Type 0
Located_at n r l = MatchResult r (λ u. ◌≡◌ {A = Result (Unit {0}) Located} (Err l) (Ok u)) (λ f. l ≡ record { slot = n; fault = f })

stepped_err : (q : Result Place StatementFault) (p t : Place) (r : Result (Unit {0}) StatementFault) (n : ℕ) (go : Place → Result Place FileFault) (l : Located) → Stepped p q t r → Located_at n r l → onward n go q ≡ Err (Statement l)
stepped_err q p t (Ok u) n go l h e = let z : ◌≡◌ {A = ℕ} 0 1 = cc in absurd (omega arith)
stepped_err (Ok x) p t (Err f) n go l h e = let k = h.0 in let z : ◌≡◌ {A = ℕ} 0 1 = cc in absurd (omega arith)
stepped_err (Err g) p t (Err f) n go l h e = let k = h.0 in cc

-- THE WHOLE

checked_is : (xs : List Slot) (q : Result Place FileFault) → length xs ≤ most_slots → q ≡ run beginning 1 xs → checked xs ≡ ended (length xs + 1) q
unfolding checked
checked_is xs q few e = cond-false (ltb most_slots (length xs)) (Err TooManySlots) (ended (length xs + 1) (run beginning 1 xs)) (le-ltb most_slots (length xs) few) ∙ ap (ended (length xs + 1)) (sym e)

pub checked_many : (xs : List Slot) → most_slots < length xs → checked xs ≡ Err TooManySlots
unfolding checked
checked_many xs many = cond-true (ltb most_slots (length xs)) (Err TooManySlots) (ended (length xs + 1) (run beginning 1 xs)) (lt-ltb most_slots (length xs) many)

-- behind the last slot
pub checked_end : (xs : List Slot) (n : ℕ) (p : Place) → length xs ≤ most_slots → length xs ≤ n → run p (n + 1) (drop n xs) ≡ run beginning 1 xs → checked xs ≡ ended (length xs + 1) (Ok p)
checked_end xs n p few behind so_far = checked_is xs (Ok p) few (sym (at_drop_all (run p (n + 1)) xs n behind) ∙ so_far)

-- THE TURN AT SLOT n

no_slot : Slot
no_slot = whole []

-- the slots are as they were, and what is left of them gives the answer
module _ (xs ys : List Slot) (n : ℕ) (p : Place) (bytes : List ℕ) (few : length xs ≤ most_slots) (same : ys ≡ xs) (positive : 0 < n) (within : n ≤ length xs) (so_far : run p n (drop (n - 1) xs) ≡ run beginning 1 xs) where
  here : slot_at ys n ≡ Some (get_or xs (n - 1) no_slot)
  here = ap (λ slots. slot_at slots n) same ∙ present xs n no_slot positive within

  unrolled : run p n (get_or xs (n - 1) no_slot ∷ drop n xs) ≡ run beginning 1 xs
  unrolled = sym (at_drop_more (run p n) xs (n - 1) no_slot (omega (arith, positive, within)) ∙ ap (λ k. run p n (get_or xs (n - 1) no_slot ∷ drop k xs)) next) ∙ so_far
    where
      next : n - 1 + 1 ≡ n
      next = omega (arith, positive)

  pub turn_unread : (f : SourceFault) → FetchedAs n (slot_at ys n) bytes (Err f) → checked xs ≡ Err (Source f)
  turn_unread f h = checked_is xs (Err (Source f)) few (sym (read_fails (get_or xs (n - 1) no_slot) p n (drop n xs) bytes f (subst (λ o. FetchedAs n o bytes (Err f)) here h)) ∙ unrolled)

  module _ (u : Unit {0}) (t : Place) (r : Result (Unit {0}) StatementFault) (fetched : FetchedAs n (slot_at ys n) bytes (Ok u)) (stepped : Stepped p (step p bytes) t r) where
    -- the slot holds what was read
    turn_read : onward n (λ v. run v (n + 1) (drop n xs)) (step p bytes) ≡ run beginning 1 xs
    turn_read = sym (ap (λ x. run p n (x ∷ drop n xs)) (read_whole (get_or xs (n - 1) no_slot) n bytes u (subst (λ o. FetchedAs n o bytes (Ok u)) here fetched))) ∙ unrolled

    pub turn_refused : (l : Located) → Located_at n r l → checked xs ≡ Err (Statement l)
    turn_refused l e = checked_is xs (Err (Statement l)) few (sym (stepped_err (step p bytes) p t r n (λ v. run v (n + 1) (drop n xs)) l stepped e) ∙ turn_read)

    pub turn_taken : true ≡ is_ok r → run t (n + 1) (drop n xs) ≡ run beginning 1 xs
    turn_taken e = sym (ap (onward n (λ v. run v (n + 1) (drop n xs))) (stepped_ok (step p bytes) p t r stepped e)) ∙ turn_read
