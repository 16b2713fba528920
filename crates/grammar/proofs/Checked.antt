-- What the check's answer says of a file, if whatever has been taken can be completed.
use Rattle.std.proofs.Common.{◌≡◌, ℕ, ◌+◌, ◌<◌, ◌≤◌, true, false, ltb, List, [], length, Ok, Err, Result, sym, ap, ◌∙◌, subst, inl, inr, arith}
use Rattle.std.specs.List.{AllByRecursion}
use Rattle.std.proofs.lemmas.List.{append-nil}
use Rattle.std.proofs.lemmas.Bool.{cond-true, cond-false, cond_both, lt-ltb, le-ltb, cases_lt}
use Rattle.source.specs.Slots.{Slot, Sound}
use Rattle.grammar.specs.declared.faults.Counts.{Counts}
use Rattle.grammar.specs.declared.faults.FileFault.{FileFault}
use Rattle.grammar.specs.declared.faults.FileFault.TheVariants.{EndsEarly, TooManySlots}
use Rattle.grammar.specs.Readings.{leaves}
use Rattle.grammar.specs.Files.{LawfulFile, FirstWrong}
use Rattle.grammar.specs.Order.{may_end}
use Rattle.grammar.specs.Places.{Place, beginning}
use Rattle.grammar.specs.Faults.{fault_record}
use Rattle.grammar.specs.Steps.{run, counts, ended, most_slots, checked}
use Rattle.grammar.specs.Theorems.{counts_of, CheckTheorem}
use Rattle.grammar.proofs.Straight.{threaded}
use Rattle.grammar.proofs.Runs.{passed_reads}
use Rattle.grammar.proofs.Unique.{unique}
use Rattle.grammar.proofs.FormedGiven.{formed_gives}
use Rattle.grammar.proofs.Stepping.{same_records}
use Rattle.grammar.proofs.Walking.{Through, Halted, Walked, walked}
use Rattle.grammar.proofs.LawfulRuns.{reads_lawful, lawful_runs}
use Rattle.grammar.proofs.Refusing.{Completes, no_fault, length_slots, first_wrong}

same_fault : {A : Type 0} (f g : FileFault) → ◌≡◌ {A = Result A FileFault} (Err f) (Err g) → f ≡ g
same_fault f g h = cc

same_counts : (a : Result Counts FileFault) (c d : Counts) → a ≡ Ok c → a ≡ Ok d → c ≡ d
same_counts a c d h e = cc

module _ (xs : List Slot) where
  too_many : most_slots < length xs → checked xs ≡ Err TooManySlots
  unfolding checked
  too_many l = cond-true (ltb most_slots (length xs)) (Err TooManySlots) (ended (length xs + 1) (run beginning 1 xs)) (lt-ltb most_slots (length xs) l)

  not_too_many : length xs ≤ most_slots → checked xs ≡ ended (length xs + 1) (run beginning 1 xs)
  unfolding checked
  not_too_many l = cond-false (ltb most_slots (length xs)) (Err TooManySlots) (ended (length xs + 1) (run beginning 1 xs)) (le-ltb most_slots (length xs) l)

  passes : (f : LawfulFile xs) → length xs ≤ most_slots → checked xs ≡ Ok (counts_of f.reading)
  passes f l =
      let g = lawful_runs xs f in
      not_too_many l
      ∙ ap (ended (length xs + 1)) g.runs
      ∙ cond-true (may_end g.to.expect) (Ok (counts g.to)) (Err (EndsEarly (length xs + 1))) (ap may_end g.ends)
      ∙ ap Ok g.counts

  one_reading : (f g : LawfulFile xs) → f.reading ≡ g.reading
  one_reading f g =
      unique f.reading g.reading (threaded f.reading f.lawful.statements) (threaded g.reading g.lawful.statements)
      (same_records (leaves f.reading) (leaves g.reading) f.lawful.formed g.lawful.formed (sym f.is ∙ g.is))

  -- BY WHAT HAS BEEN TAKEN

  through_lawful : (q : Place) → Through beginning xs q → may_end q.expect ≡ true → LawfulFile xs
  through_lawful q w e =
      let f = reads_lawful w.all (passed_reads formed_gives w.all q w.takes e w.formed) w.formed in
      record { reading = f.reading; lawful = f.lawful; is = w.is ∙ f.is }

  walked_lawful : (n : ℕ) (c : Counts) (a : Result Place FileFault) → Walked beginning 1 xs a → ended n a ≡ Ok c → LawfulFile xs
  walked_lawful n c (Err f) w h = absurd (no_fault f c h)
  walked_lawful n c (Ok q) w h =
      cond_both (may_end q.expect) (Ok (counts q)) (Err (EndsEarly n)) (λ y. y ≡ Ok c → LawfulFile xs)
      (λ e _. through_lawful q w e)
      (λ _ e. absurd (no_fault (EndsEarly n) c e))
      h

  -- the slots end where the file may not
  halted_at_end : (q : Place) → Through beginning xs q → may_end q.expect ≡ false → Halted beginning 1 xs (length xs + 1)
  halted_at_end q w e = record {
    before = w.all;
    formed = w.formed;
    behind = [];
    split = w.is ∙ sym (append-nil _);
    at = omega (arith, ap (λ (ys : List Slot). length ys) w.is, length_slots w.all);
    to = q;
    takes = w.takes;
    halts = e;
  }

  walked_halted : (f : FileFault) (a : Result Place FileFault) → Walked beginning 1 xs a → ended (length xs + 1) a ≡ Err f → Halted beginning 1 xs (fault_record f)
  walked_halted f (Err g) w h = subst (λ x. Halted beginning 1 xs (fault_record x)) (same_fault g f h) w
  walked_halted f (Ok q) w h =
      cond_both (may_end q.expect) (Ok (counts q)) (Err (EndsEarly (length xs + 1))) (λ y. y ≡ Err f → Halted beginning 1 xs (fault_record f))
      (λ _ e. absurd (no_fault f (counts q) (sym e)))
      (λ e k. subst (λ x. Halted beginning 1 xs (fault_record x)) (same_fault (EndsEarly (length xs + 1)) f k) (halted_at_end q w e))
      h

  module _ (sound : AllByRecursion Sound xs) where
    passed : (c : Counts) → checked xs ≡ Ok c → (f : LawfulFile xs) × (c ≡ counts_of f.reading) × (length xs ≤ most_slots)
    passed c h = elim (cases_lt most_slots (length xs)) [ inl l ↦ absurd (no_fault TooManySlots c (sym (too_many l) ∙ h)) | inr l ↦ within l ]
      where
        within : length xs ≤ most_slots → (f : LawfulFile xs) × (c ≡ counts_of f.reading) × (length xs ≤ most_slots)
        within l =
            let f = walked_lawful (length xs + 1) c (run beginning 1 xs) (walked beginning 1 xs sound) (sym (not_too_many l) ∙ h) in
            (f, same_counts (checked xs) c (counts_of f.reading) h (passes f l), l)

    refused : Completes → (f : FileFault) → length xs ≤ most_slots → checked xs ≡ Err f → FirstWrong xs (fault_record f)
    refused can f l h = first_wrong can xs (fault_record f) l (walked_halted f (run beginning 1 xs) (walked beginning 1 xs sound) (sym (not_too_many l) ∙ h))

pub check_theorem : Completes → CheckTheorem
check_theorem can xs sound = record { passed = passed xs sound; passes = passes xs; one_reading = one_reading xs; too_many = too_many xs; first_wrong = refused xs sound can }
