-- The calls of a book that keeps its rows in a list by its numbers: what the numbers refuse the book refuses,
-- and behind a call the list and the new numbers mean what the call says.
use Rattle.std.proofs.Common.{◌≡◌, ℕ, ◌+◌, ◌-◌, ◌<◌, ◌≤◌, Bool, true, false, cond, eqb, ◌⊎◌, List, [], ◌∷◌, ◌++◌, length, get_or, take, drop, set, Some, None, Ok, Err, Option, Result, sym, refl, ap, ◌∙◌, inl, inr, arith, length-drop, take-add}
use Rattle.std.proofs.lemmas.List.{length-take-le, take-set-le, drop-set-add, take_more_set, get_or-take}
use Rattle.std.specs.List.{slice_get}
use Rattle.std.proofs.lemmas.Option.{slice_get-get_or, slice_get_past}
use Rattle.std.proofs.lemmas.Bool.{cond-false, eqb-true, eqb-false, eq-eqb, ne_eqb}
use Rattle.rows.specs.declared.fields.Fields.{Fields}
use Rattle.cashbook.specs.declared.fault.BookFault.{BookFault}
use Rattle.cashbook.specs.declared.fault.BookFault.TheVariants.{BatchOpen, NoRoom, NoBatch}
use Rattle.cashbook.specs.Meaning.{Meaning, meaning, all_rows, free_rows}
use Rattle.cashbook.specs.Calls.{Outcome, refused, done, answer, after, when_done, opening, adding, committing, cancelling}
use Rattle.cashbook.specs.Questions.{kept_row}
use Rattle.cashbook.specs.Counting.{Figures, figure, used, batched, opened, added, committed, cancelled, counted, figures_of}
use Rattle.cashbook.specs.Sounding.{all_counted, counted_batch}

-- a call answered so, and left the book so
pub record Meets {T : Type 0} (outcome : Outcome T) (before behind : Meaning) (result : Result T BookFault) : Type 0 where
  pub answers : result ≡ answer outcome
  pub leaves : behind ≡ after before outcome

-- what a call leaves elsewhere, by its answer
pub left_by_refusal : {T X : Type 0} (outcome : Outcome T) (e : BookFault) (new old : X) → Err e ≡ answer outcome → old ≡ when_done outcome new old
left_by_refusal (refused fault) e new old h = refl
left_by_refusal (done x b) e new old h = let z : ◌≡◌ {A = ℕ} 0 1 = cc in absurd (omega arith)

pub left_by_call : {T X : Type 0} (outcome : Outcome T) (x : T) (new old : X) → Ok x ≡ answer outcome → new ≡ when_done outcome new old
left_by_call (refused fault) x new old h = let z : ◌≡◌ {A = ℕ} 0 1 = cc in absurd (omega arith)
left_by_call (done y b) x new old h = refl

clash : (f : Figures) (e : BookFault) → ◌≡◌ {A = Result Figures BookFault} (Ok f) (Err e) → ⊥
clash f e h = let z : ◌≡◌ {A = ℕ} 0 1 = cc in omega arith

ok_same : (f g : Figures) → ◌≡◌ {A = Result Figures BookFault} (Ok f) (Ok g) → f ≡ g
ok_same f g h = cc

err_same : (d e : BookFault) → ◌≡◌ {A = Result Figures BookFault} (Err d) (Err e) → d ≡ e
err_same d e h = cc

-- the numbers behind a call
pub record Numbers (g : Figures) (capacity kept all : ℕ) : Type 0 where
  pub capacity_is : g.capacity ≡ capacity
  pub kept_is : g.kept ≡ kept
  pub used_is : used g ≡ all

numbers : (g : Figures) (capacity kept : ℕ) (batch : Option ℕ) (all : ℕ) → ◌≡◌ {A = Result Figures BookFault} (Ok g) (Ok (figure capacity kept batch)) → used (figure capacity kept batch) ≡ all → Numbers g capacity kept all
numbers g capacity kept batch all h e =
    let same = ok_same g (figure capacity kept batch) h in
    record { capacity_is = ap (λ (f : Figures). f.capacity) same; kept_is = ap (λ (f : Figures). f.kept) same; used_is = ap used same ∙ e }

module _ (capacity kept : ℕ) where
  pub cancelled_numbers : (batch : Option ℕ) (g : Figures) → Ok g ≡ cancelled (figure capacity kept batch) → Numbers g capacity kept kept
  cancelled_numbers None g h = absurd (clash g NoBatch h)
  cancelled_numbers (Some n) g h = numbers g capacity kept None kept h (omega arith)

  pub committed_numbers : (batch : Option ℕ) (g : Figures) → Ok g ≡ committed (figure capacity kept batch) → Numbers g capacity (used (figure capacity kept batch)) (used (figure capacity kept batch))
  committed_numbers None g h = absurd (clash g NoBatch h)
  committed_numbers (Some n) g h = numbers g capacity (kept + n) None (kept + n) h (omega arith)

  pub opened_numbers : (batch : Option ℕ) (g : Figures) → Ok g ≡ opened (figure capacity kept batch) → Numbers g capacity kept kept
  opened_numbers None g h = numbers g capacity kept (Some 0) kept h (omega arith)
  opened_numbers (Some n) g h = absurd (clash g BatchOpen h)

module _ (capacity kept : ℕ) (rows : List Fields) where
  abbrev at : Option ℕ → Meaning
  at batch = counted (figure capacity kept batch) rows

  pub opened_refused : (batch : Option ℕ) (e : BookFault) → Err e ≡ opened (figure capacity kept batch) → Meets (opening (at batch)) (at batch) (at batch) (Err e)
  opened_refused None e h = absurd (clash _ e (sym h))
  opened_refused (Some n) e h = record { answers = ap Err (err_same e BatchOpen h); leaves = refl }

  pub opened_done : (batch : Option ℕ) (g : Figures) → Ok g ≡ opened (figure capacity kept batch) → Meets (opening (at batch)) (at batch) (counted g rows) (Ok tt)
  opened_done None g h = record { answers = refl; leaves = ap (λ (f : Figures). counted f rows) (ok_same g (figure capacity kept (Some 0)) h) }
  opened_done (Some n) g h = absurd (clash g BatchOpen h)

  pub cancelled_refused : (batch : Option ℕ) (e : BookFault) → Err e ≡ cancelled (figure capacity kept batch) → Meets (cancelling (at batch)) (at batch) (at batch) (Err e)
  cancelled_refused None e h = record { answers = ap Err (err_same e NoBatch h); leaves = refl }
  cancelled_refused (Some n) e h = absurd (clash _ e (sym h))

  -- the number of rows of the batch, as they are and as the book counts them
  batch_length : (n : ℕ) → kept + n ≤ length rows → length (take n (drop kept rows)) ≡ n
  batch_length n h = length-take-le n (drop kept rows) (omega (arith, length-drop kept rows))

  pub cancelled_done : (batch : Option ℕ) (g : Figures) → used (figure capacity kept batch) ≤ length rows → Ok g ≡ cancelled (figure capacity kept batch)
      → Meets (cancelling (at batch)) (at batch) (counted g rows) (Ok (batched (figure capacity kept batch)))
  cancelled_done None g room h = absurd (clash g NoBatch h)
  cancelled_done (Some n) g room h = record { answers = ap Ok (sym (batch_length n room)); leaves = ap (λ (f : Figures). counted f rows) (ok_same g (figure capacity kept None) h) }

  pub committed_refused : (batch : Option ℕ) (e : BookFault) → Err e ≡ committed (figure capacity kept batch) → Meets (committing (at batch)) (at batch) (at batch) (Err e)
  committed_refused None e h = record { answers = ap Err (err_same e NoBatch h); leaves = refl }
  committed_refused (Some n) e h = absurd (clash _ e (sym h))

  pub committed_done : (batch : Option ℕ) (g : Figures) → used (figure capacity kept batch) ≤ length rows → Ok g ≡ committed (figure capacity kept batch)
      → Meets (committing (at batch)) (at batch) (counted g rows) (Ok (batched (figure capacity kept batch)))
  committed_done None g room h = absurd (clash g NoBatch h)
  committed_done (Some n) g room h =
      record {
        answers = ap Ok (sym (batch_length n room));
        leaves = ap (λ (f : Figures). counted f rows) (ok_same g (figure capacity (kept + n) None) h) ∙ ap (λ ks. meaning capacity ks None) (take-add kept n rows);
      }

  pub all_long : (batch : Option ℕ) → used (figure capacity kept batch) ≤ length rows → length (all_rows (at batch)) ≡ used (figure capacity kept batch)
  all_long batch room = ap length (all_counted capacity kept rows batch) ∙ length-take-le (used (figure capacity kept batch)) rows room

  -- the numbers of what they count
  pub figures_counted : (batch : Option ℕ) → used (figure capacity kept batch) ≤ length rows → figures_of (at batch) ≡ figure capacity kept batch
  figures_counted None room = ap (λ k. figure capacity k None) (length-take-le kept rows (omega arith))
  figures_counted (Some n) room = ap (λ k. figure capacity k (Some (length (take n (drop kept rows))))) (length-take-le kept rows (omega arith)) ∙ ap (λ k. figure capacity kept (Some k)) (batch_length n room)

  -- a row was put behind those in use, where there was room
  pub record Added (batch : Option ℕ) (row : Fields) (g : Figures) : Type 0 where
    pub free : used (figure capacity kept batch) < capacity
    pub numbers_are : Numbers g capacity kept (used (figure capacity kept batch) + 1)
    pub meets : Meets (adding (at batch) row) (at batch) (counted g (set rows (used (figure capacity kept batch)) row)) (Ok tt)

  -- free rows by the numbers
  free_is : (batch : Option ℕ) → used (figure capacity kept batch) ≤ length rows → free_rows (at batch) ≡ capacity - used (figure capacity kept batch)
  free_is batch h = let e = length-take-le kept rows (omega arith) in let b = counted_batch capacity kept rows batch h in ap (λ n. capacity - n) (omega arith)

  pub counted_free : (batch : Option ℕ) → used (figure capacity kept batch) ≤ length rows → capacity - used (figure capacity kept batch) ≡ free_rows (at batch)
  counted_free batch h = sym (free_is batch h)

  module _ (row : Fields) (n : ℕ) (room : kept + n ≤ capacity) (backed : capacity ≤ length rows) where
    -- the batch with one row more
    abbrev more : Meaning
    more = meaning capacity (take kept rows) (Some (take n (drop kept rows) ++ row ∷ []))

    adding_is : (full : Bool) → eqb (kept + n) capacity ≡ full → adding (at (Some n)) row ≡ cond full (refused NoRoom) (done tt more)
    adding_is full e = ap (λ b. cond b (refused NoRoom) (done tt more)) (tests full e (free_is (Some n) (omega arith)))
      where
        tests : (b : Bool) → eqb (kept + n) capacity ≡ b → free_rows (at (Some n)) ≡ capacity - (kept + n) → eqb (free_rows (at (Some n))) 0 ≡ b
        tests true e f = eq-eqb _ 0 (let h = eqb-true (kept + n) capacity e in omega arith)
        tests false e f = ne_eqb _ 0 (λ z. eqb-false (kept + n) capacity e (omega arith))

    full_refused : (e : BookFault) (full : Bool) → eqb (kept + n) capacity ≡ full → Err e ≡ cond full (Err NoRoom) (Ok (figure capacity kept (Some (n + 1)))) → Meets (adding (at (Some n)) row) (at (Some n)) (at (Some n)) (Err e)
    full_refused e true t h = let a = adding_is true t in record { answers = ap Err (err_same e NoRoom h) ∙ ap answer (sym a); leaves = ap (after (at (Some n))) (sym a) }
    full_refused e false t h = absurd (clash _ e (sym h))

    -- the list with one row more
    one_more : kept + n < length rows → counted (figure capacity kept (Some (n + 1))) (set rows (kept + n) row) ≡ more
    one_more inside =
        let before : take kept (set rows (kept + n) row) ≡ take kept rows = take-set-le kept rows (kept + n) row (omega arith) in
        let behind : take (n + 1) (drop kept (set rows (kept + n) row)) ≡ take n (drop kept rows) ++ row ∷ []
        = ap (take (n + 1)) (drop-set-add kept rows n row) ∙ take_more_set (drop kept rows) n row (omega (arith, length-drop kept rows)) in
        ap (λ ks. meaning capacity ks (Some (take (n + 1) (drop kept (set rows (kept + n) row))))) before ∙ ap (λ bs. meaning capacity (take kept rows) (Some bs)) behind

    free_done : (g : Figures) (full : Bool) → eqb (kept + n) capacity ≡ full → Ok g ≡ cond full (Err NoRoom) (Ok (figure capacity kept (Some (n + 1)))) → Added (Some n) row g
    free_done g true t h = absurd (clash g NoRoom h)
    free_done g false t h =
        let ne = eqb-false (kept + n) capacity t in
        let free : kept + n < capacity = omega (arith, ne) in
        let a = adding_is false t in
        let e = ok_same g (figure capacity kept (Some (n + 1))) h in
        record {
          free = free;
          numbers_are = numbers g capacity kept (Some (n + 1)) (kept + n + 1) h (omega arith);
          meets = record { answers = ap answer (sym a); leaves = ap (λ (f : Figures). counted f (set rows (kept + n) row)) e ∙ (one_more (omega arith) ∙ ap (after (at (Some n))) (sym a)) };
        }

  module _ (row : Fields) where
    pub added_refused : (batch : Option ℕ) (e : BookFault) → used (figure capacity kept batch) ≤ capacity → capacity ≤ length rows → Err e ≡ added (figure capacity kept batch) → Meets (adding (at batch) row) (at batch) (at batch) (Err e)
    added_refused None e room backed h = record { answers = ap Err (err_same e NoBatch h); leaves = refl }
    added_refused (Some n) e room backed h = full_refused row n room backed e (eqb (kept + n) capacity) refl h

    pub added_done : (batch : Option ℕ) (g : Figures) → used (figure capacity kept batch) ≤ capacity → capacity ≤ length rows → Ok g ≡ added (figure capacity kept batch) → Added batch row g
    added_done None g room backed h = absurd (clash g NoBatch h)
    added_done (Some n) g room backed h = free_done row n room backed g (eqb (kept + n) capacity) refl h

  -- kept row n stands at n - 1 in the list
  pub kept_row_at : (batch : Option ℕ) (n : ℕ) (d : Fields) → 1 ≤ n → n ≤ kept → kept ≤ length rows → kept_row (at batch) n ≡ Some (get_or rows (n - 1) d)
  kept_row_at batch n d some within room =
      let e : eqb n 0 ≡ false = ne_eqb n 0 (λ z. omega arith) in
      let l = length-take-le kept rows room in
      cond-false (eqb n 0) None (slice_get (take kept rows) (n - 1)) e ∙ (slice_get-get_or (take kept rows) (n - 1) d (omega arith) ∙ ap Some (get_or-take kept rows (n - 1) d (omega arith)))

  pub no_row : (batch : Option ℕ) (n : ℕ) → (n ≡ 0) ⊎ (kept < n) → kept ≤ length rows → kept_row (at batch) n ≡ None
  no_row batch n (inl zero) room = rw zero refl
  no_row batch n (inr behind) room =
      let e : eqb n 0 ≡ false = ne_eqb n 0 (λ z. omega arith) in
      let l = length-take-le kept rows room in
      cond-false (eqb n 0) None (slice_get (take kept rows) (n - 1)) e ∙ slice_get_past (take kept rows) (n - 1) (omega arith)
