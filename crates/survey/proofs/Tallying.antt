-- Counting slots one by one.
use Rattle.std.proofs.Common.{◌≡◌, ℕ, ◌+◌, ◌-◌, ◌<◌, ◌≤◌, cond, List, [], length, get_or, take, Some, Result, refl, ap, ◌∙◌, arith}
use Rattle.std.proofs.lemmas.List.Sums.{sum_by_more}
use Rattle.source.specs.Slots.{Slot, whole, damaged, slot_at}
use Rattle.source.specs.Fetching.{answer, left_in}
use Rattle.source.specs.declared.source.NoRecord.{NoRecord}
use Rattle.source.proofs.Numbered.{present}
use Rattle.survey.specs.declared.Sort.{Sort}
use Rattle.survey.specs.Sorts.{is_same, sort_of, tally}
use Rattle.survey.specs.Fetches.{fetched_sort}

no_slot : Slot
no_slot = whole []

-- fetching a slot tells its sort
fetched_as : (s : Slot) (old : List ℕ) → fetched_sort (answer (Some s)) (left_in (Some s) old) ≡ sort_of s
fetched_as (whole bytes) old = refl
fetched_as (damaged damage) old = refl

-- slot n of the slots, which are as they were, is fetched and counted
pub one_more : (xs ys : List Slot) (n : ℕ) (f : Result (Unit {0}) NoRecord) (old bytes : List ℕ) (this sort : Sort) (before after : ℕ) → ys ≡ xs → 0 < n → n ≤ length ys
    → f ≡ answer (slot_at ys n) → bytes ≡ left_in (slot_at ys n) old → this ≡ fetched_sort f bytes → before ≡ tally sort (take (n - 1) xs) → after ≡ cond (is_same this sort) 1 0 + before
    → after ≡ tally sort (take n xs)
one_more xs ys n f old bytes this sort before after same positive within answers writes told counted more =
    let slot = get_or ys (n - 1) no_slot in
    let here : slot_at ys n ≡ Some slot = present ys n no_slot positive within in
    let fetched : fetched_sort f bytes ≡ sort_of slot =
    ap (λ v. fetched_sort v bytes) (answers ∙ ap answer here) ∙ (ap (fetched_sort (answer (Some slot))) (writes ∙ ap (λ o. left_in o old) here) ∙ fetched_as slot old) in
    let one = ap {B = ℕ} (λ v. cond (is_same v sort) 1 0) (told ∙ fetched) in
    let next = sum_by_more (λ s. cond (is_same (sort_of s) sort) 1 0) ys (n - 1) no_slot (omega arith) in
    let last = ap (λ k. tally sort (take k ys)) (back n positive) in
    let front = ap (λ slots. tally sort (take (n - 1) slots)) same in
    let all = ap (λ slots. tally sort (take n slots)) same in
    omega (arith, one, next, last, front, all, counted, more)
  where
    back : (k : ℕ) → 0 < k → k - 1 + 1 ≡ k
    back k some = omega (arith, some)
