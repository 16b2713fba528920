-- Where the machine halts, the slots before are the beginning of a lawful file, and no lawful file goes on with the next.
use Rattle.std.proofs.Common.{◌≡◌, ℕ, ◌+◌, ◌≤◌, List, [], ◌∷◌, ◌++◌, length, Ok, Err, Result, sym, ap, ◌∙◌, subst, arith}
use Rattle.std.specs.List.{AllByRecursion}
use Rattle.std.proofs.ByRecursion.{All-append}
use Rattle.std.proofs.lemmas.List.{append-nil, append_assoc, map-append, length-map, length-append}
use Rattle.std.proofs.lemmas.Bool.{both_ways}
use Rattle.source.specs.Slots.{Slot, whole, damaged}
use Rattle.grammar.specs.declared.faults.FileFault.{FileFault}
use Rattle.grammar.specs.Leaves.{Leaf, bytes, Formed}
use Rattle.grammar.specs.Files.{slots, LawfulFile, Begins, Wrong, FirstWrong}
use Rattle.grammar.specs.Order.{may_end}
use Rattle.grammar.specs.Places.{Place, beginning}
use Rattle.grammar.specs.Steps.{onward, run, most_slots}
use Rattle.grammar.proofs.Moves.{Run, go}
use Rattle.grammar.proofs.Taken.{taken_moves}
use Rattle.grammar.proofs.Takes.{Takes}
use Rattle.grammar.proofs.Sound.{sound}
use Rattle.grammar.proofs.FormedGiven.{formed_gives}
use Rattle.grammar.proofs.Walking.{run_on, Halts, Halted}
use Rattle.grammar.proofs.LawfulRuns.{reads_lawful, lawful_runs}

-- A LAWFUL FILE BEGINS

-- whatever has been taken can be completed
abbrev pub Completes : Type 0
Completes = (before : List Leaf) (t : Place) → AllByRecursion Formed before → Takes beginning before t → length before ≤ most_slots
    → (rest : List Leaf) × Run t.expect t.numbers t.sums rest × AllByRecursion Formed rest

taken_before : (p : Place) (rs : List Leaf) (q : Place) (rest : List Leaf) → Takes p rs q → Run q.expect q.numbers q.sums rest → Run p.expect p.numbers p.sums (rs ++ rest)
taken_before p [] q rest t x = subst (λ (y : Place). Run y.expect y.numbers y.sums rest) (sym t) x
taken_before p (r ∷ rs) q rest t x = go (taken_moves p r t.0 t.1).moves (taken_before t.0 rs q rest t.2 x)

file_begins : Completes → (before : List Leaf) (t : Place) → AllByRecursion Formed before → Takes beginning before t → length before ≤ most_slots → Begins (slots before)
file_begins can before t f x l =
    let c = can before t f x l in
    let all : AllByRecursion Formed (before ++ c.0) = All-append Formed before c.0 f c.2 in
    record {
      others = slots c.0;
      file = subst LawfulFile (map-append (λ r. whole (bytes r)) before c.0) (reads_lawful (before ++ c.0) (sound formed_gives (taken_before beginning before t c.0 x c.1) all) all);
    }

-- NO LAWFUL FILE GOES ON

pub no_fault : {A : Type 0} (f : FileFault) (x : A) → ◌≡◌ {A = Result A FileFault} (Err f) (Ok x) → ⊥
no_fault f x h = let z : ◌≡◌ {A = ℕ} 0 1 = cc in absurd (omega arith)

halts_there : (x : Slot) (behind others : List Slot) (t : Place) (n : ℕ) (q : Place) → Halts t (x ∷ behind) → run t n (x ∷ others) ≡ Ok q → ⊥
halts_there (damaged damage) behind others t n q h e = no_fault _ q e
halts_there (whole b) behind others t n q h e = no_fault _ q (sym (ap (onward n (λ p. run p (n + 1) others)) h.1) ∙ e)

same_place : (p q : Place) → ◌≡◌ {A = Result Place FileFault} (Ok p) (Ok q) → p ≡ q
same_place p q h = cc

goes_wrong : (before : List Leaf) (behind : List Slot) (t : Place) → AllByRecursion Formed before → Takes beginning before t → Halts t behind → Wrong (slots before) behind
goes_wrong before [] t f x h = λ file.
    let g = lawful_runs (slots before) file in
    let e : t ≡ g.to = same_place t g.to (sym (run_on beginning before t 1 [] f x) ∙ ap (run beginning 1) (append-nil (slots before)) ∙ g.runs) in
    both_ways (may_end t.expect) h (ap (λ (p : Place). may_end p.expect) e ∙ ap may_end g.ends)
goes_wrong before (y ∷ behind) t f x h = λ b.
    let g = lawful_runs ((slots before ++ (y ∷ [])) ++ b.others) b.file in
    halts_there y behind b.others t (1 + length before) g.to h
    (sym (run_on beginning before t 1 (y ∷ b.others) f x) ∙ ap (run beginning 1) (sym (append_assoc (slots before) (y ∷ []) b.others)) ∙ g.runs)

-- THE FIRST WRONG SLOT

pub length_slots : (rs : List Leaf) → length (slots rs) ≡ length rs
length_slots rs = length-map rs (λ r. whole (bytes r))

pub first_wrong : Completes → (xs : List Slot) (k : ℕ) → length xs ≤ most_slots → Halted beginning 1 xs k → FirstWrong xs k
first_wrong can xs k l h = record {
  before = slots h.before;
  behind = h.behind;
  split = h.split;
  at = omega (arith, h.at, length_slots h.before);
  begins = file_begins can h.before h.to h.formed h.takes short;
  wrong = goes_wrong h.before h.behind h.to h.formed h.takes h.halts;
}
  where
    short : length h.before ≤ most_slots
    short = omega (arith, l, ap (λ (ys : List Slot). length ys) h.split, length-append (slots h.before) h.behind, length_slots h.before)
