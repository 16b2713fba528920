-- The machine over slots takes the formed records in them, up to the first slot that it does not take.
--   run_on   behind records that are taken the machine runs on
--   walked   what it has taken behind a run, or in front of a fault
use Rattle.std.proofs.Common.{◌≡◌, ℕ, add-zero, suc, ◌+◌, false, List, [], ◌∷◌, ◌++◌, length, Ok, Err, Result, sym, refl, ap, ◌∙◌, arith}
use Rattle.std.specs.List.{AllByRecursion}
use Rattle.source.specs.Slots.{Slot, whole, damaged, Sound}
use Rattle.grammar.specs.declared.faults.StatementFault.{StatementFault}
use Rattle.grammar.specs.declared.faults.FileFault.{FileFault}
use Rattle.grammar.specs.Leaves.{Leaf, bytes, Formed}
use Rattle.grammar.specs.Files.{slots}
use Rattle.grammar.specs.Order.{may_end}
use Rattle.grammar.specs.Places.{Place}
use Rattle.grammar.specs.Faults.{fault_record}
use Rattle.grammar.specs.Steps.{step, onward, run}
use Rattle.grammar.proofs.Takes.{Takes}
use Rattle.grammar.proofs.Stepping.{Leads, leads, step_formed}

one_more : (n m : ℕ) → n + 1 + m ≡ n + suc m
one_more n m = omega arith

pub run_on : (p : Place) (rs : List Leaf) (q : Place) (n : ℕ) (ys : List Slot) → AllByRecursion Formed rs → Takes p rs q → run p n (slots rs ++ ys) ≡ run q (n + length rs) ys
run_on p [] q n ys f t = ap (λ x. run x n ys) t ∙ ap (λ m. run q m ys) (sym (add-zero n))
run_on p (r ∷ rs) q n ys f t =
    ap (onward n (λ x. run x (n + 1) (slots rs ++ ys))) (step_formed p r f.0 ∙ t.1)
    ∙ run_on t.0 rs q (n + 1) ys f.1 t.2
    ∙ ap (λ m. run q m ys) (one_more n (length rs))

-- WHAT HAS BEEN TAKEN

-- the slots are those of formed records, which are taken
pub record Through (p : Place) (xs : List Slot) (q : Place) : Type 0 where
  pub all : List Leaf
  pub formed : AllByRecursion Formed all
  pub is : xs ≡ slots all
  pub takes : Takes p all q

-- at the end where none may be, at a damaged slot, or at a record that is not taken
abbrev pub Halts : Place → List Slot → Type 0
Halts t [] = may_end t.expect ≡ false
Halts t (damaged damage ∷ xs) = Unit {0}
Halts t (whole b ∷ xs) = (f : StatementFault) × (step t b ≡ Err f)

-- of slots of which the first has number n, slot k is where the machine halts
pub record Halted (p : Place) (n : ℕ) (xs : List Slot) (k : ℕ) : Type 0 where
  pub before : List Leaf
  pub formed : AllByRecursion Formed before
  pub behind : List Slot
  pub split : xs ≡ slots before ++ behind
  pub at : k ≡ n + length before
  pub to : Place
  pub takes : Takes p before to
  pub halts : Halts to behind

pub halted_here : (p : Place) (n : ℕ) (xs : List Slot) → Halts p xs → Halted p n xs n
halted_here p n xs h = record { before = []; formed = tt; behind = xs; split = refl; at = sym (add-zero n); to = p; takes = refl; halts = h }

abbrev pub Walked : Place → ℕ → List Slot → Result Place FileFault → Type 0
Walked p n xs (Ok q) = Through p xs q
Walked p n xs (Err f) = Halted p n xs (fault_record f)

-- one record more in front
walked_on : (p : Place) (n : ℕ) (b : List ℕ) (xs : List Slot) (q : Place) (a : Result Place FileFault) → Leads p b q → Walked q (n + 1) xs a → Walked p n (whole b ∷ xs) a
walked_on p n b xs q (Ok to) l w = record {
  all = l.one ∷ w.all;
  formed = (l.formed, w.formed);
  is = ap (λ (y : List ℕ). whole y ∷ xs) (sym l.is) ∙ ap (whole (bytes l.one) ∷◌) w.is;
  takes = (q, l.taken, w.takes);
}
walked_on p n b xs q (Err f) l w = record {
  before = l.one ∷ w.before;
  formed = (l.formed, w.formed);
  behind = w.behind;
  split = ap (λ (y : List ℕ). whole y ∷ xs) (sym l.is) ∙ ap (whole (bytes l.one) ∷◌) w.split;
  at = w.at ∙ one_more n (length w.before);
  to = w.to;
  takes = (q, l.taken, w.takes);
  halts = w.halts;
}

pub walked : (p : Place) (n : ℕ) (xs : List Slot) → AllByRecursion Sound xs → Walked p n xs (run p n xs)
walked p n [] s = record { all = []; formed = tt; is = refl; takes = refl }
walked p n (damaged damage ∷ xs) s = halted_here p n (damaged damage ∷ xs) tt
walked p n (whole b ∷ xs) s = by (step p b) refl (λ q. walked q (n + 1) xs s.1)
  where
    by : (a : Result Place StatementFault) → step p b ≡ a → ((q : Place) → Walked q (n + 1) xs (run q (n + 1) xs)) → Walked p n (whole b ∷ xs) (onward n (λ q. run q (n + 1) xs) a)
    by (Ok q) h others = walked_on p n b xs q (run q (n + 1) xs) (leads p b q s.0 h) (others q)
    by (Err f) h others = halted_here p n (whole b ∷ xs) (f, h)
