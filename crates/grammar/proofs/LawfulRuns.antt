-- The records of the runs of the machine are those of the lawful files.
--   reads_lawful   the slots of formed records that are those of statements are a lawful file
--   lawful_runs    the machine goes through a lawful file
use Rattle.std.proofs.Common.{◌≡◌, ℕ, List, [], length, Ok, sym, ap, ◌∙◌, subst}
use Rattle.std.specs.List.{AllByRecursion}
use Rattle.std.proofs.lemmas.List.{append-nil}
use Rattle.source.specs.Slots.{Slot}
use Rattle.grammar.specs.declared.expect.Expect.TheVariants as E
use Rattle.grammar.specs.declared.faults.Counts.{Counts}
use Rattle.grammar.specs.Leaves.{Leaf, Formed}
use Rattle.grammar.specs.Readings.{Reading, leaves}
use Rattle.grammar.specs.Codes.{Codes}
use Rattle.grammar.specs.Files.{slots, LawfulFile}
use Rattle.grammar.specs.Places.{Place, beginning}
use Rattle.grammar.specs.Steps.{run, counts}
use Rattle.grammar.specs.Theorems.{counts_of}
use Rattle.grammar.proofs.Straight.{straight, threaded}
use Rattle.grammar.proofs.Takes.{Takes}
use Rattle.grammar.proofs.Counted.{movements_in_leaves}
use Rattle.grammar.proofs.Sound.{Reads}
use Rattle.grammar.proofs.Runs.{counters_of, reads_passed}
use Rattle.grammar.proofs.FormedGiven.{formed_gives}
use Rattle.grammar.proofs.Walking.{run_on}

pub reads_lawful : (rs : List Leaf) → Reads rs → AllByRecursion Formed rs → LawfulFile (slots rs)
reads_lawful rs x f = record {
  reading = x.statements;
  lawful = record {
    one = x.one;
    statements = straight x.statements x.ok;
    codes = subst Codes (sym x.is) x.codes;
    formed = subst (AllByRecursion Formed) (sym x.is) f;
  };
  is = ap slots (sym x.is);
}

counts_taken : (r : Reading) (q : Place) → Takes beginning (leaves r) q → counts q ≡ counts_of r
counts_taken r q t =
    let c = counters_of r q t in
    ap (λ n. counted n q.movements) c.statements ∙ ap (counted (length r)) (c.movements ∙ movements_in_leaves r)
  where
    counted : ℕ → ℕ → Counts
    counted n m = record { statements = n; movements = m }

-- the machine goes through the slots to where the file may end
pub record GoesThrough (xs : List Slot) (f : LawfulFile xs) : Type 0 where
  pub to : Place
  pub runs : run beginning 1 xs ≡ Ok to
  pub ends : to.expect ≡ E.End
  pub counts : counts to ≡ counts_of f.reading

pub lawful_runs : (xs : List Slot) (f : LawfulFile xs) → GoesThrough xs f
lawful_runs xs f =
    let rs = leaves f.reading in
    let e = reads_passed formed_gives f.reading f.lawful.one (threaded f.reading f.lawful.statements) f.lawful.codes f.lawful.formed in
    record {
      to = e.to;
      runs = ap (run beginning 1) (f.is ∙ sym (append-nil (slots rs))) ∙ run_on beginning rs e.to 1 [] f.lawful.formed e.takes;
      ends = e.ends;
      counts = counts_taken f.reading e.to e.takes;
    }
