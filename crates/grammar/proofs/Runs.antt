-- The machine, from the beginning of a file to where it may end, passes just the records of statements that keep the threaded rules.
use Rattle.std.proofs.Common.{◌≡◌, ℕ, ◌+◌, true, List, [], length, refl, ◌∙◌, arith}
use Rattle.std.specs.List.{AllByRecursion}
use Rattle.std.proofs.lemmas.Bool.{false≢true}
use Rattle.grammar.specs.declared.expect.Expect.{Expect}
use Rattle.grammar.specs.declared.expect.Expect.TheVariants as E
use Rattle.grammar.specs.Leaves.{Leaf, Formed}
use Rattle.grammar.specs.Readings.{Statement, leaves}
use Rattle.grammar.specs.Codes.{Codes}
use Rattle.grammar.specs.Order.{may_end}
use Rattle.grammar.specs.Places.{Place, beginning}
use Rattle.grammar.specs.Counting.{statements_in, movements_in}
use Rattle.grammar.proofs.Threaded.{StatementsOk}
use Rattle.grammar.proofs.FormedGives.{FormedGives}
use Rattle.grammar.proofs.Takes.{Takes, Ends, takes_run, run_ends}
use Rattle.grammar.proofs.Counted.{statements_taken, movements_taken, statements_in_leaves}
use Rattle.grammar.proofs.Sound.{Reads, sound}
use Rattle.grammar.proofs.Complete.{complete}

-- the counters at a place are those of the statements ss
pub record CountersOf (ss : List Statement) (q : Place) : Type 0 where
  pub statements : q.statements ≡ length ss
  pub movements : q.movements ≡ movements_in (leaves ss)

from_none : (a b : ℕ) → a ≡ 0 + b → a ≡ b
from_none a b h = omega arith

pub counters_of : (ss : List Statement) (q : Place) → Takes beginning (leaves ss) q → CountersOf ss q
counters_of ss q t = record {
  statements = from_none q.statements (statements_in (leaves ss)) (statements_taken beginning (leaves ss) q t) ∙ statements_in_leaves ss;
  movements = from_none q.movements (movements_in (leaves ss)) (movements_taken beginning (leaves ss) q t);
}

only_end : (e : Expect) → may_end e ≡ true → e ≡ E.End
only_end E.Start h = absurd (false≢true h)
only_end E.Header h = absurd (false≢true h)
only_end E.OldBalance h = absurd (false≢true h)
only_end E.Opened h = absurd (false≢true h)
only_end E.Second h = absurd (false≢true h)
only_end E.Counterparty h = absurd (false≢true h)
only_end E.Information h = absurd (false≢true h)
only_end E.InformationSecond h = absurd (false≢true h)
only_end E.InformationThird h = absurd (false≢true h)
only_end E.Further h = absurd (false≢true h)
only_end E.FirstCommunication h = absurd (false≢true h)
only_end E.Communication h = absurd (false≢true h)
only_end E.Trailer h = absurd (false≢true h)
only_end E.End h = refl

module _ (given : FormedGives) where
  pub passed_reads : (rs : List Leaf) (q : Place) → Takes beginning rs q → may_end q.expect ≡ true → AllByRecursion Formed rs → Reads rs
  passed_reads rs q t h formed = sound given (takes_run beginning rs q t (only_end q.expect h)) formed

  pub reads_passed : (ss : List Statement) → (ss ≡ [] → ⊥) → StatementsOk ss → Codes (leaves ss) → AllByRecursion Formed (leaves ss) → Ends beginning (leaves ss)
  reads_passed ss one ok codes formed = run_ends 0 0 (complete given ss ok codes formed one)
