-- What the reader's state means: a place in a file.
use Rattle.std.specs.Prelude.{◌≡◌, ℕ, Ok, Err, Result}
use Rattle.grammar.specs.declared.faults.StatementFault.{StatementFault}
use Rattle.grammar.specs.Places as P
use Rattle.grammar.specs.Places.{Place}
use Rattle.reader.specs.declared.state.Numbers.{Numbers}
use Rattle.reader.specs.declared.state.Sums.{Sums}
use Rattle.reader.specs.declared.state.Standing.{Standing}
use Rattle.reader.specs.declared.state.State.{State}
use Rattle.reader.specs.Levels.{levels_of}

abbrev pub numbers_of : Numbers → P.Numbers
numbers_of n = record { sequence = n.sequence; detail = n.detail; reference = n.reference; type = n.main_type; seven = n.seven; levels = levels_of n.levels }

abbrev pub sums_of : Sums → ℕ → P.Sums
sums_of s count = record { account = s.account; balance = s.balance; debits = s.debits; credits = s.credits; count = count }

abbrev pub place_of : Standing → Place
place_of s = record { expect = s.expect; numbers = numbers_of s.numbers; sums = sums_of s.sums s.count; statements = s.statements; movements = s.movements }

abbrev pub means : State → Place
means s = place_of s.standing

abbrev pub meant : Result Standing StatementFault → Result Place StatementFault
meant (Ok s) = Ok (place_of s)
meant (Err f) = Err f

-- what a step answers, and where it leaves the reader: behind a refusal it is where it was
abbrev pub Stepped : Place → Result Place StatementFault → Place → Result (Unit {0}) StatementFault → Type 0
Stepped p (Ok q) after r = (r ≡ Ok tt) × (after ≡ q)
Stepped p (Err f) after r = (r ≡ Err f) × (after ≡ p)
