-- Whatever has been taken can be completed, so the check's answer says what it should.
use Rattle.std.proofs.Common.{suc, ◌+◌, ◌≤◌, List, [], ◌∷◌, length, subst, arith}
use Rattle.grammar.specs.Leaves.{Leaf}
use Rattle.grammar.specs.Places.{Place, beginning}
use Rattle.grammar.specs.Theorems.{CheckTheorem}
use Rattle.grammar.proofs.Taken.{taken_moves}
use Rattle.grammar.proofs.Takes.{Takes}
use Rattle.grammar.proofs.Standing.{standing_start}
use Rattle.grammar.proofs.Progress.{Can, can}
use Rattle.grammar.proofs.Reached.{Way, here, on, way_standing, way_count}
use Rattle.grammar.proofs.Refusing.{Completes}
use Rattle.grammar.proofs.Checked.{check_theorem}

takes_way : (p : Place) (rs : List Leaf) (q : Place) → Takes p rs q → Way p.expect p.numbers p.sums rs q.expect q.numbers q.sums
takes_way p [] q t = subst (λ (x : Place). Way p.expect p.numbers p.sums [] x.expect x.numbers x.sums) t here
takes_way p (r ∷ rs) q t = on (taken_moves p r t.0 t.1).moves (takes_way t.0 rs q t.2)

pub completes : Completes
completes before t formed taken few =
    let w = takes_way beginning before t taken in
    let counted : t.sums.count ≤ suc (0 + length before) = way_count 0 w (omega arith) in
    let c : Can t.expect t.numbers t.sums = can t.expect t.numbers t.sums (way_standing w formed standing_start) (omega arith) in
    (c.rest, c.ran, c.formed)

pub the_check : CheckTheorem
the_check = check_theorem completes
