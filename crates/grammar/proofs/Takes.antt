-- The machine taking records one after the other, from place to place: its runs.
use Rattle.std.proofs.Common.{◌≡◌, ℕ, List, [], ◌∷◌, Ok, sym, refl, ap, ◌∙◌, subst}
use Rattle.grammar.specs.declared.expect.Expect.{Expect}
use Rattle.grammar.specs.declared.expect.Expect.TheVariants as E
use Rattle.grammar.specs.Leaves.{Leaf, kind, bytes}
use Rattle.grammar.specs.Places.{Numbers, Sums, Place}
use Rattle.grammar.specs.Steps.{take_values}
use Rattle.grammar.specs.Counting.{statements_behind, movements_behind}
use Rattle.grammar.proofs.Moves.{Run, done, go}
use Rattle.grammar.proofs.Taken.{at, behind_leaf, taken_moves, moves_taken}

-- the machine takes the records one after the other
abbrev pub Takes : Place → List Leaf → Place → Type 0
Takes p [] q = p ≡ q
Takes p (r ∷ rs) q = (x : Place) × (take_values p (kind r) (bytes r) ≡ Ok x) × Takes x rs q

pub takes_run : (p : Place) (rs : List Leaf) (q : Place) → Takes p rs q → q.expect ≡ E.End → Run p.expect p.numbers p.sums rs
takes_run p [] q t h = subst (λ e. Run e p.numbers p.sums []) (sym (ap (λ x. x.expect) t ∙ h)) done
takes_run p (r ∷ rs) q t h = go (taken_moves p r t.0 t.1).moves (takes_run t.0 rs q t.2 h)

-- from a place the machine takes the records up to the end
pub record Ends (p : Place) (rs : List Leaf) : Type 0 where
  pub to : Place
  pub takes : Takes p rs to
  pub ends : to.expect ≡ E.End

pub run_ends : {e : Expect} {n : Numbers} {s : Sums} {rs : List Leaf} (c m : ℕ) → Run e n s rs → Ends (at e n s c m) rs
run_ends c m (done {n = n} {s = s}) = record { to = at E.End n s c m; takes = refl; ends = refl }
run_ends c m (go {f = f} {m = k} {t = t} {r = r} x y) =
    let others = run_ends (statements_behind r c) (movements_behind r m) y in
    record { to = others.to; takes = (behind_leaf r c m f k t, moves_taken c m x, others.takes); ends = others.ends }
