use Rattle.std.proofs.Common.{◌+◌, ◌≤◌, max, unwrap_or, refl, ap, ◌∙◌, arith}
use Rattle.tablebook.proofs.Stepping.{few, keeps_movement, keeps_statement}
use Rattle.tablebook.proofs.memory.Memory.keep_next.Goals.{After-unwrap_or-j, in_default, in-Statement}
use Rattle.tablebook.proofs.memory.Memory.keep_next.Goals as goal

-- the place of the row's account stands among those in use, or behind them
within : (c : After-unwrap_or-j) → c.unwrap_or-j.result ≤ c.args.self.now.kept
within c =
    let m = c.args.self.now in
    let is = c.unwrap_or-j.ensures ∙ ap (λ o. unwrap_or o m.accounts) c.find.ensures in
    let k = keeps_statement m.rows.now m.kept m.accounts m.places.now c.requires.0 m.step _ _ c.in-Statement.is c.requires.1.0 c.unwrap_or-j.result (max m.accounts (c.unwrap_or-j.result + 1)) is refl in
    let f = few m.rows.now m.kept m.accounts m.places.now m.backed.0 m.step in
    omega arith

pub bounds-self-j : goal.bounds-self-j
bounds-self-j c = let w = within c in omega arith

pub offset_bounds-self-j : goal.offset_bounds-self-j
offset_bounds-self-j c = let w = within c in omega arith

pub overflow_add-j : goal.overflow_add-j
overflow_add-j c = let w = within c in omega arith

pub invariant_of-self : goal.invariant_of-self
invariant_of-self c =
    let m = c.args.self.now in
    elim c.match-self.branch [
      | in_default w ↦ (
          let k = keeps_movement m.rows.now m.kept m.accounts m.places.now c.requires.0 m.step _ _ w.in_default.is in
          rw w.self-is record { backed = (omega arith, omega arith); step = k.step })
      | in-Statement w ↦ (
          let is = w.unwrap_or-j.ensures ∙ ap (λ o. unwrap_or o m.accounts) w.find.ensures in
          let k = keeps_statement m.rows.now m.kept m.accounts m.places.now c.requires.0 m.step _ _ w.in-Statement.is c.requires.1.0 w.unwrap_or-j.result w.max-self.result is w.max-self.ensures in
          let l = k.1.long in
          rw w.self-is record { backed = (omega arith, omega arith); step = k.1.step })
    ]

pub returns-clause-places : goal.returns-clause-places
returns-clause-places c =
    let m = c.args.self.now in
    elim c.match-self.branch [
      | in_default w ↦ rw w.self-is (keeps_movement m.rows.now m.kept m.accounts m.places.now c.requires.0 m.step _ _ w.in_default.is).is
      | in-Statement w ↦ (
          let is = w.unwrap_or-j.ensures ∙ ap (λ o. unwrap_or o m.accounts) w.find.ensures in
          rw w.self-is (keeps_statement m.rows.now m.kept m.accounts m.places.now c.requires.0 m.step _ _ w.in-Statement.is c.requires.1.0 w.unwrap_or-j.result w.max-self.result is w.max-self.ensures).1.is)
    ]
