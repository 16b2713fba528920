use Rattle.std.proofs.Common.{ℕ, ◌≡◌, ◌<◌, length, get_or, take, rules, arith}
use Rattle.std.proofs.iter.Serving.{serving}
use Rattle.tablebook.proofs.Stepping.{places_in, account_sought}
use Rattle.tablebook.proofs.memory.Memory.find.Goals as goal

pub position-requires-clause-callable : goal.position-requires-clause-callable
position-requires-clause-callable c =
    let m = c.args.self.now in
    let rest : c.iter.result.rest.now ≡ take m.accounts m.places.now = cc in
    let inside : (j e : ℕ) → j < length c.iter.result.rest.now → get_or c.iter.result.rest.now j e < length m.rows.now
    = rw rest (λ j e i. (let p = places_in m.rows.now m.kept m.accounts m.places.now m.backed.0 m.step j e i in omega arith)) in
    grind serving

pub returns : goal.returns
returns c =
    let m = c.args.self.now in
    account_sought m.rows.now m.kept m.accounts m.places.now m.backed.0 m.step c.args.account.now c.position.result (search rules)
