use Rattle.std.proofs.Common.{ℕ, ◌≡◌, ◌<◌, length, Some, sym, ◌∙◌, rules, arith}
use Rattle.std.proofs.iter.Serving.{serving}
use Rattle.tablebook.proofs.Stepping.{few, found_inside, last_told}
use Rattle.tablebook.proofs.memory.Memory.latest_kept.Goals as goal

pub map-requires : goal.map-requires
map-requires c =
    let m = c.args.self.now in
    let f = few m.rows.now m.kept m.accounts m.places.now m.backed.0 m.step in
    let inside : (j : ℕ) → c.find.result ≡ Some j → j < length m.places.now
    = λ j e. (let i = found_inside m.rows.now m.kept m.accounts m.places.now m.backed.0 m.step c.args.account.now j (sym e ∙ c.find.ensures) in omega arith) in
    grind (serving, inside)

pub returns : goal.returns
returns c =
    let m = c.args.self.now in
    let f = few m.rows.now m.kept m.accounts m.places.now m.backed.0 m.step in
    last_told m.rows.now m.kept m.accounts m.places.now m.backed.0 m.step c.args.account.now c.find.result c.map.result (omega arith) c.find.ensures (search rules)
