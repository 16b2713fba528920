use Rattle.std.proofs.Common.{◌≡◌, ◌+◌, ◌<◌, ◌-◌, ℕ, length, Some, take, drop, length-drop, sym, ◌∙◌, rules, arith}
use Rattle.std.proofs.iter.Serving.{serving}
use Rattle.std.proofs.lemmas.List.{length-take-le}
use Rattle.placing.proofs.Standing.{last_stands}
use Rattle.tablebook.proofs.Seeking.{last_of_both}
use Rattle.tablebook.proofs.memory.Memory.latest.Goals as goal

pub map-requires : goal.map-requires
map-requires c =
    let m = c.args.self.now in
    let long = length-take-le (c.args.end - m.kept) (drop m.kept m.rows.now) (omega (arith, length-drop m.kept m.rows.now)) in
    let inside : (i : ℕ) → c.last.result ≡ Some i → m.kept + i < length m.rows.now
    = λ i e. (let stands = last_stands c.args.account.now (take (c.args.end - m.kept) (drop m.kept m.rows.now)) i (sym (sym e ∙ c.last.ensures)) in let n = stands.inside in omega arith) in
    grind (serving, inside)

pub returns : goal.returns
returns c =
    let m = c.args.self.now in
    last_of_both c.args.account.now m.rows.now m.kept c.args.end c.requires.0 c.requires.1 c.last.result c.map.result c.or_else.result c.last.ensures (search rules) c.or_else.ensures
