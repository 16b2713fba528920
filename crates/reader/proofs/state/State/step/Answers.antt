use Rattle.std.proofs.Common.{arith, rules, ◌≡◌, Ok}
use Rattle.grammar.specs.Steps.{step}
use Rattle.reader.specs.Means.{place_of}
use Rattle.reader.proofs.Growing.{grows}
use Rattle.reader.proofs.state.State.step.Goals as goal

pub invariant_of-self : goal.invariant_of-self
invariant_of-self c =
    let e : step (place_of c.args.self.now.standing) c.args.bytes.now ≡ Ok (place_of c.in_ok-standing.standing) = search rules in
    let g = grows (place_of c.args.self.now.standing) (place_of c.in_ok-standing.standing) c.args.bytes.now c.told-bytes e in
    record {
      count_bound = omega (arith, g.count, c.args.self.now.count_bound);
      statements_bound = omega (arith, g.statements, c.args.self.now.statements_bound);
      movements_bound = omega (arith, g.movements, c.args.self.now.movements_bound);
    }
