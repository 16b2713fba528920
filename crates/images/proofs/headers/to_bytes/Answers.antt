use Rattle.std.proofs.Common.{◌≡◌, ap, ◌∙◌, rules}
use Rattle.recordbytes.specs.Joins.{joined}
use Rattle.images.specs.Headers.{four_bytes}
use Rattle.images.proofs.Heading.{mapped, flattened}
use Rattle.images.proofs.headers.to_bytes.Goals as goal

pub returns : goal.returns
returns c =
    let whole : c.unwrap.result.now ≡ c.as_flattened.result.now = search rules in
    let numbers = mapped _ _ four_bytes c.args.numbers.now c.map-quadruples.result 8 c.map-quadruples.ensures.items c.told-numbers (λ p q x y k. search rules) in
    whole ∙ (c.as_flattened.ensures.value ∙ (flattened c.map-quadruples.result ∙ ap joined numbers))
