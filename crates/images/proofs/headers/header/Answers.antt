use Rattle.std.proofs.Common.{map, ap, ◌∙◌}
use Rattle.recordbytes.specs.Joins.{joined}
use Rattle.images.specs.Headers.{four_bytes, header}
use Rattle.images.proofs.headers.header.Goals as goal

pub returns : goal.returns
unfolding header
returns c = c.to_bytes.ensures ∙ ap (λ numbers. joined (map four_bytes numbers)) c.header_numbers.ensures
