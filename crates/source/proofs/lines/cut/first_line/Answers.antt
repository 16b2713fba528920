use Rattle.std.proofs.Common.{◌+◌, sym, refl, ◌∙◌, rules}
use Rattle.std.proofs.lemmas.List.{take_rest}
use Rattle.source.proofs.FirstLine.{line_to_end, line_to_feed}
use Rattle.source.proofs.lines.cut.first_line.Goals as goal

pub returns-in_default : goal.returns-in_default
returns-in_default c = line_to_end c.args.bytes.now c.requires (search rules)

pub returns : goal.returns
returns c =
    line_to_feed c.args.bytes.now c.in-Some.end _ c.unwrap_or.result c.strip_suffix.result _ (sym c.first_feed.ensures ∙ c.in-Some.is) refl c.strip_suffix.ensures.cases c.unwrap_or.ensures (take_rest c.args.bytes.now (c.in-Some.end + 1))
