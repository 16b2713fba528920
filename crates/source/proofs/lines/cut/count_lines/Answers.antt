use Rattle.std.proofs.Common.{rules}
use Rattle.source.proofs.LineCount.{lines_told}
use Rattle.source.proofs.lines.cut.count_lines.Goals as goal

pub returns-then-is_none_or : goal.returns-then-is_none_or
returns-then-is_none_or c =
    let feeds = c.count_feeds-feeds.ensures in
    let lines = lines_told c.args.file.now c.last.result c.is_none_or.result c.last.ensures.value (search rules) in
    search rules

pub returns : goal.returns
returns c =
    let feeds = c.count_feeds-feeds.ensures in
    let lines = lines_told c.args.file.now c.last.result c.is_none_or.result c.last.ensures.value (search rules) in
    search rules
