use Rattle.std.proofs.Common.{◌≡◌, ◌≤◌, take, count_by}
use Rattle.source.specs.Lining.{is_feed}
use Rattle.source.proofs.lines.cut.count_feeds.Given as goal

abbrev pub invariant-loop-byte : goal.invariant-loop-byte
invariant-loop-byte l = (l.feeds ≤ l.byte-index) × (l.feeds ≡ count_by is_feed (take l.byte-index l.bytes))
