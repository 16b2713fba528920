use Rattle.std.proofs.Common.{count_by, ap, arith, rules}
use Rattle.std.proofs.lemmas.List.{take_all}
use Rattle.std.proofs.lemmas.List.Sums.{count_by_more_yes, count_by_more_no}
use Rattle.std.proofs.lemmas.Bool.{eq-eqb, ne_eqb}
use Rattle.source.specs.Lining.{is_feed}
use Rattle.source.proofs.lines.cut.count_feeds.Goals as goal

pub loop-byte-preserved : goal.loop-byte-preserved
loop-byte-preserved c = search (rules, count_by_more_yes, count_by_more_no, eq-eqb, ne_eqb)

pub returns : goal.returns
returns c = let all = ap (count_by is_feed) (take_all c.loop-byte.byte-index c.args.bytes.now c.loop-byte-test.false) in omega (arith, all)
