use Rattle.std.proofs.Common.{◌+◌, ◌*◌, ◌^◌, ◌≤◌}
use Rattle.recordbytes.proofs.Numbering.{Unread}
use Rattle.recordbytes.proofs.numbers.number_of_few.Given as goal

abbrev pub invariant-loop-byte : goal.invariant-loop-byte
invariant-loop-byte l = Unread l.digits l.byte-index l.number × (l.number + 23 ≤ 23 * 10 ^ l.byte-index)
