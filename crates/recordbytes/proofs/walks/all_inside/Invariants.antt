use Rattle.std.proofs.Common.{◌≡◌, ◌&&◌, drop}
use Rattle.recordbytes.specs.Walks.{all}
use Rattle.recordbytes.proofs.walks.all_inside.Given as goal

abbrev pub invariant-loop-byte : goal.invariant-loop-byte
invariant-loop-byte g l = (l.inside && all g.C.ByteClass.has (drop l.byte-index l.bytes)) ≡ all g.C.ByteClass.has l.bytes
