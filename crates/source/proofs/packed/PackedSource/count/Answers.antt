use Rattle.std.proofs.Common.{arith}
use Rattle.source.proofs.Pieces.{length_packed}
use Rattle.source.proofs.packed.PackedSource.count.Goals as goal

pub returns : goal.returns
returns c = omega (arith, length_packed c.args.self.now.file.now)
