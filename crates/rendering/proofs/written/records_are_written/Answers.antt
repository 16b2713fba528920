use Rattle.rendering.proofs.Parting.{written, part_back}
use Rattle.rendering.proofs.Forming.{formed}
use Rattle.rendering.proofs.Telling.{kind_told}
use Rattle.rendering.proofs.Plain.{plain}
use Rattle.rendering.proofs.written.records_are_written.Goals as goal

pub returns : goal.returns
returns c = record { written = written; part_back = part_back; kind = kind_told; plain = plain; formed = formed }
