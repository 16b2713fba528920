use Rattle.images.proofs.Seeking.{part_is}
use Rattle.imagebook.proofs.book.reading.row_part.Goals as goal

pub returns : goal.returns
returns c = part_is c.args.i c.args.bytes.now
