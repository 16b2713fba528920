use Rattle.images.proofs.Written.{image_exact}
use Rattle.imagebook.specs.Memory.{memory}
use Rattle.imagebook.proofs.book.make.images_are_exact.Goals as goal

pub returns : goal.returns
returns c s = image_exact s.counts.capacity s.counts.kept s.counts.batch (memory s) s.counts.room s.headed s.exact
