use Rattle.std.proofs.Common.{refl}
use Rattle.images.proofs.Written.{image_exact}
use Rattle.imagebook.specs.Memory.{memory}
use Rattle.imagebook.proofs.book.ImageBook.close.Goals as goal

pub returns : goal.returns
returns c = let s = c.args.self in record { same = refl; exact = image_exact s.counts.capacity s.counts.kept s.counts.batch (memory s) s.counts.room s.headed s.exact }
