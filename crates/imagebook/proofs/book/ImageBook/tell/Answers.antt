use Rattle.cashbook.specs.Counting.{figures}
use Rattle.imagebook.proofs.Standing.{stands}
use Rattle.imagebook.proofs.book.ImageBook.tell.Goals as goal

pub invariant_of-self : goal.invariant_of-self
invariant_of-self c =
    let s = c.args.self.now in
    stands (figures c.args.counts) s.counts.capacity c.requires.capacity s.bytes.now _ c.write_header.ensures s.backed c.requires.exact
