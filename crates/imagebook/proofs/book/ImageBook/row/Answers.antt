use Rattle.std.proofs.Common.{arith, ap}
use Rattle.rowbytes.specs.RowBytes.{is_row_bytes}
use Rattle.cashbook.specs.Counting.{figures, used}
use Rattle.images.proofs.Written.{first_written, piece_written}
use Rattle.imagebook.proofs.book.ImageBook.row.Goals as goal

pub unwrap-requires : goal.unwrap-requires
unwrap-requires c =
    let s = c.args.self.now in
    let room = s.counts.room in
    let all = used (figures s.counts) in
    let written = piece_written all c.args.i s.bytes.now (omega arith) (first_written s.counts.capacity all all s.bytes.now (omega arith) (omega arith) s.exact) in
    let same = ap is_row_bytes c.row_part.ensures in
    grind arith
