use Rattle.std.proofs.Common.{◌≡◌, ◌-◌, sym, ap, ◌∙◌, arith}
use Rattle.cashbook.proofs.Answering.{found}
use Rattle.cashbook.proofs.Counting.{kept_row_at}
use Rattle.rowbytes.specs.RowBytes.{row_read}
use Rattle.images.specs.Images.{piece, image_rows}
use Rattle.images.proofs.Pieces.{row_at}
use Rattle.imagebook.proofs.Standing.{rows_long}
use Rattle.imagebook.proofs.book.calls.ImageBookBook.kept_row.Goals as goal

pub returns : goal.returns
returns c =
    let s = c.args.self.now in
    let p = c.in_ok-place.ensures in
    let room = s.counts.room in
    let long = rows_long s.counts.capacity s.bytes.now in
    let d = c.row.result.fields in
    let at = kept_row_at s.counts.capacity s.counts.kept (image_rows s.counts.capacity s.bytes.now) s.counts.batch c.args.n d (omega arith) (omega arith) (omega arith) in
    let place : c.in_ok-place.place ≡ c.args.n - 1 = omega arith in
    let f = found _ c.args.into.now c.row.result _ at (c.row.ensures ∙ ap (λ i. row_read (piece i s.bytes.now)) place ∙ sym (row_at s.counts.capacity (c.args.n - 1) s.bytes.now d (omega arith))) in
    record { answers = f.answers; puts = f.puts }
