use Rattle.std.proofs.Common.{Ok, ap, ◌∙◌, arith}
use Rattle.recordbytes.proofs.Each.{every_fewer}
use Rattle.rowbytes.specs.RowBytes.{is_row_bytes}
use Rattle.cashbook.specs.Calls.{cancelling}
use Rattle.cashbook.specs.Counting.{figures, used}
use Rattle.cashbook.proofs.Counting.{cancelled_done, cancelled_numbers}
use Rattle.images.specs.Images.{pieces, image_rows}
use Rattle.imagebook.specs.Memory.{memory, means_of}
use Rattle.imagebook.proofs.Standing.{rows_long, told_by_call}
use Rattle.imagebook.proofs.book.calls.ImageBookBook.cancel.Goals as goal

pub tell-requires-clause-exact : goal.tell-requires-clause-exact
tell-requires-clause-exact c =
    let s = c.args.self.now in
    let n = cancelled_numbers s.counts.capacity s.counts.kept s.counts.batch (figures c.in_ok-cancelled.cancelled) c.in_ok-cancelled.ensures in
    rw n.used_is (every_fewer is_row_bytes (used (figures s.counts)) s.counts.kept (pieces s.counts.capacity (memory s)) (omega arith) s.exact)

pub returns : goal.returns
returns c =
    let s = c.args.self.now in
    let g = figures c.in_ok-cancelled.cancelled in
    let room = c.in_ok-cancelled.cancelled.room in
    let n = cancelled_numbers s.counts.capacity s.counts.kept s.counts.batch g c.in_ok-cancelled.ensures in
    let m = cancelled_done s.counts.capacity s.counts.kept (image_rows s.counts.capacity (memory s)) s.counts.batch g (let r = s.counts.room in let long = rows_long s.counts.capacity (memory s) in omega arith) c.in_ok-cancelled.ensures in
    let answers = ap Ok c.batch-rows.ensures ∙ m.answers in
    let t = told_by_call (cancelling (means_of s)) _ (means_of s) (figures c.tell.new.self.counts) g s.counts.capacity (memory s) (memory c.tell.new.self) (memory s) c.tell.ensures.counts n.capacity_is (let same = n.capacity_is in omega arith) c.tell.ensures.memory answers m.leaves in
    record { answers = answers; leaves = t.0; memory = t.1 }
