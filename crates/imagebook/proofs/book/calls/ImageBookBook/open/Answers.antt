use Rattle.std.proofs.Common.{arith}
use Rattle.cashbook.specs.Calls.{opening}
use Rattle.cashbook.specs.Counting.{figures}
use Rattle.cashbook.proofs.Counting.{opened_done, opened_numbers}
use Rattle.images.specs.Images.{image_rows}
use Rattle.imagebook.specs.Memory.{memory, means_of}
use Rattle.imagebook.proofs.Standing.{told_by_call}
use Rattle.imagebook.proofs.book.calls.ImageBookBook.open.Goals as goal

pub returns : goal.returns
returns c =
    let s = c.args.self.now in
    let g = figures c.in_ok-opened.opened in
    let room = c.in_ok-opened.opened.room in
    let n = opened_numbers s.counts.capacity s.counts.kept s.counts.batch g c.in_ok-opened.ensures in
    let m = opened_done s.counts.capacity s.counts.kept (image_rows s.counts.capacity (memory s)) s.counts.batch g c.in_ok-opened.ensures in
    let t = told_by_call (opening (means_of s)) tt (means_of s) (figures c.tell.new.self.counts) g s.counts.capacity (memory s) (memory c.tell.new.self) (memory s) c.tell.ensures.counts n.capacity_is (let same = n.capacity_is in omega arith) c.tell.ensures.memory m.answers m.leaves in
    record { answers = m.answers; leaves = t.0; memory = t.1 }
