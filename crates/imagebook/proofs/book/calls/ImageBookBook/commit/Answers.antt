use Rattle.std.proofs.Common.{Ok, ap, ◌∙◌, arith}
use Rattle.cashbook.specs.Calls.{committing}
use Rattle.cashbook.specs.Counting.{figures}
use Rattle.cashbook.proofs.Counting.{committed_done, committed_numbers}
use Rattle.images.specs.Images.{image_rows}
use Rattle.imagebook.specs.Memory.{memory, means_of}
use Rattle.imagebook.proofs.Standing.{rows_long, told_by_call}
use Rattle.imagebook.proofs.book.calls.ImageBookBook.commit.Goals as goal

pub returns : goal.returns
returns c =
    let s = c.args.self.now in
    let g = figures c.in_ok-committed.committed in
    let room = c.in_ok-committed.committed.room in
    let n = committed_numbers s.counts.capacity s.counts.kept s.counts.batch g c.in_ok-committed.ensures in
    let m = committed_done s.counts.capacity s.counts.kept (image_rows s.counts.capacity (memory s)) s.counts.batch g (let r = s.counts.room in let long = rows_long s.counts.capacity (memory s) in omega arith) c.in_ok-committed.ensures in
    let answers = ap Ok c.batch-rows.ensures ∙ m.answers in
    let t = told_by_call (committing (means_of s)) _ (means_of s) (figures c.tell.new.self.counts) g s.counts.capacity (memory s) (memory c.tell.new.self) (memory s) c.tell.ensures.counts n.capacity_is (let same = n.capacity_is in omega arith) c.tell.ensures.memory answers m.leaves in
    record { answers = answers; leaves = t.0; memory = t.1 }
