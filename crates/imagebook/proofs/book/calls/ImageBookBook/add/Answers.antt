use Rattle.std.proofs.Common.{ℕ, List, Err, sym, ap, ◌∙◌, arith}
use Rattle.std.proofs.lemmas.Result.{err_from_is_err_and}
use Rattle.rows.specs.declared.fields.Fields.{Fields}
use Rattle.cashbook.specs.Calls.{after, adding, when_done}
use Rattle.cashbook.specs.Counting.{Figures, figures, figures_of, used, counted}
use Rattle.cashbook.proofs.Counting.{Added, added_refused, added_done, all_long, left_by_refusal}
use Rattle.rowbytes.specs.RowBytes.{row_bytes}
use Rattle.images.specs.Images.{image_rows, put_row, put_header}
use Rattle.images.proofs.Written.{rows_put_row, written_put_row}
use Rattle.imagebook.specs.Memory.{memory, means_of}
use Rattle.imagebook.proofs.Standing.{rows_long, told_by_call}
use Rattle.imagebook.proofs.book.calls.ImageBookBook.add.Goals as goal

pub returns-in_err-added : goal.returns-in_err-added
returns-in_err-added c =
    let s = c.args.self.now in
    let p = err_from_is_err_and c.from_residual.result c.from_residual.ensures.1 in
    let long = rows_long s.counts.capacity s.bytes.now in
    let m = added_refused s.counts.capacity s.counts.kept (image_rows s.counts.capacity s.bytes.now) c.args.row.now.fields s.counts.batch c.in_err-added.field-0.0 s.counts.room (omega arith) c.in_err-added.ensures in
    record { answers = p.1 ∙ (ap Err p.2 ∙ m.answers); leaves = m.leaves; memory = left_by_refusal _ c.in_err-added.field-0.0 _ (memory s) m.answers }

pub tell-requires-clause-exact : goal.tell-requires-clause-exact
tell-requires-clause-exact c =
    let s = c.args.self.now in
    let row : Fields = c.args.row.now.fields in
    let long = rows_long s.counts.capacity s.bytes.now in
    let a = added_done s.counts.capacity s.counts.kept (image_rows s.counts.capacity s.bytes.now) row s.counts.batch (figures c.in_ok-added.added) s.counts.room (omega arith) c.in_ok-added.ensures in
    let free = a.free in
    let backed = s.backed (omega arith) in
    rw (a.numbers_are.used_is, ap (λ (f : Figures). f.capacity) c.write_next.ensures.counts, c.write_next.ensures.memory) (written_put_row (used (figures s.counts)) row s.bytes.now (omega arith) c.args.row.now.fine s.counts.capacity free s.exact)

pub returns : goal.returns
returns c =
    let s = c.args.self.now in
    let row : Fields = c.args.row.now.fields in
    let bytes : List ℕ = s.bytes.now in
    let all : ℕ = used (figures s.counts) in
    let g = figures c.in_ok-added.added in
    let room = c.in_ok-added.added.room in
    let long = rows_long s.counts.capacity bytes in
    let a : Added s.counts.capacity s.counts.kept (image_rows s.counts.capacity bytes) s.counts.batch row g
    = added_done s.counts.capacity s.counts.kept (image_rows s.counts.capacity bytes) row s.counts.batch g s.counts.room (omega arith) c.in_ok-added.ensures in
    let free = a.free in
    let backed = s.backed (omega arith) in
    let put = c.write_next.ensures.memory in
    let rows = ap (image_rows s.counts.capacity) put ∙ rows_put_row all row bytes (omega arith) c.args.row.now.fine s.counts.capacity in
    let leaves = ap (λ (rs : List Fields). counted g rs) rows ∙ a.meets.leaves in
    let did = adding (means_of s) row in
    let t = told_by_call did tt (means_of s) (figures c.tell.new.self.counts) g s.counts.capacity (memory c.write_next.new.self) (memory c.tell.new.self) bytes c.tell.ensures.counts a.numbers_are.capacity_is (let same = a.numbers_are.capacity_is in omega arith) c.tell.ensures.memory a.meets.answers leaves in
    record {
      answers = a.meets.answers;
      leaves = t.0;
      memory =
          t.1
          ∙ ap (λ (xs : List ℕ). when_done did (put_header (figures_of (after (means_of s) did)) xs) bytes) (put ∙ ap (λ n. put_row n (row_bytes row) bytes) (sym (all_long s.counts.capacity s.counts.kept (image_rows s.counts.capacity bytes) s.counts.batch (omega arith))));
    }
