use Rattle.std.proofs.Common.{List, ℕ, sym, ap, ◌∙◌, subst}
use Rattle.rowbytes.specs.RowBytes.{row_bytes}
use Rattle.cashbook.specs.Counting.{figures}
use Rattle.images.specs.Images.{put_row}
use Rattle.images.proofs.Pieces.{put_row_is}
use Rattle.imagebook.proofs.Standing.{Stands, stands_put}
use Rattle.imagebook.proofs.book.ImageBook.write_next.Goals as goal

pub invariant_of-self : goal.invariant_of-self
invariant_of-self c =
    let s = c.args.self.now in
    let row = c.args.row.now in
    let put =
    put_row_is c.used.result (row_bytes row.fields) s.bytes.now c.copy_from_slice.new.self (c.copy_from_slice.ensures.after ∙ c.row_bytes.ensures)
    ∙ ap (λ n. put_row n (row_bytes row.fields) s.bytes.now) c.used.ensures.value in
    subst (λ (xs : List ℕ). Stands (figures s.counts) xs) (sym put)
    (stands_put (figures s.counts) row.fields s.bytes.now c.requires row.fine (record { backed = s.backed; headed = s.headed; exact = s.exact }))
