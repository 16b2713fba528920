use Rattle.std.proofs.Common.{◌≡◌, Some, sym, ap, ◌∙◌, arith}
use Rattle.cashbook.specs.Questions.{latest}
use Rattle.rowbytes.specs.RowBytes.{is_statement_of}
use Rattle.images.specs.Images.{image_rows}
use Rattle.images.proofs.Seeking.{no_rows, image_latest_here, image_latest_before}
use Rattle.imagebook.specs.Memory.{memory}
use Rattle.imagebook.proofs.book.ImageBook.latest_of.Goals as goal

pub returns-then-is_statement_of : goal.returns-then-is_statement_of
returns-then-is_statement_of c =
    let t = ap (is_statement_of c.args.account.now) (sym c.row_part.ensures) ∙ sym c.if-is_statement_of.ensures in
    sym (c.loop-i.invariant ∙ (image_latest_here c.args.account.now (memory c.args.self.now) c.loop-i.i (omega arith) t ∙ ap Some (sym c.row.ensures)))

pub loop-i-preserved : goal.loop-i-preserved
loop-i-preserved c =
    let t = ap (is_statement_of c.args.account.now) (sym c.row_part.ensures) ∙ sym c.if-is_statement_of.ensures in
    c.loop-i.invariant ∙ image_latest_before c.args.account.now (memory c.args.self.now) c.loop-i.i (omega arith) t

pub returns : goal.returns
returns c =
    let none : c.loop-i.i ≡ 0 = omega arith in
    sym (c.loop-i.invariant ∙ (ap (λ n. latest c.args.account.now (image_rows n (memory c.args.self.now))) none ∙ ap (latest c.args.account.now) (no_rows (memory c.args.self.now))))
