use Rattle.std.proofs.Common.{◌≡◌, length, take, None, sym, refl, ap, ◌∙◌, subst, arith}
use Rattle.cashbook.specs.Counting.{Figures, figure}
use Rattle.images.specs.Images.{image_capacity, put_header}
use Rattle.images.proofs.Pieces.{length_put_header, head_put_header}
use Rattle.imagebook.proofs.Standing.{Stands}
use Rattle.imagebook.proofs.book.ImageBook.new.Goals as goal

pub invariant_of-result : goal.invariant_of-result
invariant_of-result c =
    let empty = c.empty_counts-counts.ensures in
    let bytes = c.args.bytes.now in
    let f : Figures = figure (image_capacity bytes) 0 None in
    let headed : c.write_header.new.bytes ≡ put_header f bytes = c.write_header.ensures ∙ ap (λ (g : Figures). put_header g bytes) empty in
    let long : length c.write_header.new.bytes ≡ length bytes = ap length headed ∙ length_put_header f bytes in
    subst (λ (g : Figures). Stands g c.write_header.new.bytes) (sym empty)
    (record {
      backed = λ some. omega arith;
      headed = λ room. ap (take 32) headed ∙ head_put_header f bytes (omega arith);
      exact = refl;
    })
