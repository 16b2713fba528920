-- An information record, as made, is formed and says what was given.
use Rattle.std.proofs.Common.{ℕ, ◌<◌, Bool, List, refl, lit<}
use Rattle.layout.specs.Layouts.{layout}
use Rattle.layout.specs.declared.kind.Kind.TheVariants.{Information}
use Rattle.recordbytes.specs.Joins.{joined}
use Rattle.rendering.specs.Rendering.{Parts, ◌then◌}
use Rattle.rendering.proofs.Parting.{written, part_back}
use Rattle.grammar.proofs.Made.{information_parts, information_made, InformationMade}
use Rattle.grammar.proofs.Making.{PlainBytes, no_field, number_part, text_part, codes_parts, number_read, flag_read}

pub information_is_made : (s d : ℕ) (r : List ℕ) (continued informed : Bool) → s < 10000 → d < 10000 → PlainBytes 21 r → InformationMade s d r continued informed (information_made s d r continued informed)
unfolding information_made
information_is_made s d r continued informed s_below d_below text =
    let ps = information_parts s d r continued informed in
    let fits : Parts (layout Information) ps =
    (refl, refl)
    then number_part 3 4 s
    then number_part 7 4 d
    then text_part 11 21 r text
    then (refl, refl)
    then (refl, refl)
    then (refl, refl)
    then (refl, refl)
    then codes_parts continued informed in
    let at = part_back Information ps no_field fits in
    record {
      formed = written Information ps fits;
      sequence = number_read 4 s _ s_below (at 1 (lit< tt));
      detail = number_read 4 d _ d_below (at 2 (lit< tt));
      reference = at 3 (lit< tt);
      next = flag_read (joined ps) 125 continued (at 8 (lit< tt));
      link = flag_read (joined ps) 127 informed (at 10 (lit< tt));
    }
