-- A free communication and a trailer, as made, are formed and say what was given.
use Rattle.std.proofs.Common.{◌≡◌, ℕ, ◌^◌, ◌<◌, Bool, true, false, cond, eqb, [], codes, refl, ap, ◌∙◌, lit<}
use Rattle.layout.specs.Forms.{is_one_of}
use Rattle.layout.specs.Layouts.{layout}
use Rattle.layout.specs.declared.kind.Kind.TheVariants.{FreeCommunication, Trailer}
use Rattle.recordbytes.specs.Joins.{joined}
use Rattle.rendering.specs.Rendering.{Parts, none, ◌then◌}
use Rattle.rendering.proofs.Parting.{written, part_back}
use Rattle.grammar.proofs.Made.{single, free_communication_parts, free_communication_made, FreeCommunicationMade, trailer_parts, trailer_made, TrailerMade}
use Rattle.grammar.proofs.Making.{no_field, number_part, flag_part, number_read, first_byte, flag_read}

pub free_communication_is_made : (s d : ℕ) (communicated : Bool) → s < 10000 → d < 10000 → FreeCommunicationMade s d communicated (free_communication_made s d communicated)
unfolding free_communication_made
free_communication_is_made s d communicated s_below d_below =
    let ps = free_communication_parts s d communicated in
    let fits : Parts (layout FreeCommunication) ps =
    (refl, refl)
    then (refl, refl)
    then number_part 3 4 s
    then number_part 7 4 d
    then (refl, refl)
    then (refl, refl)
    then (refl, refl)
    then flag_part 128 communicated
    then none in
    let at = part_back FreeCommunication ps no_field fits in
    record {
      formed = written FreeCommunication ps fits;
      sequence = number_read 4 s _ s_below (at 2 (lit< tt));
      detail = number_read 4 d _ d_below (at 3 (lit< tt));
      link = flag_read (joined ps) 127 communicated (at 7 (lit< tt));
    }

-- the multiple file code, 1 or 2
code_formed : (followed : Bool) → is_one_of (codes "12") (single (cond followed 49 50)) ≡ true
code_formed true = refl
code_formed false = refl

code_is : (followed : Bool) → eqb (cond followed 49 50) 49 ≡ followed
code_is true = refl
code_is false = refl

pub trailer_is_made : (records debits credits : ℕ) (followed : Bool) → records < 10 ^ 6 → debits < 10 ^ 15 → credits < 10 ^ 15 → TrailerMade records debits credits followed (trailer_made records debits credits followed)
unfolding trailer_made
trailer_is_made records debits credits followed few debits_below credits_below =
    let ps = trailer_parts records debits credits followed in
    let fits : Parts (layout Trailer) ps =
    (refl, refl)
    then (refl, refl)
    then number_part 17 6 records
    then number_part 23 15 debits
    then number_part 38 15 credits
    then (refl, refl)
    then (refl, code_formed followed)
    then none in
    let at = part_back Trailer ps no_field fits in
    record {
      formed = written Trailer ps fits;
      count = number_read 6 records _ few (at 2 (lit< tt));
      debit_sum = number_read 15 debits _ debits_below (at 3 (lit< tt));
      credit_sum = number_read 15 credits _ credits_below (at 4 (lit< tt));
      another = ap (λ byte. eqb byte 49) (first_byte (joined ps) 127 0 (cond followed 49 50) [] (at 6 (lit< tt))) ∙ code_is followed;
    }
