-- A movement, as made, is formed and says what was given.
use Rattle.std.proofs.Common.{◌≡◌, ℕ, ◌^◌, ◌<◌, ◌≤◌, Bool, true, eqb, List, [], refl, ap, ◌∙◌, lit<}
use Rattle.values.specs.Money.{debit, is_sign, signed}
use Rattle.layout.specs.Layouts.{layout}
use Rattle.layout.specs.declared.kind.Kind.TheVariants.{Movement}
use Rattle.recordbytes.specs.Joins.{joined}
use Rattle.rendering.specs.Rendering.{Parts, ◌then◌}
use Rattle.rendering.proofs.Parting.{written, part_back}
use Rattle.grammar.specs.Fields.{amount}
use Rattle.grammar.proofs.Made.{zeros, movement_parts, movement_made, MovementMade}
use Rattle.grammar.proofs.Making.{PlainBytes, no_field, number_part, text_part, sign_part, digit_front, codes_parts, number_read, first_byte, digit_read, flag_read}

pub movement_is_made : (s d : ℕ) (r : List ℕ) (sign n t l : ℕ) (continued informed : Bool) → s < 10000 → d < 10000 → PlainBytes 21 r → is_sign sign ≡ true → n < 10 ^ 15 → t ≤ 9 → l ≤ 9
    → MovementMade s d r sign n t l continued informed (movement_made s d r sign n t l continued informed)
unfolding movement_made
movement_is_made s d r sign n t l continued informed s_below d_below text signs n_below t_small l_small =
    let ps = movement_parts s d r sign n t l continued informed in
    let fits : Parts (layout Movement) ps =
    (refl, refl)
    then number_part 3 4 s
    then number_part 7 4 d
    then text_part 11 21 r text
    then sign_part 32 sign signs
    then number_part 33 15 n
    then (refl, refl)
    then (refl, digit_front t (zeros 7) t_small refl)
    then (refl, refl)
    then (refl, refl)
    then (refl, refl)
    then (refl, refl)
    then (refl, digit_front l [] l_small refl)
    then codes_parts continued informed in
    let at = part_back Movement ps no_field fits in
    let b = joined ps in
    let sign_is = first_byte b 31 0 sign [] (at 4 (lit< tt)) in
    let amount_is : amount b ≡ n = number_read 15 n _ n_below (at 5 (lit< tt)) in
    record {
      formed = written Movement ps fits;
      sequence = number_read 4 s _ s_below (at 1 (lit< tt));
      detail = number_read 4 d _ d_below (at 2 (lit< tt));
      reference = at 3 (lit< tt);
      is_debit = ap (λ byte. eqb byte debit) sign_is;
      amount = amount_is;
      signed_amount = ap (λ byte. signed byte (amount b)) sign_is ∙ ap (signed sign) amount_is;
      type = digit_read b 53 7 t (zeros 7) t_small (at 7 (lit< tt));
      level = digit_read b 124 0 l [] l_small (at 12 (lit< tt));
      next = flag_read b 125 continued (at 13 (lit< tt));
      link = flag_read b 127 informed (at 15 (lit< tt));
    }
