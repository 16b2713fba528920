-- A header, an old balance and a new balance, as made, are formed and say what was given.
use Rattle.std.proofs.Common.{◌≡◌, ℕ, ◌^◌, ◌<◌, Bool, true, List, [], refl, ap, ◌∙◌, lit<}
use Rattle.recordbytes.specs.Numbers.{value}
use Rattle.recordbytes.specs.Spans.{span}
use Rattle.values.specs.Money.{is_sign, signed}
use Rattle.layout.specs.Layouts.{layout, first_misformed}
use Rattle.layout.specs.declared.kind.Kind.TheVariants.{NewBalance}
use Rattle.recordbytes.specs.Joins.{joined}
use Rattle.rendering.specs.Rendering.{Parts, none, ◌then◌}
use Rattle.rendering.proofs.Parting.{written, part_back}
use Rattle.grammar.specs.Leaves.{Formed, header}
use Rattle.grammar.proofs.Made.{header_made, old_balance_made, OldBalanceMade, new_balance_parts, new_balance_made, NewBalanceMade}
use Rattle.grammar.proofs.Making.{PlainBytes, no_field, number_part, text_part, sign_part, flag_part, number_read, first_byte, flag_read}

pub header_is_made : Formed (header header_made)
unfolding header_made first_misformed
header_is_made = (refl, refl)

pub old_balance_is_made : OldBalanceMade old_balance_made
unfolding old_balance_made first_misformed
old_balance_is_made = record { formed = (refl, refl); old_account = refl; old_amount = refl }

pub new_balance_is_made : (account : List ℕ) (sign n : ℕ) (communicated : Bool) → PlainBytes 37 account → is_sign sign ≡ true → n < 10 ^ 15 → NewBalanceMade account sign n communicated (new_balance_made account sign n communicated)
unfolding new_balance_made
new_balance_is_made account sign n communicated text signs below =
    let ps = new_balance_parts account sign n communicated in
    let fits : Parts (layout NewBalance) ps =
    (refl, refl)
    then (refl, refl)
    then text_part 5 37 account text
    then sign_part 42 sign signs
    then number_part 43 15 n
    then (refl, refl)
    then (refl, refl)
    then flag_part 128 communicated
    then none in
    let at = part_back NewBalance ps no_field fits in
    let b = joined ps in
    record {
      formed = written NewBalance ps fits;
      new_account = at 2 (lit< tt);
      new_amount = ap (λ byte. signed byte (value (span b 43 57))) (first_byte b 41 0 sign [] (at 3 (lit< tt))) ∙ ap (signed sign) (number_read 15 n _ below (at 4 (lit< tt)));
      link = flag_read b 127 communicated (at 7 (lit< tt));
    }
