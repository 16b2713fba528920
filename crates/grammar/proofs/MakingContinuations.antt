-- Records that continue a movement or an information record, as made, are formed and say what was given.
use Rattle.std.proofs.Common.{◌≡◌, ℕ, ◌<◌, Bool, false, List, refl, lit<}
use Rattle.recordbytes.specs.Numbers.{digits}
use Rattle.recordbytes.specs.Spans.{span}
use Rattle.layout.specs.Layouts.{layout}
use Rattle.layout.specs.declared.kind.Kind.TheVariants.{MovementSecond, Counterparty, InformationSecond, InformationThird}
use Rattle.recordbytes.specs.Joins.{joined}
use Rattle.rendering.specs.Rendering.{Parts, none, ◌then◌}
use Rattle.rendering.proofs.Parting.{written, part_back}
use Rattle.grammar.specs.Leaves.{Leaf, Formed, movement_second, counterparty, information_second, information_third}
use Rattle.grammar.proofs.Made.{flag, ContinuationMade, movement_second_parts, movement_second_made, counterparty_parts, counterparty_made, information_second_parts, information_second_made, information_third_parts, information_third_made}
use Rattle.grammar.proofs.Making.{no_field, number_part, flag_part, codes_parts, number_read, flag_read}

module _ (s d : ℕ) (s_below : s < 10000) (d_below : d < 10000) where
  -- from the four fields
  said : (kind : List ℕ → Leaf) (continued informed : Bool) (b : List ℕ) → Formed (kind b) → span b 3 6 ≡ digits 4 s → span b 7 10 ≡ digits 4 d → span b 126 126 ≡ flag continued → span b 128 128 ≡ flag informed → ContinuationMade kind s d continued informed b
  said kind continued informed b formed a z n l =
      record {
        formed = formed;
        sequence = number_read 4 s (span b 3 6) s_below a;
        detail = number_read 4 d (span b 7 10) d_below z;
        next = flag_read b 125 continued n;
        link = flag_read b 127 informed l;
      }

  pub movement_second_is_made : (continued informed : Bool) → ContinuationMade movement_second s d continued informed (movement_second_made s d continued informed)
  unfolding movement_second_made
  movement_second_is_made continued informed =
      let ps = movement_second_parts s d continued informed in
      let fits : Parts (layout MovementSecond) ps =
      (refl, refl)
      then number_part 3 4 s
      then number_part 7 4 d
      then (refl, refl)
      then (refl, refl)
      then (refl, refl)
      then codes_parts continued informed in
      let at = part_back MovementSecond ps no_field fits in
      said movement_second continued informed (joined ps) (written MovementSecond ps fits) (at 1 (lit< tt)) (at 2 (lit< tt)) (at 6 (lit< tt)) (at 8 (lit< tt))

  pub counterparty_is_made : (informed : Bool) → ContinuationMade counterparty s d false informed (counterparty_made s d informed)
  unfolding counterparty_made
  counterparty_is_made informed =
      let ps = counterparty_parts s d informed in
      let fits : Parts (layout Counterparty) ps =
      (refl, refl)
      then number_part 3 4 s
      then number_part 7 4 d
      then (refl, refl)
      then (refl, refl)
      then (refl, refl)
      then (refl, refl)
      then (refl, refl)
      then flag_part 128 informed
      then none in
      let at = part_back Counterparty ps no_field fits in
      said counterparty false informed (joined ps) (written Counterparty ps fits) (at 1 (lit< tt)) (at 2 (lit< tt)) (at 6 (lit< tt)) (at 8 (lit< tt))

  pub information_second_is_made : (continued informed : Bool) → ContinuationMade information_second s d continued informed (information_second_made s d continued informed)
  unfolding information_second_made
  information_second_is_made continued informed =
      let ps = information_second_parts s d continued informed in
      let fits : Parts (layout InformationSecond) ps =
      (refl, refl)
      then number_part 3 4 s
      then number_part 7 4 d
      then (refl, refl)
      then (refl, refl)
      then codes_parts continued informed in
      let at = part_back InformationSecond ps no_field fits in
      said information_second continued informed (joined ps) (written InformationSecond ps fits) (at 1 (lit< tt)) (at 2 (lit< tt)) (at 5 (lit< tt)) (at 7 (lit< tt))

  pub information_third_is_made : (informed : Bool) → ContinuationMade information_third s d false informed (information_third_made s d informed)
  unfolding information_third_made
  information_third_is_made informed =
      let ps = information_third_parts s d informed in
      let fits : Parts (layout InformationThird) ps =
      (refl, refl)
      then number_part 3 4 s
      then number_part 7 4 d
      then (refl, refl)
      then (refl, refl)
      then (refl, refl)
      then (refl, refl)
      then flag_part 128 informed
      then none in
      let at = part_back InformationThird ps no_field fits in
      said information_third false informed (joined ps) (written InformationThird ps fits) (at 1 (lit< tt)) (at 2 (lit< tt)) (at 5 (lit< tt)) (at 7 (lit< tt))
