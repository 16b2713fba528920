-- The fields of a layout follow on without a gap.
use Rattle.std.proofs.Common.{◌≡◌, ℕ, ◌+◌, ◌≤◌, true, ◌&&◌, eqb, leb, List, ◌∷◌, refl}
use Rattle.std.proofs.lemmas.Bool.{and_parts, eqb-true, leb-true}
use Rattle.layout.specs.Layouts.{Field, layout, tiles, LayoutsTile}
use Rattle.layout.specs.declared.kind.Kind.TheVariants.{Header, OldBalance, Movement, MovementSecond, Counterparty, Information, InformationSecond, InformationThird, NewBalance, FreeCommunication, Trailer}

pub layouts_tile : LayoutsTile
layouts_tile k = elim k as (λ k. tiles 1 (layout k) ≡ true) [ Header ↦ refl | OldBalance ↦ refl | Movement ↦ refl | MovementSecond ↦ refl | Counterparty ↦ refl | Information ↦ refl | InformationSecond ↦ refl | InformationThird ↦ refl | NewBalance ↦ refl | FreeCommunication ↦ refl | Trailer ↦ refl ]

-- a field that begins at a position, with the others behind it
pub record Tile (position : ℕ) (f : Field) (fs : List Field) : Type 0 where
  pub starts : f.first ≡ position
  pub some : f.first ≤ f.last
  pub others : tiles (f.last + 1) fs ≡ true

pub first_tile : (position : ℕ) (f : Field) (fs : List Field) → tiles position (f ∷ fs) ≡ true → Tile position f fs
first_tile position f fs t =
    let x = and_parts (eqb f.first position) (leb f.first f.last && tiles (f.last + 1) fs) t in
    let y = and_parts (leb f.first f.last) (tiles (f.last + 1) fs) x.1 in
    record { starts = eqb-true f.first position x.0; some = leb-true f.first f.last y.0; others = y.1 }
