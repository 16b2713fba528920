-- What conforms to a layout begins with the bytes of its kind.
use Rattle.std.proofs.Common.{◌≡◌, ℕ, ◌<◌, true, false, ◌&&◌, eqb, List, [], ◌∷◌, length, get_or, Some, ap, ◌∙◌, arith, lit<}
use Rattle.std.specs.Str.{bytes_eq}
use Rattle.std.proofs.lemmas.Bool.{and_parts, eqb-true}
use Rattle.recordbytes.specs.Spans.{span}
use Rattle.layout.specs.Forms.{Digits}
use Rattle.layout.specs.Kinds.{kind_by, kind_of}
use Rattle.layout.specs.Layouts.{field, layout, is_formed}
use Rattle.layout.specs.declared.kind.Kind.{Kind}
use Rattle.layout.specs.declared.kind.Kind.TheVariants.{Header, OldBalance, Movement, MovementSecond, Counterparty, Information, InformationSecond, InformationThird, NewBalance, FreeCommunication, Trailer}
use Rattle.rendering.specs.Rendering.{Conforms}
use Rattle.rendering.proofs.Forming.{formed}

by_first : (b : List ℕ) (x : ℕ) → bytes_eq (span b 1 1) (x ∷ []) ≡ true → kind_of b ≡ kind_by x (get_or b 1 0)
by_first [] x t = let z : ◌≡◌ {A = ℕ} 0 1 = cc in absurd (omega arith)
by_first (a ∷ b) x t = ap (λ c. kind_by c (get_or (a ∷ b) 1 0)) (eqb-true a x (and_parts (eqb a x) true t).0)

by_first_two : (b : List ℕ) (x y : ℕ) → bytes_eq (span b 1 2) (x ∷ y ∷ []) ≡ true → kind_of b ≡ kind_by x y
by_first_two [] x y t = let z : ◌≡◌ {A = ℕ} 0 1 = cc in absurd (omega arith)
by_first_two (a ∷ []) x y t = let h = and_parts (eqb a x) false t in let z : ◌≡◌ {A = ℕ} 0 1 = cc in absurd (omega arith)
by_first_two (a ∷ c ∷ b) x y t =
    let h = and_parts (eqb a x) (eqb c y && true) t in
    ap (λ i. kind_by i c) (eqb-true a x h.0) ∙ ap (kind_by x) (eqb-true c y (and_parts (eqb c y) true h.1).0)

first_field : (k : Kind) (b : List ℕ) → Conforms k b → 0 < length (layout k) → is_formed b (get_or (layout k) 0 (field 0 0 Digits)) ≡ true
first_field k b c l = formed k b (field 0 0 Digits) 0 l c

pub kind_told : (k : Kind) (b : List ℕ) → Conforms k b → kind_of b ≡ Some k
kind_told Header b c = by_first b 48 (first_field Header b c (lit< tt))
kind_told OldBalance b c = by_first b 49 (first_field OldBalance b c (lit< tt))
kind_told Movement b c = by_first_two b 50 49 (first_field Movement b c (lit< tt))
kind_told MovementSecond b c = by_first_two b 50 50 (first_field MovementSecond b c (lit< tt))
kind_told Counterparty b c = by_first_two b 50 51 (first_field Counterparty b c (lit< tt))
kind_told Information b c = by_first_two b 51 49 (first_field Information b c (lit< tt))
kind_told InformationSecond b c = by_first_two b 51 50 (first_field InformationSecond b c (lit< tt))
kind_told InformationThird b c = by_first_two b 51 51 (first_field InformationThird b c (lit< tt))
kind_told NewBalance b c = by_first b 56 (first_field NewBalance b c (lit< tt))
kind_told FreeCommunication b c = by_first b 52 (first_field FreeCommunication b c (lit< tt))
kind_told Trailer b c = by_first b 57 (first_field Trailer b c (lit< tt))
