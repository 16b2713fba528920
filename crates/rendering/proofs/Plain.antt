-- What conforms to a layout has plain bytes alone.
use Rattle.std.proofs.Common.{◌≡◌, ℕ, ◌+◌, ◌-◌, ◌≤◌, Bool, true, not, ◌&&◌, eqb, leb, List, [], ◌∷◌, ◌++◌, length, take, drop, None, codes, sym, refl, ap, subst, inl, inr, arith}
use mathlib.Core.Path.{subst⁻¹}
use Rattle.std.specs.Str.{bytes_eq}
use Rattle.std.proofs.lemmas.Slice.Eq.{bytes_eq-Decides}
use Rattle.std.proofs.lemmas.List.{drop_all, drop-drop, take-append-drop}
use Rattle.std.proofs.lemmas.Bool.{and_parts, and_from, or_cases, eqb-true, leb-true, le-leb, ne_eqb}
use Rattle.recordbytes.specs.Classes.{is_digit, is_space, is_plain}
use Rattle.recordbytes.specs.Walks.{all, first_failing}
use Rattle.recordbytes.proofs.Walking.{all_none}
use Rattle.values.specs.Days.{is_day, is_date, date_of}
use Rattle.layout.specs.Forms.{Form, Digits, Text, Spaces, Day, DayOrZeros, Sign, Flag, Is, OneOf, among, is_one_of, holds}
use Rattle.layout.specs.Layouts.{Field, layout, bytes_of, is_formed, first_misformed_of, first_misformed, tiles}
use Rattle.layout.specs.declared.kind.Kind.{Kind}
use Rattle.layout.specs.declared.kind.Kind.TheVariants.{Header, OldBalance, Movement, MovementSecond, Counterparty, Information, InformationSecond, InformationThird, NewBalance, FreeCommunication, Trailer}
use Rattle.rendering.specs.Rendering.{Conforms}
use Rattle.rendering.proofs.Tiling.{first_tile, layouts_tile}
use Rattle.rendering.proofs.Forming.{both_passed}

all_append : (test : ℕ → Bool) (xs ys : List ℕ) → all test xs ≡ true → all test ys ≡ true → all test (xs ++ ys) ≡ true
all_append test [] ys t u = u
all_append test (x ∷ xs) ys t u = let h = and_parts (test x) (all test xs) t in and_from (test x) (all test (xs ++ ys)) h.0 (all_append test xs ys h.1 u)

all_weaker : (test weaker : ℕ → Bool) → ((byte : ℕ) → test byte ≡ true → weaker byte ≡ true) → (xs : List ℕ) → all test xs ≡ true → all weaker xs ≡ true
all_weaker test weaker f [] t = refl
all_weaker test weaker f (x ∷ xs) t = let h = and_parts (test x) (all test xs) t in and_from (weaker x) (all weaker xs) (f x h.0) (all_weaker test weaker f xs h.1)

-- BYTES OF EACH FORM ARE PLAIN

digit_plain : (byte : ℕ) → is_digit byte ≡ true → is_plain byte ≡ true
digit_plain byte t =
    let h = and_parts (leb 48 byte) (leb byte 57) t in
    let l = leb-true 48 byte h.0 in
    let u = leb-true byte 57 h.1 in
    and_from (leb 32 byte) (not (eqb byte 127)) (le-leb 32 byte (omega arith)) (ap not (ne_eqb byte 127 (λ e. omega arith)))

space_plain : (byte : ℕ) → is_space byte ≡ true → is_plain byte ≡ true
space_plain byte t = let e = eqb-true byte 32 t in rw e refl

pub digits_plain : (b : List ℕ) → all is_digit b ≡ true → all is_plain b ≡ true
digits_plain b t = all_weaker is_digit is_plain digit_plain b t

among_plain : (choices : List ℕ) (byte : ℕ) → all is_plain choices ≡ true → among choices byte ≡ true → is_plain byte ≡ true
among_plain [] byte a t = let z : ◌≡◌ {A = ℕ} 0 1 = cc in absurd (omega arith)
among_plain (x ∷ xs) byte a t =
    let h = and_parts (is_plain x) (all is_plain xs) a in
    elim (or_cases (eqb x byte) (among xs byte) t) [ inl e ↦ subst (λ (y : ℕ). is_plain y ≡ true) (eqb-true x byte e) h.0 | inr u ↦ among_plain xs byte h.1 u ]

one_plain : (choices b : List ℕ) → all is_plain choices ≡ true → is_one_of choices b ≡ true → all is_plain b ≡ true
one_plain choices [] a t = refl
one_plain choices (x ∷ []) a t = and_from (is_plain x) true (among_plain choices x a (and_parts true (among choices x) t).1) refl
one_plain choices (x ∷ y ∷ b) a t = let l = eqb-true (length (x ∷ y ∷ b)) 1 (and_parts (eqb (length (x ∷ y ∷ b)) 1) (among choices x) t).0 in absurd (omega arith)

same_plain : (b text : List ℕ) → all is_plain text ≡ true → bytes_eq b text ≡ true → all is_plain b ≡ true
same_plain b text a t = subst⁻¹ (λ (y : List ℕ). all is_plain y ≡ true) ((bytes_eq-Decides b text).0 t) a

day_plain : (b : List ℕ) → is_day b ≡ true → all is_plain b ≡ true
day_plain b t =
    let six = eqb (length b) 6 in
    let h = and_parts (six && all is_digit b) (is_date (date_of b)) t in
    digits_plain b (and_parts six (all is_digit b) h.0).1

-- the bytes that a form names are plain
abbrev names_plain : Form → Bool
names_plain Digits = true
names_plain Text = true
names_plain Spaces = true
names_plain Day = true
names_plain DayOrZeros = true
names_plain Sign = true
names_plain Flag = true
names_plain (Is text) = all is_plain text
names_plain (OneOf choices) = all is_plain choices

form_plain : (f : Form) (b : List ℕ) → names_plain f ≡ true → holds f b ≡ true → all is_plain b ≡ true
form_plain Digits b a t = digits_plain b t
form_plain Text b a t = t
form_plain Spaces b a t = all_weaker is_space is_plain space_plain b t
form_plain Day b a t = day_plain b t
form_plain DayOrZeros b a t = elim (or_cases (is_day b) (bytes_eq b (codes "000000")) t) [ inl e ↦ day_plain b e | inr e ↦ same_plain b (codes "000000") refl e ]
form_plain Sign b a t = one_plain (codes "01") b refl t
form_plain Flag b a t = one_plain (codes "01") b refl t
form_plain (Is text) b a t = same_plain b text a t
form_plain (OneOf choices) b a t = one_plain choices b a t

-- RECORDS

abbrev all_names_plain : List Field → Bool
all_names_plain [] = true
all_names_plain (f ∷ fs) = names_plain f.form && all_names_plain fs

layouts_name_plain : (k : Kind) → all_names_plain (layout k) ≡ true
layouts_name_plain k = elim k as (λ k. all_names_plain (layout k) ≡ true) [ Header ↦ refl | OldBalance ↦ refl | Movement ↦ refl | MovementSecond ↦ refl | Counterparty ↦ refl | Information ↦ refl | InformationSecond ↦ refl | InformationThird ↦ refl | NewBalance ↦ refl | FreeCommunication ↦ refl | Trailer ↦ refl ]

-- the bytes behind the first n are those of a field, and those behind it
drop_plain : (b : List ℕ) (n width : ℕ) → all is_plain (take width (drop n b)) ≡ true → all is_plain (drop (n + width) b) ≡ true → all is_plain (drop n b) ≡ true
drop_plain b n width t u =
    subst (λ (ys : List ℕ). all is_plain ys ≡ true) (take-append-drop width (drop n b))
    (all_append is_plain (take width (drop n b)) (drop width (drop n b)) t (rw drop-drop u))

-- the bytes from a position on
rest_plain : (fs : List Field) (b : List ℕ) (position : ℕ) → 1 ≤ position → length b ≡ 128 → tiles position fs ≡ true → all_names_plain fs ≡ true → first_misformed_of fs b ≡ None → all is_plain (drop (position - 1) b) ≡ true
rest_plain [] b position h l t a e = rw (drop_all (position - 1) b (omega (arith, eqb-true position 129 t))) refl
rest_plain (f ∷ fs) b position h l t a e =
    let x = first_tile position f fs t in
    let m = and_parts (names_plain f.form) (all_names_plain fs) a in
    let g = both_passed (is_formed b f) (first_misformed_of fs b) f.first e in
    let s : all is_plain (bytes_of b f) ≡ true = form_plain f.form (bytes_of b f) m.0 g.0 in
    let r = rest_plain fs b (f.last + 1) (omega (arith, x.starts, x.some)) l x.others m.1 g.1 in
    let n : position - 1 ≡ f.first - 1 = ap (λ p. p - 1) (sym x.starts) in
    let k : f.first - 1 + (f.last - (f.first - 1)) ≡ f.last + 1 - 1 = omega (arith, x.starts, x.some) in
    rw n (drop_plain b (f.first - 1) (f.last - (f.first - 1)) s (subst⁻¹ (λ (i : ℕ). all is_plain (drop i b) ≡ true) k r))

pub all_plain : (k : Kind) (b : List ℕ) → Conforms k b → all is_plain b ≡ true
unfolding first_misformed
all_plain k b c = rest_plain (layout k) b 1 (omega arith) c.0 (layouts_tile k) (layouts_name_plain k) c.1

pub plain : (k : Kind) (b : List ℕ) → Conforms k b → first_failing is_plain b ≡ None
plain k b c = all_none is_plain 0 b (all_plain k b c)
