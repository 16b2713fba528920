-- A record joined from a part for each field: every field is its part.
use Rattle.std.proofs.Common.{◌≡◌, ℕ, zero, suc, ◌+◌, ◌-◌, ◌<◌, true, List, [], ◌++◌, length, get_or, take, Some, None, refl, ap, ◌∙◌, subst, arith}
use Rattle.std.proofs.lemmas.Bool.{eqb-true, cond-true}
use Rattle.std.proofs.lemmas.List.{length-append, append_assoc, drop_at, take_at}
use Rattle.recordbytes.specs.Spans.{span}
use Rattle.layout.specs.Forms.{holds}
use Rattle.layout.specs.Layouts.{Field, layout, bytes_of, is_formed, first_misformed_of, first_misformed, tiles}
use Rattle.layout.specs.declared.kind.Kind.{Kind}
use Rattle.recordbytes.specs.Joins.{joined}
use Rattle.rendering.specs.Rendering.{Parts, none, ◌then◌, Conforms}
use Rattle.rendering.proofs.Tiling.{first_tile, layouts_tile}

-- the part behind what comes first, where that is as long as its position says
span_at : (before part behind : List ℕ) (first last : ℕ) → first ≡ length before + 1 → first + length part ≡ last + 1 → span (before ++ (part ++ behind)) first last ≡ part
span_at before part behind first last e w =
    ap (take (last - (first - 1))) (drop_at before (part ++ behind) (first - 1) (omega arith)) ∙ take_at part behind (last - (first - 1)) (omega arith)

-- the fields behind one part more
onward : (f : Field) (fs : List Field) (before part : List ℕ) → f.first ≡ length before + 1 → f.first + length part ≡ f.last + 1 → tiles (f.last + 1) fs ≡ true → tiles (length (before ++ part) + 1) fs ≡ true
onward f fs before part e w t =
    let n : f.last + 1 ≡ length (before ++ part) + 1 = omega (arith, length-append before part) in
    subst (λ (k : ℕ). tiles k fs ≡ true) n t

-- parts behind what comes first
joined_conforms : {fs : List Field} {ps : List (List ℕ)} (before : List ℕ) → tiles (length before + 1) fs ≡ true → Parts fs ps → (length (before ++ joined ps) ≡ 128) × (first_misformed_of fs (before ++ joined ps) ≡ None)
joined_conforms before t none = (length-append before [] ∙ omega (arith, eqb-true (length before + 1) 129 t), refl)
joined_conforms before t (◌then◌ {f} {p} {fs} {ps} h hs) =
    let x = first_tile (length before + 1) f fs t in
    let all : List ℕ = before ++ (p ++ joined ps) in
    let s : bytes_of all f ≡ p = span_at before p (joined ps) f.first f.last x.starts h.0 in
    let m : is_formed all f ≡ true = ap (holds f.form) s ∙ h.1 in
    let r = joined_conforms (before ++ p) (onward f fs before p x.starts h.0 x.others) hs in
    let j : (before ++ p) ++ joined ps ≡ all = append_assoc before p (joined ps) in (
      subst (λ (b : List ℕ). length b ≡ 128) j r.0,
      cond-true (is_formed all f) (first_misformed_of fs all) (Some f.first) m ∙ subst (λ b. first_misformed_of fs b ≡ None) j r.1,
    )

part_behind : {fs : List Field} {ps : List (List ℕ)} (before : List ℕ) (d : Field) → tiles (length before + 1) fs ≡ true → Parts fs ps → (i : ℕ) → i < length fs → bytes_of (before ++ joined ps) (get_or fs i d) ≡ get_or ps i []
part_behind before d t none i l = absurd (omega arith)
part_behind before d t (◌then◌ {f} {p} {fs} {ps} h hs) zero l = span_at before p (joined ps) f.first f.last (first_tile (length before + 1) f fs t).starts h.0
part_behind before d t (◌then◌ {f} {p} {fs} {ps} h hs) (suc i) l =
    let x = first_tile (length before + 1) f fs t in
    let r = part_behind (before ++ p) d (onward f fs before p x.starts h.0 x.others) hs i (omega arith) in
    subst (λ (b : List ℕ). bytes_of b (get_or fs i d) ≡ get_or ps i []) (append_assoc before p (joined ps)) r

pub written : (k : Kind) (ps : List (List ℕ)) → Parts (layout k) ps → Conforms k (joined ps)
unfolding first_misformed
written k ps h = joined_conforms [] (layouts_tile k) h

pub part_back : (k : Kind) (ps : List (List ℕ)) (d : Field) → Parts (layout k) ps → (i : ℕ) → i < length (layout k) → bytes_of (joined ps) (get_or (layout k) i d) ≡ get_or ps i []
part_back k ps d h i l = part_behind [] d (layouts_tile k) h i l
