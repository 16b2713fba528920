-- The details of a transaction: threaded, they are grouped, referenced, typed and levelled as the law says, and back.
use Rattle.std.proofs.Common.{◌≡◌, ℕ, suc, Bool, true, List, [], ◌∷◌, sym, refl, ◌∙◌, subst}
use mathlib.Core.Path.{subst⁻¹}
use Rattle.std.specs.List.{AllByRecursion}
use Rattle.grammar.specs.Fields.{level}
use Rattle.grammar.specs.Readings.{Movement}
use Rattle.grammar.specs.Lawful.{groups, Grouped, Referenced, Level, Levels, none_left, one_more}
use Rattle.grammar.specs.Places.{Numbers, behind_detail, level_fits}
use Rattle.grammar.proofs.Fits.{DetailFits}
use Rattle.grammar.proofs.Threaded.{behind_informations, BehindOk, behind_details, DetailsOk}
use Rattle.grammar.proofs.Counting.{succeeding_counts, At, group_behind, informations_at, informations_refer, movement_grouped, movement_threads}
use Rattle.grammar.proofs.Keeping.{informations_types, informations_levels}
use Rattle.grammar.proofs.Typing.{Tested}
use Rattle.grammar.proofs.Levelling.{Descending, level_allowed, level_passes, descending_behind}

-- THE LAW FROM THE THREAD

pub details_grouped : (ds : List Movement) (n : Numbers) (s d : ℕ) → At n s d → DetailsOk n ds → Grouped s (suc d) (groups ds [])
details_grouped [] n s d a ok = tt
details_grouped (m ∷ ds) n s d a ok =
    let v : Numbers = behind_detail n m.one in
    let b : At v s (suc d) = (a.0, ok.0.detail ∙ succeeding_counts n.detail d a.1) in
    let c : At (behind_informations v m.informations) s (group_behind (suc d) m.informations) = informations_at m.informations v s (suc d) b ok.1.2 in
    movement_grouped m ds v s (suc d) b (ok.0.sequence ∙ a.0, b.1) ok.1
    (details_grouped ds (behind_informations v m.informations) s (group_behind (suc d) m.informations) c ok.2)

pub details_refer : (ds : List Movement) (n : Numbers) → DetailsOk n ds → AllByRecursion Referenced ds
details_refer [] n ok = tt
details_refer (m ∷ ds) n ok =
    let v : Numbers = behind_detail n m.one in (informations_refer m.informations v ok.1.2, details_refer ds (behind_informations v m.informations) ok.2)

pub details_tested : (ds : List Movement) (n : Numbers) → DetailsOk n ds → Tested n.type n.seven ds
details_tested [] n ok = tt
details_tested (m ∷ ds) n ok =
    let v : Numbers = behind_detail n m.one in
    (ok.0.typed, subst (λ (x : ℕ × Bool). Tested x.0 x.1 ds) (informations_types m.informations v) (details_tested ds (behind_informations v m.informations) ok.2))

pub details_levelled : (ds : List Movement) (n : Numbers) → Descending n.levels → DetailsOk n ds → Levels n.levels ds (behind_details n ds).levels
details_levelled [] n h ok = none_left
details_levelled (m ∷ ds) n h ok =
    let v : Numbers = behind_detail n m.one in
    let u : Numbers = behind_informations v m.informations in
    let l : Level n.levels (level m.one) v.levels = level_allowed n.levels (level m.one) h ok.0.levelled in
    let e : u.levels ≡ v.levels = informations_levels m.informations v in
    let k : Descending v.levels = descending_behind n.levels (level m.one) v.levels h l in
    one_more l (subst (λ (os : List ℕ). Levels os ds (behind_details u ds).levels) e (details_levelled ds u (subst⁻¹ Descending e k) ok.2))

-- THE THREAD FROM THE LAW

pub record Levelwise (os : List ℕ) (m : Movement) (ms : List Movement) (new : List ℕ) : Type 0 where
  pub between : List ℕ
  pub first : Level os (level m.one) between
  pub others : Levels between ms new

pub levelwise : {os new : List ℕ} {m : Movement} {ms : List Movement} → Levels os (m ∷ ms) new → Levelwise os m ms new
levelwise (one_more {mid = mid} x y) = record { between = mid; first = x; others = y }

no_levels : {os new : List ℕ} → Levels os [] new → os ≡ new
no_levels none_left = refl

pub details_thread : (ds : List Movement) (n : Numbers) (s d : ℕ) (new : List ℕ) → At n s d → Grouped s (suc d) (groups ds []) → AllByRecursion Referenced ds → Tested n.type n.seven ds
    → Descending n.levels → Levels n.levels ds new → DetailsOk n ds × ((behind_details n ds).levels ≡ new)
details_thread [] n s d new a g r t h l = (tt, no_levels l)
details_thread (m ∷ ds) n s d new a g r t h l =
    let v : Numbers = behind_detail n m.one in
    let u : Numbers = behind_informations v m.informations in
    let x : Levelwise n.levels m ds new = levelwise l in
    let o : (level_fits n.levels (level m.one) ≡ true) × (v.levels ≡ x.between) = level_passes n.levels (level m.one) x.between h x.first in
    let e : u.levels ≡ x.between = informations_levels m.informations v ∙ o.1 in
    let b : At v s (suc d) = (a.0, g.0.0.1) in
    let fits : DetailFits n m.one = record {
      sequence = g.0.0.0 ∙ sym a.0;
      detail = g.0.0.1 ∙ sym (succeeding_counts n.detail d a.1);
      typed = t.0;
      levelled = o.0;
    } in
    let k : BehindOk v m × Grouped s (suc (group_behind (suc d) m.informations)) (groups ds []) = movement_threads m ds v s (suc d) b g r.0 in
    let y : DetailsOk u ds × ((behind_details u ds).levels ≡ new) =
    details_thread ds u s (group_behind (suc d) m.informations) new (informations_at m.informations v s (suc d) b k.0.2) k.1 r.1
    (subst⁻¹ (λ (z : ℕ × Bool). Tested z.0 z.1 ds) (informations_types m.informations v) t.1)
    (subst⁻¹ Descending e (descending_behind n.levels (level m.one) x.between h x.first))
    (subst⁻¹ (λ (os : List ℕ). Levels os ds new) e x.others) in
    ((fits, k.0, y.0), y.1)
