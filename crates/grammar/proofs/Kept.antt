-- A list of rules gives its value just where every rule is kept.
use Rattle.std.proofs.Common.{◌≡◌, ℕ, Bool, true, false, cond, List, [], ◌∷◌, Ok, Err, Result, refl, ◌∙◌, subst, arith}
use Rattle.std.proofs.lemmas.Bool.{cond-true}
use Rattle.grammar.specs.declared.faults.StatementFault.{StatementFault}
use Rattle.grammar.specs.Rules.{Rule, under}

abbrev pub Kept : List Rule → Type 0
Kept [] = Unit {0}
Kept (r ∷ rs) = (r.kept ≡ true) × Kept rs

pub refused : {A : Type 0} (f : StatementFault) (x : A) → Err f ≡ Ok x → ⊥
refused f x e = let z : ◌≡◌ {A = ℕ} 0 1 = cc in omega arith

pub same_value : {A : Type 0} (x q : A) → ◌≡◌ {A = Result A StatementFault} (Ok x) (Ok q) → x ≡ q
same_value x q e = cc

-- what holds of the value under rules that are kept holds of whatever the rules give
pub ruled : {A : Type 0} (P : A → Type 0) (rules : List Rule) (x q : A) → (Kept rules → P x) → under rules x ≡ Ok q → P q
ruled P [] x q f e = subst P (same_value x q e) (f tt)
ruled P (r ∷ rs) x q f e = by r.kept (ruled P rs x q) f e
  where
    by : (b : Bool) → ((Kept rs → P x) → under rs x ≡ Ok q → P q) → ((b ≡ true) × Kept rs → P x) → cond b (under rs x) (Err r.fault) ≡ Ok q → P q
    by true others g h = others (λ k. g (refl, k)) h
    by false others g h = absurd (refused r.fault q h)

pub kept : {A : Type 0} (rules : List Rule) (x : A) → Kept rules → under rules x ≡ Ok x
kept [] x k = refl
kept (r ∷ rs) x k = cond-true r.kept (under rs x) (Err r.fault) k.0 ∙ kept rs x k.1
