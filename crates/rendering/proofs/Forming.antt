-- Every field of what conforms is of its form.
use Rattle.std.proofs.Common.{◌≡◌, ℕ, zero, suc, ◌<◌, Bool, true, false, cond, List, [], ◌∷◌, length, get_or, Some, None, Option, refl, arith}
use Rattle.layout.specs.Layouts.{Field, layout, is_formed, first_misformed_of, first_misformed}
use Rattle.layout.specs.declared.kind.Kind.{Kind}
use Rattle.rendering.specs.Rendering.{Conforms}

-- a test that names nothing has passed, and so have those behind it
pub both_passed : (v : Bool) (o : Option ℕ) (n : ℕ) → cond v o (Some n) ≡ None → (v ≡ true) × (o ≡ None)
both_passed true o n e = (refl, e)
both_passed false o n e = let z : ◌≡◌ {A = ℕ} 0 1 = cc in absurd (omega arith)

formed_at : (fs : List Field) (b : List ℕ) (d : Field) (i : ℕ) → i < length fs → first_misformed_of fs b ≡ None → is_formed b (get_or fs i d) ≡ true
formed_at [] b d i l e = absurd (omega arith)
formed_at (f ∷ fs) b d zero l e = (both_passed (is_formed b f) (first_misformed_of fs b) f.first e).0
formed_at (f ∷ fs) b d (suc i) l e = formed_at fs b d i (omega arith) (both_passed (is_formed b f) (first_misformed_of fs b) f.first e).1

pub formed : (k : Kind) (b : List ℕ) (d : Field) (i : ℕ) → i < length (layout k) → Conforms k b → is_formed b (get_or (layout k) i d) ≡ true
unfolding first_misformed
formed k b d i l c = formed_at (layout k) b d i l c.1
