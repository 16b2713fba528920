-- Free communications: the machine's successors are the law's, since their numbers have four digits from the first on.
use Rattle.std.proofs.Common.{◌≡◌, ℕ, ◌%◌, ◌≤◌, List, [], ◌∷◌, sym, ◌∙◌, inl, inr, arith}
use mathlib.Core.Path.{subst⁻¹}
use Rattle.grammar.specs.Fields.{sequence, detail}
use Rattle.grammar.specs.Lawful.{Bears, successor, Next, FollowOn, Communicated}
use Rattle.grammar.specs.Rules.{succeeding}
use Rattle.grammar.proofs.Fits.{CommunicationFits}
use Rattle.grammar.proofs.Threaded.{FurtherOk, CommunicationsOk}
use Rattle.grammar.proofs.Counting.{succeeding_counts}

-- sequence and detail number have four digits at the most
abbrev Four : List ℕ → Type 0
Four b = (sequence b ≤ 9999) × (detail b ≤ 9999)

succeeding_four : (n : ℕ) → n ≤ 9999 → succeeding n ≡ successor n
succeeding_four n h = let e : n ≡ n % 10000 = omega arith in succeeding_counts n n e

four_bears : (s d : ℕ) (b : List ℕ) → s ≤ 9999 → d ≤ 9999 → Bears s d b → Four b
four_bears s d b h k e = (subst⁻¹ (λ (x : ℕ). x ≤ 9999) e.0 h, subst⁻¹ (λ (x : ℕ). x ≤ 9999) e.1 k)

successor_four : (n : ℕ) → successor n ≤ 9999
successor_four n = omega arith

four_next : (f g : List ℕ) → Four f → Next f g → Four g
four_next f g h (inl e) = four_bears (sequence f) (successor (detail f)) g h.0 (successor_four (detail f)) e
four_next f g h (inr e) = four_bears (successor (sequence f)) 0 g (successor_four (sequence f)) (omega arith) e

next_allowed : (f g : List ℕ) → Four f → CommunicationFits (sequence f) (detail f) g → Next f g
next_allowed f g h (inl e) = inl (e.0, e.1 ∙ succeeding_four (detail f) h.1)
next_allowed f g h (inr e) = inr (e.0 ∙ succeeding_four (sequence f) h.0, e.1)

next_fits : (f g : List ℕ) → Four f → Next f g → CommunicationFits (sequence f) (detail f) g
next_fits f g h (inl e) = inl (e.0, e.1 ∙ sym (succeeding_four (detail f) h.1))
next_fits f g h (inr e) = inr (e.0 ∙ sym (succeeding_four (sequence f) h.0), e.1)

further_follow_on : (fs : List (List ℕ)) (f : List ℕ) → Four f → FurtherOk (sequence f) (detail f) fs → FollowOn f fs
further_follow_on [] f h ok = tt
further_follow_on (g ∷ gs) f h ok = let x : Next f g = next_allowed f g h ok.0 in (x, further_follow_on gs g (four_next f g h x) ok.1)

further_thread : (fs : List (List ℕ)) (f : List ℕ) → Four f → FollowOn f fs → FurtherOk (sequence f) (detail f) fs
further_thread [] f h ok = tt
further_thread (g ∷ gs) f h ok = (next_fits f g h ok.0, further_thread gs g (four_next f g h ok.0) ok.1)

first_four : (f : List ℕ) → Bears 1 0 f → Four f
first_four f e = four_bears 1 0 f (omega arith) (omega arith) e

pub communications_follow_on : (fs : List (List ℕ)) → CommunicationsOk fs → Communicated fs
communications_follow_on [] ok = tt
communications_follow_on (f ∷ fs) ok = (ok.0, further_follow_on fs f (first_four f ok.0) ok.1)

pub communications_thread : (fs : List (List ℕ)) → Communicated fs → CommunicationsOk fs
communications_thread [] ok = tt
communications_thread (f ∷ fs) ok = (ok.0, further_thread fs f (first_four f ok.0) ok.1)
