-- What the sources cite for the soundness of their slots.
--   judged_sound   slots that are judged from bytes are sound
use Rattle.std.specs.Prelude.{ℕ, ◌≤◌, cond, List, [], ◌∷◌, map, length, ◌==◌, nat_lt}
use Rattle.std.proofs.Common.{arith}
use Rattle.std.specs.List.{AllByRecursion}
use Rattle.std.proofs.lemmas.Bool.{cond_both, eqb-true}
use Rattle.source.specs.Slots.{whole, damaged, Sound, judge}

judge_sound : (bytes : List ℕ) → Sound (judge bytes)
judge_sound bytes =
    cond_both (length bytes == 128) (whole bytes) (damaged (record { cause = cond (nat_lt (length bytes) 128) 1 2 })) Sound
    (λ e. eqb-true (length bytes) 128 e)
    (λ _. cond_both (nat_lt (length bytes) 128) 1 2 (λ cause. (1 ≤ cause) × (cause ≤ 255)) (λ _. (omega arith, omega arith)) (λ _. (omega arith, omega arith)))

pub judged_sound : (all : List (List ℕ)) → AllByRecursion Sound (map judge all)
judged_sound [] = tt
judged_sound (bytes ∷ rest) = (judge_sound bytes, judged_sound rest)
