-- The forms of records say what runs need of their values.
use Rattle.std.proofs.Common.{◌≡◌, ℕ, false, eqb, List, get_or, drop, codes, sym, ap, ◌∙◌, lit<}
use Rattle.std.proofs.lemmas.Slice.Eq.{bytes_eq-Decides}
use Rattle.std.proofs.lemmas.List.{get_or-take, get_or-drop}
use Rattle.recordbytes.specs.Spans.{span}
use Rattle.layout.specs.declared.kind.Kind.TheVariants.{Counterparty, InformationThird}
use Rattle.rendering.proofs.Forming.{formed}
use Rattle.grammar.specs.Fields.{next}
use Rattle.grammar.proofs.Making.{no_field}
use Rattle.grammar.proofs.Bounds.{sum_within, trailer_numbers}
use Rattle.grammar.proofs.FormedGives.{FormedGives}

-- 0 at position 126
nothing_next : (b : List ℕ) → span b 126 126 ≡ codes "0" → next b ≡ false
nothing_next b h =
    ap (λ x. eqb x 49) (sym (get_or-take 1 (drop 125 b) 0 0 (lit< tt) ∙ get_or-drop 125 b 0 0) ∙ ap (λ (x : List ℕ). get_or x 0 0) h)

pub formed_gives : FormedGives
formed_gives = record {
  counterparty_last = λ b f. nothing_next b ((bytes_eq-Decides (span b 126 126) (codes "0")).0 (formed Counterparty b no_field 6 (lit< tt) f));
  information_third_last = λ b f. nothing_next b ((bytes_eq-Decides (span b 126 126) (codes "0")).0 (formed InformationThird b no_field 5 (lit< tt) f));
  debit_limit = λ b f. sum_within _ (trailer_numbers b f).debit_sum;
  credit_limit = λ b f. sum_within _ (trailer_numbers b f).credit_sum;
}
