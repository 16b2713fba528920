-- Bytes that are exactly those of a row, and all others.
use Rattle.std.proofs.Common.{◌≡◌, ℕ, Bool, true, false, ◌&&◌, List, length, Some, None, Option, sym, refl, ap, ◌∙◌, ⊎_elim, arith}
use Rattle.std.specs.Bool.{then_some}
use Rattle.std.specs.Option.{option_map}
use Rattle.std.specs.Str.{bytes_eq}
use Rattle.std.proofs.lemmas.Bool.{and_left, cases_Bool}
use Rattle.rows.specs.Rows.{is_row, row_made}
use Rattle.rows.specs.declared.fields.Fields.{Fields}
use Rattle.rowbytes.specs.RowBytes.{row_bytes, row_read, is_row_bytes}
use Rattle.rowbytes.proofs.Rereading.{when_some, rows_read_back}

when_none : (b : Bool) (x : Fields) → None ≡ then_some b x → b ≡ false
when_none true x e = let n : ◌≡◌ {A = ℕ} 0 1 = cc in absurd (omega arith)
when_none false x e = refl

module _ (bytes : List ℕ) where
  -- what reading the bytes gives
  abbrev answer : Option Fields
  answer = then_some (is_row_bytes bytes) (row_read bytes)

  none_for : is_row_bytes bytes ≡ false → None ≡ answer
  none_for e = ap (λ b. then_some b (row_read bytes)) (sym e)

  pub row_width : is_row_bytes bytes ≡ true → length bytes ≡ 256
  row_width t = let h = rows_read_back.of_a_row bytes t in ap length (sym h.1) ∙ rows_read_back.wide (row_read bytes) h.0

  pub other_width : (length bytes ≡ 256 → ⊥) → None ≡ answer
  other_width other = ⊎_elim (λ t. absurd (other (row_width t))) none_for (cases_Bool (is_row_bytes bytes))

  module _ (fields : Fields) (read : fields ≡ row_read bytes) where
    pub no_row : None ≡ row_made fields → None ≡ answer
    unfolding is_row_bytes
    no_row e =
        let f : is_row (row_read bytes) ≡ false = ap is_row (sym read) ∙ when_none (is_row fields) fields e in
        none_for (and_left (is_row (row_read bytes)) (bytes_eq (row_bytes (row_read bytes)) bytes) f)

    -- the row that the fields make is the answer exactly where it writes the bytes again
    pub decided : (row : Fields) (again : List ℕ) (same : Bool) → Some row ≡ row_made fields → again ≡ row_bytes row → same ≡ bytes_eq again bytes → then_some same row ≡ answer
    unfolding is_row_bytes
    decided row again same made written compared =
        let made_so = when_some (is_row fields) fields row (sym made) in
        let is : row ≡ row_read bytes = sym made_so.1 ∙ read in
        let fine : is_row (row_read bytes) ≡ true = ap is_row (sym read) ∙ made_so.0 in
        let rewritten : same ≡ bytes_eq (row_bytes (row_read bytes)) bytes = compared ∙ ap (λ ys. bytes_eq ys bytes) (written ∙ ap row_bytes is) in
        ap (then_some same) is ∙ ap (λ t. then_some t (row_read bytes)) (rewritten ∙ ap (λ t. t && bytes_eq (row_bytes (row_read bytes)) bytes) (sym fine))

-- what is mapped of an answer
pub then_some_mapped : {X : Type 0} (f : X → Fields) (b : Bool) (x : X) → option_map f (then_some b x) ≡ then_some b (f x)
then_some_mapped f true x = refl
then_some_mapped f false x = refl
