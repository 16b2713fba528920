-- Places in step with the first rows of a list: reading them, and one row more.
use Rattle.std.proofs.Common.{◌≡◌, ℕ, ◌+◌, ◌<◌, ◌≤◌, true, false, List, [], ◌∷◌, ◌++◌, length, get_or, take, drop, set, max, unwrap_or, Some, None, Option, sym, refl, ap, ◌∙◌, arith, length-set}
use Rattle.std.proofs.Math.Seq.{take-set-lt}
use Rattle.std.proofs.lemmas.List.{length-take-le, take_more, take_more_set, take-append-drop, get_or-take, get_or_default, length_push, drop-set-lt}
use Rattle.std.specs.Str.{bytes_eq}
use Rattle.rows.specs.declared.fields.Fields.{Fields}
use Rattle.rows.specs.declared.fields.Fields.TheVariants.{Movement, Statement}
use Rattle.rows.specs.declared.fields.MovementFields.{MovementFields}
use Rattle.rows.specs.declared.fields.StatementFields.{StatementFields}
use Rattle.rows.specs.Accounts.{is_of}
use Rattle.rows.specs.Rows.{blank}
use Rattle.placing.specs.Places.{accounts, places, last_place, index_of}
use Rattle.placing.proofs.Walking.{index_inside}
use Rattle.placing.proofs.Standing.{few_places, length_places, place_inside, place_of, last_found, last_missing}
use Rattle.placing.proofs.Pushing.{places_movement, places_known, places_new}
use Rattle.tablebook.specs.Held.{InStep, placed}
use Rattle.tablebook.proofs.Seeking.{index_sought}
use Rattle.std.specs.Option.{MatchOption}

-- what a list of places is whose first ones are in step, and whose others are as they were
pub placed_is : (kept : List Fields) (number : ℕ) (held old : List ℕ) → InStep kept number held → drop number held ≡ drop number old → held ≡ placed kept old
placed_is kept number held old step rest =
    sym (take-append-drop number held) ∙ (ap (λ ps. ps ++ drop number held) step.1 ∙ ap (λ ps. places kept ++ ps) (rest ∙ ap (λ n. drop n old) step.0))

module _ (rows : List Fields) (count number : ℕ) (held : List ℕ) (room : count ≤ length rows) (step : InStep (take count rows) number held) where
  pub few : number ≤ count
  few = let n = few_places (take count rows) in let l = length-take-le count rows room in let s = step.0 in omega arith

  numbered : length (accounts (take count rows)) ≡ number
  numbered = sym (length_places (take count rows)) ∙ sym step.0

  first : (j e : ℕ) → j < length (take number held) → (j < length (places (take count rows))) × (get_or (take number held) j e ≡ get_or (places (take count rows)) j 0)
  first j e inside = let same = ap length step.1 in (omega arith, get_or_default (take number held) j e 0 inside ∙ ap (λ ps. get_or ps j 0) step.1)

  pub places_in : (j e : ℕ) → j < length (take number held) → get_or (take number held) j e < count
  places_in j e inside =
      let f = first j e inside in
      let p = place_inside (take count rows) j f.0 in
      let l = length-take-le count rows room in
      let g = f.1 in
      omega arith

  -- the row at a place is of the account that stands there
  row_at_place :
      (account : List ℕ) (j e : ℕ) (d : Fields) → j < length (take number held) → is_of account (get_or rows (get_or (take number held) j e) d) ≡ bytes_eq (get_or (accounts (take count rows)) j []) account
  row_at_place account j e d inside =
      let f = first j e inside in
      ap (is_of account) (sym (get_or-take count rows (get_or (take number held) j e) d (places_in j e inside)) ∙ ap (λ k. get_or (take count rows) k d) f.1)
      ∙ place_of (take count rows) j f.0 d account

  -- the account at the first place whose row is of it
  pub account_sought :
      (account : List ℕ) (r : Option ℕ)
      → MatchOption r ((k e : ℕ) (d : Fields) → k < length (take number held) → is_of account (get_or rows (get_or (take number held) k e) d) ≡ false)
      (λ i.
      (i < length (take number held))
      × ((e : ℕ) (d : Fields) → is_of account (get_or rows (get_or (take number held) i e) d) ≡ true)
      × ((k e : ℕ) (d : Fields) → k < i → is_of account (get_or rows (get_or (take number held) k e) d) ≡ false))
      → r ≡ index_of account (accounts (take count rows))
  account_sought account None h =
      index_sought account (accounts (take count rows)) None
      (λ k inside. (let same = ap length step.1 in let l = length_places (take count rows) in sym (row_at_place account k 0 blank (omega arith)) ∙ h k 0 blank (omega arith)))
  account_sought account (Some i) h =
      index_sought account (accounts (take count rows)) (Some i) (
        (let same = ap length step.1 in let l = length_places (take count rows) in let inside = h.0 in omega arith),
        sym (row_at_place account i 0 blank h.0) ∙ h.1 0 blank,
        λ k before. (let inside = h.0 in sym (row_at_place account k 0 blank (omega arith)) ∙ h.2 k 0 blank before),
      )

  pub found_inside : (account : List ℕ) (j : ℕ) → Some j ≡ index_of account (accounts (take count rows)) → j < number
  found_inside account j e = let i = index_inside account (accounts (take count rows)) j (sym e) in let n = numbered in omega arith

  -- the last row of an account stands at its place
  pub last_told :
      (account : List ℕ) (found r : Option ℕ) → number ≤ length held → found ≡ index_of account (accounts (take count rows)) → MatchOption found (r ≡ None) (λ j. r ≡ Some (get_or held j 0))
      → r ≡ last_place account (take count rows)
  last_told account None r room e told = told ∙ sym (last_missing account (take count rows) (sym e))
  last_told account (Some j) r room e told =
      let inside = found_inside account j e in
      let long = length-take-le number held room in
      told ∙ (ap Some (sym (get_or-take number held j 0 inside) ∙ (first j 0 (omega arith)).1) ∙ sym (last_found account (take count rows) j (sym e)))

-- the places once one row more is kept: in step, and behind the first ones as they were
pub record Keeps (kept : List Fields) (number : ℕ) (held old : List ℕ) : Type 0 where
  pub step : InStep kept number held
  pub is : held ≡ placed kept old
  pub long : length held ≡ length old

keeps : (kept : List Fields) (number : ℕ) (held old : List ℕ) → InStep kept number held → drop number held ≡ drop number old → length held ≡ length old → Keeps kept number held old
keeps kept number held old step rest long = record { step = step; is = placed_is kept number held old step rest; long = long }

-- one row more
module _ (rows : List Fields) (count number : ℕ) (held : List ℕ) (room : count < length rows) (step : InStep (take count rows) number held) (d : Fields) where
  more : (row : Fields) → get_or rows count d ≡ row → take (count + 1) rows ≡ take count rows ++ row ∷ []
  more row is = take_more rows count d room ∙ ap (λ r. take count rows ++ r ∷ []) is

  counted : length (take count rows) ≡ count
  counted = length-take-le count rows (omega arith)

  pub keeps_movement : (m : MovementFields) → get_or rows count d ≡ Movement m → Keeps (take (count + 1) rows) number held held
  keeps_movement m is =
      let same : places (take (count + 1) rows) ≡ places (take count rows) = ap places (more (Movement m) is) ∙ places_movement (take count rows) m in
      keeps (take (count + 1) rows) number held held (step.0 ∙ ap length (sym same), step.1 ∙ sym same) refl refl

  module _ (s : StatementFields) (is : get_or rows count d ≡ Statement s) where
    more_statement : places (take (count + 1) rows) ≡ places (take count rows ++ Statement s ∷ [])
    more_statement = ap places (more (Statement s) is)

    keeps_known : (j : ℕ) → index_of s.account (accounts (take count rows)) ≡ Some j → j < number → Keeps (take (count + 1) rows) number (set held j count) held
    keeps_known j e inside =
        let same : places (take (count + 1) rows) ≡ set (places (take count rows)) j count
        = more_statement ∙ (places_known (take count rows) s j e ∙ ap (set (places (take count rows)) j) counted) in
        keeps (take (count + 1) rows) number (set held j count) held (
          step.0 ∙ (sym (length-set (places (take count rows)) j count) ∙ ap length (sym same)),
          take-set-lt number held j count inside ∙ (ap (λ ps. set ps j count) step.1 ∙ sym same),
        )
        (drop-set-lt number held j count inside) (length-set held j count)

    keeps_new : index_of s.account (accounts (take count rows)) ≡ None → number < length held → Keeps (take (count + 1) rows) (number + 1) (set held number count) held
    keeps_new e free =
        let same : places (take (count + 1) rows) ≡ places (take count rows) ++ count ∷ []
        = more_statement ∙ (places_new (take count rows) s e ∙ ap (λ n. places (take count rows) ++ n ∷ []) counted) in
        keeps (take (count + 1) rows) (number + 1) (set held number count) held (
          ap (λ n. n + 1) step.0 ∙ (sym (length_push (places (take count rows)) count) ∙ ap length (sym same)),
          take_more_set held number count free ∙ (ap (λ ps. ps ++ count ∷ []) step.1 ∙ sym same),
        )
        (drop-set-lt (number + 1) held number count (omega arith)) (length-set held number count)

    -- the place of a statement row: that of its account, or the next one
    module _ (free : count < length held) where
      abbrev Place : Option ℕ → Type 0
      Place found = record {
        inside : unwrap_or found number ≤ number;
        keeps : Keeps (take (count + 1) rows) (max number (unwrap_or found number + 1)) (set held (unwrap_or found number) count) held;
      }

      place_of_statement : (found : Option ℕ) → index_of s.account (accounts (take count rows)) ≡ found → Place found
      place_of_statement None e =
          let f = few rows count number held (omega arith) step in
          let m : max number (number + 1) ≡ number + 1 = omega arith in
          record { inside = omega arith; keeps = rw m (keeps_new e (omega arith)) }
      place_of_statement (Some j) e =
          let inside = found_inside rows count number held (omega arith) step s.account j (sym e) in
          let m : max number (j + 1) ≡ number = omega arith in
          record { inside = omega arith; keeps = rw m (keeps_known j e inside) }

      pub keeps_statement :
          (j m : ℕ) → j ≡ unwrap_or (index_of s.account (accounts (take count rows))) number → m ≡ max number (j + 1) → (j ≤ number) × Keeps (take (count + 1) rows) m (set held j count) held
      keeps_statement j m is most =
          let p = place_of_statement (index_of s.account (accounts (take count rows))) refl in
          rw (most, is) (p.inside, p.keeps)

-- no rows have no places
pub step_none : (held : List ℕ) → InStep [] 0 held
unfolding places accounts
step_none held = (refl, refl)
