-- One row more at the end: the places.
use Rattle.std.proofs.Common.{◌≡◌, ℕ, zero, suc, ◌<◌, true, false, cond, List, [], ◌∷◌, ◌++◌, map, length, get_or, set, is_some, Some, None, unwrap_or, refl, ap, ◌∙◌, arith}
use Rattle.std.specs.Str.{bytes_eq}
use Rattle.std.proofs.lemmas.Slice.Eq.{bytes_eq-Decides}
use Rattle.std.proofs.lemmas.List.{map_push}
use Rattle.std.proofs.lemmas.Bool.{or_parts}
use Rattle.rows.specs.declared.fields.Fields.{Fields}
use Rattle.rows.specs.declared.fields.Fields.TheVariants.{Movement, Statement}
use Rattle.rows.specs.declared.fields.MovementFields.{MovementFields}
use Rattle.rows.specs.declared.fields.StatementFields.{StatementFields}
use Rattle.rows.specs.Accounts.{is_of}
use Rattle.placing.specs.Places.{accounts, last_place, places, index_of}
use Rattle.placing.proofs.Walking.{among, among_at, among_index, index_found}
use Rattle.placing.proofs.Accounts.{same_itself, same_turned, Distinct, accounts_distinct, accounts_movement, accounts_statement}

last_place_push : (account : List ℕ) (rows : List Fields) (row : Fields) → last_place account (rows ++ row ∷ []) ≡ cond (is_of account row) (Some (length rows)) (last_place account rows)
unfolding last_place
last_place_push account [] row = grind arith
last_place_push account (first ∷ rows) row = let h = last_place_push account rows row in grind arith

-- two functions of accounts that differ at most at one
module _ (f g : List ℕ → ℕ) (account : List ℕ) (alike : (other : List ℕ) → bytes_eq other account ≡ false → g other ≡ f other) where
  map_alike : (all : List (List ℕ)) → among account all ≡ false → map g all ≡ map f all
  map_alike [] e = refl
  map_alike (other ∷ rest) e = let h = or_parts (bytes_eq other account) (among account rest) e in cc (alike other h.0, map_alike rest h.1)

  map_but_one : (all : List (List ℕ)) (j : ℕ) → Distinct all → j < length all → bytes_eq (get_or all j []) account ≡ true → map g all ≡ set (map f all) j (g account)
  map_but_one [] j d inside e = absurd (omega arith)
  map_but_one (other ∷ rest) zero d inside e =
      let q = (bytes_eq-Decides other account).0 e in
      cc (map_alike rest (rw q at d.0))
  map_but_one (other ∷ rest) (suc j) d inside e =
      let q = bytes_eq-Decides other account in
      let m = among_at account rest j (omega arith) e in
      cc (alike other (grind arith), map_but_one rest j d.1 (omega arith) e)

-- the place of the last row of an account, 0 where it has none
abbrev place : List Fields → List ℕ → ℕ
place rows account = unwrap_or (last_place account rows) 0

pub places_movement : (rows : List Fields) (m : MovementFields) → places (rows ++ Movement m ∷ []) ≡ places rows
unfolding places
places_movement rows m = rw (accounts_movement rows m) (simp last_place_push)

module _ (rows : List Fields) (s : StatementFields) where
  place_own : place (rows ++ Statement s ∷ []) s.account ≡ length rows
  place_own = rw (last_place_push, same_itself s.account)

  place_other : (other : List ℕ) → bytes_eq other s.account ≡ false → place (rows ++ Statement s ∷ []) other ≡ place rows other
  place_other other e = rw (last_place_push, same_turned s.account other, e)

  pub places_known : (j : ℕ) → index_of s.account (accounts rows) ≡ Some j → places (rows ++ Statement s ∷ []) ≡ set (places rows) j (length rows)
  unfolding places
  places_known j e =
      let h = index_found s.account (accounts rows) j e in
      rw (accounts_statement rows s, among_index 0 s.account (accounts rows), e, ← place_own)
      (map_but_one (place rows) (place (rows ++ Statement s ∷ [])) s.account place_other (accounts rows) j (accounts_distinct rows) h.0 h.1)

  pub places_new : index_of s.account (accounts rows) ≡ None → places (rows ++ Statement s ∷ []) ≡ places rows ++ length rows ∷ []
  unfolding places
  places_new e =
      let t = among_index 0 s.account (accounts rows) ∙ ap is_some e in
      rw (accounts_statement rows s, t)
      (map_push (place (rows ++ Statement s ∷ [])) (accounts rows) s.account
      ∙ cc (map_alike (place rows) (place (rows ++ Statement s ∷ [])) s.account place_other (accounts rows) t, place_own))
