-- The first line of some bytes.
use Rattle.std.proofs.Common.{◌≡◌, ℕ, suc, ◌+◌, ◌-◌, ◌<◌, ◌≤◌, Bool, true, false, cond, ◌&&◌, eqb, ltb, List, [], ◌∷◌, ◌++◌, length, get_or, take, drop, Option, Some, None, sym, refl, ap, ◌∙◌, ⊎_elim, add-one, drop-cons, arith}
use Rattle.std.specs.Borrow.{Bor}
use Rattle.std.specs.Option.{MatchOption, unwrap_or}
use Rattle.std.specs.List.{position, position_or_len}
use Rattle.std.specs.Cmp.Lexicographic.{pointwise}
use Rattle.std.proofs.lemmas.List.{length-take-le, get_or-take, take-append-drop}
use Rattle.std.proofs.lemmas.List.Sums.{fails_before_first}
use Rattle.std.proofs.lemmas.List.Quantifiers.{position-Some}
use Rattle.std.proofs.lemmas.Option.{none-some}
use Rattle.std.proofs.lemmas.Bool.{eqb-true, lt-ltb, cases_lt, cond-true, cond-false, and_right}
use Rattle.source.specs.Lining.{is_feed, feed_first, in_front, lines}

-- a feed ends an empty line
pub lines_feed : (x : ℕ) (xs : List ℕ) → is_feed x ≡ true → lines (x ∷ xs) ≡ [] ∷ lines xs
lines_feed x xs feed = cond-true (is_feed x) ([] ∷ lines xs) (cond (eqb x 13 && feed_first xs) (lines xs) (in_front x (lines xs))) feed

-- a byte that is no feed
other : (x : ℕ) (xs : List ℕ) → is_feed x ≡ false → lines (x ∷ xs) ≡ cond (eqb x 13 && feed_first xs) (lines xs) (in_front x (lines xs))
other x xs no_feed = cond-false (is_feed x) ([] ∷ lines xs) (cond (eqb x 13 && feed_first xs) (lines xs) (in_front x (lines xs))) no_feed

-- a return just before a feed stands in no line
pub lines_return : (x : ℕ) (xs : List ℕ) → is_feed x ≡ false → (eqb x 13 && feed_first xs) ≡ true → lines (x ∷ xs) ≡ lines xs
lines_return x xs no_feed ending =
    other x xs no_feed ∙ cond-true (eqb x 13 && feed_first xs) (lines xs) (in_front x (lines xs)) ending

-- any other byte stands in the line of the bytes behind it
pub lines_text : (x : ℕ) (xs : List ℕ) → is_feed x ≡ false → (eqb x 13 && feed_first xs) ≡ false → lines (x ∷ xs) ≡ in_front x (lines xs)
lines_text x xs no_feed text =
    other x xs no_feed ∙ cond-false (eqb x 13 && feed_first xs) (lines xs) (in_front x (lines xs)) text

-- a return at the end of the bytes before a feed belongs to the ending
abbrev bare : List ℕ → List ℕ
bare [] = []
bare (x ∷ []) = cond (eqb x 13) [] (x ∷ [])
bare (x ∷ y ∷ ys) = x ∷ bare (y ∷ ys)

-- no byte is a feed
abbrev FeedFree : List ℕ → Type 0
FeedFree xs = (k : ℕ) → k < length xs → is_feed (get_or xs k 0) ≡ false

-- the first line of bytes with no feed is all of them
line_of_all : (xs : List ℕ) → 0 < length xs → FeedFree xs → lines xs ≡ xs ∷ []
line_of_all [] some free = absurd (omega arith)
line_of_all (x ∷ []) some free =
    lines_text x [] (free 0 (omega arith)) (and_right (eqb x 13) false refl)
line_of_all (x ∷ y ∷ ys) some free =
    lines_text x (y ∷ ys) (free 0 (omega arith)) (and_right (eqb x 13) (is_feed y) (free 1 (omega arith)))
    ∙ ap (in_front x) (line_of_all (y ∷ ys) (omega arith) (λ k inside. free (suc k) (omega (arith, inside))))

-- and before the first feed it is what stands there, without a return at its end
line_before_feed : (line rest : List ℕ) → FeedFree line → lines (line ++ 10 ∷ rest) ≡ bare line ∷ lines rest
line_before_feed [] rest free = refl
line_before_feed (x ∷ []) rest free =
    other x (10 ∷ rest) (free 0 (omega arith)) ∙ one (eqb x 13)
  where
    one : (b : Bool) → cond (b && true) ([] ∷ lines rest) ((x ∷ []) ∷ lines rest) ≡ cond b [] (x ∷ []) ∷ lines rest
    one true = refl
    one false = refl
line_before_feed (x ∷ y ∷ ys) rest free =
    lines_text x (y ∷ ys ++ 10 ∷ rest) (free 0 (omega arith)) (and_right (eqb x 13) (is_feed y) (free 1 (omega arith)))
    ∙ ap (in_front x) (line_before_feed (y ∷ ys) rest (λ k inside. free (suc k) (omega (arith, inside))))

-- as code takes the return from the end
bare_is : (line : List ℕ) (ends : Bool) → pointwise eqb (drop (length line - 1) line) (13 ∷ []) ≡ ends → bare line ≡ cond ends (take (length line - 1) line) line
bare_is [] true e = refl
bare_is [] false e = refl
bare_is (x ∷ []) ends e = ap (λ b. cond b [] (x ∷ [])) (only (eqb x 13) ∙ e)
  where
    only : (b : Bool) → b ≡ (b && true)
    only true = refl
    only false = refl
bare_is (x ∷ y ∷ ys) ends e = ap (λ text. x ∷ text) (bare_is (y ∷ ys) ends (sym (ap (λ n. pointwise eqb (drop n (x ∷ y ∷ ys)) (13 ∷ [])) place) ∙ e)) ∙ in_each ends
  where
    place : length (x ∷ y ∷ ys) - 1 ≡ suc (length (y ∷ ys) - 1)
    place = omega arith

    in_each : (b : Bool) → x ∷ cond b (take (length (y ∷ ys) - 1) (y ∷ ys)) (y ∷ ys) ≡ cond b (take (length (x ∷ y ∷ ys) - 1) (x ∷ y ∷ ys)) (x ∷ y ∷ ys)
    in_each true = ap (λ n. take n (x ∷ y ∷ ys)) (sym place)
    in_each false = refl

-- the first line where no feed is found
pub line_to_end : (xs : List ℕ) → 0 < length xs → position is_feed xs ≡ None → lines xs ≡ xs ∷ []
line_to_end xs some none = line_of_all xs some (λ k inside. fails_before_first is_feed xs k 0 (omega (arith, inside, all)))
  where
    all : length xs ≤ position_or_len is_feed xs
    all =
        ⊎_elim
        (λ inside. absurd (none-some (position_or_len is_feed xs) (sym none ∙ cond-true (ltb (position_or_len is_feed xs) (length xs)) (Some (position_or_len is_feed xs)) None (lt-ltb (position_or_len is_feed xs) (length xs) inside))))
        (λ past. past)
        (cases_lt (position_or_len is_feed xs) (length xs))

-- and where one is, as code cuts the line and the rest
pub line_to_feed : (xs : List ℕ) (end : ℕ) (line out : Bor (List ℕ)) (stripped : Option (Bor (List ℕ))) (rest : List ℕ) → position is_feed xs ≡ Some end → line.now ≡ take end xs
    → MatchOption stripped (pointwise eqb (drop (length line.now - 1) line.now) (13 ∷ []) ≡ false)
    (λ text. (pointwise eqb (drop (length line.now - 1) line.now) (13 ∷ []) ≡ true) × (text.now ≡ take (length line.now - 1) line.now) × (length text.now + 1 ≡ length line.now))
    → out ≡ unwrap_or stripped line → rest ≡ drop (end + 1) xs → lines xs ≡ out.now ∷ lines rest
line_to_feed xs end line out stripped rest found is cases chosen behind =
    ap lines split ∙ (line_before_feed line.now rest free ∙ ap (λ text. text ∷ lines rest) (sym (ap (λ b. b.now) chosen ∙ told stripped cases)))
  where
    at : (end < length xs) × (is_feed (get_or xs end 0) ≡ true) × ((k : ℕ) → k < end → is_feed (get_or xs k 0) ≡ false)
    at = position-Some is_feed xs end 0 found

    free : FeedFree line.now
    free k inside =
        let before : k < end = omega (arith, inside, ap length is, length-take-le end xs (omega (arith, at.0))) in
        ap (λ t. is_feed (get_or t k 0)) is ∙ (ap is_feed (get_or-take end xs k 0 before) ∙ at.2 k before)

    split : xs ≡ line.now ++ 10 ∷ rest
    split =
        sym (take-append-drop end xs)
        ∙ (ap (λ t. take end xs ++ t) (drop-cons xs end 0 at.0 ∙ (ap (λ b. b ∷ drop (suc end) xs) (eqb-true (get_or xs end 0) 10 at.1) ∙ ap (λ r. 10 ∷ r) (ap (λ n. drop n xs) (sym (add-one end)) ∙ sym behind)))
        ∙ ap (λ t. t ++ 10 ∷ rest) (sym is))

    told : (o : Option (Bor (List ℕ)))
        → MatchOption o (pointwise eqb (drop (length line.now - 1) line.now) (13 ∷ []) ≡ false)
        (λ text. (pointwise eqb (drop (length line.now - 1) line.now) (13 ∷ []) ≡ true) × (text.now ≡ take (length line.now - 1) line.now) × (length text.now + 1 ≡ length line.now))
        → (unwrap_or o line).now ≡ bare line.now
    told None h = sym (bare_is line.now false h)
    told (Some text) h = h.1 ∙ sym (bare_is line.now true h.0)
