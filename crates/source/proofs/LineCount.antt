-- The number of lines.
use Rattle.std.proofs.Common.{◌≡◌, ℕ, suc, ◌+◌, ◌-◌, ◌<◌, Bool, true, false, cond, ◌&&◌, eqb, List, [], ◌∷◌, length, slice_get, count_by, Option, Some, None, sym, refl, ap, ◌∙◌, ⊎_elim, arith}
use Rattle.std.specs.Borrow.{Bor}
use Rattle.std.specs.Bool.{IsTrue}
use Rattle.std.specs.Option.{MatchOption, option_copied}
use Rattle.std.proofs.lemmas.List.Sums.{sum_by-cons}
use Rattle.std.proofs.lemmas.Bool.{cases_Bool, and_right, cond-true, cond-false}
use Rattle.source.specs.Lining.{is_feed, feed_first, in_front, lines}
use Rattle.source.proofs.FirstLine.{lines_feed, lines_return, lines_text}

-- 1 for a feed
abbrev one_for : ℕ → ℕ
one_for byte = cond (is_feed byte) 1 0

-- a byte in front of a line makes no new line
length_in_front : (x : ℕ) (all : List (List ℕ)) → 0 < length all → length (in_front x all) ≡ length all
length_in_front x [] some = absurd (omega arith)
length_in_front x (line ∷ rest) some = refl

-- a byte in front of lines makes a new one if it is a feed
length_more : (x : ℕ) (xs : List ℕ) → 0 < length (lines xs) → length (lines (x ∷ xs)) ≡ one_for x + length (lines xs)
length_more x xs some =
    ⊎_elim
    (λ feed. let one : one_for x ≡ 1 = cond-true {A = ℕ} (is_feed x) 1 0 feed in ap length (lines_feed x xs feed) ∙ omega arith)
    (λ no_feed.
    let none : one_for x ≡ 0 = cond-false {A = ℕ} (is_feed x) 1 0 no_feed in
    ⊎_elim
    (λ ending. ap length (lines_return x xs no_feed ending) ∙ omega arith)
    (λ text. ap length (lines_text x xs no_feed text) ∙ (length_in_front x (lines xs) some ∙ omega arith))
    (cases_Bool (eqb x 13 && feed_first xs)))
    (cases_Bool (is_feed x))

-- one byte is a line
length_one : (x : ℕ) → length (lines (x ∷ [])) ≡ 1
length_one x =
    ⊎_elim (λ feed. ap length (lines_feed x [] feed)) (λ no_feed. ap length (lines_text x [] no_feed (and_right (eqb x 13) false refl))) (cases_Bool (is_feed x))

-- where there are bytes, there is a line
some_line : (x : ℕ) (xs : List ℕ) → 0 < length (lines (x ∷ xs))
some_line x [] = omega (arith, length_one x)
some_line x (y ∷ ys) =
    let some : 0 < length (lines (y ∷ ys)) = some_line y ys in omega (arith, length_more x (y ∷ ys) some)

-- a byte is either a feed or the start of an open line
one_or_other : (t : Bool) → 1 ≡ cond t 1 0 + cond t 0 1
one_or_other true = refl
one_or_other false = refl

-- whether bytes end with a feed, or are none: no line is open at their end
abbrev pub closed : Option ℕ → Bool
closed None = true
closed (Some byte) = is_feed byte

-- a line for each feed, and one for bytes behind the last
pub length_lines : (xs : List ℕ) → length (lines xs) ≡ count_by is_feed xs + cond (closed (slice_get xs (length xs - 1))) 0 1
length_lines [] = refl
length_lines (x ∷ []) = omega (arith, length_one x, one_or_other (is_feed x))
length_lines (x ∷ y ∷ ys) =
    let place : length (x ∷ y ∷ ys) - 1 ≡ suc (length (y ∷ ys) - 1) = omega arith in
    let last = ap {B = ℕ} (λ k. cond (closed (slice_get (x ∷ y ∷ ys) k)) 0 1) place in
    omega (arith, length_more x (y ∷ ys) (some_line y ys), length_lines (y ∷ ys), sum_by-cons one_for x (y ∷ ys), last)

-- the same, where a test of the last byte has told whether a line is open
pub lines_told : (xs : List ℕ) (last : Option (Bor ℕ)) (told : Bool) → option_copied last ≡ slice_get xs (length xs - 1) → MatchOption last (IsTrue told) (λ x. told ≡ is_feed x.now) → length (lines xs) ≡ count_by is_feed xs + cond told 0 1
lines_told xs last told e h = length_lines xs ∙ ap (λ b. count_by is_feed xs + cond b 0 1) (ap closed (sym e) ∙ same last h)
  where
    same : (o : Option (Bor ℕ)) → MatchOption o (IsTrue told) (λ x. told ≡ is_feed x.now) → closed (option_copied o) ≡ told
    same None h = sym h
    same (Some x) h = sym h
