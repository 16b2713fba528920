-- The order of days: by dates, and days of one date are the same bytes.
use Rattle.std.proofs.Common.{◌≡◌, ℕ, ◌-◌, true, false, ◌&&◌, eqb, List, ◌++◌, length, drop, sym, ap, ◌∙◌, arith}
use Rattle.std.proofs.lemmas.Bool.{and_parts, eqb-true}
use Rattle.std.proofs.lemmas.Bool.Decides.{nat_tests}
use Rattle.std.proofs.lemmas.List.{take-append-drop, take_all, drop-drop, length-take, length-drop}
use Rattle.recordbytes.specs.Classes.{is_digit}
use Rattle.recordbytes.specs.Numbers.{value, digits}
use Rattle.recordbytes.specs.Spans.{span}
use Rattle.recordbytes.specs.Walks.{all}
use Rattle.recordbytes.proofs.Each.{every_take, every_drop}
use Rattle.recordbytes.proofs.Writing.{digits_write_numbers}
use Rattle.values.specs.declared.calendar.Date.{Date}
use Rattle.values.specs.Days.{date_of, is_date, is_day, is_before, DaysAreOrdered}

before_itself : (d : Date) → is_before d d ≡ false
before_itself d = grind (arith, nat_tests)

before_onward : (d e f : Date) → is_before d e ≡ true → is_before e f ≡ true → is_before d f ≡ true
before_onward d e f p q = grind (arith, nat_tests)

same_date : (d e : Date) → is_before d e ≡ false → is_before e d ≡ false → (d.year ≡ e.year) × (d.month ≡ e.month) × (d.day ≡ e.day)
same_date d e p q = (grind (arith, nat_tests), grind (arith, nat_tests), grind (arith, nat_tests))

-- six bytes are three parts of two
three_parts : (bytes : List ℕ) → length bytes ≡ 6 → bytes ≡ span bytes 1 2 ++ (span bytes 3 4 ++ span bytes 5 6)
three_parts bytes six =
    let last : drop 2 (drop 2 bytes) ≡ span bytes 5 6 = drop-drop 2 2 bytes ∙ sym (take_all 2 (drop 4 bytes) (omega (arith, length-drop 4 bytes))) in
    let rest : drop 2 bytes ≡ span bytes 3 4 ++ span bytes 5 6 = sym (take-append-drop 2 (drop 2 bytes)) ∙ ap (λ ys. span bytes 3 4 ++ ys) last in
    sym (take-append-drop 2 bytes) ∙ ap (λ ys. span bytes 1 2 ++ ys) rest

-- of digits of one length, parts that write one number are the same bytes
module _ (a b : List ℕ) (wide : length a ≡ length b) (all_a : all is_digit a ≡ true) (all_b : all is_digit b ≡ true) where
  same_part : (first last : ℕ) → value (span a first last) ≡ value (span b first last) → span a first last ≡ span b first last
  same_part first last e =
      let k = last - (first - 1) in
      let m = first - 1 in
      let l : length (span a first last) ≡ length (span b first last) = omega (arith, length-take k (drop m a), length-take k (drop m b), length-drop m a, length-drop m b) in
      let written : (bytes : List ℕ) → all is_digit bytes ≡ true → digits (length (span bytes first last)) (value (span bytes first last)) ≡ span bytes first last =
      λ bytes t. digits_write_numbers.written_back (span bytes first last) (every_take is_digit k (drop m bytes) (every_drop is_digit m bytes t)) in
      sym (written a all_a) ∙ (ap (λ n. digits n (value (span a first last))) l ∙ (ap (digits (length (span b first last))) e ∙ written b all_b))

-- a day is six digits
day_digits : (bytes : List ℕ) → is_day bytes ≡ true → (length bytes ≡ 6) × (all is_digit bytes ≡ true)
day_digits bytes t =
    let h = and_parts (eqb (length bytes) 6) (all is_digit bytes) (and_parts (eqb (length bytes) 6 && all is_digit bytes) (is_date (date_of bytes)) t).0 in
    (eqb-true (length bytes) 6 h.0, h.1)

same_day : (a b : List ℕ) → is_day a ≡ true → is_day b ≡ true → is_before (date_of a) (date_of b) ≡ false → is_before (date_of b) (date_of a) ≡ false → a ≡ b
same_day a b s t p q =
    let da = day_digits a s in
    let db = day_digits b t in
    let e = same_date (date_of a) (date_of b) p q in
    let same : (first last : ℕ) → value (span a first last) ≡ value (span b first last) → span a first last ≡ span b first last = same_part a b (da.0 ∙ sym db.0) da.1 db.1 in
    three_parts a da.0
    ∙ (rw (same 1 2 e.2, same 3 4 e.1, same 5 6 (omega (arith, e.0))) (sym (three_parts b db.0)))

pub days_are_ordered : DaysAreOrdered
days_are_ordered = record { never_before_itself = before_itself; passed_on = before_onward; same_where_neither = same_day }
