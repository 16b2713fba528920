-- What a formed record says is within the widths of its fields.
use Rattle.std.proofs.Common.{◌≡◌, ℕ, ◌-◌, ◌^◌, ◌<◌, ◌≤◌, true, leb, List, length, drop, nat_abs, refl, arith, lit<}
use Rattle.std.proofs.lemmas.List.{length-take, length-drop}
use Rattle.std.proofs.lemmas.Bool.{and_parts, leb-true, ltb-true, cond_both}
use Rattle.recordbytes.specs.Classes.{is_digit}
use Rattle.recordbytes.specs.Numbers.{value}
use Rattle.recordbytes.specs.Spans.{span}
use Rattle.recordbytes.specs.Walks.{all}
use Rattle.recordbytes.proofs.Numbering.{ten_upto}
use Rattle.recordbytes.proofs.Writing.{digits_write_numbers}
use Rattle.values.proofs.Amounts.{read_is_amount}
use Rattle.layout.specs.declared.kind.Kind.TheVariants.{OldBalance, Movement, MovementSecond, Counterparty, Information, InformationSecond, InformationThird, FreeCommunication, Trailer}
use Rattle.rendering.proofs.Forming.{formed}
use Rattle.grammar.specs.Fields.{byte_at, digit_of, sequence, detail, reference, amount, type, level, old_account, old_amount, count, debit_sum, credit_sum}
use Rattle.grammar.specs.Lawful.{largest_sum}
use Rattle.grammar.specs.Leaves.{Formed, old_balance, movement, movement_second, counterparty, information, information_second, information_third, free_communication, trailer}
use Rattle.grammar.proofs.Making.{PlainBytes, no_field}

-- ANY FIELD

pub number_below : (b : List ℕ) (first last : ℕ) → all is_digit (span b first last) ≡ true → value (span b first last) < 10 ^ (last - (first - 1))
number_below b first last t =
    let narrow : length (span b first last) ≤ last - (first - 1) = omega (arith, length-take (last - (first - 1)) (drop (first - 1) b)) in
    omega (arith, digits_write_numbers.below (span b first last) t, ten_upto (length (span b first last)) (last - (first - 1)) narrow)

wide_span : (b : List ℕ) (first last : ℕ) → length b ≡ 128 → last ≤ 128 → length (span b first last) ≡ last - (first - 1)
wide_span b first last whole inside = omega (arith, length-take (last - (first - 1)) (drop (first - 1) b), length-drop (first - 1) b)

pub digit_small : (byte : ℕ) → digit_of byte ≤ 9
digit_small byte =
    cond_both (is_digit byte) (byte - 48) 0 (λ n. n ≤ 9)
    (λ t. omega (arith, leb-true byte 57 (and_parts (leb 48 byte) (leb byte 57) t).1))
    (λ t. omega arith)

pub sum_within : (n : ℕ) → n < 10 ^ 15 → n ≤ largest_sum
sum_within n below = omega arith

-- SEQUENCE AND DETAIL NUMBER

pub record NumbersBelow (b : List ℕ) : Type 0 where
  pub sequence : sequence b < 10000
  pub detail : detail b < 10000

numbers_below : (b : List ℕ) → all is_digit (span b 3 6) ≡ true → all is_digit (span b 7 10) ≡ true → NumbersBelow b
numbers_below b s d = record { sequence = number_below b 3 6 s; detail = number_below b 7 10 d }

module _ (b : List ℕ) where
  pub movement_numbers : Formed (movement b) → NumbersBelow b
  movement_numbers c = numbers_below b (formed Movement b no_field 1 (lit< tt) c) (formed Movement b no_field 2 (lit< tt) c)

  pub movement_second_numbers : Formed (movement_second b) → NumbersBelow b
  movement_second_numbers c = numbers_below b (formed MovementSecond b no_field 1 (lit< tt) c) (formed MovementSecond b no_field 2 (lit< tt) c)

  pub counterparty_numbers : Formed (counterparty b) → NumbersBelow b
  counterparty_numbers c = numbers_below b (formed Counterparty b no_field 1 (lit< tt) c) (formed Counterparty b no_field 2 (lit< tt) c)

  pub information_numbers : Formed (information b) → NumbersBelow b
  information_numbers c = numbers_below b (formed Information b no_field 1 (lit< tt) c) (formed Information b no_field 2 (lit< tt) c)

  pub information_second_numbers : Formed (information_second b) → NumbersBelow b
  information_second_numbers c = numbers_below b (formed InformationSecond b no_field 1 (lit< tt) c) (formed InformationSecond b no_field 2 (lit< tt) c)

  pub information_third_numbers : Formed (information_third b) → NumbersBelow b
  information_third_numbers c = numbers_below b (formed InformationThird b no_field 1 (lit< tt) c) (formed InformationThird b no_field 2 (lit< tt) c)

  pub free_communication_numbers : Formed (free_communication b) → NumbersBelow b
  free_communication_numbers c = numbers_below b (formed FreeCommunication b no_field 2 (lit< tt) c) (formed FreeCommunication b no_field 3 (lit< tt) c)

  -- A MOVEMENT

  pub type_small : type b ≤ 9
  type_small = digit_small (byte_at b 54)

  pub level_small : level b ≤ 9
  level_small = digit_small (byte_at b 125)

  pub movement_amount : Formed (movement b) → amount b < 10 ^ 15
  movement_amount c = number_below b 33 47 (formed Movement b no_field 5 (lit< tt) c)

  pub movement_reference : Formed (movement b) → PlainBytes 21 (reference b)
  movement_reference c = record { wide = wide_span b 11 31 c.0 (omega arith); plain = formed Movement b no_field 3 (lit< tt) c }

  -- AN OLD BALANCE

  pub old_balance_account : Formed (old_balance b) → PlainBytes 37 (old_account b)
  old_balance_account c = record { wide = wide_span b 6 42 c.0 (omega arith); plain = formed OldBalance b no_field 3 (lit< tt) c }

  pub old_balance_amount : Formed (old_balance b) → nat_abs (old_amount b) < 10 ^ 15
  old_balance_amount c =
      ltb-true (nat_abs (old_amount b)) (10 ^ 15)
      (read_is_amount (old_amount b) (byte_at b 43) (span b 44 58) refl (wide_span b 44 58 c.0 (omega arith)) (formed OldBalance b no_field 5 (lit< tt) c))

  -- A TRAILER

  pub record TrailerBelow : Type 0 where
    pub count : count b < 10 ^ 6
    pub debit_sum : debit_sum b < 10 ^ 15
    pub credit_sum : credit_sum b < 10 ^ 15

  pub trailer_numbers : Formed (trailer b) → TrailerBelow
  trailer_numbers c =
      record {
        count = number_below b 17 22 (formed Trailer b no_field 2 (lit< tt) c);
        debit_sum = number_below b 23 37 (formed Trailer b no_field 3 (lit< tt) c);
        credit_sum = number_below b 38 52 (formed Trailer b no_field 4 (lit< tt) c);
      }
