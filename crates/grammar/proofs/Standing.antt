-- What holds wherever a file stands: at its beginning, and behind each formed record that may come.
use Rattle.std.proofs.Common.{◌≡◌, ℕ, suc, ◌<◌, ◌≤◌, Bool, true, false, List, [], nat_abs, ap, subst, arith}
use Rattle.std.specs.List.{AllByRecursion}
use Rattle.std.proofs.lemmas.Bool.{false≢true}
use Rattle.grammar.specs.declared.expect.Expect.{Expect}
use Rattle.grammar.specs.declared.expect.Expect.TheVariants as E
use Rattle.grammar.specs.Fields.{detail, next, link, is_debit, amount, type, old_amount, another}
use Rattle.grammar.specs.Leaves.{Leaf, Formed, old_balance, movement, free_communication}
use Rattle.grammar.specs.Lawful.{largest_sum}
use Rattle.grammar.specs.Order.{behind, behind_closing, behind_trailer}
use Rattle.grammar.specs.Places.{Numbers, Sums, levels_behind, behind_main, behind_detail, behind_information, behind_communication, opened, counted_one, booked, beginning}
use Rattle.grammar.specs.Rules.{detail_type}
use Rattle.grammar.proofs.Fits.{MainFits, DetailFits, Room}
use Rattle.grammar.proofs.Moves.{Moves, a_first_header, a_header, an_old_balance, a_first_main, a_main, a_detail, a_second, a_lone_counterparty, a_counterparty, an_information, an_information_second, an_information_third, a_lone_new_balance, a_new_balance, a_first_communication, a_communication, a_lone_trailer, a_trailer}
use Rattle.grammar.proofs.Making.{PlainBytes}
use Rattle.grammar.proofs.Bounds.{sum_within, level_small, movement_numbers, movement_reference, information_numbers, free_communication_numbers, old_balance_account, old_balance_amount}
use Rattle.grammar.proofs.Lowest.{IsLevel, levels_kept}
use Rattle.grammar.proofs.Balancing.{Balance, balance_opened, balance_booked}

-- behind a movement
pub record NumbersHold (n : Numbers) : Type 0 where
  pub sequence : n.sequence < 10000
  pub detail : n.detail < 10000
  pub reference : PlainBytes 21 n.reference
  pub typed : n.type ≤ 3
  pub levelled : AllByRecursion IsLevel n.levels
  -- a main movement of type 0 opens no level
  pub single : n.type ≡ 0 → n.levels ≡ []

-- behind an old balance
pub record SumsHold (s : Sums) : Type 0 where
  pub account : PlainBytes 37 s.account
  pub balance : Balance s.balance s.credits s.debits
  pub debits : s.debits ≤ largest_sum
  pub credits : s.credits ≤ largest_sum

-- behind a movement, both hold
pub record BothHold (n : Numbers) (s : Sums) : Type 0 where
  pub numbers : NumbersHold n
  pub sums : SumsHold s

-- behind a free communication
pub record CommunicationHolds (n : Numbers) (s : Sums) : Type 0 where
  pub sequence : n.sequence < 10000
  pub detail : n.detail < 10000
  pub sums : SumsHold s

abbrev pub Standing : Expect → Numbers → Sums → Type 0
Standing E.Start n s = Unit {0}
Standing E.Header n s = Unit {0}
Standing E.OldBalance n s = Unit {0}
Standing E.Opened n s = SumsHold s
Standing E.Second n s = BothHold n s
Standing E.Counterparty n s = BothHold n s
Standing E.Information n s = BothHold n s
Standing E.InformationSecond n s = BothHold n s
Standing E.InformationThird n s = BothHold n s
Standing E.Further n s = BothHold n s
Standing E.FirstCommunication n s = SumsHold s
Standing E.Communication n s = CommunicationHolds n s
Standing E.Trailer n s = SumsHold s
Standing E.End n s = Unit {0}

-- SUMS

pub sums_opened : (b : List ℕ) → Formed (old_balance b) → SumsHold (opened b)
sums_opened b f =
    record {
      account = old_balance_account b f;
      balance = balance_opened (old_amount b) (sum_within (nat_abs (old_amount b)) (old_balance_amount b f));
      debits = omega arith;
      credits = omega arith;
    }

module _ (s : Sums) (h : SumsHold s) where
  pub sums_counted : SumsHold (counted_one s)
  sums_counted = record { account = h.account; balance = h.balance; debits = h.debits; credits = h.credits }

  pub sums_booked : (b : List ℕ) → Room s b → SumsHold (booked s b)
  sums_booked b room =
      record { account = h.account; balance = balance_booked (is_debit b) (amount b) s.balance s.credits s.debits h.balance; debits = room.0; credits = room.1 }

-- NUMBERS

pub numbers_main : (n : Numbers) (b : List ℕ) → MainFits n b → Formed (movement b) → NumbersHold (behind_main b)
numbers_main n b f formed =
    record {
      sequence = (movement_numbers b formed).sequence;
      detail = (movement_numbers b formed).detail;
      reference = movement_reference b formed;
      typed = f.typed;
      levelled = levels_kept [] _ (level_small b) tt;
      single = λ z. ap (levels_behind []) (f.levelled z);
    }

-- no detail comes under a main movement of type 0
untyped : (seven : Bool) (t m : ℕ) → detail_type m seven t ≡ true → m ≡ 0 → ⊥
untyped seven t m h z = false≢true (subst (λ x. detail_type x seven t ≡ true) z h)

module _ (n : Numbers) (h : NumbersHold n) (b : List ℕ) where
  pub numbers_detail : DetailFits n b → Formed (movement b) → NumbersHold (behind_detail n b)
  numbers_detail f formed =
      record {
        sequence = h.sequence;
        detail = (movement_numbers b formed).detail;
        reference = movement_reference b formed;
        typed = h.typed;
        levelled = levels_kept n.levels _ (level_small b) h.levelled;
        single = λ z. absurd (untyped n.seven (type b) n.type f.typed z);
      }

  pub numbers_information : detail b < 10000 → NumbersHold (behind_information n b)
  numbers_information below = record { sequence = h.sequence; detail = below; reference = h.reference; typed = h.typed; levelled = h.levelled; single = h.single }

-- MOVES

behind_standing : (n : Numbers) (s : Sums) (x y : Bool) (continued : Expect) → Standing continued n s → BothHold n s → Standing (behind x y continued) n s
behind_standing n s x true continued c h = h
behind_standing n s true false continued c h = c
behind_standing n s false false continued c h = h

closing_standing : (n : Numbers) (s : Sums) (x : Bool) (communication : Expect) → Standing communication n s → SumsHold s → Standing (behind_closing x communication) n s
closing_standing n s true _ c h = c
closing_standing n s false _ c h = h

trailer_standing : (n : Numbers) (s : Sums) (x : Bool) → Standing (behind_trailer x) n s
trailer_standing n s true = tt
trailer_standing n s false = tt

module _ (n : Numbers) (s : Sums) (b : List ℕ) where
  main_standing : MainFits n b → Room s b → Formed (movement b) → SumsHold s → Standing (behind (next b) (link b) E.Second) (behind_main b) (booked s b)
  main_standing f room formed h =
      let both : BothHold (behind_main b) (booked s b) = record { numbers = numbers_main n b f formed; sums = sums_booked s h b room } in
      behind_standing (behind_main b) (booked s b) (next b) (link b) E.Second both both

  detail_standing : DetailFits n b → Formed (movement b) → BothHold n s → Standing (behind (next b) (link b) E.Second) (behind_detail n b) (counted_one s)
  detail_standing f formed h =
      let both : BothHold (behind_detail n b) (counted_one s) = record { numbers = numbers_detail n h.numbers b f formed; sums = sums_counted s h.sums } in
      behind_standing (behind_detail n b) (counted_one s) (next b) (link b) E.Second both both

  information_standing : detail b < 10000 → BothHold n s → Standing (behind (next b) (link b) E.InformationSecond) (behind_information n b) (counted_one s)
  information_standing below h =
      let both : BothHold (behind_information n b) (counted_one s) = record { numbers = numbers_information n h.numbers b below; sums = sums_counted s h.sums } in
      behind_standing (behind_information n b) (counted_one s) (next b) (link b) E.InformationSecond both both

  repeat_standing : (continued : Expect) → (BothHold n (counted_one s) → Standing continued n (counted_one s)) → BothHold n s → Standing (behind (next b) (link b) continued) n (counted_one s)
  repeat_standing continued same h =
      let both : BothHold n (counted_one s) = record { numbers = h.numbers; sums = sums_counted s h.sums } in
      behind_standing n (counted_one s) (next b) (link b) continued (same both) both

  new_balance_standing : SumsHold s → Standing (behind_closing (link b) E.FirstCommunication) n (counted_one s)
  new_balance_standing h = closing_standing n (counted_one s) (link b) E.FirstCommunication (sums_counted s h) (sums_counted s h)

  communication_standing : Formed (free_communication b) → SumsHold s → Standing (behind_closing (link b) E.Communication) (behind_communication n b) s
  communication_standing formed h =
      let below = free_communication_numbers b formed in
      closing_standing (behind_communication n b) s (link b) E.Communication (record { sequence = below.sequence; detail = below.detail; sums = h }) h

pub standing_start : Standing beginning.expect beginning.numbers beginning.sums
standing_start = tt

pub standing_move : {e f : Expect} {n m : Numbers} {s t : Sums} {r : Leaf} → Moves e n s r f m t → Formed r → Standing e n s → Standing f m t
standing_move a_first_header formed h = tt
standing_move a_header formed h = tt
standing_move (an_old_balance {b = b}) formed h = sums_opened b formed
standing_move (a_first_main {n} {s} {b} f room a) formed h = main_standing n s b f room formed h
standing_move (a_main {n} {s} {b} f room a) formed h = main_standing n s b f room formed h.sums
standing_move (a_detail {n} {s} {b} f a) formed h = detail_standing n s b f formed h
standing_move (a_second {n} {s} {b} f a) formed h = repeat_standing n s b E.Counterparty (λ x. x) h
standing_move (a_lone_counterparty {n} {s} {b} f a) formed h = repeat_standing n s b E.Counterparty (λ x. x) h
standing_move (a_counterparty {n} {s} {b} f a) formed h = repeat_standing n s b E.Counterparty (λ x. x) h
standing_move (an_information {n} {s} {b} f a) formed h = information_standing n s b (information_numbers b formed).detail h
standing_move (an_information_second {n} {s} {b} f a) formed h = repeat_standing n s b E.InformationThird (λ x. x) h
standing_move (an_information_third {n} {s} {b} f a) formed h = repeat_standing n s b E.InformationThird (λ x. x) h
standing_move (a_lone_new_balance {n} {s} {b} f l) formed h = new_balance_standing n s b h
standing_move (a_new_balance {n} {s} {b} f) formed h = new_balance_standing n s b h.sums
standing_move (a_first_communication {n} {s} {b} f) formed h = communication_standing n s b formed h
standing_move (a_communication {n} {s} {b} f) formed h = communication_standing n s b formed h.sums
standing_move (a_lone_trailer {n} {s} {b} f) formed h = trailer_standing n s (another b)
standing_move (a_trailer {n} {s} {b} f) formed h = trailer_standing n s (another b)

-- a move counts at most one record more
pub count_move : {e f : Expect} {n m : Numbers} {s t : Sums} {r : Leaf} (k : ℕ) → Moves e n s r f m t → s.count ≤ suc k → t.count ≤ suc (suc k)
count_move k a_first_header h = omega arith
count_move k a_header h = omega arith
count_move k an_old_balance h = omega arith
count_move k (a_first_main f room a) h = omega arith
count_move k (a_main f room a) h = omega arith
count_move k (a_detail f a) h = omega arith
count_move k (a_second f a) h = omega arith
count_move k (a_lone_counterparty f a) h = omega arith
count_move k (a_counterparty f a) h = omega arith
count_move k (an_information f a) h = omega arith
count_move k (an_information_second f a) h = omega arith
count_move k (an_information_third f a) h = omega arith
count_move k (a_lone_new_balance f l) h = omega arith
count_move k (a_new_balance f) h = omega arith
count_move k (a_first_communication f) h = omega arith
count_move k (a_communication f) h = omega arith
count_move k (a_lone_trailer f) h = omega arith
count_move k (a_trailer f) h = omega arith
