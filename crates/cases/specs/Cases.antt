-- What the check answers at each limit.
--   numbers     a sequence number and a detail number, four digits each
--   money       a sign, 0 credit or 1 debit, and fifteen digits of thousandths
--   announced   next code, a space, link code
--   case        a name, a file as its slots, and the four numbers of the answer
--   passed      0, statements, movements, 0
--   refused     number, record, position and cause of the fault
use Rattle.std.specs.Prelude.{◌≡◌, ℕ, ◌+◌, ◌-◌, true, false, List, [], ◌∷◌, ◌++◌, map, length, take, drop, replicate, pos, negsuc, Ok, Err, codes, Result, slice_set}
use Prim.Native.String.{String}
use Rattle.values.specs.Days.{is_day}
use Rattle.values.specs.Money.{signed, debit}
use Rattle.source.specs.Slots.{Slot, whole, damaged, judge}
use Rattle.source.specs.Packing.{packed}
use Rattle.source.specs.Lining.{lined}
use Rattle.grammar.specs.declared.faults.FileFault.{FileFault}
use Rattle.grammar.specs.declared.faults.Counts.{Counts}
use Rattle.grammar.specs.Faults.{fault_number, fault_record, fault_position, fault_cause}
use Rattle.grammar.specs.Steps.{checked}

-- RECORDS

abbrev spaces : ℕ → List ℕ
spaces n = replicate n 32

abbrev header : List ℕ
header = codes "0000001032400005" ++ spaces 55 ++ codes "00000000000 00000" ++ spaces 39 ++ codes "2"

abbrev old_balance : String → List ℕ
old_balance money = codes "10000" ++ spaces 37 ++ codes money ++ codes "010324" ++ spaces 61 ++ codes "000"

-- 2.1 with its numbers, its money, its type, its level and its codes
abbrev movement : String → String → String → String → String → List ℕ
movement numbers money type level announced =
    codes "21" ++ codes numbers ++ spaces 21 ++ codes money ++ codes "000000" ++ codes type ++ codes "00000000" ++ spaces 53 ++ codes "010324000" ++ codes level ++ codes announced

-- 2.2, 2.3, 3.2 or 3.3
abbrev continuation : String → String → String → List ℕ
continuation article numbers announced = codes article ++ codes numbers ++ spaces 115 ++ codes announced

abbrev information : String → String → List ℕ
information numbers announced = codes "31" ++ codes numbers ++ spaces 21 ++ codes "000000000" ++ spaces 85 ++ codes announced

abbrev new_balance : String → String → List ℕ
new_balance money link = codes "8000" ++ spaces 37 ++ codes money ++ codes "010324" ++ spaces 64 ++ codes link

abbrev communication : String → String → List ℕ
communication numbers link = codes "4 " ++ codes numbers ++ spaces 117 ++ codes link

-- 9 with its count, its debit and credit sums, and whether another statement follows: 1 or 2
abbrev trailer : String → String → String → String → List ℕ
trailer count debits credits another =
    codes "9" ++ spaces 15 ++ codes count ++ codes debits ++ codes credits ++ spaces 75 ++ codes another

-- the record with this text from a position on
abbrev put : ℕ → String → List ℕ → List ℕ
put position text bytes = take (position - 1) bytes ++ codes text ++ drop (position - 1 + length (codes text)) bytes

-- the record with this byte at a position
abbrev with_byte : ℕ → ℕ → List ℕ → List ℕ
with_byte position byte bytes = slice_set bytes (position - 1) byte

-- FILES

-- a slot for each record; one that had not 128 bytes would be damaged
abbrev file : List (List ℕ) → List Slot
file records = map judge records

-- an old debit of 1,000.000, and the same as the new balance
abbrev old_debit : List ℕ
old_debit = old_balance "1000000001000000"

abbrev same_debit : String → List ℕ
same_debit link = new_balance "1000000001000000" link

-- a movement of nothing; one of type 0 with codes
abbrev empty : String → String → String → List ℕ
empty numbers type level = movement numbers "0000000000000000" type level "0 0"

abbrev announcing : String → String → List ℕ
announcing numbers announced = movement numbers "0000000000000000" "0" "0" announced

-- a trailer of sums of nothing
abbrev unmoved : String → String → List ℕ
unmoved count another = trailer count "000000000000000" "000000000000000" another

-- header and old debit, with records behind
abbrev opened : List (List ℕ) → List Slot
opened records = file (header ∷ old_debit ∷ records)

-- new balance and trailer behind movements of nothing
abbrev closed : String → List (List ℕ)
closed count = same_debit "0" ∷ unmoved count "2" ∷ []

-- ANSWERS

-- number, record, position and cause of a fault; of a file that passes, 0, statements, movements and 0
abbrev pub told_numbers : Result Counts FileFault → List ℕ
told_numbers (Ok counts) = 0 ∷ counts.statements ∷ counts.movements ∷ 0 ∷ []
told_numbers (Err fault) = fault_number fault ∷ fault_record fault ∷ fault_position fault ∷ fault_cause fault ∷ []

abbrev passed : ℕ → ℕ → List ℕ
passed statements movements = 0 ∷ statements ∷ movements ∷ 0 ∷ []

abbrev refused : ℕ → ℕ → ℕ → ℕ → List ℕ
refused number slot position cause = number ∷ slot ∷ position ∷ cause ∷ []

pub record Case : Type 0 where
  pub name : String
  pub file : List Slot
  pub answer : List ℕ

abbrev case : String → List Slot → List ℕ → Case
case name file answer = record { name = name; file = file; answer = answer }

-- THE CASES

-- what a file holds in place of records, behind the last of them, and how many
abbrev pub slots : List Case
slots =
    case "no bytes" [] (refused 7 1 0 0)
    ∷ case "127 packed bytes" (packed (take 127 header)) (refused 1 1 0 1)
    ∷ case "129 packed bytes" (packed (header ++ codes "1")) (refused 1 2 0 1)
    ∷ case "a line of 127 bytes" (lined (take 127 header)) (refused 1 1 0 1)
    ∷ case "a line of 129 bytes" (lined (header ++ codes " ")) (refused 1 1 0 2)
    ∷ case "lines that end with return and feed, with feed, with nothing" (lined (header ++ (13 ∷ 10 ∷ old_debit) ++ (10 ∷ unmoved "000001" "2"))) (passed 1 0)
    ∷ case "the same packed" (packed (header ++ old_debit ++ unmoved "000001" "2")) (passed 1 0)
    ∷ case "a damaged slot" (damaged (record { cause = 1 }) ∷ []) (refused 1 1 0 1)
    ∷ case "a damaged slot behind the last trailer" (opened (unmoved "000001" "2" ∷ []) ++ (damaged (record { cause = 1 }) ∷ [])) (refused 1 4 0 1)
    ∷ case "a forbidden byte behind the last trailer" (opened (unmoved "000001" "2" ∷ with_byte 10 7 header ∷ [])) (refused 2 4 10 0)
    ∷ case "a record behind the last trailer" (opened (unmoved "000001" "2" ∷ header ∷ [])) (refused 3 4 1 0)
    ∷ case "100,000 slots" (replicate 100000 (whole header)) (refused 3 2 1 0)
    ∷ case "100,001 slots" (replicate 100001 (whole header)) (refused 8 0 0 0)
    ∷ []

-- statements without movement
abbrev pub statements : List Case
statements =
    case "header, old balance, trailer" (opened (unmoved "000001" "2" ∷ [])) (passed 1 0)
    ∷ case "the end behind the old balance" (opened []) (refused 7 3 0 0)
    ∷ case "the end behind a trailer with another to follow" (opened (unmoved "000001" "1" ∷ [])) (refused 7 4 0 0)
    ∷ case "a trailer with another to follow, and another" (opened (unmoved "000001" "1" ∷ header ∷ old_debit ∷ unmoved "000001" "2" ∷ [])) (passed 2 0)
    ∷ case "an old balance behind a trailer with another to follow" (opened (unmoved "000001" "1" ∷ old_debit ∷ [])) (refused 3 4 1 0)
    ∷ case "new balance right behind the old one, link 0" (opened (same_debit "0" ∷ [])) (refused 5 3 128 0)
    ∷ case "new balance right behind the old one, link 1" (opened (same_debit "1" ∷ communication "00010000" "0" ∷ unmoved "000002" "2" ∷ [])) (passed 1 0)
    ∷ case "an old balance first" (file (old_debit ∷ [])) (refused 3 1 1 0)
    ∷ case "two headers" (file (header ∷ header ∷ [])) (refused 3 2 1 0)
    ∷ case "two old balances" (opened (old_debit ∷ [])) (refused 3 3 1 0)
    ∷ case "a movement behind the header" (file (header ∷ empty "00010000" "0" "0" ∷ [])) (refused 3 2 1 0)
    ∷ []

-- bytes, kinds and fields of a record by itself, and which of two faults comes first
abbrev pub forms : List Case
forms =
    case "byte 31 in a text" (opened (with_byte 63 31 (empty "00010000" "0" "0") ∷ [])) (refused 2 3 63 0)
    ∷ case "byte 127 in a text" (opened (with_byte 63 127 (empty "00010000" "0" "0") ∷ [])) (refused 2 3 63 0)
    ∷ case "byte 255 in a text" (opened (with_byte 63 255 (empty "00010000" "0" "0") ∷ closed "000003")) (passed 1 1)
    ∷ case "a forbidden byte in the last position" (opened (with_byte 128 7 (empty "00010000" "0" "0") ∷ [])) (refused 2 3 128 0)
    ∷ case "article code 4" (opened (put 2 "4" (empty "00010000" "0" "0") ∷ [])) (refused 3 3 1 0)
    ∷ case "identification 5" (opened (put 1 "5" (empty "00010000" "0" "0") ∷ [])) (refused 3 3 1 0)
    ∷ case "another fixed text in the header" (file (put 16 "6" header ∷ [])) (refused 4 1 15 0)
    ∷ case "another version in the header" (file (put 128 "1" header ∷ [])) (refused 4 1 128 0)
    ∷ case "an old balance with structure 7" (file (header ∷ put 2 "7" old_debit ∷ [])) (refused 4 2 2 0)
    ∷ case "29 February 2024" (opened (put 116 "290224" (empty "00010000" "0" "0") ∷ closed "000003")) (passed 1 1)
    ∷ case "29 February 2023" (opened (put 116 "290223" (empty "00010000" "0" "0") ∷ [])) (refused 4 3 116 0)
    ∷ case "an entry day of zeros" (opened (put 116 "000000" (empty "00010000" "0" "0") ∷ [])) (refused 4 3 116 0)
    ∷ case "a 2.3 with next 1" (opened (announcing "00010000" "1 0" ∷ continuation "23" "00010000" "1 0" ∷ [])) (refused 4 4 126 0)
    ∷ case "a sequence number that is none" (opened (put 3 "A" (empty "00010000" "0" "0") ∷ [])) (refused 4 3 3 0)
    ∷ case "a wrong sequence number left of a misformed amount" (opened (put 47 "A" (empty "00020000" "0" "0") ∷ [])) (refused 5 3 3 0)
    ∷ case "a misformed amount left of a wrong type" (opened (put 47 "A" (empty "00010000" "7" "0") ∷ [])) (refused 4 3 33 0)
    ∷ []

-- sequence and detail numbers, and references
abbrev pub numbers : List Case
numbers =
    case "a first movement 0000" (opened (empty "00000000" "0" "0" ∷ [])) (refused 5 3 3 0)
    ∷ case "a first movement 0002" (opened (empty "00020000" "0" "0" ∷ [])) (refused 5 3 3 0)
    ∷ case "a first movement with detail 0001" (opened (empty "00010001" "0" "0" ∷ [])) (refused 5 3 7 0)
    ∷ case "a second movement 0003" (opened (empty "00010000" "0" "0" ∷ empty "00030000" "0" "0" ∷ [])) (refused 5 4 3 0)
    ∷ case "a first movement 0001 in each of two statements" (opened (empty "00010000" "0" "0" ∷ same_debit "0" ∷ unmoved "000003" "1" ∷ header ∷ old_debit ∷ empty "00010000" "0" "0" ∷ closed "000003")) (passed 2 2)
    ∷ case "a detail under type 0" (opened (empty "00010000" "0" "0" ∷ empty "00010001" "5" "0" ∷ [])) (refused 5 4 3 0)
    ∷ case "a detail 0002 behind 0000" (opened (empty "00010000" "1" "0" ∷ empty "00010002" "5" "0" ∷ [])) (refused 5 4 7 0)
    ∷ case "a 2.1 with 2.2, 2.3, 3.1, 3.2, 3.3 and another 3.1" (opened (announcing "00010000" "1 0" ∷ continuation "22" "00010000" "1 0" ∷ continuation "23" "00010000" "0 1" ∷ information "00010001" "1 0" ∷ continuation "32" "00010001" "1 0" ∷ continuation "33" "00010001" "0 1" ∷ information "00010002" "0 0" ∷ closed "000009")) (passed 1 1)
    ∷ case "a 2.3 right behind its 2.1" (opened (announcing "00010000" "1 0" ∷ continuation "23" "00010000" "0 0" ∷ closed "000004")) (passed 1 1)
    ∷ case "a 2.2 with another sequence number" (opened (announcing "00010000" "1 0" ∷ continuation "22" "00020000" "0 0" ∷ [])) (refused 5 4 3 0)
    ∷ case "a 2.2 with another detail number" (opened (announcing "00010000" "1 0" ∷ continuation "22" "00010001" "0 0" ∷ [])) (refused 5 4 7 0)
    ∷ case "a 2.3 with another sequence number" (opened (announcing "00010000" "1 0" ∷ continuation "23" "00020000" "0 0" ∷ [])) (refused 5 4 3 0)
    ∷ case "a 2.3 with another detail number" (opened (announcing "00010000" "1 0" ∷ continuation "23" "00010001" "0 0" ∷ [])) (refused 5 4 7 0)
    ∷ case "a 3.1 with another sequence number" (opened (announcing "00010000" "0 1" ∷ information "00020001" "0 0" ∷ [])) (refused 5 4 3 0)
    ∷ case "a 3.1 with the detail number of its movement" (opened (announcing "00010000" "0 1" ∷ information "00010000" "0 0" ∷ [])) (refused 5 4 7 0)
    ∷ case "a 3.1 with another reference" (opened (announcing "00010000" "0 1" ∷ put 31 "X" (information "00010001" "0 0") ∷ [])) (refused 5 4 11 0)
    ∷ case "a 3.2 with another sequence number" (opened (announcing "00010000" "0 1" ∷ information "00010001" "1 0" ∷ continuation "32" "00020001" "0 0" ∷ [])) (refused 5 5 3 0)
    ∷ case "a 3.2 with another detail number" (opened (announcing "00010000" "0 1" ∷ information "00010001" "1 0" ∷ continuation "32" "00010002" "0 0" ∷ [])) (refused 5 5 7 0)
    ∷ case "a first record 4 with number 0002" (opened (same_debit "1" ∷ communication "00020000" "0" ∷ [])) (refused 5 4 3 0)
    ∷ case "a first record 4 with detail 0001" (opened (same_debit "1" ∷ communication "00010001" "0" ∷ [])) (refused 5 4 7 0)
    ∷ case "records 4 with the next detail and with the next number" (opened (same_debit "1" ∷ communication "00010000" "1" ∷ communication "00010001" "1" ∷ communication "00020000" "0" ∷ unmoved "000002" "2" ∷ [])) (passed 1 0)
    ∷ case "a record 4 two numbers on" (opened (same_debit "1" ∷ communication "00010000" "1" ∷ communication "00030000" "0" ∷ [])) (refused 5 5 3 0)
    ∷ case "a record 4 with the next number and a detail" (opened (same_debit "1" ∷ communication "00010000" "1" ∷ communication "00020001" "0" ∷ [])) (refused 5 5 7 0)
    ∷ []

-- types of main movements and of details
abbrev pub types : List Case
types =
    case "a main movement of type 3 with a detail of type 8" (opened (empty "00010000" "3" "0" ∷ empty "00010001" "8" "0" ∷ closed "000004")) (passed 1 2)
    ∷ case "a main movement of type 4" (opened (empty "00010000" "4" "0" ∷ [])) (refused 5 3 54 0)
    ∷ case "a detail of type 6 under type 1" (opened (empty "00010000" "1" "0" ∷ empty "00010001" "6" "0" ∷ [])) (refused 5 4 54 0)
    ∷ case "type 9 behind a 7 with a 6 between" (opened (empty "00010000" "2" "0" ∷ empty "00010001" "7" "0" ∷ empty "00010002" "6" "0" ∷ empty "00010003" "9" "0" ∷ closed "000006")) (passed 1 4)
    ∷ case "type 9 behind a 6 alone" (opened (empty "00010000" "2" "0" ∷ empty "00010001" "6" "0" ∷ empty "00010002" "9" "0" ∷ [])) (refused 5 5 54 0)
    ∷ []

-- levels that open and close under one main movement
abbrev pub levels : List Case
levels =
    case "levels 1, 0, 1" (opened (empty "00010000" "1" "1" ∷ empty "00010001" "5" "0" ∷ empty "00010002" "5" "1" ∷ closed "000005")) (passed 1 3)
    ∷ case "levels 1, 2, 1" (opened (empty "00010000" "1" "1" ∷ empty "00010001" "5" "2" ∷ empty "00010002" "5" "1" ∷ closed "000005")) (passed 1 3)
    ∷ case "levels 2, 1" (opened (empty "00010000" "1" "2" ∷ empty "00010001" "5" "1" ∷ [])) (refused 5 4 125 0)
    ∷ case "levels 1, 3, 2" (opened (empty "00010000" "1" "1" ∷ empty "00010001" "5" "3" ∷ empty "00010002" "5" "2" ∷ [])) (refused 5 5 125 0)
    ∷ case "a level of a main movement of type 0" (opened (empty "00010000" "0" "1" ∷ [])) (refused 5 3 125 0)
    ∷ case "the next main movement while a level is open" (opened (empty "00010000" "1" "1" ∷ empty "00020000" "0" "0" ∷ [])) (refused 5 4 3 0)
    ∷ case "a new balance while a level is open" (opened (empty "00010000" "1" "1" ∷ same_debit "0" ∷ [])) (refused 3 4 1 0)
    ∷ []

-- next and link codes, and what comes behind them
abbrev pub announcements : List Case
announcements =
    case "next and link both 1" (opened (announcing "00010000" "1 1" ∷ [])) (refused 5 3 128 0)
    ∷ case "a 2.2 that was not announced" (opened (empty "00010000" "0" "0" ∷ continuation "22" "00010000" "0 0" ∷ [])) (refused 3 4 1 0)
    ∷ case "a 3.1 that was not announced" (opened (empty "00010000" "0" "0" ∷ information "00010001" "0 0" ∷ [])) (refused 3 4 1 0)
    ∷ case "a 3.1 in place of a 2.2" (opened (announcing "00010000" "1 0" ∷ information "00010001" "0 0" ∷ [])) (refused 3 4 1 0)
    ∷ case "a 3.3 in place of a 3.2" (opened (announcing "00010000" "0 1" ∷ information "00010001" "1 0" ∷ continuation "33" "00010001" "0 0" ∷ [])) (refused 3 5 1 0)
    ∷ case "a record 4 that was not announced" (opened (empty "00010000" "0" "0" ∷ same_debit "0" ∷ communication "00010000" "0" ∷ [])) (refused 3 5 1 0)
    ∷ case "a trailer behind a movement" (opened (empty "00010000" "0" "0" ∷ unmoved "000002" "2" ∷ [])) (refused 3 4 1 0)
    ∷ []

-- balance, count and sums
abbrev pub sums : List Case
sums =
    case "old debit 1,000.000, credit 1,250.500, debit 0.500, new credit 250.000" (opened (movement "00010000" "0000000001250500" "0" "0" "0 0" ∷ movement "00020000" "1000000000000500" "0" "0" "0 0" ∷ new_balance "0000000000250000" "0" ∷ trailer "000004" "000000000000500" "000000001250500" "2" ∷ [])) (passed 1 2)
    ∷ case "the amount of a detail is in no sum" (opened (movement "00010000" "0000000000000500" "1" "0" "0 0" ∷ movement "00010001" "0000000000000300" "5" "0" "0 0" ∷ new_balance "1000000000999500" "0" ∷ trailer "000004" "000000000000000" "000000000000500" "2" ∷ [])) (passed 1 2)
    ∷ case "credits that make the largest sum" (opened (movement "00010000" "0999999999999998" "0" "0" "0 0" ∷ movement "00020000" "0000000000000001" "0" "0" "0 0" ∷ new_balance "0999999998999999" "0" ∷ trailer "000004" "000000000000000" "999999999999999" "2" ∷ [])) (passed 1 2)
    ∷ case "credits of 999,999,999,999.999 and 0.001" (opened (movement "00010000" "0999999999999999" "0" "0" "0 0" ∷ movement "00020000" "0000000000000001" "0" "0" "0 0" ∷ [])) (refused 6 4 33 0)
    ∷ case "debits of 999,999,999,999.999 and 0.001" (opened (movement "00010000" "1999999999999999" "0" "0" "0 0" ∷ movement "00020000" "1000000000000001" "0" "0" "0 0" ∷ [])) (refused 6 4 33 0)
    ∷ case "too large a sum left of a wrong type" (opened (movement "00010000" "0999999999999999" "0" "0" "0 0" ∷ movement "00020000" "0000000000000001" "4" "0" "0 0" ∷ [])) (refused 6 4 33 0)
    ∷ case "a balance that passes fifteen digits and comes back" (file (header ∷ old_balance "0999999999999999" ∷ movement "00010000" "0000000000000001" "0" "0" "0 0" ∷ movement "00020000" "1000000000000001" "0" "0" "0 0" ∷ new_balance "0999999999999999" "0" ∷ trailer "000004" "000000000000001" "000000000000001" "2" ∷ [])) (passed 1 2)
    ∷ case "an old debit of zero and a new credit of zero" (file (header ∷ old_balance "1000000000000000" ∷ new_balance "0000000000000000" "1" ∷ communication "00010000" "0" ∷ unmoved "000002" "2" ∷ [])) (passed 1 0)
    ∷ case "another account in the new balance" (opened (put 41 "X" (same_debit "1") ∷ [])) (refused 5 3 5 0)
    ∷ case "another amount in the new balance" (opened (new_balance "1000000001000001" "1" ∷ [])) (refused 6 3 43 0)
    ∷ case "the other sign in the new balance" (opened (new_balance "0000000001000000" "1" ∷ [])) (refused 6 3 43 0)
    ∷ case "another count" (opened (unmoved "000002" "2" ∷ [])) (refused 5 3 17 0)
    ∷ case "another debit sum" (opened (trailer "000001" "000000000000001" "000000000000000" "2" ∷ [])) (refused 6 3 23 0)
    ∷ case "another credit sum" (opened (trailer "000001" "000000000000000" "000000000000001" "2" ∷ [])) (refused 6 3 38 0)
    ∷ []

abbrev pub cases : List Case
cases = slots ++ (statements ++ (forms ++ (numbers ++ (types ++ (levels ++ (announcements ++ sums))))))

-- 29 February of a leap year is a day and of another year none; debits of 1.500 and of zero; and every case
pub record LimitsHold : Type 0 where
  pub leap : map is_day (codes "290224" ∷ codes "290223" ∷ []) ≡ true ∷ false ∷ []
  pub debits : map (signed debit) (1500 ∷ 0 ∷ []) ≡ negsuc 1499 ∷ pos 0 ∷ []
  pub answered : map (λ c. told_numbers (checked c.file)) cases ≡ map (λ c. c.answer) cases
