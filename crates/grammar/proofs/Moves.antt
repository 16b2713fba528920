-- The machine as a relation: which record may come where, and where it leads; its runs to the end of a file.
-- The two counters are left out here; proofs/Taken and proofs/Counted have them.
use Rattle.std.proofs.Common.{◌≡◌, ℕ, true, false, ◌&&◌, List, [], ◌∷◌}
use Rattle.grammar.specs.declared.expect.Expect.{Expect}
use Rattle.grammar.specs.declared.expect.Expect.TheVariants as E
use Rattle.grammar.specs.Fields.{next, link, another}
use Rattle.grammar.specs.Leaves.{Leaf, header, old_balance, movement, movement_second, counterparty, information, information_second, information_third, new_balance, free_communication, trailer}
use Rattle.grammar.specs.Lawful.{Bears}
use Rattle.grammar.specs.Order.{behind, behind_closing, behind_trailer}
use Rattle.grammar.specs.Places.{Numbers, Sums, unnumbered, behind_main, behind_detail, behind_information, behind_communication, opened, counted_one, booked}
use Rattle.grammar.proofs.Fits.{MainFits, DetailFits, InformationFits, Repeats, Room, NewBalanceFits, CommunicationFits, TrailerFits}

-- next and link are not both 1
abbrev pub Apart : List ℕ → Type 0
Apart b = (next b && link b) ≡ false

pub data Moves : Expect → Numbers → Sums → Leaf → Expect → Numbers → Sums → Type 0 where
  a_first_header : {n : Numbers} {s : Sums} {b : List ℕ} → Moves E.Start n s (header b) E.OldBalance n s
  a_header : {n : Numbers} {s : Sums} {b : List ℕ} → Moves E.Header n s (header b) E.OldBalance n s
  an_old_balance : {n : Numbers} {s : Sums} {b : List ℕ} → Moves E.OldBalance n s (old_balance b) E.Opened unnumbered (opened b)
  a_first_main : {n : Numbers} {s : Sums} {b : List ℕ} → MainFits n b → Room s b → Apart b → Moves E.Opened n s (movement b) (behind (next b) (link b) E.Second) (behind_main b) (booked s b)
  a_main : {n : Numbers} {s : Sums} {b : List ℕ} → MainFits n b → Room s b → Apart b → Moves E.Further n s (movement b) (behind (next b) (link b) E.Second) (behind_main b) (booked s b)
  a_detail : {n : Numbers} {s : Sums} {b : List ℕ} → DetailFits n b → Apart b → Moves E.Further n s (movement b) (behind (next b) (link b) E.Second) (behind_detail n b) (counted_one s)
  a_second : {n : Numbers} {s : Sums} {b : List ℕ} → Repeats n b → Apart b → Moves E.Second n s (movement_second b) (behind (next b) (link b) E.Counterparty) n (counted_one s)
  a_lone_counterparty : {n : Numbers} {s : Sums} {b : List ℕ} → Repeats n b → Apart b → Moves E.Second n s (counterparty b) (behind (next b) (link b) E.Counterparty) n (counted_one s)
  a_counterparty : {n : Numbers} {s : Sums} {b : List ℕ} → Repeats n b → Apart b → Moves E.Counterparty n s (counterparty b) (behind (next b) (link b) E.Counterparty) n (counted_one s)
  an_information : {n : Numbers} {s : Sums} {b : List ℕ} → InformationFits n b → Apart b → Moves E.Information n s (information b) (behind (next b) (link b) E.InformationSecond) (behind_information n b) (counted_one s)
  an_information_second : {n : Numbers} {s : Sums} {b : List ℕ} → Repeats n b → Apart b → Moves E.InformationSecond n s (information_second b) (behind (next b) (link b) E.InformationThird) n (counted_one s)
  an_information_third : {n : Numbers} {s : Sums} {b : List ℕ} → Repeats n b → Apart b → Moves E.InformationThird n s (information_third b) (behind (next b) (link b) E.InformationThird) n (counted_one s)
  a_lone_new_balance : {n : Numbers} {s : Sums} {b : List ℕ} → NewBalanceFits n s b → link b ≡ true → Moves E.Opened n s (new_balance b) (behind_closing (link b) E.FirstCommunication) n (counted_one s)
  a_new_balance : {n : Numbers} {s : Sums} {b : List ℕ} → NewBalanceFits n s b → Moves E.Further n s (new_balance b) (behind_closing (link b) E.FirstCommunication) n (counted_one s)
  a_first_communication : {n : Numbers} {s : Sums} {b : List ℕ} → Bears 1 0 b → Moves E.FirstCommunication n s (free_communication b) (behind_closing (link b) E.Communication) (behind_communication n b) s
  a_communication : {n : Numbers} {s : Sums} {b : List ℕ} → CommunicationFits n.sequence n.detail b → Moves E.Communication n s (free_communication b) (behind_closing (link b) E.Communication) (behind_communication n b) s
  a_lone_trailer : {n : Numbers} {s : Sums} {b : List ℕ} → TrailerFits s b → Moves E.Opened n s (trailer b) (behind_trailer (another b)) n s
  a_trailer : {n : Numbers} {s : Sums} {b : List ℕ} → TrailerFits s b → Moves E.Trailer n s (trailer b) (behind_trailer (another b)) n s

-- one move after the other, until nothing may come
pub data Run : Expect → Numbers → Sums → List Leaf → Type 0 where
  done : {n : Numbers} {s : Sums} → Run E.End n s []
  go : {e f : Expect} {n m : Numbers} {s t : Sums} {r : Leaf} {rs : List Leaf} → Moves e n s r f m t → Run f m t rs → Run e n s (r ∷ rs)
