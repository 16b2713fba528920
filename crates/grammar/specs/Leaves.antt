-- The records of a file, each by its kind and its bytes.
--   Leaf     a record: a case for each kind, which holds the 128 bytes
--   Formed   it has 128 bytes, and every field is of its form
use Rattle.std.specs.Prelude.{◌≡◌, ℕ, List, length, None}
use Rattle.layout.specs.Layouts.{first_misformed}
use Rattle.layout.specs.declared.kind.Kind.{Kind}
use Rattle.layout.specs.declared.kind.Kind.TheVariants.{Header, OldBalance, Movement, MovementSecond, Counterparty, Information, InformationSecond, InformationThird, NewBalance, FreeCommunication, Trailer}

pub data Leaf : Type 0 where
  header : List ℕ → Leaf
  old_balance : List ℕ → Leaf
  movement : List ℕ → Leaf
  movement_second : List ℕ → Leaf
  counterparty : List ℕ → Leaf
  information : List ℕ → Leaf
  information_second : List ℕ → Leaf
  information_third : List ℕ → Leaf
  new_balance : List ℕ → Leaf
  free_communication : List ℕ → Leaf
  trailer : List ℕ → Leaf

abbrev pub kind : Leaf → Kind
kind (header b) = Header
kind (old_balance b) = OldBalance
kind (movement b) = Movement
kind (movement_second b) = MovementSecond
kind (counterparty b) = Counterparty
kind (information b) = Information
kind (information_second b) = InformationSecond
kind (information_third b) = InformationThird
kind (new_balance b) = NewBalance
kind (free_communication b) = FreeCommunication
kind (trailer b) = Trailer

abbrev pub bytes : Leaf → List ℕ
bytes (header b) = b
bytes (old_balance b) = b
bytes (movement b) = b
bytes (movement_second b) = b
bytes (counterparty b) = b
bytes (information b) = b
bytes (information_second b) = b
bytes (information_third b) = b
bytes (new_balance b) = b
bytes (free_communication b) = b
bytes (trailer b) = b

-- the record of a kind with these bytes
abbrev pub leaf : Kind → List ℕ → Leaf
leaf Header b = header b
leaf OldBalance b = old_balance b
leaf Movement b = movement b
leaf MovementSecond b = movement_second b
leaf Counterparty b = counterparty b
leaf Information b = information b
leaf InformationSecond b = information_second b
leaf InformationThird b = information_third b
leaf NewBalance b = new_balance b
leaf FreeCommunication b = free_communication b
leaf Trailer b = trailer b

abbrev pub Formed : Leaf → Type 0
Formed r = (length (bytes r) ≡ 128) × (first_misformed (kind r) (bytes r) ≡ None)
