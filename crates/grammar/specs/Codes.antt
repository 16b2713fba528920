-- Each record says by its codes of what sort the next one is.
--   next   1 just where the next record continues this one
--   link   1 just where the next record is an information record; behind 8 and 4, a free communication
--   the multiple file code of a trailer is 1 just where another statement follows
use Rattle.std.specs.Prelude.{◌≡◌, Bool, true, false, List, [], ◌∷◌}
use Rattle.grammar.specs.Leaves.{Leaf, header, old_balance, movement, movement_second, counterparty, information, information_second, information_third, new_balance, free_communication, trailer}
use Rattle.grammar.specs.Fields.{next, link, another}

pub data Sort : Type 0 where
  heading continuing informing communicating other nothing : Sort

abbrev pub sort : Leaf → Sort
sort (header b) = heading
sort (old_balance b) = other
sort (movement b) = other
sort (movement_second b) = continuing
sort (counterparty b) = continuing
sort (information b) = informing
sort (information_second b) = continuing
sort (information_third b) = continuing
sort (new_balance b) = other
sort (free_communication b) = communicating
sort (trailer b) = other

abbrev pub first_sort : List Leaf → Sort
first_sort [] = nothing
first_sort (r ∷ rs) = sort r

abbrev pub continues : Sort → Bool
continues heading = false
continues continuing = true
continues informing = false
continues communicating = false
continues other = false
continues nothing = false

abbrev pub informs : Sort → Bool
informs heading = false
informs continuing = false
informs informing = true
informs communicating = false
informs other = false
informs nothing = false

abbrev pub communicates : Sort → Bool
communicates heading = false
communicates continuing = false
communicates informing = false
communicates communicating = true
communicates other = false
communicates nothing = false

abbrev pub heads : Sort → Bool
heads heading = true
heads continuing = false
heads informing = false
heads communicating = false
heads other = false
heads nothing = false

-- the codes of a record, with the sort of the next one
abbrev pub Announces : Leaf → Sort → Type 0
Announces (header b) s = Unit {0}
Announces (old_balance b) s = Unit {0}
Announces (movement b) s = (next b ≡ continues s) × (link b ≡ informs s)
Announces (movement_second b) s = (next b ≡ continues s) × (link b ≡ informs s)
Announces (counterparty b) s = link b ≡ informs s
Announces (information b) s = (next b ≡ continues s) × (link b ≡ informs s)
Announces (information_second b) s = (next b ≡ continues s) × (link b ≡ informs s)
Announces (information_third b) s = link b ≡ informs s
Announces (new_balance b) s = link b ≡ communicates s
Announces (free_communication b) s = link b ≡ communicates s
Announces (trailer b) s = another b ≡ heads s

abbrev pub Codes : List Leaf → Type 0
Codes [] = Unit {0}
Codes (r ∷ rs) = Announces r (first_sort rs) × Codes rs
