-- How many statements and movement records (2.1) there are among records: a statement by its old balance.
--   the functions that end in behind give the number behind a record, from that before it
use Rattle.std.specs.Prelude.{ℕ, ◌+◌, List, [], ◌∷◌}
use Rattle.grammar.specs.Leaves.{Leaf, header, old_balance, movement, movement_second, counterparty, information, information_second, information_third, new_balance, free_communication, trailer}

abbrev pub statements_behind : Leaf → ℕ → ℕ
statements_behind (header b) n = n
statements_behind (old_balance b) n = n + 1
statements_behind (movement b) n = n
statements_behind (movement_second b) n = n
statements_behind (counterparty b) n = n
statements_behind (information b) n = n
statements_behind (information_second b) n = n
statements_behind (information_third b) n = n
statements_behind (new_balance b) n = n
statements_behind (free_communication b) n = n
statements_behind (trailer b) n = n

abbrev pub movements_behind : Leaf → ℕ → ℕ
movements_behind (header b) n = n
movements_behind (old_balance b) n = n
movements_behind (movement b) n = n + 1
movements_behind (movement_second b) n = n
movements_behind (counterparty b) n = n
movements_behind (information b) n = n
movements_behind (information_second b) n = n
movements_behind (information_third b) n = n
movements_behind (new_balance b) n = n
movements_behind (free_communication b) n = n
movements_behind (trailer b) n = n

abbrev pub statements_in : List Leaf → ℕ
statements_in [] = 0
statements_in (r ∷ rs) = statements_behind r (statements_in rs)

abbrev pub movements_in : List Leaf → ℕ
movements_in [] = 0
movements_in (r ∷ rs) = movements_behind r (movements_in rs)
