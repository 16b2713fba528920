-- Which bytes are in a class.
--   digit   0 to 9, the bytes 48 to 57
--   space   the byte 32
--   plain   a byte that may stand in a record
use Rattle.std.specs.Prelude.{ℕ, Bool, not, ◌&&◌, ◌==◌, nat_le}

abbrev pub is_digit : ℕ → Bool
is_digit byte = nat_le 48 byte && nat_le byte 57

abbrev pub is_space : ℕ → Bool
is_space byte = byte == 32

abbrev pub is_plain : ℕ → Bool
is_plain byte = nat_le 32 byte && not (byte == 127)
