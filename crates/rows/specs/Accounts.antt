-- Rows of an account.
--   is_of   the fields of a statement row of an account
use Rattle.std.specs.Prelude.{ℕ, Bool, false, List}
use Rattle.std.specs.Str.{bytes_eq}
use Rattle.rows.specs.declared.fields.Fields.{Fields}
use Rattle.rows.specs.declared.fields.Fields.TheVariants.{Movement, Statement}

abbrev pub is_of : List ℕ → Fields → Bool
is_of account (Movement m) = false
is_of account (Statement s) = bytes_eq s.account account
