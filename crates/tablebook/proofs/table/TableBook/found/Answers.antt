use Rattle.std.proofs.Common.{ℕ, ◌≡◌, ◌<◌, true, length, subst, arith, get_or, Some, None, Option, ap, rules}
use Rattle.std.specs.Option.{MatchOption, IfSome, IsSomeAnd, option_map}
use Rattle.std.proofs.iter.Serving.{serving}
use Rattle.recordbytes.proofs.Each.{every_at}
use Rattle.cashbook.specs.Counting.{figures, used}
use Rattle.rows.specs.Held.{fields_of}
use Rattle.rows.specs.Rows.{blank, is_row}
use Rattle.rows.specs.declared.fields.Fields.{Fields}
use Rattle.rows.specs.declared.row.Row.{Row}
use Rattle.tablebook.specs.Memory.{rows_in}
use Rattle.tablebook.proofs.table.TableBook.found.Goals as goal

mapped : (place : Option ℕ) (r : Option Row) (at : ℕ → Fields) → MatchOption place (r ≡ None) (λ i. IsSomeAnd r (λ row. fields_of row ≡ at i)) → option_map fields_of r ≡ option_map at place
mapped None r at told = ap (option_map fields_of) told
mapped (Some i) None at told = absurd told
mapped (Some i) (Some row) at told = ap Some told

pub map-requires : goal.map-requires
map-requires c =
    let s = c.args.self.now in
    let all = used (figures s.counts) in
    let room = s.counts.room in
    let backed = s.backed in
    let stands : (i : ℕ) → c.args.place ≡ Some i → (i < length s.memory.rows.now) × (is_row (get_or s.memory.rows.now i blank) ≡ true)
    = λ i e. (let inside = subst (λ (o : Option ℕ). IfSome o (λ k. k < all)) e c.requires in (omega arith, every_at is_row all i s.memory.rows.now blank inside (omega arith) s.fine)) in
    grind (serving, stands)

pub returns : goal.returns
returns c = mapped c.args.place c.map.result (λ i. get_or (rows_in c.args.self.now) i blank) (search rules)
