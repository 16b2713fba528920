use Rattle.std.proofs.Common.{◌≡◌, List, length, set, sym, ap, ◌∙◌, arith}
use Rattle.rows.specs.declared.fields.Fields.{Fields}
use Rattle.cashbook.specs.Calls.{adding}
use Rattle.cashbook.specs.Counting.{figures, used, counted}
use Rattle.cashbook.specs.Meaning.{all_rows}
use Rattle.cashbook.proofs.Counting.{Added, added_done, all_long, left_by_call}
use Rattle.tablebook.specs.Memory.{means_of, rows_in}
use Rattle.tablebook.proofs.table.calls.TableBookBook.add.Goals as goal

pub returns : goal.returns
returns c =
    let s = c.args.self.now in
    let row : Fields = c.args.row.now.fields in
    let a : Added s.counts.capacity s.counts.kept s.memory.rows.now s.counts.batch c.args.row.now.fields (figures c.in_ok-counts.counts)
    = added_done s.counts.capacity s.counts.kept s.memory.rows.now c.args.row.now.fields s.counts.batch (figures c.in_ok-counts.counts) s.counts.room s.backed c.in_ok-counts.ensures in
    let at = c.used-at.ensures.value in
    let w = c.write.ensures.rows in
    let f = c.fields.ensures.value in
    let rows : c.write.new.self.rows.now ≡ set s.memory.rows.now (used (figures s.counts)) c.args.row.now.fields = cc in
    let did = adding (means_of s) row in
    let long = all_long s.counts.capacity s.counts.kept (rows_in s) s.counts.batch (let room = s.counts.room in let backed = s.backed in omega arith) in
    record {
      answers = a.meets.answers;
      leaves = ap (λ (rs : List Fields). counted (figures c.in_ok-counts.counts) rs) rows ∙ a.meets.leaves;
      rows = rows ∙ (ap (λ n. set (rows_in s) n row) (sym long) ∙ left_by_call did tt (set (rows_in s) (length (all_rows (means_of s))) row) (rows_in s) a.meets.answers);
      places = c.write.ensures.places;
    }
