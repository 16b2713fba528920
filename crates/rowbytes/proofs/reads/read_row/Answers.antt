use Rattle.std.proofs.Common.{ap, ◌∙◌}
use Rattle.std.specs.Option.{option_map}
use Rattle.std.specs.Str.{bytes_eq}
use Rattle.rows.specs.Held.{fields_of}
use Rattle.rowbytes.specs.RowBytes.{row_read}
use Rattle.rowbytes.proofs.Deciding.{other_width, no_row, decided, then_some_mapped}
use Rattle.rowbytes.proofs.reads.read_row.Goals as goal

pub returns-in_err-bytes : goal.returns-in_err-bytes
returns-in_err-bytes c = ap (option_map fields_of) c.from_residual.ensures ∙ other_width c.args.bytes.now c.in_err-bytes.ensures.cases

pub returns-in_err-row : goal.returns-in_err-row
returns-in_err-row c =
    ap (option_map fields_of) c.from_residual-in_err-row.ensures ∙ no_row c.args.bytes.now c.read_fields.result (c.read_fields.ensures ∙ ap row_read c.in_ok-bytes.ensures.cases.same) c.in_err-row.ensures

pub returns : goal.returns
returns c =
    ap (option_map fields_of) c.then_some.ensures
    ∙ (then_some_mapped fields_of c.eq.result c.in_ok-row.row
    ∙ decided c.args.bytes.now c.read_fields.result (c.read_fields.ensures ∙ ap row_read c.in_ok-bytes.ensures.cases.same) (fields_of c.in_ok-row.row) c.row_bytes.result c.eq.result
    c.in_ok-row.ensures c.row_bytes.ensures (c.eq.ensures ∙ ap (bytes_eq c.row_bytes.result) c.in_ok-bytes.ensures.cases.same))
