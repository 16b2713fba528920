use Rattle.std.proofs.Common.{sym, ap, ◌∙◌}
use Rattle.std.proofs.lemmas.Bool.{eq-eqb, ne_eqb}
use Rattle.rows.specs.declared.fields.Fields.TheVariants.{Movement, Statement}
use Rattle.rowbytes.proofs.Rereading.{reads_statement, reads_movement}
use Rattle.rowbytes.proofs.reads.read_fields.Goals as goal

pub returns-then-bytes-eq-STATEMENT : goal.returns-then-bytes-eq-STATEMENT
returns-then-bytes-eq-STATEMENT c = ap Statement c.read_statement.ensures ∙ sym (reads_statement c.args.bytes.now (eq-eqb _ _ c.if-bytes-eq-STATEMENT.true))

pub returns : goal.returns
returns c = ap Movement c.read_movement.ensures ∙ sym (reads_movement c.args.bytes.now (ne_eqb _ _ c.if-bytes-eq-STATEMENT.false))
