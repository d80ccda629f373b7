use Rattle.std.{proofs.Common.◌++◌, proofs.lemmas.List.get_or_default}
use Rattle.fm_verilog.{specs.VerilogText.rows_text, proofs.RowLaws.{rows_next, rows_end}}
use Rattle.fm_verilog.proofs.text.push_rows.Goals as goal

pub loop-number-preserved : goal.loop-number-preserved
loop-number-preserved c = rows_next c.args.by c.args.among.now c.loop-number.number _ c.loop-number.text.items c.push_row.new.text.items
    (c.args.text.now.items ++ rows_text c.args.by 0 c.args.among.now) c.loop-number-test.true
    (get_or_default c.args.among.now c.loop-number.number _ _ c.loop-number-test.true) c.in_ok-push_row.ensures c.loop-number.invariant

pub returns : goal.returns
returns c = rows_end c.args.by c.args.among.now c.loop-number.number c.loop-number.text.items
    (c.args.text.now.items ++ rows_text c.args.by 0 c.args.among.now) c.loop-number-test.false c.loop-number.invariant
