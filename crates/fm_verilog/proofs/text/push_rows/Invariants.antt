use Rattle.std.proofs.Common.{◌≡◌, ◌++◌, drop}
use Rattle.fm_verilog.specs.VerilogText.{rows_text}
use Rattle.fm_verilog.proofs.text.push_rows.Given as goal

-- the rows so far and those of what is left are those of all
abbrev pub invariant-loop-number : goal.invariant-loop-number
invariant-loop-number l = l.text.items ++ rows_text l.by l.number (drop l.number l.among) ≡ l.initial.text.items ++ rows_text l.by 0 l.among
