use Rattle.std.{proofs.Common.{◌≡◌, ◌++◌, drop}, specs.List.flat_map}
use Rattle.fm_verilog.specs.VerilogText.{declaration_text}
use Rattle.fm_verilog.proofs.text.push_declarations.Given as goal

-- the lines so far and those of what is left are those of all
abbrev pub invariant-loop-wire : goal.invariant-loop-wire
invariant-loop-wire l = l.text.items ++ flat_map declaration_text (drop l.wire-index l.wires) ≡ l.initial.text.items ++ flat_map declaration_text l.wires
