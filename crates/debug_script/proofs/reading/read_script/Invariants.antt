use Rattle.std.proofs.Common.{◌≡◌, ◌≤◌, ◌+◌, ◌^◌, length}
use Rattle.stack_text.proofs.ResultLoops.{with_front}
use Rattle.debug_script.specs.Scripts.{lines_read, script_of}
use Rattle.debug_script.proofs.reading.read_script.Given as goal

abbrev pub invariant-loop-line : goal.invariant-loop-line
invariant-loop-line g l = record {
  so_far : with_front l.lines.items (lines_read (l.number + 1) l.line-iterator) ≡ script_of l.fn.text;
  few : l.number + length l.line-iterator ≤ 2 ^ 31;
}
