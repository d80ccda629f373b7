use Rattle.std.proofs.Common.{◌≡◌, ◌≤◌, ◌-◌, ◌++◌, map, length, drop}
use Rattle.stack_text.{specs.Tokens.{tokens, between}, specs.Trees.as_kept, specs.TextFaults.{first_fault, text_fault}, specs.Internal.OpenLists.opened}
use Rattle.stack_text.specs.Internal.OpenLists.{context}
use Rattle.stack_text.proofs.reader.read.Given as goal

abbrev pub invariant-loop-found : goal.invariant-loop-found
invariant-loop-found g l = record {
  within : l.at ≤ length l.text;
  kept_is : map as_kept (tokens between 0 l.text) ≡ opened l.stack.items ++ map as_kept (tokens between l.at (drop l.at l.text));
  fault_is : text_fault l.text ≡ first_fault (length l.text) (context l.stack.items) (tokens between l.at (drop l.at l.text));
}

abbrev pub decreases-loop-found : goal.decreases-loop-found
decreases-loop-found g l = length l.text - l.at
