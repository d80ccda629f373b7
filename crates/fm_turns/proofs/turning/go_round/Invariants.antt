use Rattle.std.proofs.Common.{◌≡◌, ◌++◌, take, drop}
use Rattle.fm_turns.specs.Turns.{after_turns}
use Rattle.fm_turns.proofs.turning.go_round.Given as goal

-- the turns so far and those of what is left are those of all
abbrev pub invariant-loop-context : goal.invariant-loop-context
invariant-loop-context l = record {
  base : l.machine.state.base ≡ l.initial.machine.state.base;
  left : drop l.context-index l.contexts ≡ drop l.context-index l.initial.contexts;
  memory : (after_turns l.round l.initial.machine.state.base l.machine.state.memory (drop l.context-index l.contexts)).memory
      ≡ (after_turns l.round l.initial.machine.state.base l.initial.machine.state.memory l.initial.contexts).memory;
  contexts : take l.context-index l.contexts
      ++ (after_turns l.round l.initial.machine.state.base l.machine.state.memory (drop l.context-index l.contexts)).contexts
      ≡ (after_turns l.round l.initial.machine.state.base l.initial.machine.state.memory l.initial.contexts).contexts;
}
