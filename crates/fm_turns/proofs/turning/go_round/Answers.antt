use Rattle.std.proofs.Common.{◌≡◌, ◌∙◌, ℕ, get_or, ap, arith}
use Rattle.fm_turns.{specs.declared.context.TaskContext.TaskContext, specs.Turns.{AfterTurn, after_turn, AfterTurns, after_turns}}
use Rattle.fm_turns.proofs.TurningLaws.{left_within, SoFar, turns_next, turns_all}
use Rattle.fm_turns.proofs.turning.go_round.Goals as goal

pub take_turn-requires : goal.take_turn-requires
take_turn-requires c =
    left_within c.args.round.budget c.loop-context.context-index c.loop-context.contexts c.args.contexts.now c.context-item.result (omega arith)
    c.loop-context.invariant.left c.requires.within

pub loop-context-preserved : goal.loop-context-preserved
loop-context-preserved c =
    let base : ℕ = c.args.machine.now.state.base in
    let all : AfterTurns = after_turns c.args.round base c.args.machine.now.state.memory c.args.contexts.now in
    let so_far : SoFar c.args.round base c.loop-context.context-index c.loop-context.contexts c.args.contexts.now c.loop-context.machine.state.memory all
    = record { left = c.loop-context.invariant.left; memory_is = c.loop-context.invariant.memory; contexts = c.loop-context.invariant.contexts } in
    let context : TaskContext = get_or c.loop-context.contexts c.loop-context.context-index c.context-item.result in
    let here : after_turn c.args.round c.loop-context.machine.state.base c.loop-context.machine.state.memory context
    ≡ after_turn c.args.round base c.loop-context.machine.state.memory context
    = ap (λ b. after_turn c.args.round b c.loop-context.machine.state.memory context) c.loop-context.invariant.base in
    let next = turns_next c.args.round base c.loop-context.context-index c.loop-context.contexts c.args.contexts.now c.context-item.result
    c.take_turn.new.context c.loop-context.machine.state.memory c.take_turn.new.machine.state.memory all (omega arith) so_far
    (c.take_turn.ensures.memory ∙ ap (λ (t : AfterTurn). t.memory) here) (c.take_turn.ensures.context ∙ ap (λ (t : AfterTurn). t.context) here) in
    record {
      base = c.take_turn.ensures.base ∙ c.loop-context.invariant.base;
      left = next.left;
      memory = next.memory_is;
      contexts = next.contexts;
    }

pub returns-clause-memory : goal.returns-clause-memory
returns-clause-memory c =
    let all : AfterTurns = after_turns c.args.round c.args.machine.now.state.base c.args.machine.now.state.memory c.args.contexts.now in
    (turns_all c.args.round c.args.machine.now.state.base c.loop-context.context-index c.loop-context.contexts c.args.contexts.now
    c.loop-context.machine.state.memory all (omega arith)
    record { left = c.loop-context.invariant.left; memory_is = c.loop-context.invariant.memory; contexts = c.loop-context.invariant.contexts }).0

pub returns-clause-contexts : goal.returns-clause-contexts
returns-clause-contexts c =
    let all : AfterTurns = after_turns c.args.round c.args.machine.now.state.base c.args.machine.now.state.memory c.args.contexts.now in
    (turns_all c.args.round c.args.machine.now.state.base c.loop-context.context-index c.loop-context.contexts c.args.contexts.now
    c.loop-context.machine.state.memory all (omega arith)
    record { left = c.loop-context.invariant.left; memory_is = c.loop-context.invariant.memory; contexts = c.loop-context.invariant.contexts }).1
