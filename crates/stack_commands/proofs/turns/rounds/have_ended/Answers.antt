use Rattle.std.{proofs.Common.{◌<◌, length, sym, ◌∙◌, arith}, proofs.lemmas.List.length-map}
use Rattle.fm_turns.specs.Turns.{states_of}
use Rattle.stack_commands.{specs.Internal.Told.has_ended, proofs.TaskLoops.{test_more, test_fails}}
use Rattle.stack_commands.proofs.turns.rounds.have_ended.Goals as goal

pub returns-then-not-has_ended : goal.returns-then-not-has_ended
returns-then-not-has_ended c =
    let lt : c.loop-i.i < length (states_of c.args.turns.now) =
    omega (arith, c.requires, c.loop-i-test.true, length-map c.args.turns.now.contexts (λ context. context.state)) in
    sym (test_fails has_ended (states_of c.args.turns.now) c.loop-i.i c.task.result c.task.ensures lt
    (sym c.has_ended.ensures ∙ c.if-not-has_ended.true) c.loop-i.invariant)

pub loop-i-preserved : goal.loop-i-preserved
loop-i-preserved c =
    let lt : c.loop-i.i < length (states_of c.args.turns.now) =
    omega (arith, c.requires, c.loop-i-test.true, length-map c.args.turns.now.contexts (λ context. context.state)) in
    test_more has_ended (states_of c.args.turns.now) c.loop-i.i c.task.result c.task.ensures lt (sym c.has_ended.ensures ∙ c.if-not-has_ended.false)
    c.loop-i.invariant
