use Rattle.std.{proofs.Common.{ap, sym, ◌∙◌, arith}, specs.Option.option_map}
use Rattle.piton_machine.specs.Stacked.{frame_seen}
use Rattle.level_debuggers.proofs.WaitingLaws.{end_frame, last_frame, next_frame}
use Rattle.level_debuggers.proofs.piton_listing.push_waiting_frames.Goals as goal

pub loop-number-preserved : goal.loop-number-preserved
loop-number-preserved g c =
    next_frame c.args.system.now c.args.state.now.state.frames c.loop-number.number c.loop-number.out.items _ c.loop-number.invariant
    c.push_waiting_frame.new.out.items _ _ (sym c.in-Some.ensures) (sym c.in-Some-frame.ensures) c.in_ok-push_waiting_frame.ensures

pub returns-in_default-frame : goal.returns-in_default-frame
returns-in_default-frame g c =
    last_frame c.args.system.now c.args.state.now.state.frames c.loop-number.number c.loop-number.out.items _ c.loop-number.invariant
    (sym c.frame-in-loop-number.ensures ∙ ap (option_map frame_seen) c.in_default-frame.is)

pub returns : goal.returns
returns g c =
    end_frame c.args.system.now c.args.state.now.state.frames c.loop-number.number c.loop-number.out.items _ c.loop-number.invariant
    (omega (arith, c.loop-number-test.false, c.frames-number-end.ensures))
