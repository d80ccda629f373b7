use Rattle.std.proofs.Common.{◌≡◌, ◌++◌, drop}
use Rattle.level_debuggers.specs.PitonLevels.{waiting_frames}
use Rattle.level_debuggers.proofs.piton_listing.push_waiting_frames.Given as goal

abbrev pub invariant-loop-number : goal.invariant-loop-number
invariant-loop-number g l =
    l.out.items ++ waiting_frames l.system (drop l.number l.state.state.frames)
    ≡ l.initial.out.items ++ waiting_frames l.system l.state.state.frames
