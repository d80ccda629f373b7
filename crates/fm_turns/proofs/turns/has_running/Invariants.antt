use Rattle.std.{proofs.Common.{◌≡◌, drop, map}, specs.List.list_any}
use Rattle.fm_turns.specs.EqualTurns.{is_running}
use Rattle.fm_turns.proofs.turns.has_running.Given as goal

-- the tasks that are left settle it
abbrev pub invariant-loop-context : goal.invariant-loop-context
invariant-loop-context l = list_any is_running (map (λ context. context.state) (drop l.context-index l.contexts))
    ≡ list_any is_running (map (λ context. context.state) l.contexts)
