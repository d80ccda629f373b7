use Rattle.std.proofs.Common.{List, map}
use Rattle.level_debuggers.specs.Tallies.{Watching}
use Rattle.command_line.{specs.CommandWords.spelled, specs.CommandRows.command_of}
use Rattle.cli_stack.proofs.RanLaws.{ran}
use Rattle.cli_stack.proofs.ran.run_logged.Goals as goal

pub returns-clause-ran : goal.returns-clause-ran
returns-clause-ran g c =
    let command = command_of (spelled c.args.words.now) in
    let watches : List Watching = map (λ w. (goal.Watch-dyn g (w.vtable, w.value)).watching w.value) c.args.watches.items in
    let kept = c.cli.ensures.promises in (
      kept.0,
      kept.1,
      ran c.builds_implement.ensures.implements c.builds_implement.ensures.values c.runs_are_meant.ensures
          _ g.S.Shelf.gave g.S.Shelf.got g.K.Sink.took _ _ _ _ watches _ _ command kept.0 kept.2 c.cli.ensures.means,
    )
