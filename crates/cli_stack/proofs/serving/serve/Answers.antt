use Rattle.std.proofs.Common.{◌≡◌, List, Some, map, sym, ◌∙◌}
use Rattle.level_debuggers.specs.Tallies.{Watching}
use Rattle.command_line.{specs.CommandWords.spelled, specs.CommandRows.command_of, specs.declared.status.Status.TheVariants.OutOfMemory}
use Rattle.device_logs.specs.Logged.{LoggedLinesOf, LoggedShelfOf, LoggedSinkOf, logged_broke, logged_came, logged_ended, logged_gave, logged_overran}
use Rattle.device_logs.specs.Logged.{logged_took}
use Rattle.stack_commands.specs.Conversed.{line_acts}
use Rattle.cli_stack.{specs.Converses.{shelf_acts, talk_acts, talk_in, talk_world}, specs.TalkRan.talk_logs, specs.World.shelf_of}
use Rattle.cli_stack.{proofs.AnswerLaws.answers_tell, proofs.ServeLaws.{gave_up, nothing_promised, nothing_ran}, proofs.TalkRanLaws.talk_ran}
use Rattle.cli_stack.proofs.serving.serve.Goals as goal

pub returns-in-Ok-Some-clause-converses : goal.returns-in-Ok-Some-clause-converses
returns-in-Ok-Some-clause-converses g c =
    let is : talk_in (command_of (spelled c.args.words.now)) ≡ Some c.in-Ok-Some.talk = sym c.in-Ok-Some.ensures ∙ c.in-Ok-Some.field-0-is in
    rw is (
      c.converse.result,
      c.code.ensures,
      c.converse.ensures,
      talk_ran _ _ _ _ (λ (s : LoggedShelfOf g.row.S.Denot). g.S.Shelf.files s.shelf) (λ (s : LoggedShelfOf g.row.S.Denot). g.S.Shelf.counts s.shelf)
          g.S.Shelf.gave (line_acts g.L.Lines.came g.L.Lines.ended g.L.Lines.overran g.L.Lines.broke)
          (λ (l : LoggedLinesOf g.row.L.Denot). g.L.Lines.faults l.lines) (λ (l : LoggedLinesOf g.row.L.Denot). g.L.Lines.overruns l.lines)
          g.K.Sink.took (λ (k : LoggedSinkOf g.row.K.Denot). g.K.Sink.taken k.sink)
          (λ (k : LoggedSinkOf g.row.K.Denot). g.K.Sink.faults k.sink) _ _ _ _ _ _ _ _ _ c.converse.ensures,
    )

pub returns-in-Err-clause-promises : goal.returns-in-Err-clause-promises
returns-in-Err-clause-promises g c =
    let command = command_of (spelled c.args.words.now) in
    let watches : List Watching = map (λ w. (goal.Watch-dyn g (w.vtable, w.value)).watching w.value) c.args.watches.items in
    let built = c.builds_implement.ensures in
    λ _. (
      OutOfMemory,
      c.code-in-Err.ensures,
      nothing_promised _ _ _ _ command watches _ _ _ _ _ c.in-Err.ensures (answers_tell built.implements built.values command watches),
    )

pub returns-in-Err-clause-ran : goal.returns-in-Err-clause-ran
returns-in-Err-clause-ran g c = λ _. (OutOfMemory, c.code-in-Err.ensures, nothing_ran _ _ _ _ _)

pub returns-in-Err-clause-converses : goal.returns-in-Err-clause-converses
returns-in-Err-clause-converses g c =
    let watches : List Watching = map (λ w. (goal.Watch-dyn g (w.vtable, w.value)).watching w.value) c.args.watches.items in
    let shelf = shelf_of (g.S.Shelf.files c.args.shelf.now.shelf) (g.S.Shelf.counts c.args.shelf.now.shelf) in
    gave_up (g.H.Heap.may_refuse c.args.heap) _ _ _
    (shelf_acts (λ (s : LoggedShelfOf g.row.S.Denot). g.S.Shelf.files s.shelf) (λ (s : LoggedShelfOf g.row.S.Denot). g.S.Shelf.counts s.shelf)
    (logged_gave g.S.Shelf.gave))
    (talk_acts (line_acts (logged_came g.L.Lines.came) (logged_ended g.L.Lines.ended) (logged_overran g.L.Lines.overran) (logged_broke g.L.Lines.broke))
    (λ (l : LoggedLinesOf g.row.L.Denot). g.L.Lines.faults l.lines)
    (λ (l : LoggedLinesOf g.row.L.Denot). g.L.Lines.overruns l.lines) (logged_took g.K.Sink.took) (λ (k : LoggedSinkOf g.row.K.Denot). g.K.Sink.taken k.sink)
    (λ (k : LoggedSinkOf g.row.K.Denot). g.K.Sink.faults k.sink))
    watches (talk_world c.args.shelf.now c.args.lines.now c.args.out.now) shelf shelf
    (talk_logs c.args.shelf.now c.args.lines.now c.args.out.now) _ c.code-in-Err.ensures c.in-Err.ensures (talk_in (command_of (spelled c.args.words.now)))
