use Rattle.std.proofs.Common.{List, map}
use Rattle.level_debuggers.specs.Tallies.{Watching}
use Rattle.command_line.{specs.CommandWords.spelled, specs.CommandRows.command_of}
use Rattle.cli_stack.{proofs.AnswerLaws.{answers_mean, answers_tell}, proofs.PromisesLaws.promises, proofs.TaskCountLaws.words_few}
use Rattle.cli_stack.proofs.program.cli.Goals as goal

pub returns-clause-promises : goal.returns-clause-promises
returns-clause-promises g c =
    let command = command_of (spelled c.args.words.now) in
    let watches : List Watching = map (λ w. (goal.Watch-dyn g (w.vtable, w.value)).watching w.value) c.args.watches.items in
    let built = c.builds_implement.ensures in (
      c.conclude.result,
      c.code.ensures,
      promises (g.H.Heap.may_refuse c.args.heap) g.S.Shelf.may_refuse g.K.Sink.may_refuse _ command watches _ _ c.run_words-ran.result
          c.conclude.result (c.run_words-ran.ensures.leaves watches) c.run_words-ran.ensures.reason c.run_words-ran.ensures.reply c.conclude.ensures
          (answers_tell built.implements built.values command watches),
    )

pub returns-clause-means : goal.returns-clause-means
returns-clause-means g c =
    let watches : List Watching = map (λ w. (goal.Watch-dyn g (w.vtable, w.value)).watching w.value) c.args.watches.items in
    let built = c.builds_implement.ensures in
    answers_mean built.implements built.values c.runs_are_meant.ensures c.placed_are_words.ensures c.quickened_images_mean.ensures.texts
    c.moments_are_said.ensures.built c.moments_are_said.ensures.ends
    c.scripts_walk.ensures.show c.scripts_walk.ensures.up c.scripts_walk.ensures.words c.scripts_walk.ensures.arrivals
    c.scripts_walk.ensures.steps c.scripts_walk.ensures.text
    c.runs_walk.ensures.machines c.runs_walk.ensures.arrivals
    (command_of (spelled c.args.words.now)) (words_few (spelled c.args.words.now)) watches
