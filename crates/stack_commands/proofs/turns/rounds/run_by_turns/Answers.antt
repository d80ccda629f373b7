use Rattle.std.proofs.Common.{◌≡◌, ◌∙◌, List, Ok, map, sym, ap, subst}
use Rattle.stack_heap.specs.Heaps.{IfOkUnless}
use Rattle.fm_turns.{specs.EqualTurns.{AreAll, EndAsAlone}, specs.Starting.{NewTask, new_tasks, started}, specs.Turns.{TurnsOf, images_of}}
use Rattle.command_replies.specs.Replies.{ReplyOf, reply_of}
use Rattle.stack_commands.{specs.Internal.Told.GoneRound, proofs.TurnsLaws.{first_images, tells_alone}}
use Rattle.stack_commands.proofs.turns.rounds.run_by_turns.Goals as goal

pub returns : goal.returns
returns g c =
    let tasks : List NewTask = new_tasks c.args.tasks.items in
    let before : TurnsOf = c.in_ok-turns.turns in
    let after : TurnsOf = c.go_round.new.turns in
    let turn = c.args.turn in
    let budget = c.args.budget in
    let gone : GoneRound turn budget before after = c.go_round.ensures.rounds in
    let start : started tasks ≡ Ok before = c.requires.ready.starts ∙ ap Ok (sym c.in_ok-turns.ensures.turns) in
    let images : images_of after ≡ map (λ task. task.image) tasks = c.go_round.ensures.images ∙ ap images_of c.in_ok-turns.ensures.turns ∙ first_images tasks in
    let ends : EndAsAlone turn budget tasks after =
    subst (EndAsAlone turn budget tasks) (sym gone.made)
    (c.each_ends_as_alone.ensures.ends tasks before turn budget gone.rounds start c.requires.ready.stay c.requires.some gone.few
    (subst (AreAll turn budget gone.rounds) gone.made gone.all)) in
    subst (λ (reply : ReplyOf). IfOkUnless (g.H.Heap.may_refuse c.args.heap) c.told_reply.result (λ r. reply_of r ≡ reply))
    (tells_alone c.each_ends_as_alone.ensures.round turn budget c.requires.some tasks after images ends) c.told_reply.ensures
