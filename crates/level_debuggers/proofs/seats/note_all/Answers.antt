use Rattle.std.{proofs.Common.{map, arith}, proofs.lemmas.List.length-map}
use Rattle.level_debuggers.{specs.Tallies.noted, proofs.NotedLaws.{changed_more, changed_all}}
use Rattle.level_debuggers.proofs.seats.note_all.Goals as goal

pub loop-watch-preserved : goal.loop-watch-preserved
loop-watch-preserved g c =
    changed_more c.loop-watch.watches c.watch-item.result c.note.new.watch
    (λ w. (goal.Watch-dyn g (w.vtable, w.value)).watching w.value)
    (noted c.args.event.now) c.loop-watch.watch-index
    (map (λ w. (goal.Watch-dyn g (w.vtable, w.value)).watching w.value) c.args.watches.now)
    (omega arith) c.note.ensures c.loop-watch.invariant

pub returns : goal.returns
returns g c =
    let all = changed_all (noted c.args.event.now) c.loop-watch.watch-index
    (map (λ w. (goal.Watch-dyn g (w.vtable, w.value)).watching w.value) c.args.watches.now)
    (omega (arith, length-map c.args.watches.now (λ w. (goal.Watch-dyn g (w.vtable, w.value)).watching w.value))) in
    cc (all, c.loop-watch.invariant)
