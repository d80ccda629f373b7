use Rattle.std.proofs.Common.{arith, sym, ◌<◌, length}
use Rattle.level_debuggers.proofs.TakenLaws.{none_taken, place_within, taken_at}
use Rattle.level_debuggers.proofs.seats.take_first.Goals as goal

pub remove-requires : goal.remove-requires
remove-requires g c =
    let within : c.in-Some.place < length c.deref.result.now = place_within c.deref.result.now
    (λ w. (goal.Watch-dyn g (w.vtable, w.value)).watching w.value)
    c.args.rule c.in-Some.place (sym c.in-Some.ensures.place) in
    omega (arith, c.deref.ensures.len)

pub returns-in-Some-clause-some : goal.returns-in-Some-clause-some
returns-in-Some-clause-some g c =
    taken_at c.args.watches.now.items c.deref.result.now c.remove.new.self.items c.remove.result
    (λ w. (goal.Watch-dyn g (w.vtable, w.value)).watching w.value)
    c.args.rule c.in-Some.place c.deref.ensures.value (sym c.in-Some.ensures.place) c.remove.ensures.value c.remove.ensures.items

pub returns-in-None-clause-none : goal.returns-in-None-clause-none
returns-in-None-clause-none g c =
    none_taken c.args.watches.now.items c.deref.result.now
    (λ w. (goal.Watch-dyn g (w.vtable, w.value)).watching w.value)
    c.args.rule c.deref.ensures.value (sym c.in-None.ensures.place)
