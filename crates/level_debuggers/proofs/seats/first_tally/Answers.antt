use Rattle.std.proofs.Common.{Some, ap, sym, ◌∙◌}
use Rattle.level_debuggers.{specs.declared.watch.Tally.Tally, proofs.TakenLaws.{no_tally, tally_at}}
use Rattle.level_debuggers.proofs.seats.first_tally.Goals as goal

pub returns-in-Some : goal.returns-in-Some
returns-in-Some g c =
    ap (λ (tally : Tally). Some tally) c.tally_of.ensures
    ∙ sym (tally_at c.args.watches.now c.index-watches-place.result (λ w. (goal.Watch-dyn g (w.vtable, w.value)).watching w.value)
    c.args.rule c.in-Some.place (sym c.in-Some.ensures.place) c.index-watches-place.is)

pub returns-in-None : goal.returns-in-None
returns-in-None g c =
    sym (no_tally c.args.watches.now (λ w. (goal.Watch-dyn g (w.vtable, w.value)).watching w.value) c.args.rule (sym c.in-None.ensures.place))
