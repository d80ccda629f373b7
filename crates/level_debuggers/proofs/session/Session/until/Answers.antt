use Rattle.std.proofs.Common.{◌≡◌, List, ap, subst, sym, ◌∙◌}
use Rattle.stack_heap.specs.Heaps.{IfOkUnless}
use Rattle.debug_script.specs.declared.command.Place.{Place}
use Rattle.level_debuggers.{specs.Arrivals.{Arrived, arrived_at_one}, specs.Views.Sessions.session_of, proofs.ArrivalLaws.one_place}
use Rattle.level_debuggers.proofs.session.Session.until.Goals as goal

pub returns-clause-ran : goal.returns-clause-ran
returns-clause-ran g c =
    let old = session_of (λ w. (goal.Watch-dyn g (w.vtable, w.value)).watching w.value) c.args.self.now in
    subst (λ (made : Arrived). IfOkUnless (g.H.Heap.may_refuse c.args.heap) c.until_any.result (λ arrival. made ≡ record {
      arrival = arrival;
      session = session_of (λ w. (goal.Watch-dyn g (w.vtable, w.value)).watching w.value) c.until_any.new.self;
    }))
    (ap (λ (places : List Place). arrived_at_one places c.args.limit old) c.from_ref.ensures.value ∙ sym (one_place c.args.place.now c.args.limit old))
    c.until_any.ensures.ran
