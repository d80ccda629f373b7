use Rattle.std.{proofs.Common.{Result, Ok, Err, ap, subst}, specs.Prelude.OnErr}
use Rattle.level_debuggers.{specs.Views.Sessions.session_of, specs.Arrivals.Arrived, specs.Levels.stands_at, specs.Walks.{HasMadeSome, SessionOf}}
use Rattle.level_debuggers.proofs.ArrivalLaws.{arrived_some}
use Rattle.level_debuggers.proofs.transcript.push_until.Goals as goal

-- what holds at each end holds on an error
on_any : {T E P : Type 0} (result : Result T E) → P → OnErr result P
on_any (Ok x) p = tt
on_any (Err e) p = p

pub returns-clause-memory : goal.returns-clause-memory
returns-clause-memory g c =
    let old = (session_of (λ w. (goal.Watch-dyn g (w.vtable, w.value)).watching w.value) c.args.session.now) in
    on_any c.push_arrival.result
    (subst (λ (left : SessionOf). HasMadeSome c.args.limit old left) (ap (λ (made : Arrived). made.session) c.in_ok-arrival.ensures.ran)
    (arrived_some (stands_at c.args.place.now) c.args.limit old))
