use Rattle.std.{proofs.Common.{Result, Ok, Err, ap, subst}, specs.Prelude.OnErr}
use Rattle.level_debuggers.{specs.Views.Sessions.session_of, specs.Walks.{HasMadeSome, SessionOf, Stepped}, proofs.WalkLaws.stepped_some}
use Rattle.level_debuggers.proofs.transcript.push_step.Goals as goal

-- what holds at each end holds on an error
on_any : {T E P : Type 0} (result : Result T E) → P → OnErr result P
on_any (Ok x) p = tt
on_any (Err e) p = p

pub returns-clause-memory : goal.returns-clause-memory
returns-clause-memory g c =
    let old = session_of (λ w. (goal.Watch-dyn g (w.vtable, w.value)).watching w.value) c.args.session.now in
    on_any c.push_run.result
    (subst (λ (left : SessionOf). HasMadeSome c.args.count old left) (ap (λ (made : Stepped). made.session) c.in_ok-run.ensures.ran)
    (stepped_some c.args.count old))
