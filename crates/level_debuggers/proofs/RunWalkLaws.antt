-- A walk makes the steps of what the run is a run of.
use Rattle.std.proofs.Common.{◌≡◌, ◌≢◌, ◌+◌, ◌<◌, ◌≤◌, ◌^◌, ℕ, zero, suc, Bool, cond, List, [], ◌∷◌, length, Result, Ok, Err, refl, ap, subst, ◌∙◌, arith}
use Rattle.std.proofs.lemmas.Bool.{eq-eqb, ne_eqb}
use Rattle.debug_script.specs.declared.command.Place.TheVariants as place
use Rattle.fm_machine.specs.State as machine
use Rattle.fm_machine.{specs.Run.{Avoids, fm_run, pc_of}, specs.Step.{fm_step, then_on}, specs.declared.fault.Outside.Outside}
use Rattle.piton_check.specs.Instruction.{SystemView}
use Rattle.piton_semantics.{specs.declared.error_kind.ErrorKind.ErrorKind, specs.Fits.system_in, specs.Law.{Steps, none, more, advanced}, specs.StateView.Seen}
use Rattle.piton_semantics.{specs.StateView.{saturated, seen_after, seen_step}, specs.State.{Frame, PitonState}, specs.Step.{piton_step, step_cost}}
use Rattle.piton_semantics.proofs.RunLaws.{seen_next_by}
use Rattle.level_debuggers.{specs.declared.watch.Event.Event, specs.FmLevels.{FmLevelOf, fm_after, fm_event}, specs.Levels.{LevelOf, Piton, Fm, lifted}}
use Rattle.level_debuggers.{specs.Levels.{next_of, stands_at}, specs.PitonLevels.{PitonLevelOf, piton_after, piton_event, piton_from}, specs.RunWalks.WalksTo}
use Rattle.level_debuggers.{specs.RunWalks.{MachinesWalk, MachinesArrive, SystemsWalk}, specs.Steps.{Over, Makes}, specs.Walks.{Walk, with_event, walk_on}}
use Rattle.level_debuggers.specs.Walks.{walk}

-- one step, and the others
walks_on : (n : ℕ) (level after to : LevelOf) (event : Event) → next_of level ≡ Makes event after → WalksTo n after to → WalksTo (suc n) level to
unfolding walk
walks_on n level after to event is rest =
    let first : walk (suc n) level ≡ with_event event (walk n after) = ap (walk_on level (walk n)) is in
    record { whole = ap (λ (w : Walk). length w.events) first ∙ ap suc rest.whole; leads = ap (λ (w : Walk). w.level) first ∙ rest.leads }

walks_none : (level : LevelOf) → WalksTo 0 level level
unfolding walk
walks_none level = record { whole = refl; leads = refl }

-- ---- of the processor

fm_makes : (run : FmLevelOf) (u : machine.Fm) → pc_of run.state ≢ run.image.final_pc → fm_step run.state ≡ Ok u
    → next_of (Fm run) ≡ Makes (fm_event run) (Fm (record run { state = u }))
fm_makes run u apart step =
    ap (λ (b : Bool). lifted Fm (cond b Over (fm_after run (fm_step run.state)))) (ne_eqb (pc_of run.state) run.image.final_pc apart)
    ∙ ap (λ (r : Result machine.Fm Outside). lifted Fm (fm_after run r)) step

same_state : (s t : machine.Fm) → let r : Result machine.Fm Outside = Ok s in r ≡ Ok t → s ≡ t
same_state s t e = cc

machines_by : (n : ℕ) (run : FmLevelOf) (t : machine.Fm) (r : Result machine.Fm Outside) → fm_step run.state ≡ r → then_on r (fm_run n) ≡ Ok t
    → Avoids run.state run.image.final_pc (suc n)
    → ((u : machine.Fm) → fm_run n u ≡ Ok t → Avoids u run.image.final_pc n → WalksTo n (Fm (record run { state = u })) (Fm (record run { state = t })))
    → WalksTo (suc n) (Fm run) (Fm (record run { state = t }))
unfolding fm_run
machines_by n run t (Ok u) is rest apart later =
    walks_on n (Fm run) (Fm (record run { state = u })) (Fm (record run { state = t })) (fm_event run)
    (fm_makes run u (apart 0 run.state (omega arith) refl) is)
    (later u rest (λ j v lt e. apart (suc j) v (omega (arith, lt)) (ap (λ (r : Result machine.Fm Outside). then_on r (fm_run j)) is ∙ e)))
machines_by n run t (Err fault) is rest apart later = absurd cc

pub machines_walk : MachinesWalk
unfolding fm_run
machines_walk zero run t made apart =
    let same : run.state ≡ t = same_state run.state t made in
    subst (λ (s : machine.Fm). WalksTo 0 (Fm run) (Fm (record run { state = s }))) same (walks_none (Fm run))
machines_walk (suc n) run t made apart =
    machines_by n run t (fm_step run.state) refl made apart (λ u rest avoids. machines_walk n (record run { state = u }) t rest avoids)

-- a run that makes so many steps makes fewer
front_by : (j k : ℕ) (s t : machine.Fm) (r : Result machine.Fm Outside) → fm_step s ≡ r → then_on r (fm_run k) ≡ Ok t
    → ((u : machine.Fm) → fm_run k u ≡ Ok t → (v : machine.Fm) × (fm_run j u ≡ Ok v)) → (v : machine.Fm) × (fm_run (suc j) s ≡ Ok v)
unfolding fm_run
front_by j k s t (Ok u) is rest later =
    let on = later u rest in (on.0, ap (λ (r : Result machine.Fm Outside). then_on r (fm_run j)) is ∙ on.1)
front_by j k s t (Err fault) is rest later = absurd cc

run_front : (j k : ℕ) (s t : machine.Fm) → j ≤ k → fm_run k s ≡ Ok t → (u : machine.Fm) × (fm_run j s ≡ Ok u)
unfolding fm_run
run_front zero k s t le made = (s, refl)
run_front (suc j) zero s t le made = absurd (omega (arith, le))
run_front (suc j) (suc k) s t le made =
    front_by j k s t (fm_step s) refl made (λ u rest. run_front j k u t (omega (arith, le)) rest)

pub machines_arrive : MachinesArrive
machines_arrive address k run t first apart =
    let w : WalksTo k (Fm run) (Fm (record run { state = t })) = machines_walk k run t first.reached apart in
    record {
      stands = ap (stands_at (place.Number address)) w.leads ∙ eq-eqb (pc_of t) address first.there;
      first = λ j lt.
          let u = run_front j k run.state t (omega (arith, lt)) first.reached in
          let v : WalksTo j (Fm run) (Fm (record run { state = u.0 }))
          = machines_walk j run u.0 u.1 (λ i w less made. apart i w (omega (arith, less, lt)) made) in
          ap (stands_at (place.Number address)) v.leads ∙ ne_eqb (pc_of u.0) address (first.before j u.0 lt u.1);
    }

-- ---- of Piton's machine

piton_makes : (run : PitonLevelOf) (q : PitonState) (f : Frame) (fs frames : List Frame) → frames ≡ f ∷ fs
    → piton_step (system_in run.checked) run.seen.state ≡ Ok q →
    lifted Piton (piton_from run frames) ≡ lifted Piton (piton_after run (seen_step (system_in run.checked) run.seen))
piton_makes run q f fs [] e step = absurd cc
piton_makes run q f fs (g ∷ gs) e step = refl

pub system_makes : (run : PitonLevelOf) (q : PitonState) (f : Frame) (fs : List Frame) → run.seen.state.frames ≡ f ∷ fs
    → piton_step (system_in run.checked) run.seen.state ≡ Ok q →
    next_of (Piton run) ≡ Makes (piton_event run) (Piton (record run { seen = seen_after (system_in run.checked) run.seen q }))
system_makes run q f fs e step =
    piton_makes run q f fs run.seen.state.frames e step
    ∙ ap (λ (r : Result Seen ErrorKind). lifted Piton (piton_after run r)) (seen_next_by (system_in run.checked) run.seen q f fs run.seen.state.frames e step)

walks_from : (s : SystemView) (n cost : ℕ) (p q : PitonState) → Steps s n cost p q → (run : PitonLevelOf) → system_in run.checked ≡ s → run.seen.state ≡ p →
    run.seen.steps < 2 ^ 64 → run.seen.counted < 2 ^ 64 → WalksTo n (Piton run) (Piton (record run { seen = advanced run.seen n cost q }))
walks_from s n cost x y (none {p = p}) run same e a b =
    let v : Seen = run.seen in
    let steps : v.steps ≡ saturated (v.steps + 0) = omega arith in
    let counted : v.counted ≡ saturated (v.counted + 0) = omega arith in
    let seen : v ≡ advanced v 0 0 p = λ i. record { state = e i; ctrl = v.ctrl; temp = v.temp; steps = steps i; counted = counted i } in
    subst (λ (w : Seen). WalksTo 0 (Piton run) (Piton (record run { seen = w }))) seen (walks_none (Piton run))
walks_from s n cost x y (more {j = j} {n = m} {p = p} {q = p'} {r = q} f fs here step rest) run same e a b =
    let v : Seen = run.seen in
    let S : SystemView = system_in run.checked in
    let step' : piton_step S v.state ≡ Ok p' = ap (λ (s : SystemView). piton_step s v.state) same ∙ ap (piton_step s) e ∙ step in
    let w : Seen = seen_after S v p' in
    let spent : step_cost S v.state ≡ step_cost s p = ap (λ (s : SystemView). step_cost s v.state) same ∙ ap (step_cost s) e in
    let steps : saturated (saturated (v.steps + 1) + j) ≡ saturated (v.steps + suc j) = omega arith in
    let counted : saturated (saturated (v.counted + step_cost S v.state) + m) ≡ saturated (v.counted + (step_cost s p + m)) = omega arith in
    let seen : advanced w j m q ≡ advanced v (suc j) (step_cost s p + m) q =
    λ i. record { state = q; ctrl = v.ctrl; temp = v.temp; steps = steps i; counted = counted i } in
    walks_on j (Piton run) (Piton (record run { seen = w })) (Piton (record run { seen = advanced v (suc j) (step_cost s p + m) q })) (piton_event run)
    (system_makes run p' f fs (ap (λ (p : PitonState). p.frames) e ∙ here) step')
    (subst (λ (u : Seen). WalksTo j (Piton (record run { seen = w })) (Piton (record run { seen = u }))) seen
    (walks_from s j m p' q rest (record run { seen = w }) same refl (omega arith) (omega arith)))

pub systems_walk : SystemsWalk
systems_walk n cost run q steps a b = walks_from (system_in run.checked) n cost run.seen.state q steps run refl refl a b
