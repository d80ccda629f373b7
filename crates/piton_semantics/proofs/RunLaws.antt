-- Runs put together, with their steps and their costs.
use Rattle.std.{proofs.Common.{◌≡◌, ℕ, zero, suc, ◌+◌, Ok, List, [], ◌∷◌, refl, ap, sym, ◌∙◌, subst, arith, Err}, specs.Prelude.{◌<◌, ◌^◌}}
use Rattle.piton_semantics.{specs.declared.error_kind.ErrorKind.ErrorKind, specs.State.{Frame, PitonState}, specs.Views.{◌>>=◌, then_on}, specs.Step.piton_step}
use Rattle.piton_semantics.{specs.Step.{piton_run, step_cost, cost_after, run_cost}, specs.Fits.{IsWellFormed, IsState}, specs.Law.{Steps, none, more}}
use Rattle.piton_semantics.{specs.Law.advanced, specs.StateView.{Seen, state_run, saturated, seen_after, seen_from}, proofs.ViewLaws.went_on}
use Rattle.piton_semantics.{proofs.WordViewLaws.same_Ok, proofs.KeepLaws.step_kept, proofs.SeenLaws.{first_step, stays}}
use Rattle.piton_check.specs.Instruction.{SystemView}
use Rattle.piton_semantics.specs.declared.stepped.PitonRun.TheVariants as ran

-- one step first
pub run_first : (s : SystemView) (k : ℕ) (p q : PitonState) → piton_step s p ≡ Ok q → piton_run s (suc k) p ≡ piton_run s k q
unfolding piton_run then_on
run_first s k p q h = ap (λ r. then_on r (piton_run s k)) h

pub cost_first : (s : SystemView) (k : ℕ) (p q : PitonState) → piton_step s p ≡ Ok q → run_cost s (suc k) p ≡ step_cost s p + run_cost s k q
unfolding run_cost cost_after
cost_first s k p q h = ap (λ r. step_cost s p + cost_after s (run_cost s k) r) h

-- a run taken apart by its first step
pub record FirstStep (s : SystemView) (k : ℕ) (p q : PitonState) : Type 0 where
  pub next : PitonState
  pub step : piton_step s p ≡ Ok next
  pub rest : piton_run s k next ≡ Ok q

pub first_of_run : (s : SystemView) (k : ℕ) (p q : PitonState) → piton_run s (suc k) p ≡ Ok q → FirstStep s k p q
unfolding piton_run
first_of_run s k p q h = let f = went_on h in record { next = f.value; step = f.is; rest = f.goes }

pub run_none : (s : SystemView) (p : PitonState) → piton_run s 0 p ≡ Ok p
unfolding piton_run
run_none s p = refl

pub cost_none : (s : SystemView) (p : PitonState) → run_cost s 0 p ≡ 0
unfolding run_cost
cost_none s p = refl

-- what each state of a run keeps
pub run_kept : (s : SystemView) (k : ℕ) (p q : PitonState) → IsWellFormed s → IsState s p → piton_run s k p ≡ Ok q → IsState s q
run_kept s zero p q sound is h = subst (IsState s) (same_Ok (sym (run_none s p) ∙ h)) is
run_kept s (suc k) p q sound is h =
    let f = first_of_run s k p q h in
    run_kept s k f.next q sound (step_kept s p f.next sound is f.step) f.rest

pub seen_next_by : (s : SystemView) (v : Seen) (q : PitonState) (f : Frame) (fs fs' : List Frame) → fs' ≡ f ∷ fs → piton_step s v.state ≡ Ok q →
    seen_from s v fs' ≡ Ok (seen_after s v q)
unfolding then_on
seen_next_by s v q f fs [] e h = cc
seen_next_by s v q f fs (g ∷ gs) e h = ap (λ r. r >>= λ q. Ok (seen_after s v q)) h

pub seen_next : (s : SystemView) (k : ℕ) (v : Seen) (q : PitonState) (f : Frame) (fs : List Frame) → v.state.frames ≡ f ∷ fs →
    piton_step s v.state ≡ Ok q → state_run s (suc k) v ≡ state_run s k (seen_after s v q)
seen_next s k v q f fs e h = first_step s k v (Ok (seen_after s v q)) (seen_next_by s v q f fs v.state.frames e h)

-- a run goes on behind steps, and both counts tell them
along_from : (s : SystemView) (j n k : ℕ) (p q : PitonState) → Steps s j n p q → (v : Seen) → v.state ≡ p → v.steps < 2 ^ 64 → v.counted < 2 ^ 64 →
    state_run s (j + k) v ≡ state_run s k (advanced v j n q)
along_from s i n k x y (none {p = p}) v e a b =
    let steps : v.steps ≡ saturated (v.steps + 0) = omega arith in
    let counted : v.counted ≡ saturated (v.counted + 0) = omega arith in
    ap (λ i. state_run s i v) (omega arith)
    ∙ ap (λ (p : PitonState). state_run s k (record v { state = p })) e
    ∙ ap (λ (i : ℕ). state_run s k (record v { state = p; steps = i })) steps
    ∙ ap (λ (i : ℕ). state_run s k (record v { state = p; steps = saturated (v.steps + 0); counted = i })) counted
along_from s i n k x y (more {j = j} {n = m} {p = p} {q = p'} {r = q} f fs here step rest) v e a b =
    let step' : piton_step s v.state ≡ Ok p' = ap (piton_step s) e ∙ step in
    let v' = seen_after s v p' in
    let cost : step_cost s v.state ≡ step_cost s p = ap (step_cost s) e in
    let steps : saturated (saturated (v.steps + 1) + j) ≡ saturated (v.steps + suc j) = omega arith in
    let counted : saturated (saturated (v.counted + step_cost s v.state) + m) ≡ saturated (v.counted + (step_cost s p + m)) = omega arith in
    ap (λ i. state_run s i v) (omega arith)
    ∙ seen_next s (j + k) v p' f fs (ap (λ (p : PitonState). p.frames) e ∙ here) step'
    ∙ along_from s j m k p' q rest v' refl (omega arith) (omega arith)
    ∙ ap (λ (i : ℕ). state_run s k (record v { state = q; steps = i; counted = saturated (saturated (v.counted + step_cost s v.state) + m) })) steps
    ∙ ap (λ (i : ℕ). state_run s k (record v { state = q; steps = saturated (v.steps + suc j); counted = i })) counted

pub along : (s : SystemView) (j n k : ℕ) (v : Seen) (q : PitonState) → Steps s j n v.state q → v.steps < 2 ^ 64 → v.counted < 2 ^ 64 →
    state_run s (j + k) v ≡ state_run s k (advanced v j n q)
along s j n k v q steps a b = along_from s j n k v.state q steps v refl a b

-- steps are a run, and their cost is its cost
pub steps_run : (s : SystemView) (j n : ℕ) (p q : PitonState) → Steps s j n p q → piton_run s j p ≡ Ok q
steps_run s i n x y (none {p = p}) = run_none s p
steps_run s i n x y (more {j = j} {n = m} {p = p} {q = p'} {r = q} f fs here step rest) = run_first s j p p' step ∙ steps_run s j m p' q rest

pub steps_cost : (s : SystemView) (j n : ℕ) (p q : PitonState) → Steps s j n p q → run_cost s j p ≡ n
steps_cost s i n x y (none {p = p}) = cost_none s p
steps_cost s i n x y (more {j = j} {n = m} {p = p} {q = p'} {r = q} f fs here step rest) =
    cost_first s j p p' step ∙ ap (λ i. step_cost s p + i) (steps_cost s j m p' q rest)

-- how a limited run ends behind steps: it has halted, it is spent, or the next step is refused
pub halts : (s : SystemView) (j n k : ℕ) (v : Seen) (q : PitonState) → Steps s j n v.state q → v.steps < 2 ^ 64 → v.counted < 2 ^ 64 →
    q.frames ≡ [] → state_run s (j + k) v ≡ record { run = ran.Halted; seen = advanced v j n q }
halts s j n k v q steps a b e = along s j n k v q steps a b ∙ stays s k (advanced v j n q) e

refused_by : (s : SystemView) (v : Seen) (kind : ErrorKind) (f : Frame) (fs fs' : List Frame) → fs' ≡ f ∷ fs → piton_step s v.state ≡ Err kind →
    seen_from s v fs' ≡ Err kind
unfolding then_on
refused_by s v kind f fs [] e h = cc
refused_by s v kind f fs (g ∷ gs) e h = ap (λ r. r >>= λ q. Ok (seen_after s v q)) h

pub fails : (s : SystemView) (j n k : ℕ) (v : Seen) (q : PitonState) (kind : ErrorKind) (f : Frame) (fs : List Frame) → Steps s j n v.state q →
    v.steps < 2 ^ 64 → v.counted < 2 ^ 64 → q.frames ≡ f ∷ fs → piton_step s q ≡ Err kind →
    state_run s (j + suc k) v ≡ record { run = ran.Error kind; seen = advanced v j n q }
fails s j n k v q kind f fs steps a b e h =
    along s j n (suc k) v q steps a b
    ∙ first_step s k (advanced v j n q) (Err kind) (refused_by s (advanced v j n q) kind f fs q.frames e h)
