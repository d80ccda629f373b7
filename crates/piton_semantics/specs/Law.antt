-- What holds of the definitions.
use Rattle.std.specs.Prelude.{◌≡◌, ℕ, suc, ◌+◌, ◌<◌, ◌^◌, List, ◌∷◌, Ok, Err, []}
use Rattle.piton_semantics.specs.{declared.error_kind.ErrorKind.{ErrorKind}, declared.stepped.PitonRun.TheVariants.{Halted, Error}}
use Rattle.piton_semantics.specs.{State.{Frame, PitonState}, Step.{piton_step, piton_run, step_cost, run_cost}, Fits.{IsState}}
use Rattle.piton_semantics.specs.StateView.{Seen, saturated, state_run}
use Rattle.piton_check.specs.{Instruction.{SystemView}, Sound.{IsSound}}

-- each step of a sound system leads from a state to a state
abbrev pub EachStepKeeps : Type 0
EachStepKeeps = (s : SystemView) (p q : PitonState) → IsSound s → IsState s p → piton_step s p ≡ Ok q → IsState s q

-- so many steps, at such a cost, from states that have not halted
pub data Steps (s : SystemView) : ℕ → ℕ → PitonState → PitonState → Type 0 where
  none : {p : PitonState} → Steps s 0 0 p p
  more : {j n : ℕ} {p q r : PitonState} (f : Frame) (fs : List Frame) → p.frames ≡ f ∷ fs → piton_step s p ≡ Ok q → Steps s j n q r →
      Steps s (suc j) (step_cost s p + n) p r

-- what is seen after so many steps at such a cost
abbrev pub advanced : Seen → ℕ → ℕ → PitonState → Seen
advanced v steps cost q = record v { state = q; steps = saturated (v.steps + steps); counted = saturated (v.counted + cost) }

-- so many steps are a run of so many steps, at that cost
abbrev pub StepsAreRuns : Type 0
StepsAreRuns = (s : SystemView) (j n : ℕ) (p q : PitonState) → Steps s j n p q → (piton_run s j p ≡ Ok q) × (run_cost s j p ≡ n)

-- a limited run goes on behind so many steps, and both counts tell them
abbrev pub StepsAreCounted : Type 0
StepsAreCounted = (s : SystemView) (j n k : ℕ) (v : Seen) (q : PitonState) → Steps s j n v.state q → v.steps < 2 ^ 64 → v.counted < 2 ^ 64 →
    state_run s (j + k) v ≡ state_run s k (advanced v j n q)

-- behind steps that lead to a halted state a run has halted, however many more it may make
abbrev pub StepsHalt : Type 0
StepsHalt = (s : SystemView) (j n k : ℕ) (v : Seen) (q : PitonState) → Steps s j n v.state q → v.steps < 2 ^ 64 → v.counted < 2 ^ 64 →
    q.frames ≡ [] → state_run s (j + k) v ≡ record { run = Halted; seen = advanced v j n q }

-- behind steps to a state whose step is refused a run is refused
abbrev pub StepsFail : Type 0
StepsFail = (s : SystemView) (j n k : ℕ) (v : Seen) (q : PitonState) (kind : ErrorKind) (f : Frame) (fs : List Frame) →
    Steps s j n v.state q → v.steps < 2 ^ 64 → v.counted < 2 ^ 64 → q.frames ≡ f ∷ fs → piton_step s q ≡ Err kind →
    state_run s (j + suc k) v ≡ record { run = Error kind; seen = advanced v j n q }
