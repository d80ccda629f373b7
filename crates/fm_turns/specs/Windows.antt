-- A machine's window as a part of a wider one.
use Rattle.std.specs.Prelude.{◌≡◌, ◌≢◌, ℕ, ◌+◌, ◌-◌, List, ◌++◌, length, take, drop, Ok, Err}
use Rattle.fm_machine.specs.{State.{Fm}, Step.{fm_step}, Run.{fm_run, Avoids}, Outcome.{RunOutcome, outcome}}
use Rattle.fm_machine.specs.{declared.fault.Outside.{Outside}, declared.processor.Run.{Run}}
use Rattle.fm_machine.specs.declared.processor.Run.TheVariants as run

-- no step before the first stand at pc needs an address outside the window
abbrev pub StaysInsideFrom : Fm → ℕ → Type 0
StaysInsideFrom start pc =
    (k : ℕ) (s : Fm) (e : Outside) → fm_run k start ≡ Ok s → Avoids start pc (k + 1) → fm_step s ≢ Err e

-- a run that does not end at an instruction outside the window
abbrev pub IsInside : Run → Type 0
IsInside (run.Ended k) = Unit {0}
IsInside run.Spent = Unit {0}
IsInside (run.Outside a k) = ⊥

-- the words of a window inside a machine's, by its base and its size
abbrev pub words_in : ℕ → ℕ → Fm → List ℕ
words_in base size s = take size (drop (base - s.base) s.memory)

-- the words of a wider window: those before a window, its own, and those after it
abbrev pub widened_words : List ℕ → List ℕ → List ℕ → List ℕ
widened_words before after memory = before ++ (memory ++ after)

-- the same registers and flags, in a wider window that begins at base
abbrev pub widened : ℕ → List ℕ → List ℕ → Fm → Fm
widened base before after s =
    record { base = base; registers = s.registers; flags = s.flags; memory = widened_words before after s.memory }

-- a run's end, in the wider window
abbrev pub widened_end : ℕ → List ℕ → List ℕ → RunOutcome → RunOutcome
widened_end base before after o = record { run = o.run; state = widened base before after o.state }

-- a state's window begins behind these words, which begin at base
abbrev pub IsBehind : ℕ → List ℕ → Fm → Type 0
IsBehind base before s = s.base ≡ base + length before

-- A step inside a window is the same step in a wider one: it leaves the words before and after the window.
abbrev pub StepsAlike : Type 0
StepsAlike =
    (base : ℕ) (before after : List ℕ) (s t : Fm) → IsBehind base before s → fm_step s ≡ Ok t
    → fm_step (widened base before after s) ≡ Ok (widened base before after t)

-- A run to pc that stays inside a window is the same run in a wider one.
abbrev pub RunsAlike : Type 0
RunsAlike =
    (base : ℕ) (before after : List ℕ) (pc budget : ℕ) (s : Fm) → IsBehind base before s → IsInside (outcome budget pc s).run
    → outcome budget pc (widened base before after s) ≡ widened_end base before after (outcome budget pc s)
