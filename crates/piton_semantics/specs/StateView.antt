-- What a state shows, and its step and run with their counts.
use Rattle.std.specs.Prelude.{◌≡◌, ℕ, zero, suc, ◌+◌, ◌-◌, ◌^◌, min, List, [], ◌∷◌, reverse, Result, Ok, Err, Vec}
use Rattle.piton_words.specs.declared.word.Word.{Word}
use Rattle.piton_semantics.specs.{declared.error_kind.ErrorKind.{ErrorKind}, declared.stepped.Stepped.{Stepped}}
use Rattle.piton_semantics.specs.{declared.stepped.PitonRun.{PitonRun}, State.{PitonState, Frame, program_of}, Views.{◌>>=◌}}
use Rattle.piton_semantics.specs.{Step.{piton_step, step_cost}, Fits.{IsState}}
use Rattle.piton_semantics.specs.declared.stepped.Stepped.TheVariants as stepped
use Rattle.piton_semantics.specs.declared.stepped.PitonRun.TheVariants as ran
use Rattle.piton_check.specs.Instruction.{SystemView}

-- the state itself, for how many words its two stacks have room, how many steps it made, and their cost
pub record Seen : Type 0 where
  pub state : PitonState
  pub ctrl : ℕ
  pub temp : ℕ
  pub steps : ℕ
  pub counted : ℕ

-- a state of a run of this system, whose stacks have the room that the system says
pub record IsSeen (s : SystemView) (v : Seen) : Type 0 where
  pub state : IsState s v.state
  pub ctrl : v.ctrl ≡ s.ctrl
  pub temp : v.temp ≡ s.temp

-- a count stays at the greatest number of 64 bits
abbrev pub saturated : ℕ → ℕ
saturated n = min n (2 ^ 64 - 1)

-- a step with its counts; one of a halted state counts nothing
abbrev pub seen_after : SystemView → Seen → PitonState → Seen
seen_after s v q = record v { state = q; steps = saturated (v.steps + 1); counted = saturated (v.counted + step_cost s v.state) }

abbrev pub seen_from : SystemView → Seen → List Frame → Result Seen ErrorKind
seen_from s v [] = Ok v
seen_from s v (f ∷ fs) = piton_step s v.state >>= λ q. Ok (seen_after s v q)

abbrev pub seen_step : SystemView → Seen → Result Seen ErrorKind
seen_step s v = seen_from s v v.state.frames

-- what a step answers: a state without frames has halted
abbrev pub answer_by : List Frame → Stepped
answer_by [] = stepped.Halted
answer_by (f ∷ fs) = stepped.Next

abbrev pub answer_of : Result Seen ErrorKind → Stepped
answer_of (Ok v) = answer_by v.state.frames
answer_of (Err kind) = stepped.Error kind

-- what a step leaves: an error changes nothing
abbrev pub left_of : Seen → Result Seen ErrorKind → Seen
left_of v (Ok w) = w
left_of v (Err kind) = v

-- how a run ends, and what it leaves
pub record Ran : Type 0 where
  pub run : PitonRun
  pub seen : Seen

abbrev pub end_by : List Frame → PitonRun
end_by [] = ran.Halted
end_by (f ∷ fs) = ran.Spent

abbrev pub ran_on : Seen → Result Seen ErrorKind → (Seen → Ran) → Ran
ran_on v (Ok w) go = go w
ran_on v (Err kind) go = record { run = ran.Error kind; seen = v }

-- a run of at most so many steps
unfoldable pub state_run : SystemView → ℕ → Seen → Ran
state_run s zero v = record { run = end_by v.state.frames; seen = v }
state_run s (suc limit) v = ran_on v (seen_step s v) (state_run s limit)

-- the opening state of a system with this initial stack, from the bottom up
abbrev pub started : SystemView → List Word → PitonState
started s stack = record {
  program = s.main;
  place = 0;
  frames = record { locals = (program_of s s.main).temporaries; program = s.main; place = 0 } ∷ [];
  stack = reverse stack;
  areas = s.areas;
}

abbrev pub opening : SystemView → List Word → Seen
opening s stack = record { state = started s stack; ctrl = s.ctrl; temp = s.temp; steps = 0; counted = 0 }

-- the words of an area
abbrev pub words_in : {Z : Type 0} → Vec Word Z → List Word
words_in area = area.items
