-- What the guard of a call does, in any system and any state.
use Rattle.std.specs.Prelude.{◌≡◌, ℕ, ◌+◌, ◌-◌, ◌<◌, ◌≤◌, ◌∷◌, List, length, Err}
use Rattle.piton_words.specs.declared.word.Word.TheVariants.{Nat}
use Rattle.piton_check.specs.Instruction as i
use Rattle.piton_check.specs.Instruction.{SystemView}
use Rattle.piton_semantics.specs.{declared.error_kind.ErrorKind.TheVariants.{TempFull}, State.{Frame, PitonState, program_of, ctrl_used}}
use Rattle.piton_semantics.specs.{InstructionRows.{row_of, to_next}, Step.{piton_run}, Law.{Steps}}
use Rattle.stack_text.specs.Values.{ValueOf}
use Rattle.gypsy_syntax.specs.Programs.{ConditionOf, Program, Call}
use Rattle.gypsy_space.specs.{Costs.{Tally}, Needs.{StackSizes}}
use Rattle.gypsy_semantics.specs.Machine as machine
use Rattle.gypsy_semantics.specs.{Machine.{Item, Do, State, At}, Kept.{StateFits}, Room.{StateRoom}}
use Rattle.gypsy_codegen.specs.{Guard.{guard_code, guard_size}, Showing.{HasAt, StandsAs}}

-- a state with a frame, at the guard of a call that needs these words and goes to this place without them
pub record IsAtGuard (s : SystemView) (need : StackSizes) (to : ℕ) (p : PitonState) : Type 0 where
  pub frame : Frame
  pub older : List Frame
  pub frames : p.frames ≡ frame ∷ older
  pub code : HasAt (program_of s p.program).instructions p.place (guard_code need to)

-- the state at another place, with all else as it is
abbrev pub moved_to : PitonState → ℕ → PitonState
moved_to p place = record p { place = place }

-- Which way the guard goes, in how many steps, at which cost, none of them an error: to the place for calls without room exactly
-- where a stack lacks room, and else behind the guard. All but the place is as before.
pub record Guards (s : SystemView) (need : StackSizes) (to : ℕ) (p : PitonState) : Type 0 where
  pub temp_lacks : s.temp < length p.stack + need.temp → Steps s 4 11 p (moved_to p to)
  pub ctrl_lacks : length p.stack + need.temp ≤ s.temp → s.ctrl < ctrl_used p.frames + need.ctrl → Steps s 8 22 p (moved_to p to)
  pub has_room : length p.stack + need.temp ≤ s.temp → ctrl_used p.frames + need.ctrl ≤ s.ctrl →
      Steps s guard_size 22 p (moved_to p (p.place + guard_size))

-- It pushes two words itself, and asks for these alone.
abbrev pub GuardsCalls : Type 0
GuardsCalls = (s : SystemView) (need : StackSizes) (to : ℕ) (p : PitonState) → IsAtGuard s need to p →
    length p.stack + 2 ≤ s.temp → ctrl_used p.frames ≤ s.ctrl → Guards s need to p

-- with one word free alone, its second step is an error
abbrev pub GuardWantsTwo : Type 0
GuardWantsTwo = (s : SystemView) (need : StackSizes) (to : ℕ) (p : PitonState) → IsAtGuard s need to p →
    length p.stack + 1 ≡ s.temp → piton_run s 2 p ≡ Err TempFull

-- the step machine's state before a call
abbrev pub before_call : ℕ → List ValueOf → ℕ → ℕ → List ℕ → List ConditionOf → List Item → List machine.Frame → Tally → State
before_call p x place c xs cs w fs t = At p x (Do (Call place c xs cs) ∷ w) fs t

-- a state of the generated system that stands before a call has these two words free
abbrev pub CallsHaveTwo : Type 0
CallsHaveTwo = (q : Program) (sizes : StackSizes) (a : PitonState) (p : ℕ) (x : List ValueOf) (place c : ℕ) (xs : List ℕ)
    (cs : List ConditionOf)
    (w : List Item) (fs : List machine.Frame) (t : Tally) →
    let g = before_call p x place c xs cs w fs t in
    StateFits q g → StateRoom q sizes g → StandsAs q a g → length a.stack + 2 ≤ sizes.temp

-- the free words of the temporary stack are those before the push
abbrev pub FreeIsBefore : Type 0
FreeIsBefore = (s : SystemView) (p : PitonState) → length p.stack < s.temp →
    row_of s p i.PushTempStkFreeSize ≡ to_next p (Nat (s.temp - length p.stack) ∷ p.stack)
