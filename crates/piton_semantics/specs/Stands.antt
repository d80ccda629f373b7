-- A machine that stands for a state of Piton.
use Rattle.std.specs.Prelude.{◌≡◌, ℕ, ◌-◌, List, [], ◌∷◌, ◌++◌, length, map, Ok}
use Rattle.fm_machine.specs.State.{Fm}
use Rattle.fm_code.specs.{Areas.{joined}, Execution.{View, view, HasView, Arrives}}
use Rattle.piton_check.specs.Instruction.{SystemView}
use Rattle.piton_semantics.specs.{State.{Frame, PitonState}, Step.{piton_step, step_cost}, Fits.{IsState}, Addresses.{Addresses}}
use Rattle.piton_semantics.specs.{Addresses.{parts_with, numbers}, Placed.{addresses_of, code_of}}

-- where a frame returns to: the oldest one to the final program counter
abbrev pub return_address : Addresses → Frame → List Frame → ℕ
return_address A f [] = A.final_pc
return_address A f (g ∷ fs) = A.place_at f.program f.place

-- the first address of frames that take these words: 0 where there is none
abbrev pub pointer_to : Addresses → List Frame → List ℕ → ℕ
pointer_to A [] words = 0
pointer_to A (f ∷ fs) words = A.temp_at - length words

-- What frames are on the control stack, from its top: each its locals by offset, the first address of the next older, and
-- its return address.
abbrev pub frame_words : Addresses → List Frame → List ℕ
frame_words A [] = []
frame_words A (f ∷ fs) = numbers A f.locals ++ (pointer_to A fs (frame_words A fs) ∷ return_address A f fs ∷ frame_words A fs)

-- the address of a state's place; that of a halted one is the final program counter
abbrev pub address_from : Addresses → PitonState → List Frame → ℕ
address_from A p [] = A.final_pc
address_from A p (f ∷ fs) = A.place_at p.program p.place

-- what a machine has that stands for a state: the frame's address, the program counter, both stacks and the areas
abbrev pub view_of : Addresses → PitonState → View
view_of A p =
    let frames = frame_words A p.frames in
    view (pointer_to A p.frames frames) (address_from A p p.frames) frames (numbers A p.stack) (joined (map (numbers A) p.areas))

-- A machine with this code stands for a state. Registers 3 to 14 and all flags are free, as are the words of both stacks
-- that are not in use.
pub record StandsAt (A : Addresses) (code : List ℕ) (m : Fm) (p : PitonState) : Type 0 where
  pub is : HasView (parts_with A code) m (view_of A p)

-- n instructions lead from a machine inside the window to one that stands for a state, with the final program counter at no
-- count below n
pub record SimulatesAt (A : Addresses) (code : List ℕ) (n : ℕ) (m : Fm) (p : PitonState) : Type 0 where
  pub comes : Arrives (parts_with A code) n m (view_of A p)

-- the same of a placed system
abbrev pub Stands : SystemView → Fm → PitonState → Type 0
Stands s m p = StandsAt (addresses_of s) (code_of s) m p

abbrev pub Simulates : SystemView → ℕ → Fm → PitonState → Type 0
Simulates s n m p = SimulatesAt (addresses_of s) (code_of s) n m p

-- The code at a place does the steps from there: from a machine that stands for a state at this place whose step is no error,
-- as many instructions as the step costs lead to one that stands for the next state.
abbrev pub DoesStepsAt : SystemView → ℕ → ℕ → Type 0
DoesStepsAt s program place = (m : Fm) (p q : PitonState) → p.program ≡ program → p.place ≡ place → IsState s p →
    Stands s m p → piton_step s p ≡ Ok q → Simulates s (step_cost s p) m q
