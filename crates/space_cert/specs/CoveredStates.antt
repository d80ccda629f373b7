-- What every state of the step machine keeps, where a certificate covers the program: the words in use in each activation, and
-- the bounds of its procedure, are within the sizes.
use Rattle.std.specs.Prelude.{◌≡◌, ℕ, List, [], ◌∷◌, Some}
use Rattle.gypsy_syntax.specs.Programs.{Program}
use Rattle.gypsy_space.specs.Needs.{StackSizes}
use Rattle.gypsy_semantics.specs.Machine.{Item, Do, Back, JoinThen, JoinOne, Guard, Out, Frame, Held, State, At, used}
use Rattle.space_cert.specs.Covers.{Bounds, bound_at, words_sum, IsAtMost, CoversCalls}

-- no call in the work takes more than b
abbrev pub WorkCovered : Program → Bounds → StackSizes → List Item → Type 0
WorkCovered q bs b [] = Unit {0}
WorkCovered q bs b (Do s ∷ w) = CoversCalls q bs b s × WorkCovered q bs b w
WorkCovered q bs b (Back place s ∷ w) = CoversCalls q bs b s × WorkCovered q bs b w
WorkCovered q bs b (JoinThen place v ∷ w) = WorkCovered q bs b w
WorkCovered q bs b (JoinOne place ∷ w) = WorkCovered q bs b w
WorkCovered q bs b (Guard place cs v ∷ w) = CoversCalls q bs b v × WorkCovered q bs b w
WorkCovered q bs b (Out c ∷ w) = WorkCovered q bs b w

-- an activation of p with this work, where these words are in use
pub record ActivationCovered (q : Program) (bs : Bounds) (sizes : StackSizes) (p : ℕ) (w : List Item) (u : StackSizes) : Type 0 where
  pub bound : StackSizes
  pub known : bound_at bs p ≡ Some bound
  pub work : WorkCovered q bs bound w
  pub within : IsAtMost (words_sum u bound) sizes

-- those that wait
abbrev pub WaitingCovered : Program → Bounds → StackSizes → List Frame → Type 0
WaitingCovered q bs sizes [] = Unit {0}
WaitingCovered q bs sizes (Held c x w xs cs ∷ fs) =
    ActivationCovered q bs sizes c w (used q c fs) × WaitingCovered q bs sizes fs

abbrev pub StateCovered : Program → Bounds → StackSizes → State → Type 0
StateCovered q bs sizes (At p x w fs t) = ActivationCovered q bs sizes p w (used q p fs) × WaitingCovered q bs sizes fs
