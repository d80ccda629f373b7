-- Larger stacks change no run in which spaceerror is never raised.
use Rattle.std.specs.Prelude.{◌≡◌, ◌↔◌, ℕ, List}
use Rattle.stack_text.specs.Values.{ValueOf}
use Rattle.gypsy_syntax.specs.{ProgramFits.{ProgramFits}, Programs.{Program}}
use Rattle.gypsy_space.specs.{Costs.{Tally}, Needs.{StackSizes}}
use Rattle.gypsy_semantics.specs.{Calls.{CurrentCondition}, Counted.{CountedDone, counted_meaning}, Views.Moments.{moment_from}}
use Rattle.space_cert.specs.{Covers.{Bounds, Covers, IsAtMost}, Never.{NeverSpaceError}}

-- the meaning is done at some bound, with these values, this condition and these costs
abbrev pub EndsWith : Program → StackSizes → List ValueOf → List ValueOf → CurrentCondition → Tally → Type 0
EndsWith q sizes v x c t = (n : ℕ) × (counted_meaning q sizes v n ≡ CountedDone x c t)

-- From these values a run with stacks of the sizes s and one with stacks of the sizes t are the same at every moment, and end with
-- the same after the same costs, if at all.
pub record IsSameRun (q : Program) (s t : StackSizes) (v : List ValueOf) : Type 0 where
  pub moments : (j : ℕ) → moment_from q s v j ≡ moment_from q t v j
  pub ends : (x : List ValueOf) (c : CurrentCondition) (u : Tally) → EndsWith q s v x c u ↔ EndsWith q t v x c u

-- So it is where spaceerror is never raised with the smaller ones.
abbrev pub LargerStacksChangeNothing : Type 0
LargerStacksChangeNothing =
    (q : Program) (s t : StackSizes) (v : List ValueOf) → NeverSpaceError q s v → IsAtMost s t → IsSameRun q s t v

-- So it is at all sizes from those that a certificate covers.
abbrev pub CoveredRunsAreTheSame : Type 0
CoveredRunsAreTheSame =
    (q : Program) (bs : Bounds) (s t : StackSizes) (v : List ValueOf) → ProgramFits q → Covers q bs s → IsAtMost s t →
    IsSameRun q s t v
