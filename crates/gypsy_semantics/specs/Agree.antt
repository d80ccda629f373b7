-- The agreement of the step machine with the meaning.
use Rattle.std.specs.Prelude.{◌≡◌, ℕ, suc, List}
use Rattle.stack_text.specs.Values.{ValueOf}
use Rattle.gypsy_syntax.specs.Programs.{Program}
use Rattle.gypsy_space.specs.{Costs.{Tally}, Needs.{StackSizes}}
use Rattle.gypsy_semantics.specs.{Calls.{CurrentCondition}, Counted.{CountedDone, counted_meaning}, Machine.{Over, run, start}}

-- a run that ends in j steps is the meaning at j + 1; and a meaning that is done is a run.
-- The instructions and the steps of Piton that the machine counts are those counted along the meaning.
pub record Agree (q : Program) (sizes : StackSizes) (v : List ValueOf) : Type 0 where
  pub ended : (j : ℕ) (x : List ValueOf) (c : CurrentCondition) (t : Tally) →
      run q sizes j (start q v) ≡ Over x c t → counted_meaning q sizes v (suc j) ≡ CountedDone x c t
  pub done : (n : ℕ) (x : List ValueOf) (c : CurrentCondition) (t : Tally) →
      counted_meaning q sizes v n ≡ CountedDone x c t → (j : ℕ) × (run q sizes j (start q v) ≡ Over x c t)
