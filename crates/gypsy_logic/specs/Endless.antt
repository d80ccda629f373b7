-- How it is said that a program never ends.
use Rattle.std.specs.Prelude.{◌≡◌, ℕ, List}
use Rattle.stack_text.specs.Values.{ValueOf}
use Rattle.gypsy_syntax.specs.Programs.{Program, Stmt}
use Rattle.gypsy_space.specs.Needs.{StackSizes}
use Rattle.gypsy_semantics.specs.Meaning.{Unfinished, evaluate, meaning}
use Rattle.gypsy_logic.specs.Ends.{Exit}

-- From the variables x, with u words of the two stacks in use, the statement s is done within no bound.
pub record Endless (q : Program) (sizes u : StackSizes) (s : Stmt) (x : List ValueOf) : Type 0 where
  pub unfinished : (n : ℕ) → evaluate q sizes n s u x ≡ Unfinished

-- The meaning of the program on the values v is done within no bound.
pub record IsEndless (q : Program) (sizes : StackSizes) (v : List ValueOf) : Type 0 where
  pub unfinished : (n : ℕ) → meaning q sizes v n ≡ Unfinished

-- an exit that is never taken
abbrev pub NoExit : Exit
NoExit y c = ⊥
