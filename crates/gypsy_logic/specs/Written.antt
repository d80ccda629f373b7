-- What a statement writes.
use Rattle.std.specs.Prelude.{◌≡◌, ℕ, List, [], ◌∷◌, ◌++◌}
use Rattle.stack_text.specs.Values.{ValueOf}
use Rattle.gypsy_syntax.specs.{Programs.{Stmt, Skip, NoOp, Signal, Seq, Loop, If, Begin, Call, Apply}, ProgramFits.{Misses}}
use Rattle.gypsy_syntax.specs.Effects.{value_at}
use Rattle.gypsy_semantics.specs.Calls.{target_of}

-- the variables that a statement may change, by their positions: a call those that it is given
abbrev pub written : Stmt → List ℕ
written Skip = []
written (NoOp place) = []
written (Signal place c) = []
written (Seq a b) = written a ++ written b
written (Loop place s) = written s
written (If place b s w) = written s ++ written w
written (Begin place s cs w) = written s ++ written w
written (Call place p xs cs) = xs
written (Apply place r args) = target_of args ∷ []

-- all other variables have the values in y that they had in x
abbrev pub KeepsOthers : List ℕ → List ValueOf → List ValueOf → Type 0
KeepsOthers bs x y = (b : ℕ) → Misses b bs → value_at y b ≡ value_at x b
