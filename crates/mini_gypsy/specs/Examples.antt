-- Worked programs: what they do.
use Rattle.std.specs.Prelude.{◌≡◌, pos, [], ◌∷◌, Some, None, true, false}
use Rattle.gypsy_syntax.specs.{Effects.{integer_value, truth_value}, Programs.{Routine}}
use Rattle.gypsy_semantics.specs.Meaning.{Done, Unfinished}
use Rattle.mini_syntax.specs.{declared.sort.Sort.TheVariants.{Int}, declared.operator.Infix.TheVariants.{AtMost, Add, Subtract, Multiply}}
use Rattle.mini_syntax.specs.Language.{Stmt, Variable, Number, Between, Nothing, Then, Assign, While}
use Rattle.mini_gypsy.specs.Meant.{program_run}

-- `b := x <= x; x := x + 1;`, with x before b
abbrev pub too_large : Stmt
too_large =
    Then (Assign 1 (Between AtMost (Variable Int 0) (Variable Int 0)))
    (Then (Assign 0 (Between Add (Variable Int 0) (Number 1))) Nothing)

-- `while 1 <= x { s := s + x * x; x := x - 1; }`, with x before s
abbrev pub squares : Stmt
squares =
    Then
    (While (Between AtMost (Number 1) (Variable Int 0))
    (Then (Assign 1 (Between Add (Variable Int 1) (Between Multiply (Variable Int 0) (Variable Int 0))))
    (Then (Assign 0 (Between Subtract (Variable Int 0) (Number 1))) Nothing)))
    Nothing

pub record ProgramsDo : Type 0 where
  -- the first assignment stays, and the second ends the program
  pub overflows : program_run too_large (integer_value (pos 2147483647) ∷ truth_value false ∷ []) 1 ≡
      Done (integer_value (pos 2147483647) ∷ truth_value true ∷ []) (Some Routine)
  -- three rounds, and a test that is false
  pub adds : program_run squares (integer_value (pos 3) ∷ integer_value (pos 0) ∷ []) 4 ≡
      Done (integer_value (pos 0) ∷ integer_value (pos 14) ∷ []) None
  pub is_bounded : program_run squares (integer_value (pos 3) ∷ integer_value (pos 0) ∷ []) 3 ≡ Unfinished
