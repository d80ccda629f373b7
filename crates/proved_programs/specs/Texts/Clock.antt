-- The text of examples/counting/clock.gypsy and its program, as guide/definitions_of.py prints them.
use Rattle.std.specs.Prelude.{ℕ, pos, false, List, [], ◌∷◌, ◌++◌, codes}
use Rattle.stack_text.specs.declared.shape.Kind.TheVariants.{Integer}
use Rattle.gypsy_syntax.specs.declared.predef.Predef.TheVariants as row
use Rattle.gypsy_syntax.specs.{Effects.{integer_value, truth_value}, Programs.{Leave, Var, Lit, simple, Proc, Program, Stmt, Skip, NoOp}}
use Rattle.gypsy_syntax.specs.Programs.{Signal, Seq, Loop, If, Apply}

unfoldable pub clock_text : List ℕ
clock_text =
    codes "; Goes on by two hours at a time until the clock stands at 0: from an odd hour it never does." ++ 10 ∷
    codes "(program main" ++ 10 ∷
    codes "(proc main ((hour integer)) ()" ++ 10 ∷
    codes "  ((is-there boolean false) (is-past boolean false) (two integer 2) (twelve integer 12)) ()" ++ 10 ∷
    codes "(loop (seq" ++ 10 ∷
    codes "  (mg-simple-constant-eq is-there hour 0)" ++ 10 ∷
    codes "  (if is-there (signal leave) (no-op))" ++ 10 ∷
    codes "  (mg-integer-add hour hour two)" ++ 10 ∷
    codes "  (mg-integer-le is-past twelve hour)" ++ 10 ∷
    codes "  (if is-past (mg-integer-subtract hour hour twelve) (no-op))))))" ++ 10 ∷ []

abbrev pub clock_main_round_1 : Stmt
clock_main_round_1 =
    (Seq (Apply 244 row.MgSimpleConstantEq (Var 1 ∷ Var 0 ∷ Lit (integer_value (pos 0)) ∷ []))
    (Seq (If 286 1
    (Signal 299 Leave)
    (NoOp 314))
    (Seq (Apply 325 row.MgIntegerAdd (Var 0 ∷ Var 0 ∷ Var 3 ∷ []))
    (Seq (Apply 358 row.MgIntegerLe (Var 2 ∷ Var 4 ∷ Var 0 ∷ []))
    (Seq (If 396 2
    (Apply 408 row.MgIntegerSubtract (Var 0 ∷ Var 0 ∷ Var 4 ∷ []))
    (NoOp 447))
    Skip)))))

abbrev pub clock_main_body : Stmt
clock_main_body =
    (Loop 231 clock_main_round_1)

abbrev pub clock_main_proc : Proc
clock_main_proc = record {
  place = 108;
  formals = simple Integer ∷ [];
  locals =
      truth_value false ∷
      truth_value false ∷
      integer_value (pos 2) ∷
      integer_value (pos 12) ∷
      [];
  conds = 0;
  local_conds = 0;
  body = clock_main_body;
}

abbrev pub clock_program : Program
clock_program = record { main = 0; procs = clock_main_proc ∷ [] }
