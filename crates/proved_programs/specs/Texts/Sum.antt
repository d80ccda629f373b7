-- The text of examples/arrays/sum.gypsy and its program, as guide/definitions_of.py prints them.
use Rattle.std.specs.Prelude.{ℕ, pos, false, List, [], ◌∷◌, ◌++◌, codes}
use Rattle.stack_text.specs.declared.shape.Kind.TheVariants.{Integer}
use Rattle.gypsy_syntax.specs.declared.predef.Predef.TheVariants as row
use Rattle.gypsy_syntax.specs.{Effects.{integer_value, truth_value}, Programs.{Leave, Var, Lit, simple, Proc, Program, Stmt, Skip, NoOp}}
use Rattle.gypsy_syntax.specs.Programs.{Signal, Seq, Loop, If, Apply}

unfoldable pub sum_text : List ℕ
sum_text =
    codes "; The sum of an array's items." ++ 10 ∷
    codes "(program main" ++ 10 ∷
    codes "(proc main ((a (array integer 5)) (sum integer)) ()" ++ 10 ∷
    codes "  ((i integer 0) (item integer 0) (is-over boolean false) (one integer 1)) ()" ++ 10 ∷
    codes "(seq" ++ 10 ∷
    codes "  (mg-simple-constant-assignment sum 0)" ++ 10 ∷
    codes "  (loop (seq" ++ 10 ∷
    codes "    (mg-simple-constant-eq is-over i 5)       ; items are counted from 0" ++ 10 ∷
    codes "    (if is-over (signal leave) (no-op))" ++ 10 ∷
    codes "    (mg-index-array item a i)" ++ 10 ∷
    codes "    (mg-integer-add sum sum item)" ++ 10 ∷
    codes "    (mg-integer-add i i one))))))" ++ 10 ∷ []

abbrev pub sum_main_round_1 : Stmt
sum_main_round_1 =
    (Seq (Apply 237 row.MgSimpleConstantEq (Var 4 ∷ Var 2 ∷ Lit (integer_value (pos 5)) ∷ []))
    (Seq (If 310 4
    (Signal 322 Leave)
    (NoOp 337))
    (Seq (Apply 350 row.MgIndexArray (Var 3 ∷ Var 0 ∷ Var 2 ∷ []))
    (Seq (Apply 380 row.MgIntegerAdd (Var 1 ∷ Var 1 ∷ Var 3 ∷ []))
    (Seq (Apply 414 row.MgIntegerAdd (Var 2 ∷ Var 2 ∷ Var 5 ∷ []))
    Skip)))))

abbrev pub sum_main_body : Stmt
sum_main_body =
    (Seq (Apply 182 row.MgSimpleConstantAssignment (Var 1 ∷ Lit (integer_value (pos 0)) ∷ []))
    (Seq (Loop 222 sum_main_round_1)
    Skip))

abbrev pub sum_main_proc : Proc
sum_main_proc = record {
  place = 45;
  formals = record { kind = Integer; length = 5 } ∷ simple Integer ∷ [];
  locals =
      integer_value (pos 0) ∷
      integer_value (pos 0) ∷
      truth_value false ∷
      integer_value (pos 1) ∷
      [];
  conds = 0;
  local_conds = 0;
  body = sum_main_body;
}

abbrev pub sum_program : Program
sum_program = record { main = 0; procs = sum_main_proc ∷ [] }
