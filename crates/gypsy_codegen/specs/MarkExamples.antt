-- Closed programs: their marks, and the moments of a run.
use Rattle.std.specs.Prelude.{◌≡◌, ℕ, pos, List, [], ◌∷◌, map, None}
use Rattle.stack_text.specs.declared.shape.Kind.TheVariants.{Integer, Boolean}
use Rattle.piton_semantics.specs.Placed.{address_of_place}
use Rattle.gypsy_syntax.specs.declared.predef.Predef.TheVariants as row
use Rattle.gypsy_syntax.specs.Programs.{Leave, Routine, Var, Lit, Program, simple, NoOp, Signal, Seq, Loop, If, Begin, Call, Apply}
use Rattle.gypsy_syntax.specs.Effects.{integer_value}
use Rattle.gypsy_semantics.specs.Machine.{At, Next, Ended}
use Rattle.gypsy_codegen.specs.{declared.marking.MarkAt.{MarkAt}, Examples.{ample}, Generated.{generated_view}, Marks.{mark_at, marks_of}}
use Rattle.gypsy_codegen.specs.Moments.{moment_from}

-- `(program main (proc main ((x integer)) () () () (mg-simple-constant-assignment x 7)))`, with the places of its text
abbrev pub first_program : Program
first_program = record {
  main = 0;
  procs =
      record {
        place = 14;
        formals = simple Integer ∷ [];
        locals = [];
        conds = 0;
        local_conds = 0;
        body = Apply 48 row.MgSimpleConstantAssignment (Var 0 ∷ Lit (integer_value (pos 7)) ∷ []);
      } ∷ [];
}

-- each form of statement, and a procedure that is called
abbrev pub all_forms : Program
all_forms = record {
  main = 0;
  procs =
      record {
        place = 5;
        formals = simple Boolean ∷ [];
        locals = [];
        conds = 0;
        local_conds = 0;
        body =
            Loop 10
            (If 20 0 (Signal 30 Leave) (Begin 40 (NoOp 50) (Routine ∷ []) (Seq (NoOp 60) (Call 70 1 [] []))));
      } ∷
      record { place = 75; formals = []; locals = []; conds = 0; local_conds = 0; body = NoOp 80 } ∷ [];
}

-- the addresses of the marks, from 0 on
abbrev pub addresses_of_marks : Program → List ℕ
addresses_of_marks q = map (λ m. address_of_place (generated_view q ample 0) m.program m.at) (marks_of q)

abbrev pub end_marks : List MarkAt
end_marks =
    mark_at 0 33 40 ∷ mark_at 0 34 20 ∷ mark_at 0 35 10 ∷ mark_at 0 38 5 ∷ mark_at 0 39 5 ∷ mark_at 0 41 5 ∷
    mark_at 1 0 80 ∷ mark_at 1 1 75 ∷ mark_at 1 2 75 ∷ mark_at 1 4 75 ∷ []

pub record MarksAre : Type 0 where
  pub first : marks_of first_program ≡ mark_at 0 0 48 ∷ mark_at 0 3 14 ∷ mark_at 0 4 14 ∷ mark_at 0 6 14 ∷ []
  pub first_addresses : addresses_of_marks first_program ≡ 4 ∷ 14 ∷ 16 ∷ 21 ∷ []
  pub all : marks_of all_forms ≡
      mark_at 0 0 10 ∷ mark_at 0 1 20 ∷ mark_at 0 4 30 ∷ mark_at 0 7 20 ∷ mark_at 0 9 50 ∷ mark_at 0 10 40 ∷ mark_at 0 13 60 ∷
      mark_at 0 14 70 ∷ end_marks
  -- a run of the first program, and what its step machine spent
  pub begins : moment_from first_program ample (integer_value (pos 0) ∷ []) 1 ≡
      Next (At 0 (integer_value (pos 7) ∷ []) [] [] record { count = 23; steps = 7 })
  pub ends : moment_from first_program ample (integer_value (pos 0) ∷ []) 2 ≡
      Ended (integer_value (pos 7) ∷ []) None record { count = 28; steps = 9 }
  pub stays : moment_from first_program ample (integer_value (pos 0) ∷ []) 5 ≡
      Ended (integer_value (pos 7) ∷ []) None record { count = 28; steps = 9 }
