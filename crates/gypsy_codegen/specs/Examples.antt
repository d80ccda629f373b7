-- Closed programs: the generated system computes, so that runs are seen whole.
use Rattle.std.specs.Prelude.{◌≡◌, ℕ, ℤ, pos, negsuc, List, [], ◌∷◌, true, false, Option, Some, None, Ok, Err}
use Rattle.stack_text.specs.{declared.shape.Kind.TheVariants.{Integer, Boolean}, declared.shape.Shape.{Shape}, Values.{ValueOf}}
use Rattle.piton_words.specs.{declared.word.Word.{Word}, declared.word.Word.TheVariants.{Int, Nat, Bool as Truth}}
use Rattle.piton_semantics.specs.State as piton
use Rattle.piton_semantics.specs.{State.{PitonState}, InstructionRows.{Row}, Step.{piton_run, run_cost}}
use Rattle.gypsy_syntax.specs.declared.predef.Predef.TheVariants as row
use Rattle.gypsy_syntax.specs.Programs.{Leave, Routine, Declared, Var, Lit, Proc, Program, simple, Stmt, NoOp, Signal, Seq, Loop, If, Begin}
use Rattle.gypsy_syntax.specs.{Programs.{Call, Apply}, Effects.{integer_value, truth_value}}
use Rattle.gypsy_space.specs.Needs.{StackSizes}
use Rattle.gypsy_codegen.specs.{Generated.{generated_view}, Whole.{opened}}

abbrev pub ample : StackSizes
ample = record { temp = 100; ctrl = 100 }

abbrev pub halted_words : List piton.Frame → PitonState → Option (List (List Word) × List Word)
halted_words [] p = Some (p.areas, p.stack)
halted_words (f ∷ fs) p = None

-- the areas and the stack of a halted state
abbrev pub halted_with : Row → Option (List (List Word) × List Word)
halted_with (Ok p) = halted_words p.frames p
halted_with (Err e) = None

-- with stacks of these sizes, from these values of main's formals the system halts after so many steps at this cost, with this
-- number in `c-c` and this stack, its top first
abbrev pub EndsIn : StackSizes → Program → List ValueOf → ℕ → ℕ → ℕ → List Word → Type 0
EndsIn sizes q v steps cost c stack =
    (halted_with (piton_run (generated_view q sizes 0) steps (opened q sizes 0 v)) ≡ Some ((Nat c ∷ []) ∷ [], stack)) ×
    (run_cost (generated_view q sizes 0) steps (opened q sizes 0 v) ≡ cost)

abbrev pub Ends : Program → List ValueOf → ℕ → ℕ → ℕ → List Word → Type 0
Ends q v steps cost c stack = EndsIn ample q v steps cost c stack

abbrev pub procedure : List Shape → List ValueOf → ℕ → ℕ → Stmt → Proc
procedure formals locals conds local_conds body =
    record { place = 0; formals = formals; locals = locals; conds = conds; local_conds = local_conds; body = body }

abbrev pub one_procedure : Proc → Program
one_procedure p = record { main = 0; procs = p ∷ [] }

abbrev pub two_procedures : Proc → Proc → Program
two_procedures main p = record { main = 0; procs = main ∷ p ∷ [] }

abbrev pub only_body : Stmt → Program
only_body body = one_procedure (procedure [] [] 0 0 body)

abbrev pub assignment : Program
assignment =
    one_procedure (procedure (simple Integer ∷ []) [] 0 0
    (Apply 0 row.MgSimpleConstantAssignment (Var 0 ∷ Lit (integer_value (pos 7)) ∷ [])))

abbrev pub branching : Program
branching = one_procedure (procedure (simple Boolean ∷ []) [] 0 0 (If 0 0 (NoOp 0) (NoOp 0)))

abbrev pub addition : Program
addition =
    one_procedure (procedure (simple Integer ∷ simple Integer ∷ []) [] 0 0 (Apply 0 row.MgIntegerAdd (Var 0 ∷ Var 0 ∷ Var 1 ∷ [])))

abbrev pub three_items : ValueOf
three_items = record { shape = record { kind = Integer; length = 3 }; items = pos 10 ∷ pos 20 ∷ pos 30 ∷ [] }

abbrev pub indexing : Program
indexing =
    one_procedure (procedure (simple Integer ∷ record { kind = Integer; length = 3 } ∷ simple Integer ∷ []) [] 0 0
    (Apply 0 row.MgIndexArray (Var 0 ∷ Var 1 ∷ Var 2 ∷ [])))

-- the stack behind it, where the result and the index are these
abbrev pub index_words_of : ℤ → ℤ → List Word
index_words_of x i = Int i ∷ Int (pos 30) ∷ Int (pos 20) ∷ Int (pos 10) ∷ Int x ∷ []

abbrev pub index_values : ℤ → List ValueOf
index_values i = integer_value (pos 0) ∷ three_items ∷ integer_value i ∷ []

-- a call of a procedure without variables
abbrev pub calling : Program
calling = two_procedures (procedure [] [] 0 0 (Call 0 1 [] [])) (procedure [] [] 0 0 (NoOp 0))

-- n down to 0, a call for each
abbrev pub countdown : Program
countdown =
    two_procedures (procedure (simple Integer ∷ []) [] 0 0 (Call 0 1 (0 ∷ []) []))
    (procedure (simple Integer ∷ []) (truth_value false ∷ integer_value (pos 1) ∷ []) 0 0
    (Seq (Apply 0 row.MgSimpleConstantEq (Var 1 ∷ Var 0 ∷ Lit (integer_value (pos 0)) ∷ []))
    (If 0 1 (NoOp 0) (Seq (Apply 0 row.MgIntegerSubtract (Var 0 ∷ Var 0 ∷ Var 2 ∷ [])) (Call 0 1 (0 ∷ []) [])))))

-- stacks in which it comes to 0, and with a word less of one of them not
abbrev pub enough : StackSizes
enough = record { temp = 10; ctrl = 24 }

abbrev pub less_ctrl : StackSizes
less_ctrl = record { temp = 10; ctrl = 23 }

abbrev pub less_temp : StackSizes
less_temp = record { temp = 9; ctrl = 24 }

-- a condition that the callee signals is handled under the caller's own
abbrev pub handling : Program
handling =
    two_procedures
    (procedure (simple Integer ∷ []) [] 0 1
    (Begin 0 (Call 0 1 [] (Declared 0 ∷ [])) (Declared 0 ∷ [])
    (Apply 0 row.MgSimpleConstantAssignment (Var 0 ∷ Lit (integer_value (pos 5)) ∷ []))))
    (procedure [] [] 1 0 (Signal 0 (Declared 0)))

-- a handler that stands later doesn't catch what was signalled before it
abbrev pub later_handler : Program
later_handler =
    one_procedure (procedure (simple Integer ∷ []) [] 0 0
    (Seq (Signal 0 Routine) (Begin 0 (NoOp 0) (Routine ∷ [])
    (Apply 0 row.MgSimpleConstantAssignment (Var 0 ∷ Lit (integer_value (pos 5)) ∷ [])))))

pub record ExamplesEnd : Type 0 where
  pub nothing : Ends (only_body (NoOp 0)) [] 3 6 2 []
  pub assigned : Ends assignment (integer_value (pos 0) ∷ []) 9 28 2 (Int (pos 7) ∷ [])
  pub left : Ends (only_body (Loop 0 (Signal 0 Leave))) [] 8 13 2 []
  pub signalled : Ends (only_body (Signal 0 Routine)) [] 6 11 1 []
  pub is_true : Ends branching (truth_value true ∷ []) 8 16 2 (Truth true ∷ [])
  pub is_false : Ends branching (truth_value false ∷ []) 8 16 2 (Truth false ∷ [])
  pub called : Ends calling [] 18 44 2 []
  pub overflowed : Ends addition (integer_value (pos 2147483647) ∷ integer_value (pos 1) ∷ []) 21 61 1
      (Int (pos 1) ∷ Int (pos 2147483647) ∷ [])
  pub indexed : Ends indexing (index_values (pos 2)) 26 74 2 (index_words_of (pos 30) (pos 2))
  pub too_high : Ends indexing (index_values (pos 3)) 22 62 1 (index_words_of (pos 0) (pos 3))
  pub negative : Ends indexing (index_values (negsuc 0)) 18 49 1 (index_words_of (pos 0) (negsuc 0))
  pub counted_down : Ends countdown (integer_value (pos 2) ∷ []) 149 423 2 (Int (pos 0) ∷ [])
  pub with_enough : EndsIn enough countdown (integer_value (pos 2) ∷ []) 149 423 2 (Int (pos 0) ∷ [])
  pub without_ctrl : EndsIn less_ctrl countdown (integer_value (pos 2) ∷ []) 122 350 3 (Int (pos 0) ∷ [])
  pub without_temp : EndsIn less_temp countdown (integer_value (pos 2) ∷ []) 118 339 3 (Int (pos 0) ∷ [])
  pub handled : Ends handling (integer_value (pos 1) ∷ []) 31 76 2 (Int (pos 5) ∷ [])
  pub formal_out : Ends (one_procedure (procedure [] [] 1 0 (Signal 0 (Declared 0)))) [] 5 8 4 []
  pub local_out : Ends (one_procedure (procedure [] [] 0 1 (Signal 0 (Declared 0)))) [] 6 11 1 []
  pub uncaught : Ends later_handler (integer_value (pos 1) ∷ []) 6 11 1 (Int (pos 1) ∷ [])
