-- The generated code with labels, numbered in each procedure from 0.
use Rattle.std.specs.Prelude.{ℕ, ◌+◌, List, [], ◌∷◌, ◌++◌, map, length, if◌then◌else◌, None}
use Rattle.piton_words.specs.declared.word.Word.TheVariants.{Nat}
use Rattle.piton_syntax.specs.declared.test_kind.TestFamily.TheVariants as family
use Rattle.piton_syntax.specs.declared.test_kind.TestKind.TheVariants as test
use Rattle.piton_check.specs.Instruction as i
use Rattle.piton_check.specs.Instruction.{Instruction}
use Rattle.gypsy_syntax.specs.Programs.{ConditionOf, Routine, Space, Program, proc_at, body_of, shapes_of, Stmt, Skip, NoOp, Signal, Seq}
use Rattle.gypsy_syntax.specs.Programs.{Loop, If, Begin, Call, Apply}
use Rattle.gypsy_space.specs.Needs.{local_words, call_need}
use Rattle.gypsy_semantics.specs.Calls.{has_cond, is_leave, is_passed_on}
use Rattle.gypsy_predef.specs.Calls.{test_code}
use Rattle.gypsy_codegen.specs.{WordsOf.{words_of_values, local_shapes, number_of, number_of_way}, Guard.{guard_code}, Generated.{Scope}}
use Rattle.gypsy_codegen.specs.Generated.{InLoop, InBegin, push_words, push_indices, push_actuals, push_args, length_code, offset}
use Rattle.gypsy_codegen.specs.{Generated.{predef_position}, Written.{Line, Plain, Marked}}

-- how many labels a statement takes
abbrev pub labels : Stmt → ℕ
labels Skip = 0
labels (NoOp place) = 0
labels (Signal place c) = 0
labels (Seq a b) = labels a + labels b
labels (Loop place s) = labels s + 2
labels (If place b s v) = labels s + labels v + 2
labels (Begin place s cs v) = labels s + labels v + 2
labels (Call place c xs cs) = length cs + 3
labels (Apply place r args) = 0

-- the label to which a condition goes, where the scopes hold labels: L1 or L0 out of the procedure
abbrev pub label_to : Program → ℕ → List Scope → ConditionOf → ℕ
label_to q p [] c = if is_passed_on q p c then 1 else 0
label_to q p (InLoop b ∷ env) c = if is_leave c then b else label_to q p env c
label_to q p (InBegin cs a ∷ env) c = if has_cond c cs then a else label_to q p env c

abbrev pub unmarked : List Instruction → List Line
unmarked is = map (λ ins. Plain ins) is

abbrev pub raise_lines : Program → ℕ → List Scope → ConditionOf → List Line
raise_lines q p env c = unmarked (i.PushConstant (Nat (number_of c)) ∷ i.PopGlobal 0 ∷ i.Jump (label_to q p env c) ∷ [])

-- the same, where its first instruction has a label
abbrev pub marked_raise : Program → ℕ → List Scope → ℕ → ConditionOf → List Line
marked_raise q p env l c =
    Marked l (i.PushConstant (Nat (number_of c))) ∷ unmarked (i.PopGlobal 0 ∷ i.Jump (label_to q p env c) ∷ [])

-- the raises of the condition actuals, with labels from this one on
abbrev pub marked_raises : Program → ℕ → List Scope → ℕ → List ConditionOf → List Line
marked_raises q p env l [] = []
marked_raises q p env l (c ∷ cs) = marked_raise q p env l c ++ marked_raises q p env (l + 1) cs

abbrev pub raise_labels : ℕ → List ConditionOf → List ℕ
raise_labels l [] = []
raise_labels l (c ∷ cs) = l ∷ raise_labels (l + 1) cs

-- from behind the guard of a call of procedure c up to the call
abbrev pub before_code : Program → ℕ → ℕ → List ℕ → List Instruction
before_code q p c xs =
    push_words (words_of_values (proc_at q c).locals) ++
    (push_indices (local_words (proc_at q c)) 0 0 (local_shapes (proc_at q c)) ++ (push_actuals q p xs ++ i.Call c ∷ []))

-- what follows a call whose callee has n words of locals
abbrev pub after_lines : Program → ℕ → List Scope → ℕ → ℕ → List ConditionOf → List Line
after_lines q p env l n cs =
    Plain (i.PopStar n) ∷ Plain (i.PushGlobal 0) ∷ Plain (i.JumpCase (l ∷ l ∷ (l + 1) ∷ (l + 2) ∷ raise_labels (l + 3) cs)) ∷
    (marked_raise q p env l Routine ++
    (marked_raise q p env (l + 2) Space ++ (marked_raises q p env (l + 3) cs ++ Marked (l + 1) i.NoOp ∷ [])))

abbrev pub apply_code : Program → ℕ → List Scope → Stmt → List Instruction
apply_code q p env (Apply place r args) =
    push_args q p args ++
    (length_code (shapes_of (proc_at q p)) r args ++ i.Call (predef_position q r) ∷ test_code r (label_to q p env Routine))
apply_code q p env s = []

-- the lines of a statement of procedure p whose first label is l
module _ (q : Program) (p : ℕ) where
  abbrev pub lines : List Scope → ℕ → Stmt → List Line
  lines env l Skip = []
  lines env l (NoOp place) = Plain i.NoOp ∷ []
  lines env l (Signal place c) = raise_lines q p env c
  lines env l (Seq a b) = lines env l a ++ lines env (l + labels a) b
  lines env l (Loop place s) =
      Marked l i.NoOp ∷
      (lines (InLoop (l + 1) ∷ env) (l + 2) s ++
      Plain (i.Jump l) ∷ Marked (l + 1) (i.PushConstant (Nat (number_of_way None))) ∷ Plain (i.PopGlobal 0) ∷ [])
  lines env l (If place b s v) =
      Plain (i.PushLocal (offset q p b)) ∷ Plain i.FetchTempStk ∷ Plain (i.TestAndJump family.Bool test.F l) ∷
      (lines env (l + 2) s ++
      Plain (i.Jump (l + 1)) ∷ Marked l i.NoOp ∷ (lines env (l + 2 + labels s) v ++ Marked (l + 1) i.NoOp ∷ []))
  lines env l (Begin place s cs v) =
      lines (InBegin cs l ∷ env) (l + 2) s ++
      Plain (i.Jump (l + 1)) ∷ Marked l (i.PushConstant (Nat (number_of_way None))) ∷ Plain (i.PopGlobal 0) ∷
      (lines env (l + 2 + labels s) v ++ Marked (l + 1) i.NoOp ∷ [])
  lines env l (Call place c xs cs) =
      unmarked (guard_code (call_need q c) (l + 2)) ++
      (unmarked (before_code q p c xs) ++ after_lines q p env l (local_words (proc_at q c)) cs)
  lines env l (Apply place r args) = unmarked (apply_code q p env (Apply place r args))

abbrev pub tail_lines : List Line
tail_lines = Plain (i.Jump 1) ∷ Marked 0 (i.PushConstant (Nat (number_of Routine))) ∷ Plain (i.PopGlobal 0) ∷ Marked 1 i.Ret ∷ []

-- the lines of a procedure
abbrev pub lines_of : Program → ℕ → List Line
lines_of q p = lines q p [] 2 (body_of q p) ++ tail_lines
