-- The generated system. A label is the place that it stands for.
use Rattle.std.specs.Prelude.{ℕ, zero, suc, ◌+◌, ◌*◌, ◌-◌, ◌==◌, pos, List, [], ◌∷◌, ◌++◌, map, length, get_or, nat_lt, if◌then◌else◌, None}
use Rattle.stack_text.specs.{declared.shape.Shape.{Shape}, declared.shape.Kind.TheVariants.{Integer}, Values.{item_count}}
use Rattle.piton_words.specs.{declared.word.Word.{Word}, declared.word.Word.TheVariants.{Int, Nat}}
use Rattle.piton_syntax.specs.declared.test_kind.TestFamily.TheVariants as family
use Rattle.piton_syntax.specs.declared.test_kind.TestKind.TheVariants as test
use Rattle.piton_check.specs.Instruction as i
use Rattle.piton_check.specs.Instruction.{Instruction, ProgramView, SystemView}
use Rattle.gypsy_syntax.specs.{declared.predef.Predef.{Predef}, Programs.{ConditionOf, Routine, Space, Arg, Var, Lit, Program, simple}}
use Rattle.gypsy_syntax.specs.Programs.{proc_at, body_of, shapes_of, Stmt, Skip, NoOp, Signal, Seq, Loop, If, Begin, Call, Apply}
use Rattle.gypsy_syntax.specs.{Effects.{item_of_value}, Predefined.{predef_number, can_fail}}
use Rattle.gypsy_syntax.specs.declared.predef.Predef.TheVariants as row
use Rattle.gypsy_space.specs.Needs.{StackSizes, local_words, vars_of, call_need}
use Rattle.gypsy_semantics.specs.Calls.{has_cond, is_leave, is_passed_on}
use Rattle.gypsy_predef.specs.{Bodies.{bodies, lengths_of}, Runs.{word_of_item}, Calls.{test_code}}
use Rattle.gypsy_codegen.specs.{WordsOf.{words_of_values, zero_value, starts, local_shapes, number_of, number_of_way}, Guard.{guard_code}}
use Rattle.gypsy_codegen.specs.Guard.{guard_size}

-- what stands round a statement, the nearest first: a loop by the place of its b, a begin by its list and the place of its a
pub data Scope : Type 0 where
  InLoop : (b : ℕ) → Scope
  InBegin : (cs : List ConditionOf) (a : ℕ) → Scope

-- where a condition leaves procedure p, whose body has n instructions: L1 where it keeps its number, and else L0
abbrev pub out_place : Program → ℕ → ℕ → ConditionOf → ℕ
out_place q p n c = if is_passed_on q p c then n + 3 else n + 1

-- where a condition goes
abbrev pub target : Program → ℕ → ℕ → List Scope → ConditionOf → ℕ
target q p n [] c = out_place q p n c
target q p n (InLoop b ∷ env) c = if is_leave c then b else target q p n env c
target q p n (InBegin cs a ∷ env) c = if has_cond c cs then a else target q p n env c

abbrev pub raise_code : Program → ℕ → ℕ → List Scope → ConditionOf → List Instruction
raise_code q p n env c = i.PushConstant (Nat (number_of c)) ∷ i.PopGlobal 0 ∷ i.Jump (target q p n env c) ∷ []

-- the condition is normal again
abbrev pub normal_code : List Instruction
normal_code = i.PushConstant (Nat (number_of_way None)) ∷ i.PopGlobal 0 ∷ []

abbrev pub back_code : ℕ → List Instruction
back_code a = i.Jump a ∷ normal_code

-- the raises of the condition actuals, and their places
abbrev pub raises : Program → ℕ → ℕ → List Scope → List ConditionOf → List Instruction
raises q p n env [] = []
raises q p n env (c ∷ cs) = raise_code q p n env c ++ raises q p n env cs

abbrev pub raise_places : ℕ → List ConditionOf → List ℕ
raise_places at [] = []
raise_places at (c ∷ cs) = at ∷ raise_places (at + 3) cs

-- what follows a call whose callee has l words of locals; the raise of spaceerror is for the guard too
abbrev pub after_size : List ConditionOf → ℕ
after_size cs = 3 * length cs + 10

abbrev pub after_code : Program → ℕ → ℕ → List Scope → ℕ → ℕ → List ConditionOf → List Instruction
after_code q p n env at l cs =
    i.PopStar l ∷ i.PushGlobal 0 ∷
    i.JumpCase ((at + 3) ∷ (at + 3) ∷ (at + 9 + 3 * length cs) ∷ (at + 6) ∷ raise_places (at + 9) cs) ∷
    (raise_code q p n env Routine ++ (raise_code q p n env Space ++ (raises q p n env cs ++ i.NoOp ∷ [])))

-- the constants, and the indices of the locals that they make: of those from number k on, whose first word is o
abbrev pub push_words : List Word → List Instruction
push_words [] = []
push_words (w ∷ ws) = i.PushConstant w ∷ push_words ws

abbrev pub push_indices : ℕ → ℕ → ℕ → List Shape → List Instruction
push_indices l k o [] = []
push_indices l k o (s ∷ shapes) = i.PushTempStkIndex (l + k - 1 - o) ∷ push_indices l (k + 1) (o + item_count s) shapes

-- the offset of a variable in the frame of procedure p: main's as they are, else the locals before the formals
abbrev pub offset : Program → ℕ → ℕ → ℕ
offset q p b =
    let c = proc_at q p in
    if p == q.main then b else if nat_lt b (length c.formals) then length c.locals + b else b - length c.formals

abbrev pub push_actuals : Program → ℕ → List ℕ → List Instruction
push_actuals q p [] = []
push_actuals q p (b ∷ xs) = i.PushLocal (offset q p b) ∷ push_actuals q p xs

-- what stands between the guard of a call of c and what follows it
abbrev pub before_size : Program → ℕ → List ℕ → ℕ
before_size q c xs = length (words_of_values (proc_at q c).locals) + (length (proc_at q c).locals + (length xs + 1))

-- the arguments of a predefined call
abbrev pub push_args : Program → ℕ → List Arg → List Instruction
push_args q p [] = []
push_args q p (Var b ∷ args) = i.PushLocal (offset q p b) ∷ push_args q p args
push_args q p (Lit v ∷ args) = i.PushConstant (word_of_item v.shape.kind (item_of_value v)) ∷ push_args q p args

-- the length of the array that an argument is
abbrev pub arg_length : List Shape → Arg → ℕ
arg_length shapes (Var b) = (get_or shapes b (simple Integer)).length
arg_length shapes (Lit v) = 0

-- the length that the array rows push last
abbrev pub length_code : List Shape → Predef → List Arg → List Instruction
length_code shapes row.MgIndexArray args = i.PushConstant (Int (pos (arg_length shapes (get_or args 1 (Var 0))))) ∷ []
length_code shapes row.MgArrayElementAssignment args = i.PushConstant (Int (pos (arg_length shapes (get_or args 0 (Var 0))))) ∷ []
length_code shapes r args = []

-- how many instructions test for a fault
abbrev pub test_size : Predef → ℕ
test_size r = if can_fail r then 3 else 0

-- the position of a predefined program
abbrev pub predef_position : Program → Predef → ℕ
predef_position q r = length q.procs + predef_number r

-- how many instructions a statement has
abbrev pub size : Program → Stmt → ℕ
size q Skip = 0
size q (NoOp place) = 1
size q (Signal place c) = 3
size q (Seq a b) = size q a + size q b
size q (Loop place s) = size q s + 4
size q (If place b s v) = size q s + size q v + 6
size q (Begin place s cs v) = size q s + size q v + 4
size q (Call place c xs cs) = guard_size + (before_size q c xs + after_size cs)
size q (Apply place r args) = length args + (lengths_of r + (test_size r + 1))

-- the code of a statement of procedure p, whose body has n instructions, in these scopes and at this place; jump is the place of the
-- jump over the second statement of two
module _ (q : Program) (p n : ℕ) where
  abbrev pub gen : List Scope → ℕ → Stmt → List Instruction
  gen env at Skip = []
  gen env at (NoOp place) = i.NoOp ∷ []
  gen env at (Signal place c) = raise_code q p n env c
  gen env at (Seq a b) = gen env at a ++ gen env (at + size q a) b
  gen env at (Loop place s) = i.NoOp ∷ (gen (InLoop (at + 1 + size q s + 1) ∷ env) (at + 1) s ++ back_code at)
  gen env at (If place b s v) =
      let jump = at + 3 + size q s in
      i.PushLocal (offset q p b) ∷ i.FetchTempStk ∷ i.TestAndJump family.Bool test.F (jump + 1) ∷
      (gen env (at + 3) s ++ i.Jump (jump + 2 + size q v) ∷ i.NoOp ∷ (gen env (jump + 2) v ++ i.NoOp ∷ []))
  gen env at (Begin place s cs v) =
      let jump = at + size q s in
      gen (InBegin cs (jump + 1) ∷ env) at s ++ i.Jump (jump + 3 + size q v) ∷ (normal_code ++ (gen env (jump + 3) v ++ i.NoOp ∷ []))
  gen env at (Call place c xs cs) =
      let l = local_words (proc_at q c) in
      let behind = at + guard_size + before_size q c xs in
      guard_code (call_need q c) (behind + 6) ++
      (push_words (words_of_values (proc_at q c).locals) ++
      (push_indices l 0 0 (local_shapes (proc_at q c)) ++
      (push_actuals q p xs ++ i.Call c ∷ after_code q p n env behind l cs)))
  gen env at (Apply place r args) =
      push_args q p args ++
      (length_code (shapes_of (proc_at q p)) r args ++ i.Call (predef_position q r) ∷ test_code r (target q p n env Routine))

abbrev pub tail_code : ℕ → List Instruction
tail_code n = i.Jump (n + 3) ∷ i.PushConstant (Nat (number_of Routine)) ∷ i.PopGlobal 0 ∷ i.Ret ∷ []

-- the code of a procedure
abbrev pub code_of : Program → ℕ → List Instruction
code_of q p = gen q p (size q (body_of q p)) [] 0 (body_of q p) ++ tail_code (size q (body_of q p))

-- the program of a procedure
abbrev pub generated_program : Program → ℕ → ProgramView
generated_program q p = record {
  formals = if p == q.main then 0 else vars_of (proc_at q p);
  temporaries = if p == q.main then map (λ n. Nat n) (starts 0 (shapes_of (proc_at q p))) else [];
  instructions = code_of q p;
}

-- the numbers from n, so many
abbrev pub count_from : ℕ → ℕ → List ℕ
count_from n zero = []
count_from n (suc k) = n ∷ count_from (suc n) k

-- the words of main's variables before its formals are given
abbrev pub opening_words : Program → List Word
opening_words q =
    let p = proc_at q q.main in words_of_values (map zero_value p.formals ++ p.locals)

-- the generated system
abbrev pub generated_view : Program → StackSizes → ℕ → SystemView
generated_view q sizes base = record {
  main = q.main;
  ctrl = sizes.ctrl;
  temp = sizes.temp;
  base = base;
  areas = (Nat (number_of_way None) ∷ []) ∷ [];
  stack = opening_words q;
  programs = map (generated_program q) (count_from 0 (length q.procs)) ++ bodies;
}
