-- The quick code of statements without calls, and how many instructions a run of it takes.
use Rattle.std.specs.Prelude.{◌≡◌, ℕ, zero, suc, ◌+◌, List, [], ◌++◌, length, slice_get, if◌then◌else◌, Option, Some, None}
use Rattle.stack_text.specs.{declared.shape.Kind.{Kind}, declared.shape.Kind.TheVariants.{Boolean}, declared.shape.Shape.{Shape}}
use Rattle.stack_text.specs.Values.{ValueOf}
use Rattle.fm_words.specs.{declared.condition.Cc.TheVariants.{Zs}, declared.operation.Op.TheVariants.{Move}}
use Rattle.gypsy_syntax.specs.Programs.{ConditionOf, Routine, Program, simple, Stmt, Skip, NoOp, Signal, Seq, Loop, If, Begin, Call, Apply}
use Rattle.gypsy_syntax.specs.{Predefined.{slots_of, predef_effect}, Effects.{value_at, is_true_value}, ProgramFits.{ArgsFit}}
use Rattle.gypsy_space.specs.Needs.{StackSizes}
use Rattle.gypsy_semantics.specs.{Calls.{has_cond, is_leave, values_of}, Meaning.{MeaningOutcome, Done, Unfinished, evaluate}}
use Rattle.fm_code.specs.{InstructionWords.{flag_z}, Templates.{jump_code}}
use Rattle.quick_code.specs.{Access.{find_count}, Pieces.{by_word_code, jump_when_code}}
use Rattle.quick_gypsy.specs.{Layout.{Layout}, RowCode.{row_code, row_cost}}

-- where each condition goes
abbrev pub Targets : Type 0
Targets = ConditionOf → ℕ

abbrev pub loop_targets : ℕ → Targets → Targets
loop_targets end T c = if is_leave c then end else T c

abbrev pub begin_targets : List ConditionOf → ℕ → Targets → Targets
begin_targets cs arm T c = if has_cond c cs then arm else T c

-- the test of an `if`: r3 and the flags from the variable, and a jump where it is false
abbrev pub test_code : Layout → ℕ → ℕ → List ℕ
test_code L b otherwise = by_word_code Move flag_z (L.access b) ++ jump_when_code Zs otherwise

-- the condition that an arm signals, where it does nothing else: such an arm has no code, since the jump to it leads to the condition's
-- target at once
abbrev pub signalled : Stmt → Option ConditionOf
signalled Skip = None
signalled (NoOp place) = None
signalled (Signal place c) = Some c
signalled (Seq a b) = None
signalled (Loop place s) = None
signalled (If place b s w) = None
signalled (Begin place s cs w) = None
signalled (Call place p xs cs) = None
signalled (Apply place r args) = None

-- the words of an arm and of the jump over it
abbrev pub arm_size : Option ConditionOf → ℕ → ℕ
arm_size None words = 2 + words
arm_size (Some c) words = 0

-- where handled conditions go: to the arm, or to the target of what it signals
abbrev pub arm_target : Option ConditionOf → ℕ → Targets → ℕ
arm_target None arm T = arm
arm_target (Some c) arm T = T c

abbrev pub arm_code : Option ConditionOf → List ℕ → List ℕ
arm_code None code = code
arm_code (Some c) code = []

-- how many words the code of a statement has
abbrev pub size : Layout → Stmt → ℕ
size L Skip = 0
size L (NoOp place) = 0
size L (Signal place c) = 2
size L (Seq a b) = size L a + size L b
size L (Loop place s) = size L s + 2
size L (If place b s w) = length (test_code L b 0) + size L s + 2 + size L w
size L (Begin place s cs w) = size L s + arm_size (signalled w) (size L w)
size L (Call place p xs cs) = 0
size L (Apply place r args) = length (row_code L 0 args r)

-- the code, from this address on
abbrev pub quick : Layout → Targets → ℕ → Stmt → List ℕ
quick L T pc Skip = []
quick L T pc (NoOp place) = []
quick L T pc (Signal place c) = jump_code (T c)
quick L T pc (Seq a b) = quick L T pc a ++ quick L T (pc + size L a) b
quick L T pc (Loop place s) = quick L (loop_targets (pc + (size L s + 2)) T) pc s ++ jump_code pc
quick L T pc (If place b s w) =
    let at = pc + length (test_code L b 0) in
    let otherwise = at + size L s + 2 in
    test_code L b otherwise ++ (quick L T at s ++ (jump_code (otherwise + size L w) ++ quick L T otherwise w))
quick L T pc (Begin place s cs w) =
    let arm = pc + size L s + 2 in
    quick L (begin_targets cs (arm_target (signalled w) arm T) T) pc s ++
    arm_code (signalled w) (jump_code (arm + size L w) ++ quick L T arm w)
quick L T pc (Call place p xs cs) = []
quick L T pc (Apply place r args) = row_code L (T Routine) args r

-- no calls; each test is of a Boolean, and the arguments of each predefined call fit
abbrev pub IsPlain : List Shape → Stmt → Type 0
IsPlain shapes Skip = Unit {0}
IsPlain shapes (NoOp place) = Unit {0}
IsPlain shapes (Signal place c) = Unit {0}
IsPlain shapes (Seq a b) = IsPlain shapes a × IsPlain shapes b
IsPlain shapes (Loop place s) = IsPlain shapes s
IsPlain shapes (If place b s w) = (slice_get shapes b ≡ Some (simple Boolean)) × IsPlain shapes s × IsPlain shapes w
IsPlain shapes (Begin place s cs w) = IsPlain shapes s × IsPlain shapes w
IsPlain shapes (Call place p xs cs) = ⊥
IsPlain shapes (Apply place r args) = (k : Kind) × ArgsFit shapes k (slots_of r) args

-- what is spent after a part that ends normally
abbrev pub after_part : MeaningOutcome → (List ValueOf → ℕ) → ℕ
after_part (Done y None) f = f y
after_part (Done y (Some c)) f = 0
after_part Unfinished f = 0

-- and behind a body with a handler: the jump over the arm, or the arm; nothing for an arm without code
abbrev pub after_body : Option ConditionOf → MeaningOutcome → List ConditionOf → (List ValueOf → ℕ) → ℕ
after_body (Some d) o cs arm = 0
after_body None (Done y None) cs arm = 1
after_body None (Done y (Some c)) cs arm = if has_cond c cs then arm y else 0
after_body None Unfinished cs arm = 0

-- how many instructions a run takes, at a bound
abbrev pub quick_cost : Program → StackSizes → Layout → ℕ → Stmt → StackSizes → List ValueOf → ℕ
quick_cost q sizes L zero s u x = 0
quick_cost q sizes L (suc n) Skip u x = 0
quick_cost q sizes L (suc n) (NoOp place) u x = 0
quick_cost q sizes L (suc n) (Signal place c) u x = 1
quick_cost q sizes L (suc n) (Seq a b) u x =
    quick_cost q sizes L (suc n) a u x + after_part (evaluate q sizes (suc n) a u x) (quick_cost q sizes L (suc n) b u)
quick_cost q sizes L (suc n) (Loop place s) u x =
    quick_cost q sizes L (suc n) s u x +
    after_part (evaluate q sizes (suc n) s u x) (λ y. 1 + quick_cost q sizes L n (Loop place s) u y)
quick_cost q sizes L (suc n) (If place b s w) u x =
    find_count (L.access b) + 1 + 1 +
    (if is_true_value (value_at x b)
    then quick_cost q sizes L (suc n) s u x + after_part (evaluate q sizes (suc n) s u x) (λ y. 1)
    else quick_cost q sizes L (suc n) w u x)
quick_cost q sizes L (suc n) (Begin place s cs w) u x =
    quick_cost q sizes L (suc n) s u x +
    after_body (signalled w) (evaluate q sizes (suc n) s u x) cs (quick_cost q sizes L (suc n) w u)
quick_cost q sizes L (suc n) (Call place p xs cs) u x = 0
quick_cost q sizes L (suc n) (Apply place r args) u x =
    let vs = values_of x args in
    row_cost L args r vs (predef_effect r vs)
