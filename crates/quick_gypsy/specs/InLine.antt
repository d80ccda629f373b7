-- Calls in line: the body of the callee stands where the call stood, over variables and conditions of main.
--
-- So a statement with calls becomes one without. Whether a call has room is known beforehand, since the words in use are.
use Rattle.std.specs.Prelude.{◌≡◌, ℕ, zero, suc, ◌+◌, List, [], ◌∷◌, ◌++◌, map, length, replicate, get_or, Bool, true, false, if◌then◌else◌}
use Rattle.stack_text.specs.Values.{ValueOf}
use Rattle.gypsy_syntax.specs.Programs.{ConditionOf, Leave, Routine, Space, Declared, Arg, Var, Lit, Proc, Program, proc_at, body_of}
use Rattle.gypsy_syntax.specs.Programs.{shapes_of, conds_of, Stmt, Skip, NoOp, Signal, Seq, Loop, If, Begin, Call, Apply}
use Rattle.gypsy_syntax.specs.{declared.predef.Predef.TheVariants.{MgSimpleConstantAssignment}, ProgramFits.{Each}}
use Rattle.gypsy_space.specs.Needs.{StackSizes, main_used, with_call, has_room}

-- 1. A procedure in main.

-- The words in use; the variables of main that its variables are, in order, and the first number that no variable of main has yet; and
-- its first condition among those of main, with the first number that no condition has yet.
pub record InMain : Type 0 where
  pub used : StackSizes
  pub variables : List ℕ
  pub next : ℕ
  pub first_cond : ℕ
  pub next_cond : ℕ

-- so many numbers, one after the other
abbrev pub numbers_from : ℕ → ℕ → List ℕ
numbers_from k zero = []
numbers_from k (suc n) = k ∷ numbers_from (suc k) n

-- main itself
unfoldable pub main_context : Program → InMain
main_context q =
    let p = proc_at q q.main in
    let count = length (shapes_of p) in
    record { used = main_used q; variables = numbers_from 0 count; next = count; first_cond = 0; next_cond = conds_of p }

abbrev pub variable_in : InMain → ℕ → ℕ
variable_in h b = get_or h.variables b 0

-- where the first declared condition has this number
abbrev pub condition_from : ℕ → ConditionOf → ConditionOf
condition_from first Leave = Leave
condition_from first Routine = Routine
condition_from first Space = Space
condition_from first (Declared i) = Declared (first + i)

abbrev pub condition_in : InMain → ConditionOf → ConditionOf
condition_in h = condition_from h.first_cond

-- where these are the variables
abbrev pub arg_from : List ℕ → Arg → Arg
arg_from variables (Var b) = Var (get_or variables b 0)
arg_from variables (Lit v) = Lit v

-- when so many more variables are taken
abbrev pub taken : InMain → ℕ → InMain
taken h n = record h { next = h.next + n }

-- a callee: its formals are the caller's actuals, and its locals are variables that nothing has yet, as are its conditions
unfoldable pub callee_context : Program → InMain → ℕ → List ℕ → InMain
callee_context q h p xs =
    let c = proc_at q p in
    record {
      used = with_call q p h.used;
      variables = map (variable_in h) xs ++ numbers_from h.next (length c.locals);
      next = h.next + length c.locals;
      first_cond = h.next_cond;
      next_cond = h.next_cond + conds_of c;
    }

-- 2. A call.

-- the variables from b on get these values, and then the statement
abbrev pub after_locals : ℕ → ℕ → List ValueOf → Stmt → Stmt
after_locals place b [] s = Seq s Skip
after_locals place b (v ∷ vs) s =
    Seq (Apply place MgSimpleConstantAssignment (Var b ∷ Lit v ∷ [])) (after_locals place (suc b) vs s)

-- the conditions from number i on become these
abbrev pub passing : ℕ → ℕ → List ConditionOf → Stmt → Stmt
passing place i [] s = s
passing place i (c ∷ cs) s = passing place (suc i) cs (Begin place s (Declared i ∷ []) (Signal place c))

-- what the callee's conditions become: the condition actuals, and then routineerror for each local one
abbrev pub ways_out : Program → InMain → ℕ → List ConditionOf → List ConditionOf
ways_out q h p cs = map (condition_in h) cs ++ replicate (proc_at q p).local_conds Routine

-- 3. Statements. Calls may nest d deep.

-- the values of the locals of all calls, in the order of the text
abbrev pub new_locals : Program → StackSizes → ℕ → StackSizes → Stmt → List ValueOf
new_locals q sizes d u Skip = []
new_locals q sizes d u (NoOp place) = []
new_locals q sizes d u (Signal place c) = []
new_locals q sizes d u (Seq a b) = new_locals q sizes d u a ++ new_locals q sizes d u b
new_locals q sizes d u (Loop place s) = new_locals q sizes d u s
new_locals q sizes d u (If place b s w) = new_locals q sizes d u s ++ new_locals q sizes d u w
new_locals q sizes d u (Begin place s cs w) = new_locals q sizes d u s ++ new_locals q sizes d u w
new_locals q sizes zero u (Call place p xs cs) = []
new_locals q sizes (suc d) u (Call place p xs cs) =
    if has_room q sizes p u then (proc_at q p).locals ++ new_locals q sizes d (with_call q p u) (body_of q p) else []
new_locals q sizes d u (Apply place r args) = []

abbrev pub in_line : Program → StackSizes → ℕ → InMain → Stmt → Stmt
in_line q sizes d h Skip = Skip
in_line q sizes d h (NoOp place) = NoOp place
in_line q sizes d h (Signal place c) = Signal place (condition_in h c)
in_line q sizes d h (Seq a b) =
    Seq (in_line q sizes d h a) (in_line q sizes d (taken h (length (new_locals q sizes d h.used a))) b)
in_line q sizes d h (Loop place s) = Loop place (in_line q sizes d h s)
in_line q sizes d h (If place b s w) =
    let after = taken h (length (new_locals q sizes d h.used s)) in
    If place (variable_in h b) (in_line q sizes d h s) (in_line q sizes d after w)
in_line q sizes d h (Begin place s cs w) =
    let after = taken h (length (new_locals q sizes d h.used s)) in
    Begin place (in_line q sizes d h s) (map (condition_in h) cs) (in_line q sizes d after w)
in_line q sizes zero h (Call place p xs cs) = Skip
in_line q sizes (suc d) h (Call place p xs cs) =
    let body = in_line q sizes d (callee_context q h p xs) (body_of q p) in
    if has_room q sizes p h.used
    then passing place h.next_cond (ways_out q h p cs) (after_locals place h.next (proc_at q p).locals body)
    else Signal place Space
in_line q sizes d h (Apply place r args) = Apply place r (map (arg_from h.variables) args)

abbrev pub if_so : Bool → Type 0 → Type 0
if_so true fact = fact
if_so false fact = Unit {0}

-- calls nest at most d deep where they have room, and no local of a callee is an array
abbrev pub Nests : Program → StackSizes → ℕ → StackSizes → Stmt → Type 0
Nests q sizes d u Skip = Unit {0}
Nests q sizes d u (NoOp place) = Unit {0}
Nests q sizes d u (Signal place c) = Unit {0}
Nests q sizes d u (Seq a b) = Nests q sizes d u a × Nests q sizes d u b
Nests q sizes d u (Loop place s) = Nests q sizes d u s
Nests q sizes d u (If place b s w) = Nests q sizes d u s × Nests q sizes d u w
Nests q sizes d u (Begin place s cs w) = Nests q sizes d u s × Nests q sizes d u w
Nests q sizes zero u (Call place p xs cs) = ⊥
Nests q sizes (suc d) u (Call place p xs cs) =
    if_so (has_room q sizes p u)
    (Each (λ v. v.shape.length ≡ 0) (proc_at q p).locals × Nests q sizes d (with_call q p u) (body_of q p))
Nests q sizes d u (Apply place r args) = Unit {0}

-- 4. Main, with all calls in line.

abbrev pub lined_main : Program → StackSizes → ℕ → Proc
lined_main q sizes d =
    let p = proc_at q q.main in
    record p {
      locals = p.locals ++ new_locals q sizes d (main_used q) p.body;
      body = in_line q sizes d (main_context q) p.body;
    }
