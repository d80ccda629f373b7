-- How much is made if the calls of main go in line: a bound on it keeps images small.
use Rattle.std.specs.Prelude.{◌≡◌, ℕ, zero, suc, ◌+◌, ◌-◌, ◌==◌, ◌<◌, nat_le, min, length, if◌then◌else◌, Bool, List, [], ◌∷◌}
use Rattle.stack_text.specs.Values.{ValueOf}
use Rattle.gypsy_syntax.specs.Programs.{ConditionOf, Leave, Routine, Space, Declared, Proc, Program, proc_at, body_of, conds_of, Stmt, Skip}
use Rattle.gypsy_syntax.specs.{Programs.{NoOp, Signal, Seq, Loop, If, Begin, Call, Apply}, ProgramFits.{Each}, Resolved.{program_of}}
use Rattle.gypsy_syntax.specs.Sources.{SourceOf}
use Rattle.gypsy_space.specs.Needs.{StackSizes, main_used, with_call, has_room}
use Rattle.quick_build.specs.QuickImage.{most_nested}

-- 1. The bound.

-- so much may be made, and so many statements may stand one in another
abbrev pub most_lined : ℕ
most_lined = 1048576

abbrev pub most_levels : ℕ
most_levels = 200

-- more than that
abbrev pub too_much : ℕ
too_much = 1048577

-- counts that are too much are all one
abbrev pub capped_size : ℕ → ℕ
capped_size n = min n too_much

-- a variable for each local; an array is too much
abbrev pub locals_size : List ValueOf → ℕ
locals_size [] = 0
locals_size (v ∷ vs) = (if v.shape.length == 0 then 1 else too_much) + locals_size vs

-- what a call takes beside the body: a handler for each condition, and the variables
abbrev pub call_size : Proc → ℕ
call_size p = 1 + conds_of p + locals_size p.locals

-- of what stands in another statement, if k levels are left
abbrev pub inside : ℕ → ℕ → ℕ
inside k n = if k == 0 then too_much else n

-- How much is made of a statement: its own statements, and what its calls take with those of their bodies. Calls may nest d deep, and
-- statements k deep; what is deeper is too much.
abbrev pub lined_size : Program → StackSizes → ℕ → ℕ → StackSizes → Stmt → ℕ
lined_size q sizes d k u Skip = 0
lined_size q sizes d k u (NoOp place) = 1
lined_size q sizes d k u (Signal place c) = 1
lined_size q sizes d k u (Seq a b) = 1 + inside k (lined_size q sizes d (k - 1) u a) + lined_size q sizes d k u b
lined_size q sizes d k u (Loop place s) = 1 + inside k (lined_size q sizes d (k - 1) u s)
lined_size q sizes d k u (If place b s w) =
    1 + inside k (lined_size q sizes d (k - 1) u s) + inside k (lined_size q sizes d (k - 1) u w)
lined_size q sizes d k u (Begin place s cs w) =
    1 + inside k (lined_size q sizes d (k - 1) u s) + inside k (lined_size q sizes d (k - 1) u w)
lined_size q sizes zero k u (Call place p xs cs) = too_much
lined_size q sizes (suc d) k u (Call place p xs cs) =
    let c = proc_at q p in
    let left = k - conds_of c in
    if has_room q sizes p u
    then call_size c + inside left (lined_size q sizes d (left - 1) (with_call q p u) c.body)
    else 1
lined_size q sizes d k u (Apply place r args) = 1

-- of main
abbrev pub main_size : Program → StackSizes → ℕ
main_size q sizes = lined_size q sizes most_nested most_levels (main_used q) (body_of q q.main)

-- whether main's calls go in line
abbrev pub is_lined : SourceOf → StackSizes → Bool
is_lined s sizes = nat_le (main_size (program_of s) sizes) most_lined

-- 2. What every statement of an accepted source keeps.

-- a declared condition has a low number
abbrev pub HasLowNumber : ConditionOf → Type 0
HasLowNumber Leave = Unit {0}
HasLowNumber Routine = Unit {0}
HasLowNumber Space = Unit {0}
HasLowNumber (Declared i) = i < 65536

-- and callees are there, and get as many conditions as they declare
abbrev pub CanGo : Program → Stmt → Type 0
CanGo q Skip = Unit {0}
CanGo q (NoOp place) = Unit {0}
CanGo q (Signal place c) = HasLowNumber c
CanGo q (Seq a b) = CanGo q a × CanGo q b
CanGo q (Loop place s) = CanGo q s
CanGo q (If place b s w) = CanGo q s × CanGo q w
CanGo q (Begin place s cs w) = Each HasLowNumber cs × CanGo q s × CanGo q w
CanGo q (Call place p xs cs) = (p < length q.procs) × (length cs ≡ (proc_at q p).conds) × Each HasLowNumber cs
CanGo q (Apply place r args) = Unit {0}
