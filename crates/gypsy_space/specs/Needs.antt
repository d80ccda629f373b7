-- The words that programs need: of both stacks, and of code.
use Rattle.std.specs.Prelude.{ℕ, ◌+◌, ◌*◌, List, [], ◌∷◌, map, length, max, nat_le, Bool, true, false, not, ◌&&◌, ◌==◌, if◌then◌else◌}
use Rattle.gypsy_syntax.specs.{declared.predef.Predef.{Predef}, Predefined.{predef_temp, predef_ctrl, predef_words}, Programs.{Arg, Var}}
use Rattle.gypsy_syntax.specs.Programs.{Lit, Proc, Program, proc_at, shapes_of, words_of, Stmt, Skip, NoOp, Signal, Seq, Loop, If, Begin}
use Rattle.gypsy_syntax.specs.Programs.{Call, Apply}
use Rattle.gypsy_space.specs.{Costs.{Tally, spend, count_of, steps_of, variables_price}, declared.need.Lack.{Lack}}
use Rattle.gypsy_space.specs.declared.need.Lack.TheVariants.{Nothing, Temporary, Control}
use Rattle.gypsy_space.specs.declared.event.CostEvent.TheVariants as event

-- the sizes of the two stacks, and the words in use of each
pub record StackSizes : Type 0 where
  pub temp : ℕ
  pub ctrl : ℕ

abbrev pub stack_sizes : ℕ → ℕ → StackSizes
stack_sizes ctrl temp = record { temp = temp; ctrl = ctrl }

-- the greatest of a measure over the calls of a statement, and 0 without any: so much at each call of a procedure, and by its
-- row at a predefined call
abbrev pub greatest : ℕ → (Predef → ℕ) → Stmt → ℕ
greatest each f Skip = 0
greatest each f (NoOp place) = 0
greatest each f (Signal place c) = 0
greatest each f (Seq a b) = max (greatest each f a) (greatest each f b)
greatest each f (Loop place s) = greatest each f s
greatest each f (If place b s w) = max (greatest each f s) (greatest each f w)
greatest each f (Begin place s cs w) = max (greatest each f s) (greatest each f w)
greatest each f (Call place p xs cs) = each
greatest each f (Apply place r args) = f r

-- the words of each stack that the calls of a statement take beside those of their callees: a call of a procedure compares two
-- words on the temporary stack before it has room
abbrev pub statement_temp : Stmt → ℕ
statement_temp s = greatest 2 predef_temp s

abbrev pub statement_ctrl : Stmt → ℕ
statement_ctrl s = greatest 0 predef_ctrl s

abbrev pub temp_need : Proc → ℕ
temp_need p = max 1 (statement_temp p.body)

abbrev pub ctrl_need : Proc → ℕ
ctrl_need p = statement_ctrl p.body

-- the words of the locals
abbrev pub local_words : Proc → ℕ
local_words p = words_of (map (λ v. v.shape) p.locals)

-- how many variables
abbrev pub vars_of : Proc → ℕ
vars_of p = length p.formals + length p.locals

abbrev pub frame_of : Proc → ℕ
frame_of p = 2 + vars_of p

-- main's words, without what its predefined calls need
unfoldable pub main_used : Program → StackSizes
main_used q = let p = proc_at q q.main in record { temp = words_of (shapes_of p); ctrl = frame_of p }

-- the words in use in a call of p, without what its predefined calls need
unfoldable pub with_call : Program → ℕ → StackSizes → StackSizes
with_call q p u = let c = proc_at q p in record { temp = u.temp + local_words c; ctrl = u.ctrl + frame_of c }

-- the words that a call of p wants beside those in use: of the temporary stack its locals, and what is pushed for it or what
-- its own calls take, whichever is more; of the control stack its frame and the greatest of its predefined calls
unfoldable pub call_need : Program → ℕ → StackSizes
call_need q p =
    let c = proc_at q p in
    let l = local_words c in
    record { temp = max (l + length c.locals + length c.formals) (l + temp_need c); ctrl = frame_of c + ctrl_need c }

-- whether a call of p has room on each stack
abbrev pub has_temp_room : Program → StackSizes → ℕ → StackSizes → Bool
has_temp_room q sizes p u = nat_le (u.temp + (call_need q p).temp) sizes.temp

abbrev pub has_ctrl_room : Program → StackSizes → ℕ → StackSizes → Bool
has_ctrl_room q sizes p u = nat_le (u.ctrl + (call_need q p).ctrl) sizes.ctrl

-- whether a call of p has room
unfoldable pub has_room : Program → StackSizes → ℕ → StackSizes → Bool
has_room q sizes p u = has_temp_room q sizes p u && has_ctrl_room q sizes p u

-- whether a call has room, by what it lacks
abbrev pub is_nothing : Lack → Bool
is_nothing Nothing = true
is_nothing Temporary = false
is_nothing Control = false

-- which stack lacks room for a call of p; the temporary one is looked at first
unfoldable pub lack_of : Program → StackSizes → ℕ → StackSizes → Lack
lack_of q sizes p u =
    if not (has_temp_room q sizes p u) then Temporary else
    if not (has_ctrl_room q sizes p u) then Control else
    Nothing

-- what main itself needs
unfoldable pub main_need : Program → StackSizes
unfolding main_used
main_need q =
    let p = proc_at q q.main in
    let u = main_used q in
    record { temp = u.temp + temp_need p; ctrl = u.ctrl + ctrl_need p }

-- what a call of p with room costs, up to its callee's body
unfoldable pub call_spend : Program → ℕ → Tally → Tally
unfolding spend
call_spend q p t =
    let c = proc_at q p in
    let more = variables_price (local_words c) (vars_of c) in
    spend (count_of (event.Call p) + more.0) (steps_of (event.Call p) + more.1) t

-- Words of code.

abbrev pub arg_words : Arg → ℕ
arg_words (Var i) = 4
arg_words (Lit v) = 2

abbrev pub args_words : List Arg → ℕ
args_words [] = 0
args_words (a ∷ args) = arg_words a + args_words args

abbrev pub statement_words : Program → Stmt → ℕ
statement_words q Skip = 0
statement_words q (NoOp place) = 1
statement_words q (Signal place c) = 7
statement_words q (Seq a b) = statement_words q a + statement_words q b
statement_words q (Loop place s) = 8 + statement_words q s
statement_words q (If place b s w) = 15 + statement_words q s + statement_words q w
statement_words q (Begin place s cs w) = 8 + statement_words q s + statement_words q w
statement_words q (Call place p xs cs) =
    let c = proc_at q p in 2 * local_words c + 4 * vars_of c + 60 + 8 * length cs
statement_words q (Apply place r args) = 4 + args_words args + predef_words r

-- the words of a procedure, its prelude with them
unfoldable pub code_words : Program → ℕ → ℕ
code_words q p =
    let c = proc_at q p in
    14 + (if p == q.main then 2 else 1) * vars_of c + statement_words q c.body
