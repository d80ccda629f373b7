-- Certificates of stack space: for each procedure how many words of both stacks a run of it takes beside its own, or nothing.
use Rattle.std.specs.{Prelude.{◌≡◌, ℕ, ◌+◌, ◌≤◌, max, List, [], ◌∷◌, ◌++◌, length, get_or, replicate, Option, Some, None}, Option.{IsSome}}
use Rattle.std.specs.{Option.{IsSomeAnd, option_map, unwrap_or}, List.{All}}
use Rattle.gypsy_syntax.specs.Programs.{Proc, Program, proc_at, body_of, Stmt, Skip, NoOp, Signal, Seq, Loop, If, Begin, Call, Apply}
use Rattle.gypsy_space.specs.Needs.{StackSizes, stack_sizes, temp_need, ctrl_need, local_words, vars_of, frame_of, main_used}

-- of each procedure, in order: words of the temporary stack, and of the control stack
abbrev pub Bounds : Type 0
Bounds = List (Option (ℕ × ℕ))

abbrev pub no_bounds : ℕ → Bounds
no_bounds n = replicate n None

abbrev pub as_words : ℕ × ℕ → StackSizes
as_words b = stack_sizes b.1 b.0

-- a procedure's bounds, where it has some
abbrev pub bound_at : Bounds → ℕ → Option StackSizes
bound_at bs p = option_map as_words (get_or bs p None)

-- no more of either stack
pub record IsAtMost (u v : StackSizes) : Type 0 where
  pub temp : u.temp ≤ v.temp
  pub ctrl : u.ctrl ≤ v.ctrl

abbrev pub words_sum : StackSizes → StackSizes → StackSizes
words_sum u v = stack_sizes (u.ctrl + v.ctrl) (u.temp + v.temp)

-- the callees of the calls in a statement, in order
abbrev pub callees : Stmt → List ℕ
callees Skip = []
callees (NoOp place) = []
callees (Signal place c) = []
callees (Seq a b) = callees a ++ callees b
callees (Loop place s) = callees s
callees (If place b s w) = callees s ++ callees w
callees (Begin place s cs w) = callees s ++ callees w
callees (Call place p xs cs) = p ∷ []
callees (Apply place r args) = []

-- what a procedure's calls take, without what their callees take
abbrev pub own_need : Proc → StackSizes
own_need p = stack_sizes (ctrl_need p) (temp_need p)

-- what a call of p takes, where a run of p takes b beside its own words. On the temporary stack: its locals, and either what is
-- pushed for the call or, later, b. On the control stack: its frame, and b.
abbrev pub call_bound : Program → ℕ → StackSizes → StackSizes
call_bound q p b =
    let c = proc_at q p in
    let l = local_words c in
    stack_sizes (frame_of c + b.ctrl) (max (l + vars_of c) (l + b.temp))

-- the callee has bounds, and by them a call of it takes no more than b
abbrev pub CoversCall : Program → Bounds → StackSizes → ℕ → Type 0
CoversCall q bs b p = IsSomeAnd (bound_at bs p) (λ d. IsAtMost (call_bound q p d) b)

abbrev pub CoversCalls : Program → Bounds → StackSizes → Stmt → Type 0
CoversCalls q bs b s = All (CoversCall q bs b) (callees s)

-- a run of p takes no more than b beside its own words
pub record CoversRun (q : Program) (bs : Bounds) (p : ℕ) (b : StackSizes) : Type 0 where
  pub own : IsAtMost (own_need (proc_at q p)) b
  pub calls : CoversCalls q bs b (body_of q p)

-- an entry for each procedure, main has bounds, and all bounds are enough
pub record IsCertificate (q : Program) (bs : Bounds) : Type 0 where
  pub number : length bs ≡ length q.procs
  pub main : IsSome (bound_at bs q.main)
  pub each : (p : ℕ) (b : StackSizes) → bound_at bs p ≡ Some b → CoversRun q bs p b

-- the sizes of the stacks that main's bounds are enough for: main's words and frame, and what its run takes beside them
abbrev pub sizes_for : Program → Bounds → StackSizes
sizes_for q bs = words_sum (main_used q) (unwrap_or (bound_at bs q.main) (stack_sizes 0 0))

-- a certificate that these sizes are enough for
pub record Covers (q : Program) (bs : Bounds) (sizes : StackSizes) : Type 0 where
  pub certificate : IsCertificate q bs
  pub within : IsAtMost (sizes_for q bs) sizes
