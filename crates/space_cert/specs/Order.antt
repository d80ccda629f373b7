-- How the least certificate is found: procedure after procedure, each one after those that it calls.
use Rattle.std.specs.{Prelude.{◌≡◌, ℕ, ◌+◌, ◌≤◌, max, List, [], ◌∷◌, length, get_or, slice_set, Some}, Option.{unwrap_or}, List.{All}}
use Rattle.std.specs.List.{Contains}
use Rattle.space_cert.specs.{Bounded.{most_bound}, Covers.{Bounds, bound_at, no_bounds, own_need, call_bound}, Reaches.{calls_of}}
use Rattle.gypsy_syntax.specs.Programs.{Program, proc_at}
use Rattle.gypsy_space.specs.{Needs.{StackSizes, stack_sizes}, Events.{need_at}, declared.need.Need.{Need}}

-- each once, after those that it calls; the last one stands first
abbrev pub IsOrder : (ℕ → List ℕ) → List ℕ → Type 0
IsOrder calls [] = Unit {0}
IsOrder calls (p ∷ before) = ¬ Contains before p × All (Contains before) (calls p) × IsOrder calls before

-- the greater of each stack
abbrev pub greater : StackSizes → StackSizes → StackSizes
greater u v = stack_sizes (max u.ctrl v.ctrl) (max u.temp v.temp)

-- what a call of p takes by its bounds
abbrev pub call_words : Program → Bounds → ℕ → StackSizes
call_words q bs p = call_bound q p (unwrap_or (bound_at bs p) (stack_sizes 0 0))

-- the greatest of w and what calls of these take
abbrev pub greatest_call : Program → Bounds → List ℕ → StackSizes → StackSizes
greatest_call q bs [] w = w
greatest_call q bs (p ∷ ps) w = greatest_call q bs ps (greater w (call_words q bs p))

-- what a run of p takes beside its own words, by its callees' bounds
abbrev pub run_bound : Program → Bounds → ℕ → StackSizes
run_bound q bs p = greatest_call q bs (calls_of q p) (own_need (proc_at q p))

abbrev pub with_bound : Bounds → ℕ → StackSizes → Bounds
with_bound bs p w = slice_set bs p (Some (w.temp, w.ctrl))

-- with bounds for the procedures of an order
abbrev pub bounds_of_order : Program → List ℕ → Bounds
bounds_of_order q [] = no_bounds (length q.procs)
bounds_of_order q (p ∷ before) = with_bound (bounds_of_order q before) p (run_bound q (bounds_of_order q before) p)

-- The same by a list of needs and the callees of each procedure.

-- what a call takes by its callee's needs, and by what a run of it takes
abbrev pub call_bound_by : Need → StackSizes → StackSizes
call_bound_by n b = stack_sizes (2 + n.vars + b.ctrl) (max (n.locals_words + n.vars) (n.locals_words + b.temp))

abbrev pub call_words_by : List Need → Bounds → ℕ → StackSizes
call_words_by ns bs p = call_bound_by (need_at ns p) (unwrap_or (bound_at bs p) (stack_sizes 0 0))

abbrev pub greatest_call_by : List Need → Bounds → List ℕ → StackSizes → StackSizes
greatest_call_by ns bs [] w = w
greatest_call_by ns bs (p ∷ ps) w = greatest_call_by ns bs ps (greater w (call_words_by ns bs p))

abbrev pub run_bound_by : List Need → Bounds → List ℕ → ℕ → StackSizes
run_bound_by ns bs calls p = greatest_call_by ns bs calls (stack_sizes (need_at ns p).ctrl (need_at ns p).temp)

abbrev pub bounds_by_needs : List Need → List (List ℕ) → List ℕ → Bounds
bounds_by_needs ns cs [] = no_bounds (length cs)
bounds_by_needs ns cs (p ∷ before) =
    with_bound (bounds_by_needs ns cs before) p (run_bound_by ns (bounds_by_needs ns cs before) (get_or cs p []) p)

-- no bound is above 2^40
abbrev pub AreBounds : Bounds → Type 0
AreBounds bs = (p : ℕ) (b : StackSizes) → bound_at bs p ≡ Some b → (b.temp ≤ most_bound) × (b.ctrl ≤ most_bound)
