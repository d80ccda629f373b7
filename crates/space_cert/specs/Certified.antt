-- The least certificate as a function of the program, or the first procedure for which there is none.
use Rattle.std.specs.Prelude.{ℕ, zero, suc, ◌+◌, ◌==◌, Bool, ◌&&◌, ◌||◌, List, [], ◌∷◌, length, Option, Some, None, Result, Ok, Err}
use Rattle.std.specs.{Prelude.{if◌then◌else◌}, List.{list_any}}
use Rattle.stack_text.specs.Gives as common
use Rattle.gypsy_syntax.specs.Programs.{Program, proc_at}
use Rattle.gypsy_space.specs.Needs.{StackSizes, stack_sizes}
use Rattle.space_cert.specs.{declared.certifying.CertFault.{CertFault}, declared.certifying.CertFault.TheVariants.{Recursive, Memory}}
use Rattle.space_cert.specs.{Covers.{Bounds, own_need, call_bound}, Reaches.{calls_of}, Order.{greater}}

-- p calls r, or comes to it by way of procedures that stand below n
unfoldable pub reaches_below : (ℕ → List ℕ) → ℕ → ℕ → ℕ → Bool
reaches_below calls zero p r = list_any (λ c. c == r) (calls p)
reaches_below calls (suc n) p r = reaches_below calls n p r || (reaches_below calls n p n && reaches_below calls n n r)

-- by way of any procedures
abbrev pub reaches : Program → ℕ → ℕ → Bool
reaches q p r = reaches_below (calls_of q) (length q.procs) p r

-- main, or called from it
abbrev pub is_reached : Program → ℕ → Bool
is_reached q p = q.main == p || reaches q q.main p

-- it is reached, and calls itself, perhaps by way of others
abbrev pub is_recursive : Program → ℕ → Bool
is_recursive q p = is_reached q p && reaches q p p

-- the first of n numbers from k on that passes the test
unfoldable pub first_from : (ℕ → Bool) → ℕ → ℕ → Option ℕ
first_from test zero k = None
first_from test (suc n) k = if test k then Some k else first_from test n (k + 1)

-- the greatest of w and what calls of these take, by what runs of them take
unfoldable pub greatest_taken : Program → (ℕ → StackSizes) → List ℕ → StackSizes → StackSizes
greatest_taken q taken [] w = w
greatest_taken q taken (p ∷ ps) w = greatest_taken q taken ps (greater w (call_bound q p (taken p)))

-- what a run of p takes beside its own words, where calls are followed to this depth
unfoldable pub run_within : Program → ℕ → ℕ → StackSizes
run_within q zero p = stack_sizes 0 0
run_within q (suc depth) p = greatest_taken q (run_within q depth) (calls_of q p) (own_need (proc_at q p))

-- a chain of calls without a recursion is no longer than there are procedures
abbrev pub least_bound : Program → ℕ → Option (ℕ × ℕ)
least_bound q p =
    let run = run_within q (length q.procs) p in
    if is_reached q p then Some (run.temp, run.ctrl) else None

-- of n procedures from p on
unfoldable pub bounds_from : Program → ℕ → ℕ → Bounds
bounds_from q zero p = []
bounds_from q (suc n) p = least_bound q p ∷ bounds_from q n (p + 1)

abbrev pub unless_recursive : Option ℕ → Bounds → Result Bounds ℕ
unless_recursive None bs = Ok bs
unless_recursive (Some p) bs = Err p

-- the least certificate, or the first procedure that main reaches and that reaches itself
unfoldable pub certified : Program → Result Bounds ℕ
certified q = unless_recursive (first_from (is_recursive q) (length q.procs) 0) (bounds_from q (length q.procs) 0)

-- the procedure that a fault tells; there is none where memory ran out
abbrev pub recursive_of : CertFault → Option ℕ
recursive_of (Recursive p) = Some p
recursive_of Memory = None

-- the call returned exactly what the definition gives, seen through the view, unless memory was refused
abbrev pub GivesCertifiedUnless : {X : Type 0} → Type 0 → (X → Bounds) → Result X CertFault → Result Bounds ℕ → Type 0
GivesCertifiedUnless refused view result value = common.GivesUnless refused recursive_of view result value
