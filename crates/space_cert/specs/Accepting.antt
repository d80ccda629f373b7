-- Whether a certificate covers a source, as the code judges it: by the source's names and by its needs.
use Rattle.std.specs.Prelude.{ℕ, zero, suc, ◌+◌, List, [], ◌∷◌, ◌++◌, map, length, Option, Some, None, Bool, true, false, ◌&&◌, ◌==◌}
use Rattle.std.specs.List.{list_all}
use Rattle.gypsy_syntax.specs.{Resolved.{position_of, procedure_names}, Sources.{SourceOf, StmtOf, StmtsOf, no_op, signal, seq, loop}}
use Rattle.gypsy_syntax.specs.{Sources.{branch, begin, call, predef, no_parts, part}, Programs.{Proc, Program}}
use Rattle.gypsy_space.specs.{Needs.{StackSizes, stack_sizes, main_used}, Events.{need_at, need_of}, declared.need.Need.{Need}}
use Rattle.space_cert.specs.{Covers.{Bounds, bound_at, words_sum, callees}, Order.{call_bound_by}}
use Rattle.gypsy_semantics.specs.Views.Fitting.{suffice}

-- there is one, and it passes
abbrev pub is_some_and : Option StackSizes → (StackSizes → Bool) → Bool
is_some_and None f = false
is_some_and (Some w) f = f w

abbrev pub covers_call : List Need → Bounds → StackSizes → ℕ → Bool
covers_call ns bs b p = is_some_and (bound_at bs p) (λ d. suffice (call_bound_by (need_at ns p) d) b)

abbrev pub covers_calls : List Need → Bounds → StackSizes → List ℕ → Bool
covers_calls ns bs b ps = list_all (covers_call ns bs b) ps

-- of a procedure with these needs and these callees
abbrev pub covers_run : List Need → Bounds → Need → List ℕ → Option StackSizes → Bool
covers_run ns bs n ps None = true
covers_run ns bs n ps (Some b) = suffice (stack_sizes n.ctrl n.temp) b && covers_calls ns bs b ps

-- the procedures from p on
abbrev pub covers_from : List Need → Bounds → ℕ → List (List ℕ) → Bool
covers_from ns bs p [] = true
covers_from ns bs p (ps ∷ calls) = covers_run ns bs (need_at ns p) ps (bound_at bs p) && covers_from ns bs (p + 1) calls

abbrev pub covers_main : StackSizes → StackSizes → Option StackSizes → Bool
covers_main used sizes bound = is_some_and bound (λ b. suffice (words_sum used b) sizes)

abbrev pub covers : List Need → Bounds → StackSizes → StackSizes → ℕ → List (List ℕ) → Bool
covers ns bs used sizes main calls =
    length bs == length calls && (covers_main used sizes (bound_at bs main) && covers_from ns bs 0 calls)

-- The callees in a source's statements.

abbrev mutual
  pub source_callees : SourceOf → StmtOf → List ℕ
  source_callees s (no_op place) = []
  source_callees s (signal place cond) = []
  source_callees s (seq place parts) = parts_callees s parts
  source_callees s (loop place body) = source_callees s body
  source_callees s (branch place test b c) = source_callees s b ++ source_callees s c
  source_callees s (begin place body conds arm) = source_callees s body ++ source_callees s arm
  source_callees s (call place callee xs_place xs cs_place cs) = position_of callee.name (procedure_names s) ∷ []
  source_callees s (predef place which args) = []

  pub parts_callees : SourceOf → StmtsOf → List ℕ
  parts_callees s no_parts = []
  parts_callees s (part b rest) = source_callees s b ++ parts_callees s rest

abbrev pub source_calls : SourceOf → List (List ℕ)
source_calls s = map (λ p. source_callees s p.body) s.procs

-- By a program alone.

-- what n procedures from p on need
abbrev pub needs_from : Program → ℕ → ℕ → List Need
needs_from q zero p = []
needs_from q (suc n) p = need_of q p ∷ needs_from q n (p + 1)

-- whether the certificate covers the program at these sizes
unfoldable pub is_covered : Program → Bounds → StackSizes → Bool
is_covered q bs sizes =
    covers (needs_from q (length q.procs) 0) bs (main_used q) sizes q.main (map (λ (p : Proc). callees p.body) q.procs)
