-- A covered call has room, and leaves its callee covered.
use Rattle.std.{proofs.Common.{◌≡◌, not, if◌then◌else◌, ℕ, ◌+◌, ◌≤◌, max, length, true, Option, Some, None, refl, subst, arith}, proofs.lemmas.Bool.le-leb}
use Rattle.std.{proofs.lemmas.Bool.and_from, specs.Option.{IsSome, IsSomeAnd, unwrap_or}}
use Rattle.gypsy_syntax.specs.Programs.{Program, proc_at}
use Rattle.gypsy_space.specs.Needs.{StackSizes, stack_sizes, main_used, temp_need, local_words, with_call, call_need, has_temp_room, has_ctrl_room, has_room}
use Rattle.gypsy_space.{specs.Needs.lack_of, specs.declared.need.Lack.TheVariants.{Nothing, Temporary, Control}}
use Rattle.space_cert.specs.Covers.{Bounds, bound_at, words_sum, IsAtMost, own_need, call_bound, Covers}

-- main's words with its bounds
pub main_within : (q : Program) (bs : Bounds) (sizes : StackSizes) → Covers q bs sizes → (b : StackSizes) → bound_at bs q.main ≡ Some b
    → IsAtMost (words_sum (main_used q) b) sizes
main_within q bs sizes covers b e = subst (λ o. IsAtMost (words_sum (main_used q) (unwrap_or o (stack_sizes 0 0))) sizes) e covers.within

pub some_there : (o : Option StackSizes) (P : StackSizes → Type 0) → IsSomeAnd o P → IsSome o
some_there None P h = absurd h
some_there (Some w) P h = refl

-- the bound that the callee has
pub record HasBound (q : Program) (bs : Bounds) (b : StackSizes) (p : ℕ) : Type 0 where
  pub bound : StackSizes
  pub known : bound_at bs p ≡ Some bound
  pub within : IsAtMost (call_bound q p bound) b

pub bound_there : (q : Program) (bs : Bounds) (b : StackSizes) (p : ℕ) (o : Option StackSizes) → bound_at bs p ≡ o
    → IsSomeAnd o (λ d. IsAtMost (call_bound q p d) b) → HasBound q bs b p
bound_there q bs b p None e h = absurd h
bound_there q bs b p (Some d) e h = record { bound = d; known = e; within = h }

module _ (q : Program) (sizes : StackSizes) (p : ℕ) (u b d : StackSizes) (own : IsAtMost (own_need (proc_at q p)) d)
    (call : IsAtMost (call_bound q p d) b) (within : IsAtMost (words_sum u b) sizes) where
  temp_room : has_temp_room q sizes p u ≡ true
  unfolding call_need
  temp_room =
      let c = proc_at q p in
      let l = local_words c in
      le-leb _ sizes.temp (more u.temp l (length c.locals) (length c.formals) (temp_need c) d.temp b.temp sizes.temp own.temp call.temp within.temp)
    where
      more : (a l m k t d b s : ℕ) → t ≤ d → max (l + (k + m)) (l + d) ≤ b → a + b ≤ s → a + max (l + m + k) (l + t) ≤ s
      more a l m k t d b s h g f = omega (arith, h, g, f)

  ctrl_room : has_ctrl_room q sizes p u ≡ true
  unfolding call_need
  ctrl_room = le-leb _ sizes.ctrl (omega arith)

  pub room : has_room q sizes p u ≡ true
  unfolding has_room
  room = and_from (has_temp_room q sizes p u) (has_ctrl_room q sizes p u) temp_room ctrl_room

  pub lacks_nothing : lack_of q sizes p u ≡ Nothing
  unfolding lack_of
  lacks_nothing = λ i. if not (temp_room i) then Temporary else if not (ctrl_room i) then Control else Nothing

  pub left : IsAtMost (words_sum (with_call q p u) d) sizes
  unfolding with_call
  left = omega arith
    where
      more : (a l v d b s : ℕ) → max (l + v) (l + d) ≤ b → a + b ≤ s → a + l + d ≤ s
      more a l v d b s h g = omega (arith, h, g)
