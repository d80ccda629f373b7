-- How much is made of statements, in parts; what is small enough nests no deeper than it may, and takes few variables.
use Rattle.std.proofs.Common.{◌≡◌, ℕ, zero, suc, ◌+◌, ◌-◌, ◌<◌, ◌≤◌, List, [], ◌∷◌, ◌++◌, length, length-append, Bool, true, false, refl, arith}
use Rattle.std.{specs.Prelude.{◌==◌, if◌then◌else◌}, proofs.lemmas.Bool.{eqb-true, eqb-false}}
use Rattle.stack_text.specs.Values.{ValueOf}
use Rattle.gypsy_syntax.specs.Programs.{Program, Stmt, Skip, NoOp, Signal, Seq, Loop, If, Begin, Call, Apply, body_of, conds_of, proc_at}
use Rattle.gypsy_syntax.specs.ProgramFits.{Each}
use Rattle.gypsy_space.specs.Needs.{StackSizes, with_call, has_room}
use Rattle.quick_gypsy.specs.InLine.{Nests, if_so, new_locals}
use Rattle.quick_generate.specs.Lining.{capped_size, too_much, call_size, inside, lined_size, locals_size, most_lined}

-- the size so far, with the rest, makes the whole
pub record HasMore (n rest whole : ℕ) : Type 0 where
  pub size : capped_size (n + rest) ≡ capped_size whole
  pub small : n ≤ too_much

-- what stands in another statement, and isn't too much
pub inside_known : (k n : ℕ) → inside k n ≤ most_lined → (inside k n ≡ n) × (0 < k)
inside_known k n h = pick (k == 0) refl h
  where
    pick : (b : Bool) → (k == 0) ≡ b → (if b then too_much else n) ≤ most_lined → ((if b then too_much else n) ≡ n) × (0 < k)
    pick true e g = absurd (omega (arith, g))
    pick false e g = let other = eqb-false k 0 e in (refl, omega (arith, other))

-- few locals are simple
locals_simple : (locals : List ValueOf) → locals_size locals ≤ most_lined → Each (λ v. v.shape.length ≡ 0) locals
locals_simple [] h = tt
locals_simple (v ∷ locals) h = pick (v.shape.length == 0) refl h (λ less. locals_simple locals less)
  where
    pick : (b : Bool) → (v.shape.length == 0) ≡ b → (if b then 1 else too_much) + locals_size locals ≤ most_lined
        → (locals_size locals ≤ most_lined → Each (λ v. v.shape.length ≡ 0) locals)
        → (v.shape.length ≡ 0) × Each (λ v. v.shape.length ≡ 0) locals
    pick true e g rest = (eqb-true v.shape.length 0 e, rest (omega (arith, g)))
    pick false e g rest = absurd (omega (arith, g))

pub locals_few : (locals : List ValueOf) → length locals ≤ locals_size locals
locals_few [] = omega arith
locals_few (v ∷ locals) = pick (v.shape.length == 0) (locals_few locals)
  where
    pick : (b : Bool) → length locals ≤ locals_size locals → suc (length locals) ≤ (if b then 1 else too_much) + locals_size locals
    pick true rest = omega (arith, rest)
    pick false rest = omega (arith, rest)

module _ (q : Program) (sizes : StackSizes) where
  -- how much is made of a callee's body
  abbrev pub body_size : ℕ → ℕ → StackSizes → ℕ → ℕ
  body_size d k u p = inside k (lined_size q sizes d (k - 1) (with_call q p u) (body_of q p))

  abbrev call_by : ℕ → ℕ → StackSizes → ℕ → Bool → ℕ
  call_by d k u p b = if b then call_size (proc_at q p) + body_size d (k - conds_of (proc_at q p)) u p else 1

  call_nests : (d k : ℕ) (u : StackSizes) (p : ℕ) (b : Bool) → call_by d k u p b ≤ most_lined
      → (lined_size q sizes d (k - conds_of (proc_at q p) - 1) (with_call q p u) (body_of q p) ≤ most_lined
      → Nests q sizes d (with_call q p u) (body_of q p))
      → if_so b (Each (λ v. v.shape.length ≡ 0) (proc_at q p).locals × Nests q sizes d (with_call q p u) (body_of q p))
  call_nests d k u p true h inner =
      let left = k - conds_of (proc_at q p) in
      let i = inside_known left (lined_size q sizes d (left - 1) (with_call q p u) (body_of q p)) (omega (arith, h)) in
      (locals_simple (proc_at q p).locals (omega (arith, h)), inner (omega (arith, h, i.0)))
  call_nests d k u p false h inner = tt

  -- calls nest no deeper than they may, and have no arrays
  pub small_nests : (d k : ℕ) (u : StackSizes) (s : Stmt) → lined_size q sizes d k u s ≤ most_lined → Nests q sizes d u s
  small_nests d k u Skip h = tt
  small_nests d k u (NoOp place) h = tt
  small_nests d k u (Signal place c) h = tt
  small_nests d k u (Seq a b) h =
      let i = inside_known k (lined_size q sizes d (k - 1) u a) (omega (arith, h)) in
      (small_nests d (k - 1) u a (omega (arith, h, i.0)), small_nests d k u b (omega (arith, h)))
  small_nests d k u (Loop place s) h =
      let i = inside_known k (lined_size q sizes d (k - 1) u s) (omega (arith, h)) in
      small_nests d (k - 1) u s (omega (arith, h, i.0))
  small_nests d k u (If place b s w) h =
      let i = inside_known k (lined_size q sizes d (k - 1) u s) (omega (arith, h)) in
      let j = inside_known k (lined_size q sizes d (k - 1) u w) (omega (arith, h)) in
      (small_nests d (k - 1) u s (omega (arith, h, i.0)), small_nests d (k - 1) u w (omega (arith, h, j.0)))
  small_nests d k u (Begin place s cs w) h =
      let i = inside_known k (lined_size q sizes d (k - 1) u s) (omega (arith, h)) in
      let j = inside_known k (lined_size q sizes d (k - 1) u w) (omega (arith, h)) in
      (small_nests d (k - 1) u s (omega (arith, h, i.0)), small_nests d (k - 1) u w (omega (arith, h, j.0)))
  small_nests zero k u (Call place p xs cs) h = absurd (omega (arith, h))
  small_nests (suc d) k u (Call place p xs cs) h =
      let left = k - conds_of (proc_at q p) in
      call_nests d k u p (has_room q sizes p u) h (λ less. small_nests d (left - 1) (with_call q p u) (body_of q p) less)
  small_nests d k u (Apply place r args) h = tt

  few_call : (d k : ℕ) (u : StackSizes) (p : ℕ) (b : Bool) → call_by d k u p b ≤ most_lined
      → (lined_size q sizes d (k - conds_of (proc_at q p) - 1) (with_call q p u) (body_of q p) ≤ most_lined
      → length (new_locals q sizes d (with_call q p u) (body_of q p))
      ≤ lined_size q sizes d (k - conds_of (proc_at q p) - 1) (with_call q p u) (body_of q p))
      → length (if b then (proc_at q p).locals ++ new_locals q sizes d (with_call q p u) (body_of q p) else []) ≤ call_by d k u p b
  few_call d k u p true h inner =
      let left = k - conds_of (proc_at q p) in
      let new = new_locals q sizes d (with_call q p u) (body_of q p) in
      let i = inside_known left (lined_size q sizes d (left - 1) (with_call q p u) (body_of q p)) (omega (arith, h)) in
      let f = inner (omega (arith, h, i.0)) in
      omega (arith, i.0, f, locals_few (proc_at q p).locals, length-append (proc_at q p).locals new)
  few_call d k u p false h inner = omega arith

  -- no more variables are taken than is made
  pub few_new : (d k : ℕ) (u : StackSizes) (s : Stmt) → lined_size q sizes d k u s ≤ most_lined
      → length (new_locals q sizes d u s) ≤ lined_size q sizes d k u s
  few_new d k u Skip h = omega arith
  few_new d k u (NoOp place) h = omega arith
  few_new d k u (Signal place c) h = omega arith
  few_new d k u (Seq a b) h =
      let i = inside_known k (lined_size q sizes d (k - 1) u a) (omega (arith, h)) in
      let f = few_new d (k - 1) u a (omega (arith, h, i.0)) in
      let g = few_new d k u b (omega (arith, h)) in
      omega (arith, i.0, f, g, length-append (new_locals q sizes d u a) (new_locals q sizes d u b))
  few_new d k u (Loop place s) h =
      let i = inside_known k (lined_size q sizes d (k - 1) u s) (omega (arith, h)) in
      let f = few_new d (k - 1) u s (omega (arith, h, i.0)) in
      omega (arith, i.0, f)
  few_new d k u (If place b s w) h =
      let i = inside_known k (lined_size q sizes d (k - 1) u s) (omega (arith, h)) in
      let j = inside_known k (lined_size q sizes d (k - 1) u w) (omega (arith, h)) in
      let f = few_new d (k - 1) u s (omega (arith, h, i.0)) in
      let g = few_new d (k - 1) u w (omega (arith, h, j.0)) in
      omega (arith, i.0, j.0, f, g, length-append (new_locals q sizes d u s) (new_locals q sizes d u w))
  few_new d k u (Begin place s cs w) h =
      let i = inside_known k (lined_size q sizes d (k - 1) u s) (omega (arith, h)) in
      let j = inside_known k (lined_size q sizes d (k - 1) u w) (omega (arith, h)) in
      let f = few_new d (k - 1) u s (omega (arith, h, i.0)) in
      let g = few_new d (k - 1) u w (omega (arith, h, j.0)) in
      omega (arith, i.0, j.0, f, g, length-append (new_locals q sizes d u s) (new_locals q sizes d u w))
  few_new zero k u (Call place p xs cs) h = omega arith
  few_new (suc d) k u (Call place p xs cs) h =
      let left = k - conds_of (proc_at q p) in
      few_call d k u p (has_room q sizes p u) h (λ less. few_new d (left - 1) (with_call q p u) (body_of q p) less)
  few_new d k u (Apply place r args) h = omega arith

  -- of a statement in another one
  pub few_inside : (d k : ℕ) (u : StackSizes) (s : Stmt) → inside k (lined_size q sizes d (k - 1) u s) ≤ most_lined
      → length (new_locals q sizes d u s) ≤ inside k (lined_size q sizes d (k - 1) u s)
  few_inside d k u s h =
      let i = inside_known k (lined_size q sizes d (k - 1) u s) h in
      let f = few_new d (k - 1) u s (omega (arith, h, i.0)) in
      omega (arith, i.0, f)
