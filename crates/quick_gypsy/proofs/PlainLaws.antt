-- Main with its calls in line calls nothing, and its arguments fit.
use Rattle.std.proofs.Common.{◌≡◌, ℕ, zero, suc, ◌+◌, ◌-◌, ◌<◌, ◌≤◌, List, [], ◌∷◌, ◌++◌, map, length, get_or, slice_get, Bool, true, false, Some, refl, ap}
use Rattle.std.{proofs.Common.{sym, ◌∙◌, subst, arith, append_assoc, ltb-true}, specs.Prelude.{nat_lt, if◌then◌else◌, option_map}, proofs.lemmas.Bool.ltb-false}
use Rattle.std.{proofs.lemmas.List.map-append, proofs.lemmas.Option.{slice_get_within, slice_get-map}}
use Rattle.stack_text.{specs.declared.shape.Kind.Kind, specs.declared.shape.Shape.Shape, specs.Values.ValueOf}
use Rattle.gypsy_syntax.{specs.declared.slot.Form.Form, specs.declared.slot.Form.TheVariants.{Simple, Array, Literal}, specs.declared.slot.Slot.Slot}
use Rattle.gypsy_syntax.{specs.Predefined.slots_of, specs.ValuesFit.ValueFits, specs.Programs.{ConditionOf, Space, Arg, Var, Lit, Program, simple, proc_at}}
use Rattle.gypsy_syntax.specs.Programs.{body_of, shapes_of, conds_of, Stmt, Skip, NoOp, Signal, Seq, Loop, If, Begin, Call, Apply, Declared}
use Rattle.gypsy_syntax.specs.ProgramFits.{ArgFits, ArgsFit, ActualsFit, Each, CallFits, StmtFits, ProgramFits, slot_kind}
use Rattle.gypsy_space.specs.Needs.{StackSizes, main_used, with_call, has_room}
use Rattle.quick_gypsy.{specs.Quick.IsPlain, specs.InLine.{InMain, arg_from, taken, numbers_from, main_context, callee_context, after_locals, passing}}
use Rattle.quick_gypsy.{specs.InLine.{ways_out, new_locals, in_line, if_so, Nests}, specs.InLineRuns.{LinedMainsArePlain, LinedLocalsFit}}
use Rattle.quick_gypsy.proofs.ViewLaws.{callee_variables, formal_at, local_at, number_at}

-- Items of two lists.

in_front : {X : Type 0} (xs ys : List X) (i : ℕ) (x : X) → slice_get xs i ≡ Some x → slice_get (xs ++ ys) i ≡ Some x
in_front [] ys i x e = absurd cc
in_front (z ∷ xs) ys zero x e = e
in_front (z ∷ xs) ys (suc i) x e = in_front xs ys i x e

behind_all : {X : Type 0} (xs ys : List X) (i : ℕ) → slice_get (xs ++ ys) (length xs + i) ≡ slice_get ys i
behind_all [] ys i = let e : 0 + i ≡ i = omega arith in ap (slice_get ys) e
behind_all (z ∷ xs) ys i =
    let e : suc (length xs) + i ≡ suc (length xs + i) = omega arith in ap (slice_get (z ∷ (xs ++ ys))) e ∙ behind_all xs ys i

of_front : {X : Type 0} (xs ys : List X) (i : ℕ) → i < length xs → slice_get (xs ++ ys) i ≡ slice_get xs i
of_front [] ys i h = absurd (omega (arith, h))
of_front (z ∷ xs) ys zero h = refl
of_front (z ∷ xs) ys (suc i) h = of_front xs ys i (omega (arith, h))

of_rest : {X : Type 0} (xs ys : List X) (i : ℕ) → length xs ≤ i → slice_get (xs ++ ys) i ≡ slice_get ys (i - length xs)
of_rest xs ys i h = let e : i ≡ length xs + (i - length xs) = omega (arith, h) in ap (slice_get (xs ++ ys)) e ∙ behind_all xs ys (i - length xs)

-- a procedure's variables are main's, of the same shapes
abbrev Sees : List Shape → List ℕ → List Shape → Type 0
Sees store vs shapes = (b : ℕ) (s : Shape) → slice_get shapes b ≡ Some s → slice_get store (get_or vs b 0) ≡ Some s

-- these values' variables stand from a number on
abbrev Stand : List Shape → ℕ → List ValueOf → Type 0
Stand store next locals = (i : ℕ) (v : ValueOf) → slice_get locals i ≡ Some v → slice_get store (next + i) ≡ Some v.shape

stand_front : (store : List Shape) (next : ℕ) (xs ys : List ValueOf) → Stand store next (xs ++ ys) → Stand store next xs
stand_front store next xs ys h i v e = h i v (in_front xs ys i v e)

stand_rest : (store : List Shape) (next : ℕ) (xs ys : List ValueOf) → Stand store next (xs ++ ys) → Stand store (next + length xs) ys
stand_rest store next xs ys h i v e =
    let there : next + (length xs + i) ≡ next + length xs + i = omega arith in
    sym (ap (slice_get store) there) ∙ h (length xs + i) v (behind_all xs ys i ∙ e)

-- Arguments.

arg_fits : (store shapes : List Shape) (vs : List ℕ) (form : Form) (k : Kind) (a : Arg) → Sees store vs shapes → ArgFits shapes form k a
    → ArgFits store form k (arg_from vs a)
arg_fits store shapes vs Simple k (Var i) sees f = sees i (simple k) f
arg_fits store shapes vs Array k (Var i) sees f = (f.0, f.1, f.2, sees i record { kind = k; length = f.0 } f.3)
arg_fits store shapes vs Literal k (Var i) sees f = f
arg_fits store shapes vs Simple k (Lit v) sees f = f
arg_fits store shapes vs Array k (Lit v) sees f = f
arg_fits store shapes vs Literal k (Lit v) sees f = f

args_fit : (store shapes : List Shape) (vs : List ℕ) (k : Kind) (slots : List Slot) (args : List Arg) → Sees store vs shapes → ArgsFit shapes k slots args
    → ArgsFit store k slots (map (arg_from vs) args)
args_fit store shapes vs k [] [] sees f = tt
args_fit store shapes vs k [] (a ∷ args) sees f = absurd f
args_fit store shapes vs k (slot ∷ slots) [] sees f = absurd f
args_fit store shapes vs k (slot ∷ slots) (a ∷ args) sees f =
    (arg_fits store shapes vs slot.form (slot_kind k slot.kind) a sees f.0, args_fit store shapes vs k slots args sees f.1)

-- A call.

passing_plain : (store : List Shape) (place i : ℕ) (cs : List ConditionOf) (s : Stmt) → IsPlain store s → IsPlain store (passing place i cs s)
passing_plain store place i [] s h = h
passing_plain store place i (c ∷ cs) s h = passing_plain store place (suc i) cs (Begin place s (Declared i ∷ []) (Signal place c)) (h, tt)

simple_shape : (s : Shape) → s.length ≡ 0 → s ≡ simple s.kind
simple_shape s e = ap (λ n. record { kind = s.kind; length = n }) e

locals_plain : (store : List Shape) (place b : ℕ) (locals : List ValueOf) (s : Stmt) → Each (λ v. v.shape.length ≡ 0) locals → Each ValueFits locals
    → Stand store b locals → IsPlain store s → IsPlain store (after_locals place b locals s)
locals_plain store place b [] s flat fit stand h = (h, tt)
locals_plain store place b (v ∷ locals) s flat fit stand h =
    let shape = simple_shape v.shape flat.0 in
    let here : b + 0 ≡ b = omega arith in (
      (v.shape.kind, (sym (ap (slice_get store) here) ∙ stand 0 v refl ∙ ap Some shape, ((shape, fit.0), tt))),
      locals_plain store place (suc b) locals s flat.1 fit.1
          (λ i w e. let next : b + suc i ≡ suc b + i = omega arith in sym (ap (slice_get store) next) ∙ stand (suc i) w e) h,
    )

actual_seen : (store shapes : List Shape) (vs : List ℕ) (formals : List Shape) (xs : List ℕ) (b : ℕ) (s : Shape) → Sees store vs shapes
    → ActualsFit shapes formals xs → slice_get formals b ≡ Some s → (b < length xs) × (slice_get store (get_or vs (get_or xs b 0) 0) ≡ Some s)
actual_seen store shapes vs [] [] b s sees f e = absurd cc
actual_seen store shapes vs [] (a ∷ xs) b s sees f e = absurd f
actual_seen store shapes vs (t ∷ formals) [] b s sees f e = absurd f
actual_seen store shapes vs (t ∷ formals) (a ∷ xs) zero s sees f e = (omega arith, sees a s (f.0 ∙ e))
actual_seen store shapes vs (t ∷ formals) (a ∷ xs) (suc b) s sees f e =
    let rest = actual_seen store shapes vs formals xs b s sees f.1 e in (omega (arith, rest.0), rest.1)

as_many : (shapes formals : List Shape) (xs : List ℕ) → ActualsFit shapes formals xs → length xs ≡ length formals
as_many shapes [] [] f = refl
as_many shapes [] (x ∷ xs) f = absurd f
as_many shapes (s ∷ formals) [] f = absurd f
as_many shapes (s ∷ formals) (x ∷ xs) f = ap suc (as_many shapes formals xs f.1)

local_shape : (locals : List ValueOf) (i : ℕ) (s : Shape) → slice_get (map (λ (v : ValueOf). v.shape) locals) i ≡ Some s
    → (v : ValueOf) × (slice_get locals i ≡ Some v) × (v.shape ≡ s)
local_shape [] i s e = absurd cc
local_shape (v ∷ locals) zero s e = (v, refl, cc)
local_shape (v ∷ locals) (suc i) s e = local_shape locals i s e

callee_sees : (store shapes : List Shape) (vs : List ℕ) (next : ℕ) (formals : List Shape) (locals : List ValueOf) (xs : List ℕ) → Sees store vs shapes
    → ActualsFit shapes formals xs → Stand store next locals
    → Sees store (callee_variables vs next xs (length locals)) (formals ++ map (λ (v : ValueOf). v.shape) locals)
callee_sees store shapes vs next formals locals xs sees f stand b s e = pick (nat_lt b (length formals)) refl
  where
    same : length xs ≡ length formals
    same = as_many shapes formals xs f

    pick : (t : Bool) → nat_lt b (length formals) ≡ t → slice_get store (get_or (callee_variables vs next xs (length locals)) b 0) ≡ Some s
    pick true g =
        let lt : b < length formals = ltb-true b (length formals) g in
        let there = actual_seen store shapes vs formals xs b s sees f (sym (of_front formals (map (λ (v : ValueOf). v.shape) locals) b lt) ∙ e) in
        ap (slice_get store) (formal_at vs next xs (length locals) b there.0) ∙ there.1
    pick false g =
        let far : length formals ≤ b = ltb-false b (length formals) g in
        let one = local_shape locals (b - length formals) s (sym (of_rest formals (map (λ (v : ValueOf). v.shape) locals) b far) ∙ e) in
        let lt : b - length formals < length locals = slice_get_within locals (b - length formals) one.0 one.1 in
        let at : next + (b - length xs) ≡ next + (b - length formals) = omega (arith, same) in
        ap (slice_get store) (local_at vs next xs (length locals) b (omega (arith, far, same)) (omega (arith, lt, far, same)) ∙ at)
        ∙ stand (b - length formals) one.0 one.1 ∙ ap Some one.2

module _ (q : Program) (sizes : StackSizes) (fits : ProgramFits q) (store : List Shape) where
  call_plain : (d place p : ℕ) (xs : List ℕ) (cs : List ConditionOf) (h : InMain) (shapes : List Shape) (conds : ℕ) (looping : Bool) (b : Bool)
      → CallFits q shapes conds looping p xs cs → Sees store h.variables shapes
      → if_so b (Each (λ v. v.shape.length ≡ 0) (proc_at q p).locals × Nests q sizes d (with_call q p h.used) (body_of q p))
      → Stand store h.next (if b then (proc_at q p).locals ++ new_locals q sizes d (with_call q p h.used) (body_of q p) else [])
      → (Nests q sizes d (callee_context q h p xs).used (body_of q p) → Sees store (callee_context q h p xs).variables (shapes_of (proc_at q p))
      → Stand store (callee_context q h p xs).next (new_locals q sizes d (callee_context q h p xs).used (body_of q p))
      → IsPlain store (in_line q sizes d (callee_context q h p xs) (body_of q p)))
      → IsPlain store (if b
      then passing place h.next_cond (ways_out q h p cs)
      (after_locals place h.next (proc_at q p).locals (in_line q sizes d (callee_context q h p xs) (body_of q p)))
      else Signal place Space)
  unfolding callee_context
  call_plain d place p xs cs h shapes conds looping true f sees nests stand inner =
      let locals = (proc_at q p).locals in
      let new = new_locals q sizes d (with_call q p h.used) (body_of q p) in
      let front : Stand store h.next locals = stand_front store h.next locals new stand in
      let rest : Stand store (h.next + length locals) new = stand_rest store h.next locals new stand in
      let body = in_line q sizes d (callee_context q h p xs) (body_of q p) in
      passing_plain store place h.next_cond (ways_out q h p cs) (after_locals place h.next locals body)
      (locals_plain store place h.next locals body nests.0 (fits.procs p).locals front
      (inner nests.1 (callee_sees store shapes h.variables h.next (proc_at q p).formals locals xs sees f.actuals front) rest))
  call_plain d place p xs cs h shapes conds looping false f sees nests stand inner = tt

  plain : (s : Stmt) (d : ℕ) (h : InMain) (shapes : List Shape) (conds : ℕ) (looping : Bool) → StmtFits q shapes conds looping s
      → Nests q sizes d h.used s → Sees store h.variables shapes → Stand store h.next (new_locals q sizes d h.used s)
      → IsPlain store (in_line q sizes d h s)
  plain Skip d h shapes conds looping f nests sees stand = tt
  plain (NoOp place) d h shapes conds looping f nests sees stand = tt
  plain (Signal place c) d h shapes conds looping f nests sees stand = tt
  plain (Seq a b) d h shapes conds looping f nests sees stand =
      let na = new_locals q sizes d h.used a in
      let nb = new_locals q sizes d h.used b in (
        plain a d h shapes conds looping f.0 nests.0 sees (stand_front store h.next na nb stand),
        plain b d (taken h (length na)) shapes conds looping f.1 nests.1 sees (stand_rest store h.next na nb stand),
      )
  plain (Loop place s) d h shapes conds looping f nests sees stand = plain s d h shapes conds true f nests sees stand
  plain (If place v s w) d h shapes conds looping f nests sees stand =
      let ns = new_locals q sizes d h.used s in
      let nw = new_locals q sizes d h.used w in (
        sees v _ f.0,
        plain s d h shapes conds looping f.1 nests.0 sees (stand_front store h.next ns nw stand),
        plain w d (taken h (length ns)) shapes conds looping f.2 nests.1 sees (stand_rest store h.next ns nw stand),
      )
  plain (Begin place s cs w) d h shapes conds looping f nests sees stand =
      let ns = new_locals q sizes d h.used s in
      let nw = new_locals q sizes d h.used w in (
        plain s d h shapes conds looping f.1 nests.0 sees (stand_front store h.next ns nw stand),
        plain w d (taken h (length ns)) shapes conds looping f.2 nests.1 sees (stand_rest store h.next ns nw stand),
      )
  plain (Call place p xs cs) zero h shapes conds looping f nests sees stand = absurd nests
  plain (Call place p xs cs) (suc d) h shapes conds looping f nests sees stand =
      call_plain d place p xs cs h shapes conds looping (has_room q sizes p h.used) f sees nests stand
      (λ inside there more. plain (body_of q p) d (callee_context q h p xs) (shapes_of (proc_at q p)) (conds_of (proc_at q p)) false (fits.procs p).body
      inside there more)
  plain (Apply place r args) d h shapes conds looping f nests sees stand = (f.0, args_fit store shapes h.variables f.0 (slots_of r) args sees f.1)

pub lined_mains_are_plain : LinedMainsArePlain
unfolding main_context
lined_mains_are_plain q sizes d fits nests =
    let p = proc_at q q.main in
    let shapes = shapes_of p in
    let new = new_locals q sizes d (main_used q) p.body in
    let shape : ValueOf → Shape = λ v. v.shape in
    let store : List Shape = p.formals ++ map shape (p.locals ++ new) in
    let parts : store ≡ shapes ++ map shape new =
    ap (λ l. p.formals ++ l) (map-append shape p.locals new) ∙ sym (append_assoc p.formals (map shape p.locals) (map shape new)) in
    subst (λ z. IsPlain z (in_line q sizes d (main_context q) p.body)) (sym parts)
    (plain q sizes fits (shapes ++ map shape new) p.body d (main_context q) shapes (conds_of p) false (fits.procs q.main).body nests
    (λ b s e. let lt : b < length shapes = slice_get_within shapes b s e in
    let at : get_or (numbers_from 0 (length shapes)) b 0 ≡ b = omega (arith, number_at 0 (length shapes) b lt) in
    ap (slice_get (shapes ++ map shape new)) at ∙ in_front shapes (map shape new) b s e)
    (λ i v e. behind_all shapes (map shape new) i ∙ slice_get-map shape new i ∙ ap (option_map shape) e))

-- Locals.

both_fit : (xs ys : List ValueOf) → Each ValueFits xs → Each ValueFits ys → Each ValueFits (xs ++ ys)
both_fit [] ys h g = g
both_fit (x ∷ xs) ys h g = (h.0, both_fit xs ys h.1 g)

module _ (q : Program) (sizes : StackSizes) (fits : ProgramFits q) where
  either_fit : (b : Bool) (xs : List ValueOf) → Each ValueFits xs → Each ValueFits (if b then xs else [])
  either_fit true xs h = h
  either_fit false xs h = tt

  new_fit : (s : Stmt) (d : ℕ) (u : StackSizes) → Each ValueFits (new_locals q sizes d u s)
  new_fit Skip d u = tt
  new_fit (NoOp place) d u = tt
  new_fit (Signal place c) d u = tt
  new_fit (Seq a b) d u = both_fit (new_locals q sizes d u a) (new_locals q sizes d u b) (new_fit a d u) (new_fit b d u)
  new_fit (Loop place s) d u = new_fit s d u
  new_fit (If place v s w) d u = both_fit (new_locals q sizes d u s) (new_locals q sizes d u w) (new_fit s d u) (new_fit w d u)
  new_fit (Begin place s cs w) d u = both_fit (new_locals q sizes d u s) (new_locals q sizes d u w) (new_fit s d u) (new_fit w d u)
  new_fit (Call place p xs cs) zero u = tt
  new_fit (Call place p xs cs) (suc d) u =
      let new = new_locals q sizes d (with_call q p u) (body_of q p) in
      either_fit (has_room q sizes p u) ((proc_at q p).locals ++ new)
      (both_fit (proc_at q p).locals new (fits.procs p).locals (new_fit (body_of q p) d (with_call q p u)))
  new_fit (Apply place r args) d u = tt

pub lined_locals_fit : LinedLocalsFit
lined_locals_fit q sizes d fits =
    both_fit (proc_at q q.main).locals (new_locals q sizes d (main_used q) (body_of q q.main)) (fits.procs q.main).locals
    (new_fit q sizes fits (body_of q q.main) d (main_used q))
