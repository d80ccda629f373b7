-- Main with its calls in line does what main does.
use Rattle.std.proofs.Common.{◌≡◌, ◌≢◌, ℕ, zero, suc, ◌+◌, ◌-◌, ◌*◌, ◌<◌, ◌≤◌, List, [], ◌∷◌, ◌++◌, map, length, get_or, slice_get, Bool, true, false, not, ◌⊎◌}
use Rattle.std.{proofs.Common.{inl, inr, Some, refl, ap, sym, ◌∙◌, subst, arith, length-append, true≢false}, specs.Prelude.{◌&&◌, if◌then◌else◌}}
use Rattle.std.{proofs.lemmas.List.length-map, proofs.lemmas.Option.slice_get_within}
use Rattle.stack_text.{specs.declared.shape.Kind.Kind, specs.declared.shape.Shape.Shape, specs.Values.ValueOf}
use Rattle.gypsy_syntax.{specs.declared.predef.Predef.Predef, specs.declared.slot.Form.Form, specs.declared.slot.Form.TheVariants.{Simple, Array, Literal}}
use Rattle.gypsy_syntax.{specs.declared.slot.Slot.Slot, specs.Predefined.{slots_of, predef_effect}, specs.Effects.{value_at, is_true_value}}
use Rattle.gypsy_syntax.specs.Programs.{ConditionOf, Space, Arg, Var, Lit, Program, proc_at, body_of, shapes_of, conds_of, Stmt, Skip, NoOp, Signal, Seq, Loop}
use Rattle.gypsy_syntax.{specs.Programs.{If, Begin, Call, Apply}, specs.ProgramFits.{ArgFits, ArgsFit, Each, CallFits, StmtFits, ProgramFits, slot_kind}}
use Rattle.gypsy_syntax.specs.declared.predef.Predef.TheVariants as row
use Rattle.gypsy_space.{specs.Costs.{Tally, spend}, specs.Needs.{StackSizes, with_call, has_temp_room, has_ctrl_room, has_room, lack_of, call_spend}}
use Rattle.gypsy_space.specs.declared.need.Lack.TheVariants.{Nothing, Temporary, Control}
use Rattle.gypsy_semantics.{specs.Calls.{value_of, values_of, target_of, copied_in}, specs.Meaning.{Done, Unfinished, either_way, applied, evaluate}}
use Rattle.gypsy_semantics.specs.Counted.{CountedOutcome, CountedUnfinished, counted_if_room, counted_returned, counted_applied, counted_evaluate}
use Rattle.gypsy_semantics.proofs.LendingLaws.{actuals_there, actuals_length}
use Rattle.quick_code.specs.Access.{find_count}
use Rattle.quick_gypsy.{specs.Layout.Layout, specs.RowCode.row_cost, specs.Quick.{signalled, after_part, quick_cost}, specs.InLine.{InMain, arg_from, taken}}
use Rattle.quick_gypsy.{specs.InLine.{callee_context, after_locals, passing, ways_out, new_locals, in_line, if_so, Nests}, proofs.CostLaws.find_small}
use Rattle.quick_gypsy.{proofs.CostLaws.row_bound, proofs.CallLaws.{raised_of, passed, locals_run, locals_cost, passing_run, passing_cost, returned_agree}}
use Rattle.quick_gypsy.proofs.ViewLaws.{view, view_at, Apart, apart_below, keeps_all, callee_variables, callee_length, callee_apart, callee_begins, written}
use Rattle.quick_gypsy.{proofs.ViewLaws.written_length, proofs.AgreeLaws.{Agree, short, long, then_agree, round_agree, if_agree, caught_agree, apply_agree}}

-- Arguments.

pub variable_shape : (shapes : List Shape) (form : Form) (k : Kind) (i : ℕ) → ArgFits shapes form k (Var i) → (t : Shape) × (slice_get shapes i ≡ Some t)
variable_shape shapes Simple k i f = (_, f)
variable_shape shapes Array k i f = (_, f.3)
variable_shape shapes Literal k i f = absurd f

abbrev is_variable : Form → Bool
is_variable Simple = true
is_variable Array = true
is_variable Literal = false

no_literal : (shapes : List Shape) (form : Form) (k : Kind) (v : ValueOf) → is_variable form ≡ true → ArgFits shapes form k (Lit v) → ⊥
no_literal shapes Simple k v e f = f
no_literal shapes Array k v e f = f
no_literal shapes Literal k v e f = true≢false (sym e)

first_slot : (r : Predef) → (s : Slot) × (slots : List Slot) × (slots_of r ≡ s ∷ slots) × (is_variable s.form ≡ true)
first_slot row.MgSimpleVariableAssignment = (_, _, refl, refl)
first_slot r = (_, _, refl, refl)

-- what is written is a variable, and in line it is main's
record Target (vs : List ℕ) (shapes : List Shape) (args : List Arg) : Type 0 where
  there : target_of args < length shapes
  is : target_of (map (arg_from vs) args) ≡ get_or vs (target_of args) 0

first_there : (vs : List ℕ) (shapes : List Shape) (k : Kind) (s : Slot) (slots : List Slot) (args : List Arg) → is_variable s.form ≡ true
    → ArgsFit shapes k (s ∷ slots) args → Target vs shapes args
unfolding target_of
first_there vs shapes k s slots [] e f = absurd f
first_there vs shapes k s slots (Lit v ∷ args) e f = absurd (no_literal shapes s.form (slot_kind k s.kind) v e f.0)
first_there vs shapes k s slots (Var i ∷ args) e f =
    let t = variable_shape shapes s.form (slot_kind k s.kind) i f.0 in
    record { there = slice_get_within shapes i t.0 t.1; is = refl }

target_there : (vs : List ℕ) (shapes : List Shape) (k : Kind) (r : Predef) (args : List Arg) → ArgsFit shapes k (slots_of r) args → Target vs shapes args
target_there vs shapes k r args f =
    let s = first_slot r in
    first_there vs shapes k s.0 s.1 args s.3 (subst (λ slots. ArgsFit shapes k slots args) s.2 f)

arg_same : (vs : List ℕ) (X : List ValueOf) (shapes : List Shape) (form : Form) (k : Kind) (a : Arg) → length shapes ≡ length vs
    → ArgFits shapes form k a → value_of X (arg_from vs a) ≡ value_of (view vs X) a
arg_same vs X shapes form k (Lit v) e f = refl
arg_same vs X shapes form k (Var i) e f =
    let t = variable_shape shapes form k i f in
    let lt : i < length shapes = slice_get_within shapes i t.0 t.1 in
    sym (view_at vs X i (omega (arith, lt, e)))

args_same : (vs : List ℕ) (X : List ValueOf) (shapes : List Shape) (k : Kind) (slots : List Slot) (args : List Arg) → length shapes ≡ length vs
    → ArgsFit shapes k slots args → map (value_of X) (map (arg_from vs) args) ≡ map (value_of (view vs X)) args
args_same vs X shapes k [] [] e f = refl
args_same vs X shapes k [] (a ∷ args) e f = absurd f
args_same vs X shapes k (slot ∷ slots) [] e f = absurd f
args_same vs X shapes k (slot ∷ slots) (a ∷ args) e f =
    ap (λ v. v ∷ map (value_of X) (map (arg_from vs) args)) (arg_same vs X shapes slot.form (slot_kind k slot.kind) a e f.0)
    ∙ ap (λ l. value_of (view vs X) a ∷ l) (args_same vs X shapes k slots args e f.1)

values_same : (vs : List ℕ) (X : List ValueOf) (shapes : List Shape) (k : Kind) (slots : List Slot) (args : List Arg) → length shapes ≡ length vs
    → ArgsFit shapes k slots args → values_of X (map (arg_from vs) args) ≡ values_of (view vs X) args
unfolding values_of
values_same vs X shapes k slots args e f = args_same vs X shapes k slots args e f

-- A procedure in main.

pub record IsInMain (h : InMain) (shapes : List Shape) (conds below : ℕ) : Type 0 where
  pub count : length shapes ≡ length h.variables
  pub apart : Apart h.variables h.next
  pub low : below ≤ h.next
  pub old : h.first_cond + conds ≤ h.next_cond

taken_is : (h : InMain) (n : ℕ) (shapes : List Shape) (conds below : ℕ) → IsInMain h shapes conds below → IsInMain (taken h n) shapes conds below
taken_is h n shapes conds below is =
    record {
      count = is.count;
      apart = apart_below h.variables h.next (h.next + n) is.apart (omega arith);
      low = omega (arith, is.low);
      old = is.old;
    }

callee_is : (q : Program) (h : InMain) (shapes : List Shape) (conds below : ℕ) (looping : Bool) (p : ℕ) (xs : List ℕ) (cs : List ConditionOf)
    → IsInMain h shapes conds below → CallFits q shapes conds looping p xs cs
    → IsInMain (callee_context q h p xs) (shapes_of (proc_at q p)) (conds_of (proc_at q p)) h.next
unfolding callee_context
callee_is q h shapes conds below looping p xs cs is f =
    let c = proc_at q p in
    let there : Each (λ a. a < length h.variables) xs = actuals_there shapes c.formals xs (length h.variables) f.actuals is.count in
    record {
      count = omega (
        arith,
        length-append c.formals (map (λ (v : ValueOf). v.shape) c.locals),
        length-map c.locals (λ (v : ValueOf). v.shape),
        actuals_length shapes c.formals xs f.actuals,
        callee_length h.variables h.next xs (length c.locals),
      );
      apart = callee_apart h.variables h.next xs (length c.locals) is.apart f.distinct there;
      low = omega arith;
      old = omega arith;
    }

-- Whether a call has room.

roomy : (q : Program) (sizes : StackSizes) (p : ℕ) (u : StackSizes) → has_room q sizes p u ≡ true → lack_of q sizes p u ≡ Nothing
unfolding has_room lack_of
roomy q sizes p u e = pick (has_temp_room q sizes p u) (has_ctrl_room q sizes p u) e
  where
    pick : (a b : Bool) → (a && b) ≡ true → (if not a then Temporary else if not b then Control else Nothing) ≡ Nothing
    pick true true f = refl
    pick true false f = absurd cc
    pick false true f = absurd cc
    pick false false f = absurd cc

lacking : (q : Program) (sizes : StackSizes) (p : ℕ) (u : StackSizes) → has_room q sizes p u ≡ false
    → (lack_of q sizes p u ≡ Temporary) ⊎ (lack_of q sizes p u ≡ Control)
unfolding has_room lack_of
lacking q sizes p u e = pick (has_temp_room q sizes p u) (has_ctrl_room q sizes p u) e
  where
    pick : (a b : Bool) → (a && b) ≡ false → ((if not a then Temporary else if not b then Control else Nothing) ≡ Temporary)
        ⊎ ((if not a then Temporary else if not b then Control else Nothing) ≡ Control)
    pick true true f = absurd cc
    pick true false f = inr refl
    pick false true f = inl refl
    pick false false f = inl refl

-- Bounds: that of the statement is greater by as much as calls may nest, or that of the statement with calls in line is no less.
abbrev pub Bounds : Type 0 → Type 0 → ℕ → ℕ → ℕ → Type 0
Bounds A B d m n = (A × (n + d ≤ m)) ⊎ (B × (m ≤ n))

round_bounds : (A B : Type 0) (d m n : ℕ) → Bounds A B d (suc m) (suc n) → Bounds A B d m n
round_bounds A B d m n (inl (a, le)) = inl (a, omega (arith, le))
round_bounds A B d m n (inr (b, le)) = inr (b, omega (arith, le))

call_bounds : (A B : Type 0) (d m n : ℕ) → Bounds A B (suc d) (suc m) n → Bounds A B d m n
call_bounds A B d m n (inl (a, le)) = inl (a, omega (arith, le))
call_bounds A B d m n (inr (b, le)) = inr (b, omega (arith, le))

module _ (A B : Type 0) (q : Program) (sizes : StackSizes) (L : Layout) (u : StackSizes) where
  -- what is left where a bound is zero
  none_before : (d n : ℕ) (vs : List ℕ) (below first conds : ℕ) (looping : Bool) (X : List ValueOf) (t : Tally) (s : Stmt) (k : ℕ)
      → Bounds A B d zero n → Agree A B vs below first conds looping X t CountedUnfinished (evaluate q sizes n s u X) k
  none_before d zero vs below first conds looping X t s k b = tt
  none_before d (suc n) vs below first conds looping X t s k (inl (a, le)) = absurd (omega (arith, le))
  none_before d (suc n) vs below first conds looping X t s k (inr (b, le)) =
      long A B vs below first conds looping X t (evaluate q sizes (suc n) s u X) k b

  none_behind : (d m : ℕ) (vs : List ℕ) (below first conds : ℕ) (looping : Bool) (X : List ValueOf) (t : Tally) (o : CountedOutcome) (k : ℕ)
      → Bounds A B d (suc m) zero → Agree A B vs below first conds looping X t o Unfinished k
  none_behind d m vs below first conds looping X t o k (inl (a, le)) = short A B vs below first conds looping X t o k a
  none_behind d m vs below first conds looping X t o k (inr (b, le)) = absurd (omega (arith, le))

  -- a call with room
  pub call_agrees : (m n d : ℕ) (place p : ℕ) (xs : List ℕ) (cs : List ConditionOf) (h : InMain) (shapes : List Shape) (conds : ℕ) (looping : Bool) (below : ℕ)
      (X : List ValueOf) (t : Tally) → CallFits q shapes conds looping p xs cs → IsInMain h shapes conds below
      → h.next + length (proc_at q p).locals ≤ length X
      → (let g = callee_context q h p xs in
      let Z = written h.next (proc_at q p).locals X in
      let body = in_line q sizes d g (body_of q p) in
      Agree A B g.variables h.next g.first_cond (conds_of (proc_at q p)) false Z (call_spend q p t)
      (counted_evaluate q sizes m (body_of q p) g.used (view g.variables Z) (call_spend q p t)) (evaluate q sizes (suc n) body u Z)
      (quick_cost q sizes L (suc n) body u Z))
      → (let s = passing place h.next_cond (ways_out q h p cs)
      (after_locals place h.next (proc_at q p).locals (in_line q sizes d (callee_context q h p xs) (body_of q p))) in
      Agree A B h.variables below h.first_cond conds looping X t
      (counted_returned q p xs cs (view h.variables X)
      (counted_evaluate q sizes m (body_of q p) (with_call q p h.used) (copied_in q p xs (view h.variables X)) (call_spend q p t)))
      (evaluate q sizes (suc n) s u X) (quick_cost q sizes L (suc n) s u X))
  unfolding callee_context copied_in call_spend spend
  call_agrees m n d place p xs cs h shapes conds looping below X t f is room inner =
      let c = proc_at q p in
      let vs = h.variables in
      let there : Each (λ a. a < length vs) xs = actuals_there shapes c.formals xs (length vs) f.actuals is.count in
      let body = in_line q sizes d (callee_context q h p xs) (body_of q p) in
      let Z = written h.next c.locals X in
      let with_locals = after_locals place h.next c.locals body in
      let s = passing place h.next_cond (ways_out q h p cs) with_locals in
      let O = evaluate q sizes (suc n) body u Z in
      let k = quick_cost q sizes L (suc n) body u Z in
      let K = quick_cost q sizes L (suc n) s u X in
      let o = counted_evaluate q sizes m (body_of q p) (with_call q p h.used) (map (value_at (view vs X)) xs ++ c.locals) (call_spend q p t) in
      let begins = callee_begins vs h.next xs c.locals X is.apart there room in
      let started : Agree A B (callee_variables vs h.next xs (length c.locals)) h.next h.next_cond (conds_of c) false Z (call_spend q p t) o O k =
      subst (λ z. Agree A B (callee_variables vs h.next xs (length c.locals)) h.next h.next_cond (conds_of c) false Z (call_spend q p t)
      (counted_evaluate q sizes m (body_of q p) (with_call q p h.used) z (call_spend q p t)) O k) (sym begins) inner in
      let run : evaluate q sizes (suc n) s u X ≡ passed h.next_cond (ways_out q h p cs) O =
      passing_run q sizes u n place h.next_cond (ways_out q h p cs) with_locals X
      ∙ ap (passed h.next_cond (ways_out q h p cs)) (locals_run q sizes u n place h.next c.locals body X) in
      let cost : K ≤ 2 * length c.locals + k =
      let one : K ≡ quick_cost q sizes L (suc n) with_locals u X = passing_cost q sizes u n L place h.next_cond (ways_out q h p cs) with_locals X in
      let two : quick_cost q sizes L (suc n) with_locals u X ≤ 2 * length c.locals + k = locals_cost q sizes u n L place h.next c.locals body X in
      omega (arith, one, two) in
      let price : K + t.count ≤ k + (call_spend q p t).count = omega (arith, cost) in
      subst (λ r. Agree A B vs below h.first_cond conds looping X t (counted_returned q p xs cs (view vs X) o) r K) (sym run)
      (returned_agree A B vs below h.first_cond conds h.next h.next_cond looping q p xs cs X c.locals is.apart f.distinct there is.low f.number is.old
      f.conds t (call_spend q p t) o O k K price started)

  -- a call
  either_agrees : (m n d : ℕ) (place p : ℕ) (xs : List ℕ) (cs : List ConditionOf) (h : InMain) (shapes : List Shape) (conds : ℕ) (looping : Bool)
      (below : ℕ) (X : List ValueOf) (t : Tally) (b : Bool) → has_room q sizes p h.used ≡ b → CallFits q shapes conds looping p xs cs
      → IsInMain h shapes conds below
      → if_so b (Each (λ v. v.shape.length ≡ 0) (proc_at q p).locals × Nests q sizes d (with_call q p h.used) (body_of q p))
      → h.next + length (if b then (proc_at q p).locals ++ new_locals q sizes d (with_call q p h.used) (body_of q p) else []) ≤ length X
      → ((t' : Tally) (Z : List ValueOf) → Nests q sizes d (callee_context q h p xs).used (body_of q p)
      → (callee_context q h p xs).next + length (new_locals q sizes d (callee_context q h p xs).used (body_of q p)) ≤ length Z
      → (let g = callee_context q h p xs in
      let body = in_line q sizes d g (body_of q p) in
      Agree A B g.variables h.next g.first_cond (conds_of (proc_at q p)) false Z t'
      (counted_evaluate q sizes m (body_of q p) g.used (view g.variables Z) t') (evaluate q sizes (suc n) body u Z)
      (quick_cost q sizes L (suc n) body u Z)))
      → (let s = if b
      then passing place h.next_cond (ways_out q h p cs)
      (after_locals place h.next (proc_at q p).locals (in_line q sizes d (callee_context q h p xs) (body_of q p)))
      else Signal place Space in
      Agree A B h.variables below h.first_cond conds looping X t
      (counted_if_room (lack_of q sizes p h.used) (view h.variables X) t (counted_returned q p xs cs (view h.variables X)
      (counted_evaluate q sizes m (body_of q p) (with_call q p h.used) (copied_in q p xs (view h.variables X)) (call_spend q p t))))
      (evaluate q sizes (suc n) s u X) (quick_cost q sizes L (suc n) s u X))
  unfolding callee_context spend
  either_agrees m n d place p xs cs h shapes conds looping below X t true e f is nests room inner =
      let locals = (proc_at q p).locals in
      let new = new_locals q sizes d (with_call q p h.used) (body_of q p) in
      let long : length (locals ++ new) ≡ length locals + length new = length-append locals new in
      let Z = written h.next locals X in
      let s = passing place h.next_cond (ways_out q h p cs)
      (after_locals place h.next locals (in_line q sizes d (callee_context q h p xs) (body_of q p))) in
      subst (λ lack. Agree A B h.variables below h.first_cond conds looping X t
      (counted_if_room lack (view h.variables X) t (counted_returned q p xs cs (view h.variables X)
      (counted_evaluate q sizes m (body_of q p) (with_call q p h.used) (copied_in q p xs (view h.variables X)) (call_spend q p t))))
      (evaluate q sizes (suc n) s u X) (quick_cost q sizes L (suc n) s u X)) (sym (roomy q sizes p h.used e))
      (call_agrees m n d place p xs cs h shapes conds looping below X t f is (omega (arith, room, long))
      (inner (call_spend q p t) Z nests.1 (omega (arith, room, long, written_length h.next locals X))))
  either_agrees m n d place p xs cs h shapes conds looping below X t false e f is nests room inner = pick (lacking q sizes p h.used e)
    where
      o : CountedOutcome
      o =
          counted_returned q p xs cs (view h.variables X)
          (counted_evaluate q sizes m (body_of q p) (with_call q p h.used) (copied_in q p xs (view h.variables X)) (call_spend q p t))

      pick : (lack_of q sizes p h.used ≡ Temporary) ⊎ (lack_of q sizes p h.used ≡ Control)
          → Agree A B h.variables below h.first_cond conds looping X t (counted_if_room (lack_of q sizes p h.used) (view h.variables X) t o)
          (Done X (Some Space)) 1
      pick (inl f) =
          subst (λ lack. Agree A B h.variables below h.first_cond conds looping X t (counted_if_room lack (view h.variables X) t o) (Done X (Some Space)) 1)
          (sym f) (record { seen = refl; keeps = keeps_all h.variables below X; way = refl; ends = tt; cost = omega arith })
      pick (inr f) =
          subst (λ lack. Agree A B h.variables below h.first_cond conds looping X t (counted_if_room lack (view h.variables X) t o) (Done X (Some Space)) 1)
          (sym f) (record { seen = refl; keeps = keeps_all h.variables below X; way = refl; ends = tt; cost = omega arith })

  module _ (fits : ProgramFits q) where
    pub agrees : (m : ℕ) (s : Stmt) (n d : ℕ) (h : InMain) (shapes : List Shape) (conds : ℕ) (looping : Bool) (below : ℕ) (X : List ValueOf) (t : Tally)
        → Bounds A B d m n → StmtFits q shapes conds looping s → Nests q sizes d h.used s → IsInMain h shapes conds below
        → h.next + length (new_locals q sizes d h.used s) ≤ length X
        → Agree A B h.variables below h.first_cond conds looping X t (counted_evaluate q sizes m s h.used (view h.variables X) t)
        (evaluate q sizes n (in_line q sizes d h s) u X) (quick_cost q sizes L n (in_line q sizes d h s) u X)
    unfolding spend
    agrees zero s n d h shapes conds looping below X t b f nests is room =
        none_before d n h.variables below h.first_cond conds looping X t (in_line q sizes d h s) (quick_cost q sizes L n (in_line q sizes d h s) u X) b
    agrees (suc m) s zero d h shapes conds looping below X t b f nests is room =
        none_behind d m h.variables below h.first_cond conds looping X t (counted_evaluate q sizes (suc m) s h.used (view h.variables X) t) 0 b
    agrees (suc m) Skip (suc n) d h shapes conds looping below X t b f nests is room =
        record { seen = refl; keeps = keeps_all h.variables below X; way = refl; ends = tt; cost = omega arith }
    agrees (suc m) (NoOp place) (suc n) d h shapes conds looping below X t b f nests is room =
        record { seen = refl; keeps = keeps_all h.variables below X; way = refl; ends = tt; cost = omega arith }
    agrees (suc m) (Signal place c) (suc n) d h shapes conds looping below X t b f nests is room =
        record { seen = refl; keeps = keeps_all h.variables below X; way = refl; ends = raised_of looping conds c f; cost = omega arith }
    agrees (suc m) (Seq a c) (suc n) d h shapes conds looping below X t b f nests is room =
        let na = new_locals q sizes d h.used a in
        let nc = new_locals q sizes d h.used c in
        let long : length (na ++ nc) ≡ length na + length nc = length-append na nc in
        let a' = in_line q sizes d h a in
        let c' = in_line q sizes d (taken h (length na)) c in
        then_agree A B h.variables below h.first_cond conds looping X t (counted_evaluate q sizes (suc m) a h.used (view h.variables X) t)
        (evaluate q sizes (suc n) a' u X) (quick_cost q sizes L (suc n) a' u X) (counted_evaluate q sizes (suc m) c h.used)
        (evaluate q sizes (suc n) c' u) (quick_cost q sizes L (suc n) c' u)
        (agrees (suc m) a (suc n) d h shapes conds looping below X t b f.0 nests.0 is (omega (arith, room, long)))
        (λ Y t' e. agrees (suc m) c (suc n) d (taken h (length na)) shapes conds looping below Y t' b f.1 nests.1
        (taken_is h (length na) shapes conds below is) (omega (arith, room, long, e)))
    agrees (suc m) (Loop place s) (suc n) d h shapes conds looping below X t b f nests is room =
        let s' = in_line q sizes d h s in
        round_agree A B h.variables below h.first_cond conds looping X t
        (counted_evaluate q sizes (suc m) s h.used (view h.variables X) (spend 1 1 t)) (evaluate q sizes (suc n) s' u X)
        (quick_cost q sizes L (suc n) s' u X) (counted_evaluate q sizes m (Loop place s) h.used) (evaluate q sizes n (Loop place s') u)
        (quick_cost q sizes L n (Loop place s') u)
        (agrees (suc m) s (suc n) d h shapes conds true below X (spend 1 1 t) b f nests is room)
        (λ Y t' e. agrees m (Loop place s) n d h shapes conds looping below Y t' (round_bounds A B d m n b) f nests is (omega (arith, room, e)))
    agrees (suc m) (If place v s w) (suc n) d h shapes conds looping below X t b f nests is room =
        let ns = new_locals q sizes d h.used s in
        let nw = new_locals q sizes d h.used w in
        let long : length (ns ++ nw) ≡ length ns + length nw = length-append ns nw in
        let s' = in_line q sizes d h s in
        let w' = in_line q sizes d (taken h (length ns)) w in
        let lt : v < length shapes = slice_get_within shapes v _ f.0 in
        let same = view_at h.variables X v (omega (arith, lt, is.count)) in
        subst (λ z. Agree A B h.variables below h.first_cond conds looping X t
        (counted_evaluate q sizes (suc m) (If place v s w) h.used (view h.variables X) t)
        (either_way (is_true_value z) (evaluate q sizes (suc n) s' u X) (evaluate q sizes (suc n) w' u X))
        (find_count (L.access (get_or h.variables v 0)) + 1 + 1 +
        (if is_true_value z then quick_cost q sizes L (suc n) s' u X + after_part (evaluate q sizes (suc n) s' u X) (λ y. 1)
        else quick_cost q sizes L (suc n) w' u X))) same
        (if_agree A B h.variables below h.first_cond conds looping (is_true_value (value_at (view h.variables X) v))
        (find_count (L.access (get_or h.variables v 0))) (quick_cost q sizes L (suc n) s' u X) (quick_cost q sizes L (suc n) w' u X) X t
        (counted_evaluate q sizes (suc m) s h.used (view h.variables X) (spend 8 3 t))
        (counted_evaluate q sizes (suc m) w h.used (view h.variables X) (spend 9 4 t)) (evaluate q sizes (suc n) s' u X) (evaluate q sizes (suc n) w' u X)
        (find_small (L.access (get_or h.variables v 0)))
        (agrees (suc m) s (suc n) d h shapes conds looping below X (spend 8 3 t) b f.1 nests.0 is (omega (arith, room, long)))
        (agrees (suc m) w (suc n) d (taken h (length ns)) shapes conds looping below X (spend 9 4 t) b f.2 nests.1
        (taken_is h (length ns) shapes conds below is) (omega (arith, room, long))))
    agrees (suc m) (Begin place s cs w) (suc n) d h shapes conds looping below X t b f nests is room =
        let ns = new_locals q sizes d h.used s in
        let nw = new_locals q sizes d h.used w in
        let long : length (ns ++ nw) ≡ length ns + length nw = length-append ns nw in
        let s' = in_line q sizes d h s in
        let w' = in_line q sizes d (taken h (length ns)) w in
        caught_agree A B h.variables below h.first_cond conds looping X t (counted_evaluate q sizes (suc m) s h.used (view h.variables X) t)
        (evaluate q sizes (suc n) s' u X) (quick_cost q sizes L (suc n) s' u X) cs (signalled w') (counted_evaluate q sizes (suc m) w h.used)
        (evaluate q sizes (suc n) w' u) (quick_cost q sizes L (suc n) w' u)
        (agrees (suc m) s (suc n) d h shapes conds looping below X t b f.1 nests.0 is (omega (arith, room, long)))
        (λ Y t' e. agrees (suc m) w (suc n) d (taken h (length ns)) shapes conds looping below Y t' b f.2 nests.1
        (taken_is h (length ns) shapes conds below is) (omega (arith, room, long, e)))
    agrees (suc m) (Call place p xs cs) (suc n) zero h shapes conds looping below X t b f nests is room = absurd nests
    agrees (suc m) (Call place p xs cs) (suc n) (suc d) h shapes conds looping below X t b f nests is room =
        either_agrees m n d place p xs cs h shapes conds looping below X t (has_room q sizes p h.used) refl f is nests room
        (λ t' Z inside enough. agrees m (body_of q p) (suc n) d (callee_context q h p xs) (shapes_of (proc_at q p)) (conds_of (proc_at q p)) false h.next Z t'
        (call_bounds A B d m (suc n) b) (fits.procs p).body inside (callee_is q h shapes conds below looping p xs cs is f) enough)
    agrees (suc m) (Apply place r args) (suc n) d h shapes conds looping below X t b f nests is room =
        let vs = values_of (view h.variables X) args in
        let args' = map (arg_from h.variables) args in
        let target = target_there h.variables shapes f.0 r args f.1 in
        let same : vs ≡ values_of X args' = sym (values_same h.variables X shapes f.0 (slots_of r) args is.count f.1) in
        subst (λ z. Agree A B h.variables below h.first_cond conds looping X t (counted_applied r args (predef_effect r vs) (view h.variables X) t)
        (applied args' (predef_effect r z) X) (row_cost L args' r z (predef_effect r z))) same
        (apply_agree A B h.variables below h.first_cond conds looping h.next X t r args args' (predef_effect r vs) (row_cost L args' r vs (predef_effect r vs))
        is.apart (omega (arith, room)) (omega (arith, target.there, is.count)) target.is (row_bound L args' r vs (predef_effect r vs)))
