-- A main without calls stays as it is when its calls are put in line.
use Rattle.std.{proofs.Common.{◌≡◌, ℕ, ◌+◌, ◌<◌, List, [], ◌∷◌, ◌++◌, map, length, get_or, refl, ap, ◌∙◌, arith}, proofs.lemmas.Option.slice_get_within}
use Rattle.std.proofs.lemmas.List.{append-nil}
use Rattle.stack_text.{specs.declared.shape.Kind.Kind, specs.declared.shape.Shape.Shape, specs.Values.ValueOf}
use Rattle.gypsy_syntax.{specs.declared.slot.Form.Form, specs.declared.slot.Form.TheVariants.{Simple, Array, Literal}, specs.declared.slot.Slot.Slot}
use Rattle.gypsy_syntax.{specs.Predefined.slots_of, specs.ProgramFits.{ArgFits, ArgsFit, slot_kind}, specs.Programs.{ConditionOf, Leave, Routine, Space}}
use Rattle.gypsy_syntax.specs.Programs.{Declared, Arg, Var, Lit, Proc, Program, proc_at, shapes_of, body_of, Stmt, Skip, NoOp, Signal, Seq, Loop, If, Begin}
use Rattle.gypsy_syntax.specs.Programs.{Call, Apply}
use Rattle.gypsy_space.specs.Needs.{StackSizes, main_used}
use Rattle.quick_gypsy.{specs.Quick.IsPlain, specs.InLine.{InMain, main_context, arg_from, condition_in, taken, new_locals, in_line, lined_main}}
use Rattle.quick_gypsy.proofs.ViewLaws.{number_at}

module _ (q : Program) (sizes : StackSizes) (shapes : List Shape) where
  none_new : (d : ℕ) (u : StackSizes) (s : Stmt) → IsPlain shapes s → new_locals q sizes d u s ≡ []
  none_new d u Skip f = refl
  none_new d u (NoOp place) f = refl
  none_new d u (Signal place c) f = refl
  none_new d u (Seq a b) f = λ i. none_new d u a f.0 i ++ none_new d u b f.1 i
  none_new d u (Loop place s) f = none_new d u s f
  none_new d u (If place b s w) f = λ i. none_new d u s f.1 i ++ none_new d u w f.2 i
  none_new d u (Begin place s cs w) f = λ i. none_new d u s f.0 i ++ none_new d u w f.1 i
  none_new d u (Call place p xs cs) f = absurd f
  none_new d u (Apply place r args) f = refl

  -- each variable and each condition of main is itself
  record IsItself (h : InMain) : Type 0 where
    variable : (b : ℕ) → b < length shapes → get_or h.variables b 0 ≡ b
    first : h.first_cond ≡ 0

  module _ (h : InMain) (itself : IsItself h) where
    cond_same : (c : ConditionOf) → condition_in h c ≡ c
    cond_same Leave = refl
    cond_same Routine = refl
    cond_same Space = refl
    cond_same (Declared i) = let e : h.first_cond + i ≡ i = omega (arith, itself.first) in ap Declared e

    conds_same : (cs : List ConditionOf) → map (condition_in h) cs ≡ cs
    conds_same [] = refl
    conds_same (c ∷ cs) = λ i. cond_same c i ∷ conds_same cs i

    arg_same : (form : Form) (k : Kind) (a : Arg) → ArgFits shapes form k a → arg_from h.variables a ≡ a
    arg_same Simple k (Var b) f = ap Var (itself.variable b (slice_get_within shapes b _ f))
    arg_same Array k (Var b) f = ap Var (itself.variable b (slice_get_within shapes b _ f.3))
    arg_same Literal k (Var b) f = absurd f
    arg_same form k (Lit v) f = refl

    args_same : (k : Kind) (slots : List Slot) (args : List Arg) → ArgsFit shapes k slots args → map (arg_from h.variables) args ≡ args
    args_same k [] [] f = refl
    args_same k [] (a ∷ args) f = absurd f
    args_same k (slot ∷ slots) [] f = absurd f
    args_same k (slot ∷ slots) (a ∷ args) f =
        λ i. arg_same slot.form (slot_kind k slot.kind) a f.0 i ∷ args_same k slots args f.1 i

  later : (h : InMain) (n : ℕ) → IsItself h → IsItself (taken h n)
  later h n itself = record { variable = itself.variable; first = itself.first }

  line_same : (d : ℕ) (h : InMain) (s : Stmt) → IsItself h → IsPlain shapes s → in_line q sizes d h s ≡ s
  line_same d h Skip g f = refl
  line_same d h (NoOp place) g f = refl
  line_same d h (Signal place c) g f = λ i. Signal place (cond_same h g c i)
  line_same d h (Seq a b) g f =
      let n = length (new_locals q sizes d h.used a) in
      λ i. Seq (line_same d h a g f.0 i) (line_same d (taken h n) b (later h n g) f.1 i)
  line_same d h (Loop place s) g f = λ i. Loop place (line_same d h s g f i)
  line_same d h (If place b s w) g f =
      let n = length (new_locals q sizes d h.used s) in
      λ i. If place (g.variable b (slice_get_within shapes b _ f.0) i) (line_same d h s g f.1 i) (line_same d (taken h n) w (later h n g) f.2 i)
  line_same d h (Begin place s cs w) g f =
      let n = length (new_locals q sizes d h.used s) in
      λ i. Begin place (line_same d h s g f.0 i) (conds_same h g cs i) (line_same d (taken h n) w (later h n g) f.1 i)
  line_same d h (Call place p xs cs) g f = absurd f
  line_same d h (Apply place r args) g f = λ i. Apply place r (args_same h g f.0 (slots_of r) args f.1 i)

pub main_same : (q : Program) (sizes : StackSizes) (d : ℕ) → IsPlain (shapes_of (proc_at q q.main)) (body_of q q.main)
    → lined_main q sizes d ≡ proc_at q q.main
unfolding main_context
main_same q sizes d f =
    let p : Proc = proc_at q q.main in
    let shapes = shapes_of p in
    let itself : IsItself q sizes shapes (main_context q) = record {
      variable = λ b lt. let e : 0 + b ≡ b = omega arith in number_at 0 (length shapes) b lt ∙ e;
      first = refl;
    } in
    let locals : p.locals ++ new_locals q sizes d (main_used q) p.body ≡ p.locals =
    ap (λ (l : List ValueOf). p.locals ++ l) (none_new q sizes shapes d (main_used q) p.body f) ∙ append-nil p.locals in
    let body : in_line q sizes d (main_context q) p.body ≡ p.body = line_same q sizes shapes d (main_context q) p.body itself f in
    λ i. record p { locals = locals i; body = body i }
