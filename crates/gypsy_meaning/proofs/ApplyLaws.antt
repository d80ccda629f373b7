-- Predefined calls by the positions of their arguments.
use Rattle.std.proofs.Common.{◌≡◌, ℕ, zero, suc, List, [], ◌∷◌, map, get_or, slice_set, false, refl, sym, subst, ap, ◌∙◌}
use Rattle.stack_text.specs.Values.{ValueOf}
use Rattle.gypsy_syntax.{specs.declared.predef.Predef.Predef, specs.Programs.{Arg, Lit, Routine}, specs.Effects.{Effect, Normal, value_at, no_value}}
use Rattle.gypsy_syntax.specs.Predefined.{predef_cost, effect_by, predef_effect}
use Rattle.gypsy_syntax.specs.declared.predef.Predef.TheVariants as row
use Rattle.gypsy_space.{specs.Costs.{Tally, effect_of, spend, pay, predef_spend}, specs.declared.event.CostEvent.CostEvent}
use Rattle.gypsy_space.{specs.declared.event.Outcome.Outcome, specs.declared.program.Application.Application, specs.declared.program.Argument.Argument}
use Rattle.gypsy_space.specs.Nodes.{seen_arg}
use Rattle.gypsy_space.specs.declared.event.CostEvent.TheVariants as event
use Rattle.gypsy_space.specs.declared.event.Outcome.TheVariants as outcome
use Rattle.gypsy_semantics.{specs.Machine.{Item, Frame, At, Next, settle, raise, apply_step}, specs.Calls.{value_of, values_of, target_of}}
use Rattle.gypsy_meaning.{specs.Views.Work.caught_spend, specs.Internal.Turns.{IsPlain, GoesOn, RaisesOn}, specs.Internal.PredefinedSteps.{call_item, WritesOn}}
use Rattle.gypsy_meaning.{specs.Internal.PredefinedSteps.IsApplied, specs.declared.applying.Applied.Applied, specs.declared.applying.Applied.TheVariants.Writes}
use Rattle.gypsy_meaning.{specs.declared.applying.Applied.TheVariants.Fails, specs.declared.turn.Advance.Advance}
use Rattle.gypsy_meaning.specs.Internal.PredefinedEffects.{applied_effect}

pub value_listed : (x : List ValueOf) (args : List Arg) (i : ℕ) → value_of x (get_or args i (Lit no_value)) ≡ value_at (values_of x args) i
unfolding values_of
value_listed x [] i = refl
value_listed x (a ∷ args) zero = refl
value_listed x (a ∷ args) (suc i) = value_listed x args i

pub applied_is : (r : Predef) (x : List ValueOf) (args : List Argument) → applied_effect r x args ≡ predef_effect r (values_of x (map seen_arg args))
unfolding applied_effect predef_effect
applied_is r x args = λ i. effect_by r (λ n. value_listed x (map seen_arg args) n i)

normal_cost : (r : Predef) (v : ValueOf) → predef_cost r (Normal v) ≡ predef_cost r (Normal no_value)
unfolding predef_cost
normal_cost row.MgSimpleVariableAssignment v = refl
normal_cost r v = refl

normal_spend : (r : Predef) (v : ValueOf) (t : Tally) → predef_spend r (Normal v) t ≡ predef_spend r (Normal no_value) t
normal_spend r v t = ap (λ c. spend c.0 c.1 t) (normal_cost r v)

-- a predefined call that writes
pub writes_law : (call : Application) (x : List ValueOf) (w u : List Item) (e : Effect) (i : ℕ) (v : ValueOf) (a : Advance) → e ≡ Normal v
    → e ≡ applied_effect call.which x call.args.items → i ≡ target_of (map seen_arg call.args.items) → a.event ≡ event.Predef call.which outcome.Normal
    → a.caught ≡ false → u ≡ settle w → WritesOn x (call_item call ∷ w) u i v a
writes_law call x w u e i v a is eff at ev free wk =
    let P : CostEvent → Type 0 = IsPlain in (
      subst P (sym ev) tt,
      λ q sizes p fs t.
          let r = call.which in
          let args = map seen_arg call.args.items in
          let done : predef_effect r (values_of x args) ≡ Normal v = sym (applied_is r x call.args.items) ∙ sym eff ∙ is in
          ap (λ f. apply_step r args f p x w fs t) done ∙
          ap (λ z. Next (At p (slice_set x (target_of args) v) (settle w) fs z)) (normal_spend r v t) ∙
          ap (λ j. Next (At p (slice_set x j v) (settle w) fs (predef_spend r (Normal no_value) t))) (sym at) ∙
          ap (λ l. Next (At p (slice_set x i v) l fs (predef_spend r (Normal no_value) t))) (sym wk) ∙
          ap (λ n. Next (At p (slice_set x i v) (u) fs (caught_spend false (pay n t)))) (sym ev) ∙
          ap (λ b. Next (At p (slice_set x i v) (u) fs (caught_spend b (pay a.event t)))) (sym free),
    )

abbrev pub IsFailure : Outcome → Type 0
IsFailure outcome.Normal = ⊥
IsFailure outcome.Fault = Unit {0}
IsFailure outcome.Beyond = Unit {0}

failed : (r : Predef) (args : List Arg) (o : Outcome) (p : ℕ) (x : List ValueOf) (w : List Item) (fs : List Frame) (t : Tally) → IsFailure o
    → apply_step r args (effect_of o) p x w fs t ≡ Next (raise Routine p x w fs (predef_spend r (effect_of o) t))
failed r args outcome.Normal p x w fs t f = absurd f
failed r args outcome.Fault p x w fs t f = refl
failed r args outcome.Beyond p x w fs t f = refl

-- and one that fails
pub fails_law : (call : Application) (x : List ValueOf) (w u : List Item) (e : Effect) (o : Outcome) (a : Advance) → IsFailure o → e ≡ effect_of o
    → e ≡ applied_effect call.which x call.args.items → RaisesOn call.which o w u a → GoesOn x (call_item call ∷ w) u a
fails_law call x w u e o a f is eff r = (
  r.0,
  λ q sizes p fs t.
      let args = map seen_arg call.args.items in
      let done : predef_effect call.which (values_of x args) ≡ effect_of o = sym (applied_is call.which x call.args.items) ∙ sym eff ∙ is in
      ap (λ g. apply_step call.which args g p x w fs t) done ∙ failed call.which args o p x w fs t f ∙ ap Next (r.1 q p x fs t),
)

-- what is known of a step of a predefined call, at the state
pub writes_here : (x y : List ValueOf) (call : Application) (w l u : List Item) (o : Applied) (i : ℕ) (v : ValueOf) (a : Advance) →
    y ≡ x → o ≡ Writes i v a → l ≡ call_item call ∷ w → IsApplied y call w u o → WritesOn x l u i v a
writes_here x y call w l u o i v a e f g h =
    let P : List ValueOf → Type 0 = λ z. IsApplied z call w u o in
    let Q : Applied → Type 0 = IsApplied x call w u in
    let R : List Item → Type 0 = λ m. WritesOn x m u i v a in
    subst R (sym g) (subst Q f (subst P e h))

pub fails_here : (x y : List ValueOf) (call : Application) (w l u : List Item) (o : Applied) (a : Advance) →
    y ≡ x → o ≡ Fails a → l ≡ call_item call ∷ w → IsApplied y call w u o → GoesOn x l u a
fails_here x y call w l u o a e f g h =
    let P : List ValueOf → Type 0 = λ z. IsApplied z call w u o in
    let Q : Applied → Type 0 = IsApplied x call w u in
    let R : List Item → Type 0 = λ m. GoesOn x m u a in
    subst R (sym g) (subst Q f (subst P e h))
