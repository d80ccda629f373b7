-- The arguments of a statement are arguments of its call.
use Rattle.std.{proofs.Common.{refl, ◌≡◌, ℕ, Some, List, [], ◌∷◌, map, ap, sym, ◌∙◌}, specs.Prelude.slice_get}
use Rattle.stack_text.{specs.declared.shape.Kind.Kind, specs.declared.shape.Shape.Shape, specs.Values.ValueOf}
use Rattle.piton_words.specs.declared.word.Word.{Word}
use Rattle.gypsy_syntax.{specs.declared.slot.Form.Form, specs.declared.slot.Form.TheVariants.{Simple, Array, Literal}, specs.declared.slot.Slot.Slot}
use Rattle.gypsy_syntax.{specs.Programs.{simple, Arg, Var, Lit}, specs.ProgramFits.{ArgFits, ArgsFit, slot_kind}, specs.Effects.value_at}
use Rattle.gypsy_predef.{specs.Runs.{values_of, ArgumentFits, ArgumentsFit}, specs.Calls.{LocalHolds, LocalsHold, argument_of, VariableHolds, ArgumentsHold}}
use Rattle.gypsy_predef.specs.Calls.{ValuesKept}

module _ (shapes : List Shape) (x : List ValueOf) (stack locals : List Word) (local index : ℕ → ℕ)
    (holds : (i : ℕ) (s : Shape) → slice_get shapes i ≡ Some s → VariableHolds stack locals (local i) (index i) (value_at x i) s) where
  argument_holds : (form : Form) (k : Kind) (a : Arg) → ArgFits shapes form k a →
      ArgumentFits stack form k (argument_of local index x a) × LocalHolds locals form (argument_of local index x a)
  argument_holds Simple k (Var i) f = let h = holds i (simple k) f in ((h.shape, h.fits, h.words), h.local_holds)
  argument_holds Array k (Var i) f =
      let h = holds i record { kind = k; length = f.0 } f.3 in
      ((ap (λ (s : Shape). s.kind) h.shape, h.fits, h.words), h.local_holds)
  argument_holds Literal k (Var i) f = absurd f
  argument_holds Simple k (Lit v) f = absurd f
  argument_holds Array k (Lit v) f = absurd f
  argument_holds Literal k (Lit v) f = ((f.0, f.1), tt)

  all_hold : (k : Kind) (slots : List Slot) (args : List Arg) → ArgsFit shapes k slots args →
      ArgumentsFit stack k slots (map (argument_of local index x) args) × LocalsHold locals slots (map (argument_of local index x) args)
  all_hold k [] [] f = (tt, tt)
  all_hold k [] (a ∷ args) f = absurd f
  all_hold k (slot ∷ slots) [] f = absurd f
  all_hold k (slot ∷ slots) (a ∷ args) f =
      let first = argument_holds slot.form (slot_kind k slot.kind) a f.0 in
      let rest = all_hold k slots args f.1 in
      ((first.0, rest.0), (first.1, rest.1))

pub arguments_hold : ArgumentsHold
arguments_hold shapes x stack locals local index k slots args f holds = all_hold shapes x stack locals local index holds k slots args f

pub values_kept : ValuesKept
values_kept x local index value_of [] var lit = refl
values_kept x local index value_of (Var i ∷ args) var lit =
    ap (λ v. v ∷ values_of (map (argument_of local index x) args)) (sym (var i))
    ∙ ap (λ vs. value_of (Var i) ∷ vs) (values_kept x local index value_of args var lit)
values_kept x local index value_of (Lit v ∷ args) var lit =
    ap (λ v. v ∷ values_of (map (argument_of local index x) args)) (sym (lit v))
    ∙ ap (λ vs. value_of (Lit v) ∷ vs) (values_kept x local index value_of args var lit)
