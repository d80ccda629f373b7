-- A predefined call, by the law of the predefined programs.
use Rattle.std.proofs.Common.{◌≡◌, ℕ, zero, suc, ◌+◌, ◌<◌, ◌≤◌, Bool, true, false, List, [], ◌∷◌, ◌++◌, length, map, Some, refl, sym, ap, ◌∙◌, subst, arith}
use Rattle.std.{specs.Prelude.{slice_get, slice_set, get_or, pos, ◌==◌}, proofs.lemmas.Bool.{ne_eqb, cond-false}, proofs.lemmas.List.get_or-set_same}
use Rattle.std.proofs.lemmas.Option.{get_or_from_slice_get, slice_get_within}
use Rattle.stack_text.{specs.declared.shape.Kind.Kind, specs.declared.shape.Kind.TheVariants.Integer, specs.declared.shape.Shape.Shape, specs.Values.ValueOf}
use Rattle.stack_text.specs.Values.{item_count}
use Rattle.piton_words.{specs.declared.word.Word.Word, specs.declared.word.Word.TheVariants.Int}
use Rattle.piton_check.specs.Instruction as i
use Rattle.piton_check.specs.Instruction.{Instruction, ProgramView}
use Rattle.piton_semantics.specs.State as piton
use Rattle.piton_semantics.{specs.State.{element, program_of}, specs.Law.Steps}
use Rattle.gypsy_syntax.{specs.declared.predef.Predef.Predef, specs.declared.slot.Form.Form, specs.declared.slot.Form.TheVariants.{Simple, Array, Literal}}
use Rattle.gypsy_syntax.{specs.declared.slot.Slot.Slot, specs.Predefined.{slots_of, shared, integer_slot, predef_effect, predef_cost, predef_temp, predef_ctrl}}
use Rattle.gypsy_syntax.{specs.Programs.{Routine, Arg, Var, Lit, Program, proc_at, body_of, shapes_of, simple, Apply}, specs.ProgramFits.{ArgFits, ArgsFit}}
use Rattle.gypsy_syntax.{specs.ProgramFits.slot_kind, specs.ValuesFit.{ValueFits, VarsFit}, specs.Effects.{Effect, Normal, Fault, Beyond, value_at, no_value}}
use Rattle.gypsy_syntax.specs.declared.predef.Predef.TheVariants as row
use Rattle.gypsy_space.{specs.Costs.{Tally, spend, predef_spend}, specs.Needs.{StackSizes, temp_need, ctrl_need}}
use Rattle.gypsy_semantics.{specs.Calls.{value_of, values_of, target_of}, specs.Machine.{Item, Do, Frame, apply_step, settle, raise}}
use Rattle.gypsy_semantics.proofs.EffectLaws.{value_fits, apply_fits}
use Rattle.gypsy_predef.{specs.Bodies.lengths_of, specs.Runs.{Argument, length_words, words_of_value, with_elements}, specs.Calls.argument_code}
use Rattle.gypsy_predef.specs.Calls.{arguments_code, test_code, predef_code, argument_of, VariableHolds, IsAtCode, after_code}
use Rattle.gypsy_predef.specs.Runs as runs
use Rattle.gypsy_codegen.specs.Generated.{Scope, target, offset, push_args, length_code, test_size, predef_position, size, code_of, generated_program}
use Rattle.gypsy_codegen.{specs.Generated.generated_view, specs.Memory.{stack_of, index_of, frame_of, index_words}, specs.Showing.{HasAt, Stands}}
use Rattle.gypsy_codegen.{specs.Law.Follows, proofs.LayoutLaws.{reads_at, writes_at, frame_at}, proofs.StepLaws.{Pt, state, state_at, Goes, predef_there}}
use Rattle.gypsy_codegen.{proofs.StepLaws.program_is, proofs.PushLaws.{Live, free_temp, free_ctrl, here, top}, proofs.StandLaws.{settle_stands, Comes}}
use Rattle.gypsy_codegen.proofs.StandLaws.{comes_on, leads, lands, raise_leads, apply_size}

-- Arguments.

abbrev arguments : Program → ℕ → List Frame → List ValueOf → List Arg → List Argument
arguments q p fs x args = map (argument_of (offset q p) (index_of q p fs) x) args

-- the first argument of each row is a variable
abbrev is_variable : Form → Bool
is_variable Simple = true
is_variable Array = true
is_variable Literal = false

abbrev begins_with_variable : List Slot → Bool
begins_with_variable [] = false
begins_with_variable (slot ∷ slots) = is_variable slot.form

row_begins : (r : Predef) → begins_with_variable (slots_of r) ≡ true
row_begins row.MgSimpleVariableAssignment = refl
row_begins r = refl

-- the variable that is written is the first argument
record First (q : Program) (p : ℕ) (fs : List Frame) (x : List ValueOf) (shapes : List Shape) (args : List Arg) : Type 0 where
  shape : Shape
  there : slice_get shapes (target_of args) ≡ Some shape
  index : runs.target_of (arguments q p fs x args) ≡ index_of q p fs (target_of args)

module _ (q : Program) (p : ℕ) (fs : List Frame) (x : List ValueOf) (shapes : List Shape) (k : Kind) where
  form_first : (form : Form) (j : Kind) (a : Arg) (args : List Arg) → is_variable form ≡ true → ArgFits shapes form j a → First q p fs x shapes (a ∷ args)
  unfolding target_of
  form_first Simple j (Var b) args h f = record { shape = simple j; there = f; index = refl }
  form_first Simple j (Lit v) args h f = absurd f
  form_first Array j (Var b) args h f = record { shape = record { kind = j; length = f.0 }; there = f.3; index = refl }
  form_first Array j (Lit v) args h f = absurd f
  form_first Literal j a args h f = cc

  slots_first : (slots : List Slot) (args : List Arg) → begins_with_variable slots ≡ true → ArgsFit shapes k slots args → First q p fs x shapes args
  slots_first [] args h f = cc
  slots_first (slot ∷ slots) [] h f = absurd f
  slots_first (slot ∷ slots) (a ∷ args) h f = form_first slot.form (slot_kind k slot.kind) a args h f.0

  first_of_row : (r : Predef) (args : List Arg) → ArgsFit shapes k (slots_of r) args → First q p fs x shapes args
  first_of_row r args f = slots_first (slots_of r) args (row_begins r) f

  -- the code that pushes them
  arg_pushed : (form : Form) (j : Kind) (g : Arg) (args : List Arg) → ArgFits shapes form j g
      → push_args q p (g ∷ args) ≡ argument_code form (argument_of (offset q p) (index_of q p fs) x g) ∷ push_args q p args
  arg_pushed Simple j (Var b) args f = refl
  arg_pushed Array j (Var b) args f = refl
  arg_pushed Literal j (Var b) args f = absurd f
  arg_pushed Simple j (Lit v) args f = absurd f
  arg_pushed Array j (Lit v) args f = absurd f
  arg_pushed Literal j (Lit v) args f = refl

  args_pushed : (slots : List Slot) (args : List Arg) → ArgsFit shapes k slots args → push_args q p args ≡ arguments_code slots (arguments q p fs x args)
  args_pushed [] [] f = refl
  args_pushed [] (g ∷ args) f = absurd f
  args_pushed (slot ∷ slots) [] f = absurd f
  args_pushed (slot ∷ slots) (g ∷ args) f =
      let e = argument_of (offset q p) (index_of q p fs) x g in
      arg_pushed slot.form (slot_kind k slot.kind) g args f.0 ∙ ap (λ l. argument_code slot.form e ∷ l) (args_pushed slots args f.1)

  -- the length that is pushed
  same_length : (b n : ℕ) → 0 < n → VarsFit shapes x → slice_get shapes b ≡ Some record { kind = k; length = n }
      → (get_or shapes b (simple Integer)).length ≡ item_count (value_at x b).shape
  same_length b n some v e =
      let s : Shape = record { kind = k; length = n } in
      let count : item_count s ≡ n = cond-false (n == 0) 1 n (ne_eqb n 0 (λ z. omega (arith, z, some))) in
      ap (λ (t : Shape). t.length) (get_or_from_slice_get shapes b s _ e) ∙ sym count ∙ ap item_count (sym (value_fits shapes x b s v e).0)

  abbrev length_pushes : Predef → List Arg → List Instruction
  length_pushes r args = map i.PushConstant (length_words r (runs.values_of (arguments q p fs x args)))

  array_at_1 : (s : Slot) (slots : List Slot) (args : List Arg) → VarsFit shapes x → ArgsFit shapes k (s ∷ shared Array ∷ slots) args
      → length_code shapes row.MgIndexArray args ≡ length_pushes row.MgIndexArray args
  array_at_1 s slots [] v f = absurd f
  array_at_1 s slots (a ∷ []) v f = absurd f.1
  array_at_1 s slots (a ∷ Lit u ∷ args) v f = absurd f.1.0
  array_at_1 s slots (a ∷ Var b ∷ args) v f = ap (λ n. i.PushConstant (Int (pos n)) ∷ []) (same_length b f.1.0.0 f.1.0.1 v f.1.0.3)

  array_at_0 : (slots : List Slot) (args : List Arg) → VarsFit shapes x → ArgsFit shapes k (shared Array ∷ slots) args
      → length_code shapes row.MgArrayElementAssignment args ≡ length_pushes row.MgArrayElementAssignment args
  array_at_0 slots [] v f = absurd f
  array_at_0 slots (Lit u ∷ args) v f = absurd f.0
  array_at_0 slots (Var b ∷ args) v f = ap (λ n. i.PushConstant (Int (pos n)) ∷ []) (same_length b f.0.0 f.0.1 v f.0.3)

  length_pushed : (r : Predef) (args : List Arg) → VarsFit shapes x → ArgsFit shapes k (slots_of r) args → length_code shapes r args ≡ length_pushes r args
  length_pushed row.MgIndexArray args v f = array_at_1 (shared Simple) (integer_slot ∷ []) args v f
  length_pushed row.MgArrayElementAssignment args v f = array_at_0 (integer_slot ∷ shared Simple ∷ []) args v f
  length_pushed r args v f = refl

  -- the whole code is a predefined call's
  code_is : (r : Predef) (to : ℕ) (args : List Arg) → VarsFit shapes x → ArgsFit shapes k (slots_of r) args
      → push_args q p args ++ (length_code shapes r args ++ i.Call (predef_position q r) ∷ test_code r to)
      ≡ predef_code r (predef_position q r) to (arguments q p fs x args)
  code_is r to args v f =
      let rest = i.Call (predef_position q r) ∷ test_code r to in
      ap (λ l. l ++ (length_code shapes r args ++ rest)) (args_pushed (slots_of r) args f)
      ∙ ap (λ l. arguments_code (slots_of r) (arguments q p fs x args) ++ (l ++ rest)) (length_pushed r args v f)

-- code that stands is found
found_at : (code : List Instruction) (at : ℕ) (is : List Instruction) (j : ℕ) (x : Instruction) → HasAt code at is → slice_get is j ≡ Some x
    → slice_get code (at + j) ≡ Some x
found_at code at [] j x h e = cc
found_at code at (y ∷ is) zero x h e = let n : at + 0 ≡ at = omega arith in ap (slice_get code) n ∙ h.0 ∙ e
found_at code at (y ∷ is) (suc j) x h e =
    let n : at + suc j ≡ at + 1 + j = omega arith in
    ap (slice_get code) n ∙ found_at code (at + 1) is j x h.1 e

predef_spent : (r : Predef) (e : Effect) (t : Tally) → spend (predef_cost r e).0 (predef_cost r e).1 t ≡ predef_spend r e t
predef_spent r e t = refl

values_as : (x : List ValueOf) (args : List Arg) → map (value_of x) args ≡ values_of x args
unfolding values_of
values_as x args = refl

module _ {q : Program} {sizes : StackSizes} {base p : ℕ} {fs : List Frame} {fr : List piton.Frame} (a : Live q sizes base p fs fr) (x : List ValueOf)
    (s : List Word) (es : s ≡ stack_of q p x fs) (v : VarsFit (shapes_of (proc_at q p)) x) where
  -- each variable is held by its words and by its local
  held : (b : ℕ) (t : Shape) → slice_get (shapes_of (proc_at q p)) b ≡ Some t → VariableHolds s (index_words (frame_of q p fs)) (offset q p b)
      (index_of q p fs b) (value_at x b) t
  held b t e =
      let fit = value_fits (shapes_of (proc_at q p)) x b t v e in
      record {
        shape = fit.0;
        fits = fit.1;
        words = λ h w g. ap (λ z. element z (index_of q p fs b + h)) es ∙ reads_at q p x fs b h t w v a.frames_fit e g;
        local_holds = frame_at q p fs b a.frames_fit (slice_get_within (shapes_of (proc_at q p)) b t e);
      }

  applies : (k : Kind) (at : ℕ) (r : Predef) (args : List Arg) (e : Effect) (to : ℕ) → ArgsFit (shapes_of (proc_at q p)) k (slots_of r) args
      → predef_effect r (values_of x args) ≡ e → predef_temp r ≤ temp_need (proc_at q p) → predef_ctrl r ≤ ctrl_need (proc_at q p)
      → HasAt (code_of q p) at (push_args q p args ++ (length_code (shapes_of (proc_at q p)) r args ++ i.Call (predef_position q r) ∷ test_code r to))
      → Steps (generated_view q sizes base) (predef_cost r e).1 (predef_cost r e).0 (state_at p at 2 s fr)
      (after_code (state_at p at 2 s fr) to (length args + (lengths_of r + (test_size r + 1))) (arguments q p fs x args) e)
  applies k at r args e to f eff ct cr h0 =
      let S = generated_view q sizes base in
      let shapes = shapes_of (proc_at q p) in
      let given = arguments q p fs x args in
      let prog = predef_position q r in
      let code = predef_code r prog to given in
      let here0 = push_args q p args ++ (length_code shapes r args ++ i.Call prog ∷ test_code r to) in
      let same : here0 ≡ code = code_is q p fs x shapes k r to args v f in
      let h = subst (λ z. HasAt (code_of q p) at z) same h0 in
      let hold = a.bodies.arguments shapes x s (index_words (frame_of q p fs)) (offset q p) (index_of q p fs) k (slots_of r) args f held in
      let program : program_of S p ≡ generated_program q p = program_is q sizes base p (here a) in
      let at_code : IsAtCode S prog to r k given _ _ (state_at p at 2 s fr) = record {
        code = λ j x' g. ap (λ (z : ProgramView). slice_get z.instructions (at + j)) program ∙ found_at (code_of q p) at code j x' h g;
        frames = (top a).is;
        locals = hold.1;
        arguments = hold.0;
        condition = refl;
        temp = a.small;
        temp_room = omega (arith, free_temp a x s es v, ct);
        ctrl_room = subst (λ z. piton.ctrl_used z + predef_ctrl r ≤ sizes.ctrl) (top a).is (omega (arith, free_ctrl a, cr));
      } in
      let run = a.bodies.calls S (length q.procs) to r k given _ _ (state_at p at 2 s fr) (predef_there q sizes base r) at_code in
      let effect : predef_effect r (runs.values_of given) ≡ e =
      ap (predef_effect r) (a.bodies.values x (offset q p) (index_of q p fs) (value_of x) args (λ b. refl) (λ u. refl) ∙ values_as x args) ∙ eff in
      let size_is : length code ≡ length args + (lengths_of r + (test_size r + 1)) = ap length (sym same) ∙ apply_size q p r args to in
      subst (λ n. Steps S (predef_cost r e).1 (predef_cost r e).0 (state_at p at 2 s fr) (after_code (state_at p at 2 s fr) to n given e)) size_is
      (subst (λ z. Steps S (predef_cost r z).1 (predef_cost r z).0 (state_at p at 2 s fr) (after_code (state_at p at 2 s fr) to (length code) given z))
      effect run)

  goes_to : (r : Predef) (e : Effect) (at cc to : ℕ) (st : List Word) (u : Tally)
      → Steps (generated_view q sizes base) (predef_cost r e).1 (predef_cost r e).0 (state_at p at 2 s fr) (state_at p to cc st fr)
      → Goes (generated_view q sizes base) (Pt p at 2 s fr u) (Pt p to cc st fr (predef_spend r e u))
  goes_to r e at cc to st u h = record { steps = (predef_cost r e).1; cost = (predef_cost r e).0; runs = h; tally = sym (predef_spent r e u) }

  failed_leads : (place : ℕ) (r : Predef) (args : List Arg) (e : Effect) (env : List Scope) (at : ℕ) (w : List Item) (u t : Tally)
      → Goes (generated_view q sizes base) (Pt p at 2 s fr u) (Pt p (target q p (size q (body_of q p)) env Routine) 1 s fr (predef_spend r e u)) → u ≡ t
      → Stands q p env (at + size q (Apply place r args)) w → Comes q (generated_view q sizes base) (Pt p at 2 s fr u)
      (raise Routine p x w fs (predef_spend r e t))
  failed_leads place r args e env at w u t goes h st =
      comes_on goes (raise_leads a x s es v Routine w env (at + size q (Apply place r args)) _ (predef_spend r e t) (ap (predef_spend r e) h) st)

  pub apply_follows : (place : ℕ) (k : Kind) (r : Predef) (args : List Arg) (e : Effect) (env : List Scope) (at : ℕ) (w : List Item) (u t : Tally)
      → ArgsFit (shapes_of (proc_at q p)) k (slots_of r) args → predef_effect r (values_of x args) ≡ e → predef_temp r ≤ temp_need (proc_at q p)
      → predef_ctrl r ≤ ctrl_need (proc_at q p) → u ≡ t → Stands q p env at (Do (Apply place r args) ∷ w)
      → Follows q (generated_view q sizes base) (state (Pt p at 2 s fr u)) u (apply_step r args e p x w fs t)
  apply_follows place k r args (Normal n) env at w u t f eff ct cr h st =
      let S = generated_view q sizes base in
      let shapes = shapes_of (proc_at q p) in
      let aim = target q p (size q (body_of q p)) env Routine in
      let run = applies k at r args (Normal n) aim f eff ct cr st.0 in
      let b = target_of args in
      let x' = slice_set x b n in
      let v' = apply_fits shapes x k r args n v f eff in
      let first = first_of_row q p fs x shapes k r args f in
      let in_shapes : b < length shapes = slice_get_within shapes b first.shape first.there in
      let in_x : b < length x = omega (arith, Rattle.gypsy_codegen.proofs.CopyLaws.vars_number shapes x v, in_shapes) in
      let set : value_at x' b ≡ n = get_or-set_same x b n no_value in_x in
      let fit = value_fits shapes x' b first.shape v' first.there in
      let shape : slice_get shapes b ≡ Some n.shape = first.there ∙ ap Some (sym fit.0 ∙ ap (λ (z : ValueOf). z.shape) set) in
      let fits : ValueFits n = subst ValueFits set fit.1 in
      let s' = with_elements s (index_of q p fs b) (words_of_value n) in
      let es' : s' ≡ stack_of q p x' fs =
      ap (λ z. with_elements z (index_of q p fs b) (words_of_value n)) es ∙ writes_at q p x fs b n v a.frames_fit shape fits in
      let to = at + size q (Apply place r args) in
      let run' = subst (λ z. Steps S (predef_cost r (Normal n)).1 (predef_cost r (Normal n)).0 (state_at p at 2 s fr)
      (state_at p to 2 (with_elements s z (words_of_value n)) fr)) first.index run in
      leads (comes_on (goes_to r (Normal n) at 2 to s' u run')
      (lands a x' s' to (settle w) _ (predef_spend r (Normal n) t) es' (ap (predef_spend r (Normal n)) h) (settle_stands q p env to w st.1)))
  apply_follows place k r args Fault env at w u t f eff ct cr h st =
      let aim = target q p (size q (body_of q p)) env Routine in
      leads (failed_leads place r args Fault env at w u t (goes_to r Fault at 1 aim s u (applies k at r args Fault aim f eff ct cr st.0)) h st.1)
  apply_follows place k r args Beyond env at w u t f eff ct cr h st =
      let aim = target q p (size q (body_of q p)) env Routine in
      leads (failed_leads place r args Beyond env at w u t (goes_to r Beyond at 1 aim s u (applies k at r args Beyond aim f eff ct cr st.0)) h st.1)
