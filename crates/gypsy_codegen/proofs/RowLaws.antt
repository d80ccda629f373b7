-- Each step of the step machine is so many steps of the generated system.
use Rattle.std.{proofs.Common.{◌≡◌, ℕ, ◌+◌, List, [], ◌∷◌, ◌++◌, length, Bool, true, false, Some, refl, sym, ap, ◌∙◌, subst, arith}, specs.Prelude.slice_get}
use Rattle.std.{specs.Prelude.pos, proofs.lemmas.Option.{slice_get_within, slice_get-get_or}}
use Rattle.stack_text.{specs.declared.shape.Kind.Kind, specs.declared.shape.Kind.TheVariants.Boolean, specs.declared.shape.Shape.Shape, specs.Values.ValueOf}
use Rattle.stack_text.{specs.Values.item_count, proofs.SharedLaws.get_map}
use Rattle.piton_words.{specs.declared.word.Word.Word, specs.declared.word.Word.TheVariants.Bool as Truth}
use Rattle.piton_syntax.specs.declared.test_kind.TestFamily.TheVariants as family
use Rattle.piton_syntax.specs.declared.test_kind.TestKind.TheVariants as test
use Rattle.piton_check.specs.Instruction as i
use Rattle.piton_semantics.specs.State as piton
use Rattle.piton_semantics.specs.State.{PitonState, element}
use Rattle.gypsy_syntax.specs.Programs.{ConditionOf, Program, proc_at, body_of, shapes_of, conds_of, simple, Stmt, Skip, NoOp, Signal, Seq, Loop, If, Begin}
use Rattle.gypsy_syntax.{specs.Programs.{Call, Apply}, specs.ProgramFits.StmtFits, specs.ValuesFit.{ValueFits, VarsFit}, specs.Predefined.predef_effect}
use Rattle.gypsy_syntax.specs.Effects.{value_at, is_true_value, item_of_value}
use Rattle.gypsy_space.{specs.Costs.{Tally, spend}, specs.Needs.{StackSizes, lack_of}, specs.declared.need.Lack.Lack}
use Rattle.gypsy_space.{specs.declared.need.Lack.TheVariants.{Nothing, Temporary, Control}, proofs.SpendLaws.spend_two}
use Rattle.gypsy_semantics.{specs.Calls.values_of, specs.Machine.{Item, Do, Back, JoinThen, JoinOne, Guard, Out, Frame, Held, State, At, Next, open_on, settle}}
use Rattle.gypsy_semantics.{specs.Machine.{either_move, call_step, used, do_step, end_step, out_step, gypsy_step}, specs.Kept.{in_loop, WorkFits}}
use Rattle.gypsy_semantics.{specs.Room.{Covers, CoversWork}, proofs.EffectLaws.value_fits}
use Rattle.gypsy_predef.specs.Runs.{word_of_item, words_of_value}
use Rattle.gypsy_codegen.{specs.WordsOf.number_of, specs.Generated.{Scope, InLoop, back_code, size, code_of, generated_view}, specs.Memory.{stack_of, index_of}}
use Rattle.gypsy_codegen.{specs.Showing.{HasAt, gen_in, Stands, Tops, cc_of}, specs.Law.{Follows, StepsFollow}, proofs.LayoutLaws.reads_at, proofs.StepLaws.P}
use Rattle.gypsy_codegen.{proofs.StepLaws.{Pt, state, spent, Goes, steps_on, three}, proofs.PushLaws.{PredefsRun, Live, free_temp, here, top, passes, jumps}}
use Rattle.gypsy_codegen.{proofs.PushLaws.pushes_local, proofs.StandLaws.{Opened, moved, after_gen, front_gen, settle_stands, open_stands, Comes, comes_on}}
use Rattle.gypsy_codegen.{proofs.StandLaws.{leads, lands, raises_leads}, proofs.CallLaws.{Lacks, lacks, call_leads, lack_temporary_leads, lack_control_leads}}
use Rattle.gypsy_codegen.{proofs.CallLaws.{normal_leads, out_leads, end_halts, out_halts}, proofs.ApplyLaws.apply_follows}
use Rattle.gypsy_codegen.proofs.StepLaws as go

-- the word of a simple variable
simple_word : (k : Kind) (v : ValueOf) → v.shape ≡ simple k → ValueFits v → slice_get (words_of_value v) 0 ≡ Some (word_of_item k (item_of_value v))
simple_word k v e f =
    let one : length v.items ≡ 1 = f.number ∙ ap item_count e in
    get_map (word_of_item v.shape.kind) v.items 0 (item_of_value v) (slice_get-get_or v.items 0 (pos 0) (omega (arith, one)))
    ∙ ap (λ (t : Shape). Some (word_of_item t.kind (item_of_value v))) e

module _ {q : Program} {sizes : StackSizes} {base p : ℕ} {fs : List Frame} {fr : List piton.Frame} (a : Live q sizes base p fs fr) (x : List ValueOf)
    (s : List Word) (es : s ≡ stack_of q p x fs) (v : VarsFit (shapes_of (proc_at q p)) x) where
  if_leads : (b : Bool) (at to : ℕ) (u : Tally) (g h : State) → slice_get (code_of q p) at ≡ Some (i.TestAndJump family.Bool test.F to)
      → Comes q (generated_view q sizes base) (Pt p (at + 1) 2 s fr (spend 2 1 u)) g
      → Comes q (generated_view q sizes base) (Pt p to 2 s fr (spend 2 1 u)) h → (c : P)
      → Goes (generated_view q sizes base) c (Pt p at 2 (Truth b ∷ s) fr u) → Follows q (generated_view q sizes base) (state c) (spent c)
      (either_move b (Next g) (Next h))
  if_leads true at to u g h i m n c st = leads (comes_on st (comes_on (go.tests_false q sizes base p (here a) fr _ _ (top a).is at 2 to true s u i) m))
  if_leads false at to u g h i m n c st = leads (comes_on st (comes_on (go.tests_false q sizes base p (here a) fr _ _ (top a).is at 2 to false s u i) n))

  do_follows : (r : Stmt) (env : List Scope) (at : ℕ) (w : List Item) (u t : Tally) → u ≡ t
      → StmtFits q (shapes_of (proc_at q p)) (conds_of (proc_at q p)) (in_loop w) r → Covers (proc_at q p) r → WorkFits q (proc_at q p) w
      → CoversWork (proc_at q p) w → Stands q p env at (Do r ∷ w) → Follows q (generated_view q sizes base) (state (Pt p at 2 s fr u)) u
      (do_step q sizes r p x w fs t)
  do_follows Skip env at w u t e f c wf cw st =
      let g : at + 0 ≡ at = omega arith in
      leads (lands a x s at (settle w) u t es e (settle_stands q p env at w (moved q p env _ _ w g st.1)))
  do_follows (NoOp place) env at w u t e f c wf cw st =
      leads (comes_on (passes a at 2 s u st.0.0)
      (lands a x s (at + 1) (settle w) (spend 1 1 u) (spend 1 1 t) es (ap (spend 1 1) e) (settle_stands q p env (at + 1) w st.1)))
  do_follows (Signal place d) env at w u t e f c wf cw st =
      leads (raises_leads a x s es v d w env at (at + 3) 2 [] u (spend 4 3 t) (ap (spend 4 3) e) st.0 st.1)
  do_follows (Seq b d) env at w u t e f c wf cw st =
      leads (lands a x s at (open_on (Seq b d) w) u t es e (open_stands q p (Seq b d) env at w st.0 st.1))
  do_follows (Loop place r) env at w u t e f c wf cw st =
      let h = st.0 in
      let inner = InLoop (at + 1 + size q r + 1) ∷ env in
      let g : at + (size q r + 4) ≡ at + 1 + size q r + 3 = omega arith in
      let o = open_stands q p r inner (at + 1) (Back place r ∷ w) (front_gen q p inner (at + 1) r _ h.1) (env, at, refl, refl, h, moved q p env _ _ w g st.1) in
      leads (comes_on (passes a at 2 s u h.0) (lands a x s (at + 1) (open_on r (Back place r ∷ w)) (spend 1 1 u) (spend 1 1 t) es (ap (spend 1 1) e) o))
  do_follows (If place b r n) env at w u t e f c wf cw st =
      let h = st.0 in
      let a2 = at + 3 + size q r in
      let gn = gen_in q p env (a2 + 2) n in
      let rest = gen_in q p env (at + 3) r ++ i.Jump (a2 + 2 + size q n) ∷ i.NoOp ∷ (gn ++ i.NoOp ∷ []) in
      let three_on : at + 1 + 1 + 1 ≡ at + 3 = omega arith in
      let body = subst (λ j. HasAt (code_of q p) j rest) three_on h.1.1.1 in
      let mid = after_gen q p env (at + 3) a2 r _ refl body in
      let two_on : a2 + 1 + 1 ≡ a2 + 2 = omega arith in
      let other = subst (λ j. HasAt (code_of q p) j (gn ++ i.NoOp ∷ [])) two_on mid.1.1 in
      let last = after_gen q p env (a2 + 2) (a2 + 2 + size q n) n _ refl other in
      let g : at + (size q r + size q n + 6) ≡ a2 + 2 + size q n + 1 = omega arith in
      let end = moved q p env _ _ w g st.1 in
      let o_yes = open_stands q p r env (at + 3) (JoinThen place n ∷ w) (front_gen q p env (at + 3) r _ body) (mid.0, last.0, end) in
      let o_no = open_stands q p n env (a2 + 2) (JoinOne place ∷ w) (front_gen q p env (a2 + 2) n _ other) (last.0, end) in
      let value = value_at x b in
      let fit = value_fits (shapes_of (proc_at q p)) x b (simple Boolean) v f.0 in
      let index = index_of q p fs b in
      let index_0 : index ≡ index + 0 = omega arith in
      let read : element s index ≡ Some (Truth (is_true_value value)) =
      ap (λ z. element z index) es ∙ ap (element (stack_of q p x fs)) index_0 ∙ reads_at q p x fs b 0 (simple Boolean) (Truth (is_true_value value)) v
      a.frames_fit f.0 (simple_word Boolean value fit.0 fit.1) in
      let u2 = spend 3 1 (spend 3 1 u) in
      let yes_tally = three 2 1 3 1 3 1 u ∙ ap (spend 8 3) e in
      let no_tally = ap (spend 1 1) (three 2 1 3 1 3 1 u) ∙ spend_two 1 1 8 3 u ∙ ap (spend 9 4) e in
      let no_way = comes_on (passes a (a2 + 1) 2 s (spend 2 1 u2) mid.1.0)
      (lands a x s (a2 + 1 + 1) (open_on n (JoinOne place ∷ w)) _ (spend 9 4 t) es no_tally
      (subst (λ z. Opened q p z (open_on n (JoinOne place ∷ w))) (sym two_on) o_no)) in
      let yes_way = lands a x s (at + 1 + 1 + 1) (open_on r (JoinThen place n ∷ w)) (spend 2 1 u2) (spend 8 3 t) es yes_tally
      (subst (λ z. Opened q p z (open_on r (JoinThen place n ∷ w))) (sym three_on) o_yes) in
      let first = pushes_local a b at 2 s u (slice_get_within (shapes_of (proc_at q p)) b (simple Boolean) f.0) (omega (arith, free_temp a x s es v)) h.0 in
      let second = go.fetches q sizes base p (here a) fr _ _ (top a).is (at + 1) 2 index s (spend 3 1 u) (Truth (is_true_value value)) h.1.0 read in
      if_leads (is_true_value value) (at + 1 + 1) (a2 + 1) u2 _ _ h.1.1.0 yes_way no_way (Pt p at 2 s fr u) (steps_on first second)
  do_follows (Begin place r cs n) env at w u t e f c wf cw st =
      leads (lands a x s at (open_on (Begin place r cs n) w) u t es e (open_stands q p (Begin place r cs n) env at w st.0 st.1))
  do_follows (Call place d xs cs) env at w u t e f c wf cw st = pick (lack_of q sizes d (used q p fs)) (lacks q sizes d (used q p fs))
    where
      pick : (l : Lack) → Lacks q sizes d (used q p fs) l → Follows q (generated_view q sizes base) (state (Pt p at 2 s fr u)) u
          (call_step q l d xs cs p x w fs t)
      pick Nothing has = leads (call_leads a x s es v place d xs cs env at w u t f wf cw c.0 has e st)
      pick Temporary lack = leads (lack_temporary_leads a x s es v place d xs cs env at w u t c.0 e st lack)
      pick Control lack = leads (lack_control_leads a x s es v place d xs cs env at w u t c.0 e st lack)
  do_follows (Apply place r args) env at w u t e f c wf cw st =
      apply_follows a x s es v place f.0 r args (predef_effect r (values_of x args)) env at w u t f.1 refl c.0 c.1 e st

end_follows : {q : Program} {sizes : StackSizes} {base p : ℕ} {fr : List piton.Frame} (fs : List Frame) (a : Live q sizes base p fs fr)
    (x : List ValueOf) (s : List Word) (at : ℕ) (u t : Tally) → s ≡ stack_of q p x fs → VarsFit (shapes_of (proc_at q p)) x → u ≡ t
    → at ≡ size q (body_of q p) → Follows q (generated_view q sizes base) (state (Pt p at 2 s fr u)) u (end_step q p x fs t)
end_follows [] a x s at u t es v e f = end_halts a x s es v at u t e f
end_follows (Held c z w xs cs ∷ fs) a x s at u t es v e f = leads (normal_leads a x s es v at u t e f)

out_follows : {q : Program} {sizes : StackSizes} {base p : ℕ} {fr : List piton.Frame} (fs : List Frame) (a : Live q sizes base p fs fr)
    (x : List ValueOf) (s : List Word) (d : ConditionOf) (at : ℕ) (u t : Tally) → s ≡ stack_of q p x fs → VarsFit (shapes_of (proc_at q p)) x → u ≡ t
    → at ≡ Rattle.gypsy_codegen.specs.Generated.out_place q p (size q (body_of q p)) d
    → Follows q (generated_view q sizes base) (state (Pt p at (number_of d) s fr u)) u (out_step q d p x fs t)
out_follows [] a x s d at u t es v e f = out_halts a x s es v d at u t e f
out_follows (Held c z w xs cs ∷ fs) a x s d at u t es v e f = leads (out_leads a x s es v d at u t e f)

item_follows : {q : Program} {sizes : StackSizes} {base p : ℕ} {fs : List Frame} {fr : List piton.Frame} (a : Live q sizes base p fs fr)
    (x : List ValueOf) (s : List Word) (w : List Item) (at : ℕ) (t : Tally) → s ≡ stack_of q p x fs → VarsFit (shapes_of (proc_at q p)) x
    → WorkFits q (proc_at q p) w → CoversWork (proc_at q p) w → Tops q p at w → Follows q (generated_view q sizes base)
    (state (Pt p at (cc_of w) s fr t)) t (gypsy_step q sizes (At p x w fs t))
item_follows {q} {sizes} {base} {p} {fs} {fr} a x s [] at t es v wf cw st = end_follows fs a x s at t t es v refl st.1.1
item_follows {q} {sizes} {base} {p} {fs} {fr} a x s (Do r ∷ w) at t es v wf cw st = do_follows a x s es v r st.0 at w t t refl wf.0 cw.0 wf.1 cw.1 st.1
item_follows {q} {sizes} {base} {p} {fs} {fr} a x s (Back place r ∷ w) at t es v wf cw top' =
    let st = top'.1 in
    let outer = st.0 in
    let b = st.1 in
    let back = after_gen q p (InLoop (b + 1 + size q r + 1) ∷ outer) (b + 1) at r (back_code b) st.3 st.4.1 in
    let f : at + 3 ≡ b + (size q r + 4) = omega (arith, st.3) in
    leads (comes_on (jumps a at 2 b s t back.0)
    (lands a x s b (open_on (Loop place r) w) (spend 1 1 t) (spend 1 1 t) es refl (outer, (st.4, moved q p outer _ _ w f st.5))))
item_follows {q} {sizes} {base} {p} {fs} {fr} a x s (JoinThen place n ∷ w) at t es v wf cw top' =
    let st = top'.1 in
    leads (comes_on (steps_on (jumps a at 2 (at + 2 + size q n) s t st.0) (passes a (at + 2 + size q n) 2 s (spend 1 1 t) st.1))
    (lands a x s (at + 2 + size q n + 1) (settle w) _ (spend 2 2 t) es (spend_two 1 1 1 1 t) (settle_stands q p top'.0 _ w st.2)))
item_follows {q} {sizes} {base} {p} {fs} {fr} a x s (JoinOne place ∷ w) at t es v wf cw top' =
    leads (comes_on (passes a at 2 s t top'.1.0) (lands a x s (at + 1) (settle w) (spend 1 1 t) (spend 1 1 t) es refl (settle_stands q p top'.0 _ w top'.1.1)))
item_follows {q} {sizes} {base} {p} {fs} {fr} a x s (Guard place cs n ∷ w) at t es v wf cw top' =
    let st = top'.1 in
    let outer = st.0 in
    let h = st.2 in
    let b : at + 1 + 1 + 1 ≡ at + 3 = omega arith in
    let arm = subst (λ j. HasAt (code_of q p) j (gen_in q p outer (at + 3) n ++ i.NoOp ∷ [])) b h.1.1.1 in
    let last = after_gen q p outer (at + 3) (at + 3 + size q n) n (i.NoOp ∷ []) refl arm in
    leads (comes_on (steps_on (jumps a at 2 (at + 3 + size q n) s t h.0) (passes a (at + 3 + size q n) 2 s (spend 1 1 t) last.0))
    (lands a x s (at + 3 + size q n + 1) (settle w) _ (spend 2 2 t) es (spend_two 1 1 1 1 t) (settle_stands q p outer _ w st.3)))
item_follows {q} {sizes} {base} {p} {fs} {fr} a x s (Out c ∷ w) at t es v wf cw st = out_follows fs a x s c at t t es v refl st.0

abbrev state_with : ℕ → ℕ → List piton.Frame → List Word → List (List Word) → PitonState
state_with program place frames stack areas = record { program = program; place = place; frames = frames; stack = stack; areas = areas }

pub steps_follow : PredefsRun → StepsFollow
steps_follow bodies q sizes base a (At p x w fs t) fits small sf room sh =
    let live : Live q sizes base p fs a.frames = record { fits = fits; small = small; bodies = bodies; frames_fit = sf.2; waits = sh.frames; words = room.1 } in
    subst (λ z. Follows q (generated_view q sizes base) (state_with z a.place a.frames a.stack a.areas) t (gypsy_step q sizes (At p x w fs t)))
    (sym sh.program) (subst (λ z. Follows q (generated_view q sizes base) (state_with p a.place a.frames a.stack z) t
    (gypsy_step q sizes (At p x w fs t))) (sym sh.condition) (item_follows live x a.stack w a.place t sh.stack sf.0 sf.1 room.0 sh.tops))
