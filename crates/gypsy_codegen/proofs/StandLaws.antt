-- Where code stands, and raising.
use Rattle.std.proofs.Common.{◌≡◌, ℕ, ◌+◌, ◌*◌, ◌≤◌, List, [], ◌∷◌, ◌++◌, length, Bool, true, false, Some, refl, sym, ap, ◌∙◌, subst, arith, length-append}
use Rattle.std.{specs.Prelude.{slice_get, if◌then◌else◌}, proofs.lemmas.List.length-map}
use Rattle.stack_text.{specs.declared.shape.Shape.Shape, specs.Values.ValueOf}
use Rattle.piton_words.{specs.declared.word.Word.Word, specs.declared.word.Word.TheVariants.Nat}
use Rattle.piton_words.specs.declared.op.WordOp.TheVariants as op
use Rattle.piton_syntax.specs.declared.test_kind.TestFamily.TheVariants as family
use Rattle.piton_syntax.specs.declared.test_kind.TestKind.TheVariants as test
use Rattle.piton_check.specs.Instruction as i
use Rattle.piton_check.specs.Instruction.{Instruction, SystemView}
use Rattle.piton_semantics.specs.State as piton
use Rattle.gypsy_syntax.{specs.declared.predef.Predef.Predef, specs.Programs.{ConditionOf, Arg, Routine, Space, Program, proc_at, body_of, shapes_of, Stmt}}
use Rattle.gypsy_syntax.{specs.Programs.{Skip, NoOp, Signal, Seq, Loop, If, Begin, Call, Apply}, specs.Predefined.can_fail, specs.ValuesFit.VarsFit}
use Rattle.gypsy_syntax.specs.declared.predef.Predef.TheVariants as row
use Rattle.gypsy_space.{specs.Costs.{Tally, spend}, specs.Needs.{StackSizes, temp_need, local_words, call_need}, proofs.SpendLaws.spend_two}
use Rattle.gypsy_semantics.{specs.Calls.{has_cond, is_leave}, specs.Machine.{Item, Do, Back, JoinThen, JoinOne, Guard, Out, Frame, State, At, opens, open_on}}
use Rattle.gypsy_semantics.specs.Machine.{settle, stop_if, raise}
use Rattle.gypsy_codegen.{specs.WordsOf.{number_of, words_of_values, local_shapes}, specs.Guard.{guard_code, guard_size}, specs.Generated.{Scope, InLoop}}
use Rattle.gypsy_codegen.specs.Generated.{InBegin, target, raise_code, back_code, raises, after_size, after_code, push_words, push_indices, push_actuals}
use Rattle.gypsy_codegen.specs.Generated.{push_args, before_size, length_code, predef_position, test_size, size, gen, tail_code, code_of, generated_view}
use Rattle.gypsy_codegen.{specs.Memory.stack_of, specs.Showing.{HasAt, gen_in, Stands, Tops, cc_of, StandsAs}, specs.Law.{tally_of, Leads}, proofs.StepLaws.P}
use Rattle.gypsy_codegen.{proofs.StepLaws.{Pt, state, spent, Goes, steps_on, stay}, proofs.PushLaws.{has_front, has_back, has_all, size_words, size_indices}}
use Rattle.gypsy_codegen.proofs.PushLaws.{size_actuals, size_args, Live, free_temp, jumps, sets_cc}
use Rattle.gypsy_predef.{specs.Bodies.lengths_of, specs.Calls.test_code}

pub size_raises : (q : Program) (p n : ℕ) (env : List Scope) (cs : List ConditionOf) → length (raises q p n env cs) ≡ 3 * length cs
size_raises q p n env [] = refl
size_raises q p n env (c ∷ cs) = omega (arith, length-append (raise_code q p n env c) (raises q p n env cs), size_raises q p n env cs)

pub size_after : (q : Program) (p n : ℕ) (env : List Scope) (at l : ℕ) (cs : List ConditionOf) → length (after_code q p n env at l cs) ≡ after_size cs
size_after q p n env at l cs =
    let rest = raises q p n env cs ++ i.NoOp ∷ [] in
    omega (
      arith,
      length-append (raise_code q p n env Routine) (raise_code q p n env Space ++ rest),
      length-append (raise_code q p n env Space) rest,
      length-append (raises q p n env cs) (i.NoOp ∷ []),
      size_raises q p n env cs,
    )

pub size_length : (shapes : List Shape) (r : Predef) (args : List Arg) → length (length_code shapes r args) ≡ lengths_of r
size_length shapes row.MgSimpleVariableAssignment args = refl
size_length shapes r args = refl

pub size_check : (b : Bool) (u v w : Instruction) → length (if b then u ∷ v ∷ w ∷ [] else []) ≡ (if b then 3 else 0)
size_check true u v w = refl
size_check false u v w = refl

pub apply_size : (q : Program) (p : ℕ) (r : Predef) (args : List Arg) (to : ℕ) → length
    (push_args q p args ++ (length_code (shapes_of (proc_at q p)) r args ++ i.Call (predef_position q r) ∷ test_code r to)) ≡ length args
    + (lengths_of r + (test_size r + 1))
apply_size q p r args to =
    let pa = push_args q p args in
    let lc = length_code (shapes_of (proc_at q p)) r args in
    let cc = test_code r to in
    omega (
      arith,
      length-append pa (lc ++ i.Call (predef_position q r) ∷ cc),
      length-append lc (i.Call (predef_position q r) ∷ cc),
      size_args q p args,
      size_length (shapes_of (proc_at q p)) r args,
      size_check (can_fail r) (i.PushGlobal 0) (i.Apply op.Sub1Nat)
          (i.TestAndJump family.Nat test.Zero to),
    )

module _ (q : Program) (p n : ℕ) where
  pub size_gen : (env : List Scope) (at : ℕ) (s : Stmt) → length (gen q p n env at s) ≡ size q s
  size_gen env at Skip = refl
  size_gen env at (NoOp place) = refl
  size_gen env at (Signal place c) = refl
  size_gen env at (Seq a b) =
      omega (arith, length-append (gen q p n env at a) (gen q p n env (at + size q a) b), size_gen env at a, size_gen env (at + size q a) b)
  size_gen env at (Loop place s) =
      let inner = InLoop (at + 1 + size q s + 1) ∷ env in
      omega (arith, length-append (gen q p n inner (at + 1) s) (back_code at), size_gen inner (at + 1) s)
  size_gen env at (If place b s v) =
      let a2 = at + 3 + size q s in
      let gs = gen q p n env (at + 3) s in
      let gv = gen q p n env (a2 + 2) v in
      omega (
        arith,
        length-append gs (i.Jump (a2 + 2 + size q v) ∷ i.NoOp ∷ (gv ++ i.NoOp ∷ [])),
        length-append gv (i.NoOp ∷ []),
        size_gen env (at + 3) s,
        size_gen env (a2 + 2) v,
      )
  size_gen env at (Begin place s cs v) =
      let inner = InBegin cs (at + size q s + 1) ∷ env in
      let gs = gen q p n inner at s in
      let gv = gen q p n env (at + size q s + 3) v in
      omega (
        arith,
        length-append gs (i.Jump (at + size q s + 3 + size q v) ∷ i.PushConstant (Nat 2) ∷ i.PopGlobal 0 ∷ (gv ++ i.NoOp ∷ [])),
        length-append gv (i.NoOp ∷ []),
        size_gen inner at s,
        size_gen env (at + size q s + 3) v,
      )
  size_gen env at (Call place c xs cs) =
      let d = proc_at q c in
      let l = local_words d in
      let ws = words_of_values d.locals in
      let behind = at + guard_size + before_size q c xs in
      let after = after_code q p n env behind l cs in
      let pa = push_actuals q p xs in
      let pi = push_indices l 0 0 (local_shapes d) in
      let pw = push_words ws in
      omega (
        arith,
        length-append (guard_code (call_need q c) (behind + 6)) (pw ++ (pi ++ (pa ++ i.Call c ∷ after))),
        length-append pw (pi ++ (pa ++ i.Call c ∷ after)),
        length-append pi (pa ++ i.Call c ∷ after),
        length-append pa (i.Call c ∷ after),
        size_words ws,
        size_indices l 0 0 (local_shapes d),
        length-map d.locals (λ (v : ValueOf). v.shape),
        size_actuals q p xs,
        size_after q p n env behind l cs,
      )
  size_gen env at (Apply place r args) = apply_size q p r args (target q p n env Routine)

-- The end of a procedure's code.

pub tail_at : (q : Program) (p : ℕ) → HasAt (code_of q p) (size q (body_of q p)) (tail_code (size q (body_of q p)))
tail_at q p =
    let n = size q (body_of q p) in
    let g = gen q p n [] 0 (body_of q p) in
    has_back (code_of q p) 0 g (tail_code n) n (omega (arith, size_gen q p n [] 0 (body_of q p))) (has_all (code_of q p) [])

pub ret_at : (q : Program) (p : ℕ) → slice_get (code_of q p) (size q (body_of q p) + 3) ≡ Some i.Ret
ret_at q p =
    let n = size q (body_of q p) in
    let f : n + 1 + 1 + 1 ≡ n + 3 = omega arith in
    subst (λ j. slice_get (code_of q p) j ≡ Some i.Ret) f (tail_at q p).1.1.1.0

module _ (q : Program) (p : ℕ) where
  -- the list stands inside some scopes
  abbrev pub Opened : ℕ → List Item → Type 0
  Opened at w = (env : List Scope) × Stands q p env at w

  pub moved : (env : List Scope) (at to : ℕ) (w : List Item) → at ≡ to → Stands q p env at w → Stands q p env to w
  moved env at to w e st = subst (λ a. Stands q p env a w) e st

  -- the back of a statement's code
  pub after_gen : (env : List Scope) (at to : ℕ) (s : Stmt) (b : List Instruction) → at + size q s ≡ to
      → HasAt (code_of q p) at (gen_in q p env at s ++ b) → HasAt (code_of q p) to b
  after_gen env at to s b e h = has_back (code_of q p) at (gen_in q p env at s) b to (omega (arith, e, size_gen q p (size q (body_of q p)) env at s)) h

  pub front_gen : (env : List Scope) (at : ℕ) (s : Stmt) (b : List Instruction) → HasAt (code_of q p) at (gen_in q p env at s ++ b)
      → HasAt (code_of q p) at (gen_in q p env at s)
  front_gen env at s b h = has_front (code_of q p) at (gen_in q p env at s) b h

  opens_stands : (s : Stmt) (env : List Scope) (at : ℕ) (w ws : List Item) → HasAt (code_of q p) at (gen_in q p env at s)
      → Stands q p env (at + size q s) w → Opened (at + size q s) ws → Opened at (opens s w ws)
  opens_stands Skip env at w ws h st o = let e : at + 0 ≡ at = omega arith in subst (λ a. Opened a ws) e o
  opens_stands (NoOp place) env at w ws h st o = (env, (h, st))
  opens_stands (Signal place c) env at w ws h st o = (env, (h, st))
  opens_stands (Seq a b) env at w ws h st o =
      let e : at + (size q a + size q b) ≡ at + size q a + size q b = omega arith in
      let hb = after_gen env at (at + size q a) a _ refl h in
      let stb = moved env _ _ w e st in
      opens_stands a env at (Do b ∷ w) (opens b w ws) (front_gen env at a _ h) (hb, stb)
      (opens_stands b env (at + size q a) w ws hb stb (subst (λ i. Opened i ws) e o))
  opens_stands (Loop place s) env at w ws h st o = (env, (h, st))
  opens_stands (If place b s v) env at w ws h st o = (env, (h, st))
  opens_stands (Begin place s cs v) env at w ws h st o =
      let inner = InBegin cs (at + size q s + 1) ∷ env in
      let e : at + (size q s + size q v + 4) ≡ at + size q s + 3 + size q v + 1 = omega arith in
      let guard : Stands q p inner (at + size q s) (Guard place cs v ∷ w) = (env, refl, after_gen inner at (at + size q s) s _ refl h, moved env _ _ w e st) in
      opens_stands s inner at (Guard place cs v ∷ w) (Guard place cs v ∷ w) (front_gen inner at s _ h) guard (inner, guard)
  opens_stands (Call place c xs cs) env at w ws h st o = (env, (h, st))
  opens_stands (Apply place r args) env at w ws h st o = (env, (h, st))

  pub settle_stands : (env : List Scope) (at : ℕ) (w : List Item) → Stands q p env at w → Opened at (settle w)
  settle_stands env at [] st = (env, st)
  settle_stands env at (Do s ∷ w) st = opens_stands s env at w (settle w) st.0 st.1 (settle_stands env (at + size q s) w st.1)
  settle_stands env at (Back place s ∷ w) st = (env, st)
  settle_stands env at (JoinThen place v ∷ w) st = (env, st)
  settle_stands env at (JoinOne place ∷ w) st = (env, st)
  settle_stands env at (Guard place cs v ∷ w) st = (env, st)
  settle_stands env at (Out c ∷ w) st = absurd st

  pub open_stands : (s : Stmt) (env : List Scope) (at : ℕ) (w : List Item) → HasAt (code_of q p) at (gen_in q p env at s)
      → Stands q p env (at + size q s) w → Opened at (open_on s w)
  open_stands s env at w h st = opens_stands s env at w (settle w) h st (settle_stands env (at + size q s) w st)

  -- the body, from its first instruction
  pub body_stands : Opened 0 (open_on (body_of q p) [])
  body_stands =
      let n = size q (body_of q p) in
      open_stands (body_of q p) [] 0 [] (front_gen [] 0 (body_of q p) _ (has_all (code_of q p) [])) (refl, omega arith)

  pub tops : (at : ℕ) (w : List Item) → Opened at w → Tops q p at w × (cc_of w ≡ 2)
  tops at [] o = (o, refl)
  tops at (Do s ∷ w) o = (o, refl)
  tops at (Back place s ∷ w) o = (o, refl)
  tops at (JoinThen place v ∷ w) o = (o, refl)
  tops at (JoinOne place ∷ w) o = (o, refl)
  tops at (Guard place cs v ∷ w) o = (o, refl)
  tops at (Out c ∷ w) o = absurd o.1

-- steps to a state that reads as this one
pub record Comes (q : Program) (s : SystemView) (a : P) (g : State) : Type 0 where
  pub to : P
  pub goes : Goes s a to
  pub shows : StandsAs q (state to) g
  pub tally : tally_of g ≡ spent to

pub comes_on : {q : Program} {s : SystemView} {a b : P} {g : State} → Goes s a b → Comes q s b g → Comes q s a g
comes_on x l = record { to = l.to; goes = steps_on x l.goes; shows = l.shows; tally = l.tally }

pub leads : {q : Program} {s : SystemView} {a : P} {g : State} → Comes q s a g → Leads q s (state a) (spent a) g
leads l = record { steps = l.goes.steps; cost = l.goes.cost; to = state l.to; runs = l.goes.runs; tally = l.tally ∙ l.goes.tally; shows = l.shows }

module _ {q : Program} {sizes : StackSizes} {base p : ℕ} {fs : List Frame} {fr : List piton.Frame} (a : Live q sizes base p fs fr) where
  -- here the next item stands
  pub lands : (x : List ValueOf) (s : List Word) (at : ℕ) (w : List Item) (u t : Tally) → s ≡ stack_of q p x fs → u ≡ t → Opened q p at w
      → Comes q (generated_view q sizes base) (Pt p at 2 s fr u) (At p x w fs t)
  lands x s at w u t es e o =
      let b = tops q p at w o in
      record {
        to = Pt p at 2 s fr u;
        goes = stay _;
        shows = record { program = refl; tops = b.0; condition = ap (λ n. (Nat n ∷ []) ∷ []) (sym b.1); stack = es; frames = a.waits };
        tally = sym e;
      }

  module _ (x : List ValueOf) (s : List Word) (es : s ≡ stack_of q p x fs) (v : VarsFit (shapes_of (proc_at q p)) x) where
    pub free : length s + temp_need (proc_at q p) ≤ sizes.temp
    free = free_temp a x s es v

    -- the condition is normal again
    resets : (at to cc : ℕ) (is : List Instruction) (w : List Item) (u t : Tally) → u ≡ t → at + 2 ≡ to
        → HasAt (code_of q p) at (i.PushConstant (Nat 2) ∷ i.PopGlobal 0 ∷ is) → Opened q p to w
        → Comes q (generated_view q sizes base) (Pt p at cc s fr u) (At p x w fs (spend 3 2 t))
    resets at to cc is w u t e f h o =
        let g : to ≡ at + 1 + 1 = omega (arith, f) in
        comes_on (sets_cc a at cc 2 s u is h (omega (arith, free)))
        (lands x s (at + 1 + 1) w _ (spend 3 2 t) es (ap (spend 3 2) e) (subst (λ b. Opened q p b w) g o))

    pick_leads : (b : Bool) (j k cc : ℕ) (u : Tally) (g h : State) → Comes q (generated_view q sizes base) (Pt p j cc s fr u) g
        → Comes q (generated_view q sizes base) (Pt p k cc s fr u) h → Comes q (generated_view q sizes base) (Pt p (if b then j else k) cc s fr u)
        (stop_if b g h)
    pick_leads true j k cc u g h m n = m
    pick_leads false j k cc u g h m n = n

    -- from where a condition goes
    pub raise_leads : (c : ConditionOf) (w : List Item) (env : List Scope) (at : ℕ) (u t : Tally) → u ≡ t → Stands q p env at w
        → Comes q (generated_view q sizes base) (Pt p (target q p (size q (body_of q p)) env c) (number_of c) s fr u) (raise c p x w fs t)
    raise_leads c [] env at u t e st =
        let n = size q (body_of q p) in
        let f = ap (λ v. target q p n v c) st.0 in
        record {
          to = Pt p (target q p n env c) (number_of c) s fr u;
          goes = stay _;
          shows = record { program = refl; tops = (f, refl); condition = refl; stack = es; frames = a.waits };
          tally = sym e;
        }
    raise_leads c (Do r ∷ w) env at u t e st = raise_leads c w env (at + size q r) u t e st.1
    raise_leads c (Back place r ∷ w) env at u t e st =
        let n = size q (body_of q p) in
        let outer = st.0 in
        let b = st.1 in
        let back = after_gen q p (InLoop (b + 1 + size q r + 1) ∷ outer) (b + 1) at r (back_code b) st.3 st.4.1 in
        let f : at + 1 + 2 ≡ at + 3 = omega arith in
        let stop = resets (at + 1) (at + 3) (number_of c) [] (settle w) u t e f back.1 (settle_stands q p outer (at + 3) w st.5) in
        let on = raise_leads c w outer (at + 3) u t e st.5 in
        subst (λ z. Comes q (generated_view q sizes base) (Pt p (target q p n z c) (number_of c) s fr u)
        (stop_if (is_leave c) (At p x (settle w) fs (spend 3 2 t)) (raise c p x w fs t))) (sym st.2) (pick_leads (is_leave c) _ _ _ u _ _ stop on)
    raise_leads c (JoinThen place r ∷ w) env at u t e st = raise_leads c w env _ u t e st.2
    raise_leads c (JoinOne place ∷ w) env at u t e st = raise_leads c w env _ u t e st.1
    raise_leads c (Guard place cs r ∷ w) env at u t e st =
        let n = size q (body_of q p) in
        let outer = st.0 in
        let h = st.2 in
        let f : at + 1 + 2 ≡ at + 3 = omega arith in
        let b : at + 1 + 1 + 1 ≡ at + 3 = omega arith in
        let arm = subst (λ j. HasAt (code_of q p) j (gen_in q p outer (at + 3) r ++ i.NoOp ∷ [])) b h.1.1.1 in
        let last = after_gen q p outer (at + 3) (at + 3 + size q r) r (i.NoOp ∷ []) refl arm in
        let o = open_stands q p r outer (at + 3) (JoinOne place ∷ w) (front_gen q p outer (at + 3) r _ arm) (last.0, st.3) in
        let stop = resets (at + 1) (at + 3) (number_of c) _ (open_on r (JoinOne place ∷ w)) u t e f h.1 o in
        let on = raise_leads c w outer _ u t e st.3 in
        subst (λ y. Comes q (generated_view q sizes base) (Pt p (target q p n y c) (number_of c) s fr u)
        (stop_if (has_cond c cs) (At p x (open_on r (JoinOne place ∷ w)) fs (spend 3 2 t)) (raise c p x w fs t))) (sym st.1)
        (pick_leads (has_cond c cs) _ _ _ u _ _ stop on)
    raise_leads c (Out d ∷ w) env at u t e st = absurd st

    -- the three instructions of a raise
    pub raises_leads : (c : ConditionOf) (w : List Item) (env : List Scope) (j at cc : ℕ) (is : List Instruction) (u t : Tally) → spend 4 3 u ≡ t
        → HasAt (code_of q p) j (raise_code q p (size q (body_of q p)) env c ++ is) → Stands q p env at w
        → Comes q (generated_view q sizes base) (Pt p j cc s fr u) (raise c p x w fs t)
    raises_leads c w env j at cc is u t e h st =
        let n = size q (body_of q p) in
        comes_on (steps_on (sets_cc a j cc (number_of c) s u (i.Jump (target q p n env c) ∷ is) h (omega (arith, free)))
        (jumps a (j + 1 + 1) (number_of c) (target q p n env c) s (spend 3 2 u) h.1.1.0)) (raise_leads c w env at _ t (spend_two 1 1 3 2 u ∙ e) st)
