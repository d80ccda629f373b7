-- Where variables stand on the stack, read and written, and where their indices stand in the frames.
use Rattle.std.proofs.Common.{◌≡◌, ℕ, ◌+◌, ◌-◌, ◌<◌, ◌≤◌, List, [], ◌∷◌, ◌++◌, length, map, drop, Some, refl, sym, ap, ◌∙◌, subst, ⊎_elim, arith, length-append}
use Rattle.std.{specs.Prelude.{slice_index, slice_set, slice_get, nat_lt, ◌==◌, if◌then◌else◌}, proofs.lemmas.Bool.{cases_lt, lt-ltb, le-ltb, eq-eqb, ne_eqb}}
use Rattle.std.{proofs.lemmas.Bool.{cond-true, cond-false}, proofs.lemmas.List.{length-map, get_or-drop, drop-set-lt, drop-set-add}}
use Rattle.std.proofs.lemmas.Option.{slice_get-get_or, slice_get_within}
use Rattle.stack_text.{specs.declared.shape.Shape.Shape, specs.Values.{ValueOf, item_count}, proofs.SharedLaws.{get_front, get_after, get_map}}
use Rattle.piton_words.{specs.declared.word.Word.Word, specs.declared.word.Word.TheVariants.Nat}
use Rattle.piton_semantics.specs.State as piton
use Rattle.piton_semantics.specs.State.{element, ctrl_used}
use Rattle.gypsy_syntax.{specs.Programs.{Program, Proc, proc_at, shapes_of, words_of}, specs.ProgramFits.ProgramFits, specs.ValuesFit.{ValueFits, VarsFit}}
use Rattle.gypsy_syntax.specs.Effects.{value_at, no_value}
use Rattle.gypsy_space.specs.Needs.{main_used, with_call, vars_of}
use Rattle.gypsy_semantics.{specs.Calls.copied_out, specs.Machine.{Frame, Held, used}, specs.Kept.FramesFit, proofs.EffectLaws.value_fits}
use Rattle.gypsy_semantics.{proofs.Keeping.copies_back, proofs.LendingLaws.actuals_length}
use Rattle.gypsy_predef.specs.Runs.{words_of_value, push_all, with_elements}
use Rattle.gypsy_codegen.{specs.WordsOf.{words_of_values, words_before, starts, local_shapes}, specs.Generated.offset, specs.Memory.{stack_of, base_of}}
use Rattle.gypsy_codegen.{specs.Memory.{index_of, frame_of, index_words}, specs.Showing.{Waits, frame_with}, proofs.CopyLaws.{copied_at, copied_set}}
use Rattle.gypsy_codegen.{proofs.CopyLaws.{copied_past, actuals_below, actual_shape, vars_number, vars_behind}, proofs.StackLaws.push_all-length}
use Rattle.gypsy_codegen.proofs.StackLaws.{below_pushed, element_of, words_below, words_from, value_words, values_words, read_word, write_words, words_fit}
use Rattle.gypsy_codegen.proofs.StackLaws.{starts_at, starts-length}

pub local_number : (p : Proc) → length (local_shapes p) ≡ length p.locals
local_number p = length-map p.locals (λ (v : ValueOf). v.shape)

-- a local, by its number among the locals
local_at : (p : Proc) (b : ℕ) → length p.formals ≤ b → slice_get (shapes_of p) b ≡ slice_get (local_shapes p) (b - length p.formals)
local_at p b h =
    let e : b ≡ length p.formals + (b - length p.formals) = omega (arith, h) in
    ap (slice_get (shapes_of p)) e ∙ get_after p.formals (local_shapes p) (b - length p.formals)

shapes_number : (p : Proc) → length (shapes_of p) ≡ length p.formals + length p.locals
shapes_number p = length-append p.formals (local_shapes p) ∙ ap (λ n. length p.formals + n) (local_number p)

module _ (q : Program) where
  pub main_temp : (p : ℕ) → p ≡ q.main → (main_used q).temp ≡ words_of (shapes_of (proc_at q p))
  unfolding main_used
  main_temp p e = ap (λ i. words_of (shapes_of (proc_at q i))) (sym e)

  pub call_temp : (p c : ℕ) (fs : List Frame) → (with_call q p (used q c fs)).temp ≡ (used q c fs).temp + words_of (local_shapes (proc_at q p))
  unfolding with_call
  call_temp p c fs = refl

  -- the variables of the activation below, with the formals' values
  pub low_fits : (p c : ℕ) (x y : List ValueOf) (w : List Rattle.gypsy_semantics.specs.Machine.Item) (xs : List ℕ)
      (cs : List Rattle.gypsy_syntax.specs.Programs.ConditionOf) (fs : List Frame) → VarsFit (shapes_of (proc_at q p)) y
      → FramesFit q p (Held c x w xs cs ∷ fs) → VarsFit (shapes_of (proc_at q c)) (copied_out xs y x)
  low_fits p c x y w xs cs fs v g =
      copies_back (shapes_of (proc_at q c)) (proc_at q p).formals (local_shapes (proc_at q p)) xs y x g.0.actuals v g.1

  pub height : (p : ℕ) (y : List ValueOf) (fs : List Frame) → VarsFit (shapes_of (proc_at q p)) y → FramesFit q p fs
      → length (stack_of q p y fs) ≡ (used q p fs).temp
  height p y [] v g = omega (arith, push_all-length (words_of_values y) [], values_words (shapes_of (proc_at q p)) y v, main_temp p g)
  height p y (Held c x w xs cs ∷ fs) v g =
      let r = proc_at q p in
      let ys = drop (length r.formals) y in
      let low = height c (copied_out xs y x) fs (low_fits p c x y w xs cs fs v g) g.3 in
      omega (
        arith,
        push_all-length (words_of_values ys) (stack_of q c (copied_out xs y x) fs),
        values_words (local_shapes r) ys (vars_behind r.formals (local_shapes r) y v),
        low,
        call_temp p c fs,
      )

  pub index_fits : (p : ℕ) (fs : List Frame) (b : ℕ) (s : Shape) → FramesFit q p fs → slice_get (shapes_of (proc_at q p)) b ≡ Some s
      → index_of q p fs b + item_count s ≤ (used q p fs).temp
  index_fits p [] b s g h = omega (arith, words_fit (shapes_of (proc_at q p)) b s h, main_temp p g)
  index_fits p (Held c x w xs cs ∷ fs) b s g h =
      let r = proc_at q p in
      let k = length r.formals in
      let A = index_of q c fs (slice_index xs b) in
      let B = base_of q c fs + words_before (local_shapes r) (b - k) in
      ⊎_elim
      (λ lt.
      let same = actual_shape (shapes_of (proc_at q c)) r.formals (local_shapes r) xs b g.0.actuals lt in
      omega (arith, cond-true (nat_lt b k) A B (lt-ltb b k lt), index_fits c fs (slice_index xs b) s g.3 (same ∙ h), call_temp p c fs))
      (λ le.
      omega (arith, cond-false (nat_lt b k) A B (le-ltb b k le), words_fit (local_shapes r) (b - k) s (sym (local_at r b le) ∙ h), call_temp p c fs))
      (cases_lt b k)

  -- a word of a variable
  pub reads_at : (p : ℕ) (y : List ValueOf) (fs : List Frame) (b h : ℕ) (s : Shape) (u : Word) → VarsFit (shapes_of (proc_at q p)) y → FramesFit q p fs
      → slice_get (shapes_of (proc_at q p)) b ≡ Some s → slice_get (words_of_value (value_at y b)) h ≡ Some u
      → element (stack_of q p y fs) (index_of q p fs b + h) ≡ Some u
  reads_at p y [] b h s u v g e r =
      let shapes = shapes_of (proc_at q p) in
      let i : index_of q p [] b + h ≡ length {A = Word} [] + (words_before shapes b + h) = omega arith in
      ap (element (stack_of q p y [])) i ∙ element_of (words_of_values y) [] (words_before shapes b + h) u
      (read_word shapes y b h u v (slice_get_within shapes b s e) r)
  reads_at p y (Held c x w xs cs ∷ fs) b h s u v g e r =
      let d = proc_at q p in
      let k = length d.formals in
      let x' = copied_out xs y x in
      let st = stack_of q c x' fs in
      let ws = words_of_values (drop k y) in
      let vc = low_fits p c x y w xs cs fs v g in
      let low : length st ≡ base_of q c fs = height c x' fs vc g.3 in
      let A = index_of q c fs (slice_index xs b) in
      let B = base_of q c fs + words_before (local_shapes d) (b - k) in
      let fit = value_fits (shapes_of d) y b s v e in
      let in_value : h < item_count s =
      omega (arith, slice_get_within (words_of_value (value_at y b)) h u r, value_words (value_at y b) fit.1, ap item_count fit.0) in
      let in_shapes = slice_get_within (shapes_of d) b s e in
      ⊎_elim
      (λ lt.
      let same = actual_shape (shapes_of (proc_at q c)) d.formals (local_shapes d) xs b g.0.actuals lt ∙ e in
      let under : A + h < length st = omega (arith, index_fits c fs (slice_index xs b) s g.3 same, in_value, low) in
      let below = actuals_below (shapes_of (proc_at q c)) d.formals xs g.0.actuals in
      let many = actuals_length (shapes_of (proc_at q c)) d.formals xs g.0.actuals in
      let value = copied_at xs y x b g.0.distinct
      (subst (λ n. Rattle.gypsy_codegen.proofs.CopyLaws.Below n xs) (sym (vars_number (shapes_of (proc_at q c)) x g.1)) below)
      (omega (arith, many, lt)) (omega (arith, vars_number (shapes_of d) y v, in_shapes)) in
      ap (λ i. element (push_all ws st) (i + h)) (cond-true (nat_lt b k) A B (lt-ltb b k lt))
      ∙ below_pushed ws st (A + h) under
      ∙ reads_at c x' fs (slice_index xs b) h s u vc g.3 same (ap (λ z. slice_get (words_of_value z) h) value ∙ r))
      (λ le.
      let i : B + h ≡ length st + (words_before (local_shapes d) (b - k) + h) = omega (arith, low) in
      let f : k + (b - k) ≡ b = omega (arith, le) in
      let value : value_at (drop k y) (b - k) ≡ value_at y b = get_or-drop k y (b - k) no_value ∙ ap (value_at y) f in
      let in_locals = slice_get_within (local_shapes d) (b - k) s (sym (local_at d b le) ∙ e) in
      ap (λ i. element (push_all ws st) (i + h)) (cond-false (nat_lt b k) A B (le-ltb b k le))
      ∙ ap (element (push_all ws st)) i
      ∙ element_of ws st (words_before (local_shapes d) (b - k) + h) u
      (read_word (local_shapes d) (drop k y) (b - k) h u (vars_behind d.formals (local_shapes d) y v) in_locals
      (ap (λ z. slice_get (words_of_value z) h) value ∙ r)))
      (cases_lt b k)

  -- a variable written
  pub writes_at : (p : ℕ) (y : List ValueOf) (fs : List Frame) (b : ℕ) (u : ValueOf) → VarsFit (shapes_of (proc_at q p)) y → FramesFit q p fs
      → slice_get (shapes_of (proc_at q p)) b ≡ Some u.shape → ValueFits u → with_elements (stack_of q p y fs) (index_of q p fs b) (words_of_value u)
      ≡ stack_of q p (slice_set y b u) fs
  writes_at p y [] b u v g e f =
      let shapes = shapes_of (proc_at q p) in
      let i : index_of q p [] b ≡ length {A = Word} [] + words_before shapes b = omega arith in
      let within : words_before shapes b + length (words_of_value u) ≤ length (words_of_values y) =
      omega (arith, words_fit shapes b u.shape e, value_words u f, values_words shapes y v) in
      ap (λ j. with_elements (stack_of q p y []) j (words_of_value u)) i
      ∙ words_from (words_of_value u) (words_of_values y) [] (words_before shapes b) within
      ∙ ap (λ l. push_all l []) (write_words shapes y b u v e f)
  writes_at p y (Held c x w xs cs ∷ fs) b u v g e f =
      let d = proc_at q p in
      let k = length d.formals in
      let x' = copied_out xs y x in
      let st = stack_of q c x' fs in
      let ws = words_of_values (drop k y) in
      let vs = words_of_value u in
      let vc = low_fits p c x y w xs cs fs v g in
      let low : length st ≡ base_of q c fs = height c x' fs vc g.3 in
      let A = index_of q c fs (slice_index xs b) in
      let B = base_of q c fs + words_before (local_shapes d) (b - k) in
      let in_shapes = slice_get_within (shapes_of d) b u.shape e in
      let many = actuals_length (shapes_of (proc_at q c)) d.formals xs g.0.actuals in
      ⊎_elim
      (λ lt.
      let same = actual_shape (shapes_of (proc_at q c)) d.formals (local_shapes d) xs b g.0.actuals lt ∙ e in
      let under : A + length vs ≤ length st = omega (arith, index_fits c fs (slice_index xs b) u.shape g.3 same, value_words u f, low) in
      ap (λ i. with_elements (push_all ws st) i vs) (cond-true (nat_lt b k) A B (lt-ltb b k lt))
      ∙ words_below vs ws st A under
      ∙ ap (push_all ws) (writes_at c x' fs (slice_index xs b) u vc g.3 same f)
      ∙ ap (λ z. push_all ws (stack_of q c z fs))
      (sym (copied_set xs y x b u g.0.distinct (omega (arith, many, lt)) (omega (arith, vars_number (shapes_of d) y v, in_shapes))))
      ∙ ap (λ z. push_all (words_of_values z) (stack_of q c (copied_out xs (slice_set y b u) x) fs)) (sym (drop-set-lt k y b u lt)))
      (λ le.
      let i : B ≡ length st + words_before (local_shapes d) (b - k) = omega (arith, low) in
      let n : k + (b - k) ≡ b = omega (arith, le) in
      let here : slice_get (local_shapes d) (b - k) ≡ Some u.shape = sym (local_at d b le) ∙ e in
      let vl = vars_behind d.formals (local_shapes d) y v in
      let within : words_before (local_shapes d) (b - k) + length vs ≤ length ws =
      omega (arith, words_fit (local_shapes d) (b - k) u.shape here, value_words u f, values_words (local_shapes d) (drop k y) vl) in
      ap (λ i. with_elements (push_all ws st) i vs) (cond-false (nat_lt b k) A B (le-ltb b k le) ∙ i)
      ∙ words_from vs ws st (words_before (local_shapes d) (b - k)) within
      ∙ ap (λ l. push_all l st) (write_words (local_shapes d) (drop k y) (b - k) u vl here f)
      ∙ ap (λ z. push_all (words_of_values z) st) (sym (drop-set-add k y (b - k) u) ∙ ap (λ i. drop k (slice_set y i u)) n)
      ∙ ap (λ z. push_all (words_of_values (drop k (slice_set y b u))) (stack_of q c z fs)) (sym (copied_past xs y x b u (omega (arith, many, le)))))
      (cases_lt b k)

  -- Frames.

  -- the word in the frame of a variable is its index
  pub frame_at : (p : ℕ) (fs : List Frame) (b : ℕ) → FramesFit q p fs → b < length (shapes_of (proc_at q p))
      → slice_get (index_words (frame_of q p fs)) (offset q p b) ≡ Some (Nat (index_of q p fs b))
  frame_at p [] b g h =
      let d = proc_at q p in
      let k = length d.formals in
      let off = cond-true (p == q.main) b (if nat_lt b k then length d.locals + b else b - k) (eq-eqb p q.main g) in
      ap (slice_get (index_words (starts 0 (shapes_of d)))) off
      ∙ get_map (λ n. Nat n) (starts 0 (shapes_of d)) b (0 + words_before (shapes_of d) b) (starts_at 0 (shapes_of d) b h)
      ∙ ap (λ n. Some (Nat n)) (omega arith)
  frame_at p (Held c x w xs cs ∷ fs) b g h =
      let d = proc_at q p in
      let k = length d.formals in
      let m = length d.locals in
      let base = base_of q c fs in
      let f = λ (i : ℕ). index_of q c fs i in
      let sh = local_shapes d in
      let A = f (slice_index xs b) in
      let B = base + words_before sh (b - k) in
      let fr = starts base sh ++ map f xs in
      let many = actuals_length (shapes_of (proc_at q c)) d.formals xs g.0.actuals in
      let off = cond-false (p == q.main) b (if nat_lt b k then m + b else b - k) (ne_eqb p q.main g.0.not_main) in
      ⊎_elim
      (λ lt.
      let is = lt-ltb b k lt in
      let n : m + b ≡ length (starts base sh) + b = omega (arith, starts-length base sh, local_number d) in
      ap (slice_get (index_words fr)) (off ∙ cond-true (nat_lt b k) (m + b) (b - k) is)
      ∙ get_map (λ n. Nat n) fr (m + b) A (ap (slice_get fr) n ∙ get_after (starts base sh) (map f xs) b
      ∙ get_map f xs b (slice_index xs b) (slice_get-get_or xs b 0 (omega (arith, many, lt))))
      ∙ ap (λ n. Some (Nat n)) (sym (cond-true (nat_lt b k) A B is)))
      (λ le.
      let is = le-ltb b k le in
      ap (slice_get (index_words fr)) (off ∙ cond-false (nat_lt b k) (m + b) (b - k) is)
      ∙ get_map (λ n. Nat n) fr (b - k) B (get_front (starts base sh) (map f xs) (b - k) B
      (starts_at base sh (b - k) (omega (arith, h, shapes_number d, local_number d, le))))
      ∙ ap (λ n. Some (Nat n)) (sym (cond-false (nat_lt b k) A B is)))
      (cases_lt b k)

  pub proc_there : ProgramFits q → (p : ℕ) (fs : List Frame) → FramesFit q p fs → p < length q.procs
  proc_there fits p [] g = omega (arith, g, fits.main)
  proc_there fits p (Held c x w xs cs ∷ fs) g = g.0.callee

  main_ctrl : (p : ℕ) → p ≡ q.main → (main_used q).ctrl ≡ 2 + vars_of (proc_at q p)
  unfolding main_used
  main_ctrl p e = ap (λ i. 2 + vars_of (proc_at q i)) (sym e)

  call_ctrl : (p c : ℕ) (fs : List Frame) → (with_call q p (used q c fs)).ctrl ≡ (used q c fs).ctrl + (2 + vars_of (proc_at q p))
  unfolding with_call
  call_ctrl p c fs = refl

  -- the words that the frames take
  pub ctrl_is : (p : ℕ) (fs : List Frame) (fr : List piton.Frame) → FramesFit q p fs → Waits q p fs fr → ctrl_used fr ≡ (used q p fs).ctrl
  ctrl_is p [] fr g wt =
      let d = proc_at q p in
      ap ctrl_used wt.2 ∙ omega (arith, length-map (starts 0 (shapes_of d)) (λ n. Nat n), starts-length 0 (shapes_of d), shapes_number d, main_ctrl p g)
  ctrl_is p (Held c x w xs cs ∷ fs) fr g wt =
      let d = proc_at q p in
      let f = λ (i : ℕ). index_of q c fs i in
      let st = starts (base_of q c fs) (local_shapes d) in
      ap ctrl_used wt.2 ∙ omega (
        arith,
        ctrl_is c fs wt.1 g.3 wt.6,
        length-map (st ++ map f xs) (λ n. Nat n),
        length-append st (map f xs),
        starts-length (base_of q c fs) (local_shapes d),
        local_number d,
        length-map xs f,
        actuals_length (shapes_of (proc_at q c)) d.formals xs g.0.actuals,
        call_ctrl p c fs,
      )

  -- the newest frame
  pub record Newest (p : ℕ) (fs : List Frame) (fr : List piton.Frame) : Type 0 where
    pub program : ℕ
    pub place : ℕ
    pub older : List piton.Frame
    pub is : fr ≡ frame_with q p fs program place ∷ older

  pub newest : (p : ℕ) (fs : List Frame) (fr : List piton.Frame) → Waits q p fs fr → Newest p fs fr
  newest p [] fr wt = record { program = wt.0; place = wt.1; older = []; is = wt.2 }
  newest p (Held c x w xs cs ∷ fs) fr wt = record { program = c; place = wt.0; older = wt.1; is = wt.2 }
