-- The pushes before a call, and steps in an activation.
use Rattle.std.proofs.Common.{◌≡◌, ℕ, zero, suc, ◌+◌, ◌-◌, ◌*◌, ◌<◌, ◌≤◌, ◌^◌, List, [], ◌∷◌, ◌++◌, length, map, Some, refl, ap, ◌∙◌, subst, arith}
use Rattle.std.{proofs.Common.{append_assoc, length-append}, specs.Prelude.{slice_get, if◌then◌else◌, ◌==◌}, proofs.Math.Seq.get_or-append_seam}
use Rattle.std.{proofs.lemmas.Option.slice_get-get_or, proofs.lemmas.Bool.{ne_eqb, cond-false}}
use Rattle.stack_text.{specs.declared.shape.Shape.Shape, specs.Values.{ValueOf, item_count}}
use Rattle.piton_words.{specs.declared.word.Word.Word, specs.declared.word.Word.TheVariants.Nat}
use Rattle.piton_check.specs.Instruction as i
use Rattle.piton_check.specs.Instruction.{Instruction}
use Rattle.piton_semantics.specs.State as piton
use Rattle.piton_semantics.specs.State.{locals_of}
use Rattle.gypsy_syntax.{specs.Programs.{Program, proc_at, shapes_of, words_of, Arg, Var, Lit}, specs.ProgramFits.ProgramFits, specs.ValuesFit.VarsFit}
use Rattle.gypsy_space.{specs.Costs.{Tally, spend}, specs.Needs.{StackSizes, temp_need, ctrl_need}, proofs.SpendLaws.{spend_two, spend_none}}
use Rattle.gypsy_semantics.{specs.Machine.{Frame, Held, used}, specs.Kept.FramesFit, specs.Room.{HasWords, HaveWords}}
use Rattle.gypsy_predef.{specs.Runs.push_all, specs.Calls.{PredefCallRuns, ArgumentsHold, ValuesKept}}
use Rattle.gypsy_codegen.{specs.WordsOf.starts, specs.Generated.{generated_view, code_of, offset, push_words, push_indices, push_actuals, push_args}}
use Rattle.gypsy_codegen.{specs.Memory.{stack_of, index_of, index_words}, specs.Showing.{HasAt, Waits}, proofs.CopyLaws.Below, proofs.LayoutLaws.height}
use Rattle.gypsy_codegen.{proofs.LayoutLaws.{frame_at, proc_there, Newest, newest}, proofs.StepLaws.{P, Pt, Goes, steps_on, stay, lands_at, spend_as}}
use Rattle.gypsy_codegen.proofs.StepLaws as go

pub has_front : (code : List Instruction) (at : ℕ) (a b : List Instruction) → HasAt code at (a ++ b) → HasAt code at a
has_front code at [] b h = tt
has_front code at (x ∷ a) b h = (h.0, has_front code (at + 1) a b h.1)

pub has_back : (code : List Instruction) (at : ℕ) (a b : List Instruction) (to : ℕ) → at + length a ≡ to → HasAt code at (a ++ b) → HasAt code to b
has_back code at [] b to e h = let f : at ≡ to = omega (arith, e) in subst (λ n. HasAt code n b) f h
has_back code at (x ∷ a) b to e h = has_back code (at + 1) a b to (omega (arith, e)) h.1

-- the whole code, from its first instruction
pub has_all : (is pre : List Instruction) → HasAt (pre ++ is) (length pre) is
has_all [] pre = tt
has_all (x ∷ is) pre =
    let within : length pre < length (pre ++ x ∷ is) = omega (arith, length-append pre (x ∷ is)) in
    let here = slice_get-get_or (pre ++ x ∷ is) (length pre) x within ∙ ap Some (get_or-append_seam pre x is x) in
    let n : length (pre ++ x ∷ []) ≡ length pre + 1 = omega (arith, length-append pre (x ∷ [])) in
    let rest = has_all is (pre ++ x ∷ []) in
    let rest' = subst (λ l. HasAt l (length (pre ++ x ∷ [])) is) (append_assoc pre (x ∷ []) is) rest in
    (here, subst (λ m. HasAt (pre ++ x ∷ is) m is) n rest')

pub size_words : (ws : List Word) → length (push_words ws) ≡ length ws
size_words [] = refl
size_words (w ∷ ws) = ap suc (size_words ws)

pub size_indices : (l k o : ℕ) (shapes : List Shape) → length (push_indices l k o shapes) ≡ length shapes
size_indices l k o [] = refl
size_indices l k o (s ∷ shapes) = ap suc (size_indices l (k + 1) (o + item_count s) shapes)

pub size_actuals : (q : Program) (p : ℕ) (xs : List ℕ) → length (push_actuals q p xs) ≡ length xs
size_actuals q p [] = refl
size_actuals q p (b ∷ xs) = ap suc (size_actuals q p xs)

pub size_args : (q : Program) (p : ℕ) (args : List Arg) → length (push_args q p args) ≡ length args
size_args q p [] = refl
size_args q p (Var b ∷ args) = ap suc (size_args q p args)
size_args q p (Lit v ∷ args) = ap suc (size_args q p args)

pub some_items : (n : ℕ) → 1 ≤ (if n == 0 then 1 else n)
some_items zero = omega arith
some_items (suc n) = omega (arith, cond-false (suc n == 0) 1 (suc n) (ne_eqb (suc n) 0 (λ e. omega (arith, e))))

-- what is known of the predefined programs
pub record PredefsRun : Type 0 where
  pub calls : PredefCallRuns
  pub arguments : ArgumentsHold
  pub values : ValuesKept

-- an activation of procedure p above these, with its frames, in a program that fits and with room
pub record Live (q : Program) (sizes : StackSizes) (base p : ℕ) (fs : List Frame) (fr : List piton.Frame) : Type 0 where
  pub fits : ProgramFits q
  pub small : sizes.temp ≤ 2 ^ 16
  pub bodies : PredefsRun
  pub frames_fit : FramesFit q p fs
  pub waits : Waits q p fs fr
  pub words : HaveWords q sizes p fs

pub has_words : (q : Program) (sizes : StackSizes) (p : ℕ) (fs : List Frame) → HaveWords q sizes p fs → HasWords q sizes p (used q p fs)
has_words q sizes p [] h = h
has_words q sizes p (Held c x w xs cs ∷ fs) h = h.0

-- what is free
pub free_temp : {q : Program} {sizes : StackSizes} {base p : ℕ} {fs : List Frame} {fr : List piton.Frame} (a : Live q sizes base p fs fr)
    (x : List ValueOf) (st : List Word) → st ≡ stack_of q p x fs → VarsFit (shapes_of (proc_at q p)) x
    → length st + temp_need (proc_at q p) ≤ sizes.temp
free_temp {q} {sizes} {base} {p} {fs} {fr} a x st es v =
    omega (arith, ap length es, height q p x fs v a.frames_fit, (has_words q sizes p fs a.words).0)

pub free_ctrl : {q : Program} {sizes : StackSizes} {base p : ℕ} {fs : List Frame} {fr : List piton.Frame} (a : Live q sizes base p fs fr)
    → piton.ctrl_used fr + ctrl_need (proc_at q p) ≤ sizes.ctrl
free_ctrl {q} {sizes} {base} {p} {fs} {fr} a =
    omega (arith, Rattle.gypsy_codegen.proofs.LayoutLaws.ctrl_is q p fs fr a.frames_fit a.waits, (has_words q sizes p fs a.words).1)

module _ {q : Program} {sizes : StackSizes} {base p : ℕ} {fs : List Frame} {fr : List piton.Frame} (a : Live q sizes base p fs fr) where
  abbrev Here : P → P → Type 0
  Here = Goes (generated_view q sizes base)

  pub here : p < length q.procs
  here = proc_there q a.fits p fs a.frames_fit

  pub top : Newest q p fs fr
  top = newest q p fs fr a.waits

  pub passes : (at cc : ℕ) (st : List Word) (t : Tally) → slice_get (code_of q p) at ≡ Some i.NoOp
      → Goes (generated_view q sizes base) (Pt p at cc st fr t) (Pt p (at + 1) cc st fr (spend 1 1 t))
  passes at cc st t h = go.passes q sizes base p here fr _ _ top.is at cc st t h

  pub jumps : (at cc to : ℕ) (st : List Word) (t : Tally) → slice_get (code_of q p) at ≡ Some (i.Jump to)
      → Goes (generated_view q sizes base) (Pt p at cc st fr t) (Pt p to cc st fr (spend 1 1 t))
  jumps at cc to st t h = go.jumps q sizes base p here fr _ _ top.is at cc to st t h

  pub pushes_const : (at cc : ℕ) (st : List Word) (t : Tally) (w : Word) → slice_get (code_of q p) at ≡ Some (i.PushConstant w) → length st < sizes.temp
      → Goes (generated_view q sizes base) (Pt p at cc st fr t) (Pt p (at + 1) cc (w ∷ st) fr (spend 1 1 t))
  pushes_const at cc st t w h free = go.pushes_const q sizes base p here fr _ _ top.is at cc st t w h free

  -- the word of c-c is set
  pub sets_cc : (at cc n : ℕ) (st : List Word) (t : Tally) (is : List Instruction)
      → HasAt (code_of q p) at (i.PushConstant (Nat n) ∷ i.PopGlobal 0 ∷ is) → length st < sizes.temp
      → Goes (generated_view q sizes base) (Pt p at cc st fr t) (Pt p (at + 1 + 1) n st fr (spend 3 2 t))
  sets_cc at cc n st t is h free =
      lands_at _ p _ _ n st fr _ _ refl (spend_two 2 1 1 1 t)
      (steps_on (pushes_const at cc st t (Nat n) h.0 free) (go.pops_cc q sizes base p here fr _ _ top.is (at + 1) cc n st (spend 1 1 t) h.1.0))

  -- the index of a variable
  pub pushes_local : (b at cc : ℕ) (st : List Word) (t : Tally) → b < length (shapes_of (proc_at q p)) → length st < sizes.temp
      → slice_get (code_of q p) at ≡ Some (i.PushLocal (offset q p b)) → Goes (generated_view q sizes base) (Pt p at cc st fr t)
      (Pt p (at + 1) cc (Nat (index_of q p fs b) ∷ st) fr (spend 3 1 t))
  pushes_local b at cc st t lt free h =
      go.pushes_word q sizes base p here fr _ _ top.is at cc (offset q p b) st t (Nat (index_of q p fs b)) h
      (ap (λ z. slice_get (locals_of z) (offset q p b)) top.is ∙ frame_at q p fs b a.frames_fit lt) free

  -- constants
  pub words_go : (ws : List Word) (at cc : ℕ) (st : List Word) (t : Tally) → length st + length ws ≤ sizes.temp → HasAt (code_of q p) at (push_words ws)
      → Goes (generated_view q sizes base) (Pt p at cc st fr t) (Pt p (at + length ws) cc (push_all ws st) fr (spend (length ws) (length ws) t))
  words_go [] at cc st t free h = lands_at _ p at (at + 0) cc st fr t (spend 0 0 t) (omega arith) (spend_none t) (stay _)
  words_go (w ∷ ws) at cc st t free h =
      let n = length ws in
      let e : at + 1 + n ≡ at + suc n = omega arith in
      let f : 1 + n ≡ suc n = omega arith in
      let rest = words_go ws (at + 1) cc (w ∷ st) (spend 1 1 t) (omega (arith, free)) h.1 in
      lands_at _ p _ _ cc (push_all (w ∷ ws) st) fr _ _ e (spend_two n n 1 1 t ∙ spend_as _ _ _ _ t f f)
      (steps_on (pushes_const at cc st t w h.0 (omega (arith, free))) rest)

  -- the indices of the locals that they make
  pub indices_go : (shapes : List Shape) (l k o low from at cc : ℕ) (st : List Word) (t : Tally) → length st ≡ low + l + k → o + words_of shapes ≤ l
      → from ≡ low + o → length st + length shapes ≤ sizes.temp → HasAt (code_of q p) at (push_indices l k o shapes)
      → Goes (generated_view q sizes base) (Pt p at cc st fr t)
      (Pt p (at + length shapes) cc (push_all (index_words (starts from shapes)) st) fr (spend (3 * length shapes) (length shapes) t))
  indices_go [] l k o low from at cc st t z fit is free h = lands_at _ p at (at + 0) cc st fr t (spend 0 0 t) (omega arith) (spend_none t) (stay _)
  indices_go (s ∷ shapes) l k o low from at cc st t z fit is free h =
      let n = length shapes in
      let pos : 1 ≤ item_count s = some_items s.length in
      let e : at + 1 + n ≡ at + suc n = omega arith in
      let f : 3 + 3 * n ≡ 3 * suc n = omega arith in
      let g : 1 + n ≡ suc n = omega arith in
      let v : length st - 1 - (l + k - 1 - o) ≡ from = omega (arith, z, fit, pos, is) in
      let first = subst (λ m. Goes (generated_view q sizes base) (Pt p at cc st fr t) (Pt p (at + 1) cc (Nat m ∷ st) fr (spend 3 1 t))) v
      (go.pushes_index q sizes base p here fr _ _ top.is at cc (l + k - 1 - o) st t h.0 (omega (arith, z, fit, pos)) (omega (arith, free))) in
      let rest = indices_go shapes l (k + 1) (o + item_count s) low (from + item_count s) (at + 1) cc (Nat from ∷ st) (spend 3 1 t) (omega (arith, z))
      (omega (arith, fit)) (omega (arith, is)) (omega (arith, free)) h.1 in
      lands_at _ p _ _ cc (push_all (index_words (starts from (s ∷ shapes))) st) fr _ _ e (spend_two (3 * n) n 3 1 t ∙ spend_as _ _ _ _ t f g)
      (steps_on first rest)

  -- the indices of the actuals
  pub actuals_go : (xs : List ℕ) (at cc : ℕ) (st : List Word) (t : Tally) → Below (length (shapes_of (proc_at q p))) xs
      → length st + length xs ≤ sizes.temp → HasAt (code_of q p) at (push_actuals q p xs)
      → Goes (generated_view q sizes base) (Pt p at cc st fr t)
      (Pt p (at + length xs) cc (push_all (index_words (map (λ b. index_of q p fs b) xs)) st) fr (spend (3 * length xs) (length xs) t))
  actuals_go [] at cc st t b free h = lands_at _ p at (at + 0) cc st fr t (spend 0 0 t) (omega arith) (spend_none t) (stay _)
  actuals_go (x ∷ xs) at cc st t b free h =
      let n = length xs in
      let e : at + 1 + n ≡ at + suc n = omega arith in
      let f : 3 + 3 * n ≡ 3 * suc n = omega arith in
      let g : 1 + n ≡ suc n = omega arith in
      let rest = actuals_go xs (at + 1) cc (Nat (index_of q p fs x) ∷ st) (spend 3 1 t) b.1 (omega (arith, free)) h.1 in
      lands_at _ p _ _ cc (push_all (index_words (map (λ i. index_of q p fs i) (x ∷ xs))) st) fr _ _ e
      (spend_two (3 * n) n 3 1 t ∙ spend_as _ _ _ _ t f g) (steps_on (pushes_local x at cc st t b.0 (omega (arith, free)) h.0) rest)
