-- The code of a predefined call: the pushes, the call, the test.
use Rattle.std.proofs.Common.{◌≡◌, ℕ, suc, ◌+◌, ◌≤◌, ◌<◌, Some, Ok, Bool, true, false, ◌||◌, List, [], ◌∷◌, ◌++◌, length, map, refl, ap, sym, ◌∙◌, subst, arith}
use Rattle.std.{proofs.Common.length-append, proofs.lemmas.List.length-map, specs.Prelude.{slice_get, if◌then◌else◌}}
use Rattle.stack_text.{specs.declared.shape.Kind.Kind, specs.Values.ValueOf, proofs.SharedLaws.get_after}
use Rattle.piton_words.{specs.declared.word.Word.Word, specs.declared.word.Word.TheVariants.Nat, specs.declared.outcome.Outcome.TheVariants.One}
use Rattle.piton_words.specs.declared.op.WordOp.TheVariants as op
use Rattle.piton_syntax.specs.declared.test_kind.TestFamily.TheVariants as family
use Rattle.piton_syntax.specs.declared.test_kind.TestKind.TheVariants as test
use Rattle.piton_check.specs.Instruction.{Instruction, SystemView, PushConstant, PushLocal, PushGlobal, Apply, TestAndJump, Call}
use Rattle.piton_semantics.{specs.State.{Frame, PitonState, program_of, instruction_at, word_at, with_word}, specs.Views.{then_on, test_of}, specs.Law.Steps}
use Rattle.piton_semantics.{specs.Law.none, proofs.RowLaws.{does_push, does_push_local, does_push_global, does_test_and_jump, does_apply}}
use Rattle.piton_words.specs.OperationRows as words
use Rattle.gypsy_syntax.{specs.declared.slot.Form.Form, specs.declared.slot.Form.TheVariants.{Simple, Array, Literal}, specs.declared.slot.Slot.Slot}
use Rattle.gypsy_syntax.{specs.declared.predef.Predef.Predef, specs.Predefined.{slots_of, predef_effect, predef_cost, predef_temp, predef_number, can_fail}}
use Rattle.gypsy_syntax.specs.Effects.{Effect, Normal, Fault, Beyond}
use Rattle.gypsy_syntax.specs.declared.predef.Predef.TheVariants as row
use Rattle.gypsy_predef.{specs.Bodies.{body_of, bodies, lengths_of}, specs.Runs.{Argument, ArgumentsFit, pushed_word, pushed_words, push_all, values_of}}
use Rattle.gypsy_predef.specs.Runs.{length_words, with_elements, target_of, words_of_value, push_count, pushes_count, called_count, called_steps, after_call}
use Rattle.gypsy_predef.{specs.Runs.IsAtCall, specs.Calls.{argument_code, arguments_code, test_code, CodeAt, LocalHolds, LocalsHold, after_code}}
use Rattle.gypsy_predef.{specs.Calls.{PredefCallRuns, BodiesStand}, proofs.StackLaws.written_length, proofs.RunningLaws.{step_first, joined, counted}}
use Rattle.gypsy_predef.proofs.RowLaws.{runs, counts}

-- Code and then other code.
code_after : (s : SystemView) (program place : ℕ) (front rest : List Instruction) → CodeAt s program place (front ++ rest)
    → CodeAt s program (place + length front) rest
code_after s program place [] rest h =
    λ i ins e. let same : place + i ≡ place + 0 + i = omega arith in subst (λ l. instruction_at s program l ≡ Some ins) same (h i ins e)
code_after s program place (x ∷ front) rest h = λ i ins e.
    let same : place + 1 + length front + i ≡ place + suc (length front) + i = omega arith in
    subst (λ l. instruction_at s program l ≡ Some ins) same
    (code_after s program (place + 1) front rest
    (λ i ins e. let same : place + suc i ≡ place + 1 + i = omega arith in subst (λ l. instruction_at s program l ≡ Some ins) same (h (suc i) ins e))
    i ins e)

code_first : (s : SystemView) (program place : ℕ) (ins : Instruction) (rest : List Instruction) → CodeAt s program place (ins ∷ rest)
    → instruction_at s program place ≡ Some ins
code_first s program place ins rest h = let same : place + 0 ≡ place = omega arith in subst (λ l. instruction_at s program l ≡ Some ins) same (h 0 ins refl)

code_rest : (s : SystemView) (program place : ℕ) (ins : Instruction) (rest : List Instruction) → CodeAt s program place (ins ∷ rest)
    → CodeAt s program (place + 1) rest
code_rest s program place ins rest h = code_after s program place (ins ∷ []) rest h

-- What pushes words, at a cost.
data Pushing (locals : List Word) : List Instruction → List Word → ℕ → Type 0 where
  nothing : Pushing locals [] [] 0
  constant : {code : List Instruction} {words : List Word} {n : ℕ} (w : Word) → Pushing locals code words n →
      Pushing locals (PushConstant w ∷ code) (w ∷ words) (1 + n)
  local : {code : List Instruction} {words : List Word} {n : ℕ} (o : ℕ) (w : Word) → slice_get locals o ≡ Some w → Pushing locals code words n →
      Pushing locals (PushLocal o ∷ code) (w ∷ words) (3 + n)

module _ (s : SystemView) (program : ℕ) (f : Frame) (fs : List Frame) (areas : List (List Word)) where
  abbrev state : ℕ → List Word → PitonState
  state place stack = record { program = program; place = place; frames = f ∷ fs; stack = stack; areas = areas }

  pushing_runs : (code : List Instruction) (words : List Word) (n : ℕ) → Pushing f.locals code words n
      → (rest : List Instruction) (place : ℕ) (stack : List Word) →
      CodeAt s program place (code ++ rest) → length stack + length code ≤ s.temp →
      Steps s (length code) n (state place stack) (state (place + length code) (push_all words stack))
  pushing_runs c ws n nothing rest place stack h room =
      let same : place ≡ place + 0 = omega arith in
      subst (λ l. Steps s 0 0 (state place stack) (state l stack)) same none
  pushing_runs c ws n (constant {code = code} {words = words} {n = m} w pushing) rest place stack h room =
      let same : place + 1 + length code ≡ place + suc (length code) = omega arith in
      let least : length stack < s.temp = omega (arith, room) in
      subst (λ l. Steps s (suc (length code)) (1 + m) (state place stack) (state l (push_all words (w ∷ stack)))) same
      (step_first (state place stack) (program_of s program) f fs (PushConstant w) refl refl (code_first s program place (PushConstant w) (code ++ rest) h)
      (does_push s.temp (state place stack) w least)
      (pushing_runs code words m pushing rest (place + 1) (w ∷ stack) (code_rest s program place (PushConstant w) (code ++ rest) h) (omega (arith, room))))
  pushing_runs c ws n (local {code = code} {words = words} {n = m} o w read pushing) rest place stack h room =
      let same : place + 1 + length code ≡ place + suc (length code) = omega arith in
      let least : length stack < s.temp = omega (arith, room) in
      subst (λ l. Steps s (suc (length code)) (3 + m) (state place stack) (state l (push_all words (w ∷ stack)))) same
      (step_first (state place stack) (program_of s program) f fs (PushLocal o) refl refl (code_first s program place (PushLocal o) (code ++ rest) h)
      (does_push_local s.temp (state place stack) o w read least)
      (pushing_runs code words m pushing rest (place + 1) (w ∷ stack) (code_rest s program place (PushLocal o) (code ++ rest) h) (omega (arith, room))))

  -- the test for a fault
  test_runs : (place target n m : ℕ) (jump : Bool) (stack : List Word) →
      CodeAt s program place (PushGlobal 0 ∷ Apply op.Sub1Nat ∷ TestAndJump family.Nat test.Zero target ∷ []) → word_at areas 0 0 ≡ Some (Nat n) →
      words.row_of op.Sub1Nat (Nat n) (Nat n) (Nat n) (map length areas) ≡ Ok (One (Nat m)) → test_of family.Nat test.Zero (Nat m) ≡ Ok jump →
      length stack < s.temp → Steps s 3 5 (state place stack) (state (if jump then target else place + 1 + 1 + 1) stack)
  test_runs place target n m jump stack code read less holds room =
      let first = code_first s program place (PushGlobal 0) (Apply op.Sub1Nat ∷ TestAndJump family.Nat test.Zero target ∷ []) code in
      let code' = code_rest s program place (PushGlobal 0) (Apply op.Sub1Nat ∷ TestAndJump family.Nat test.Zero target ∷ []) code in
      let second = code_first s program (place + 1) (Apply op.Sub1Nat) (TestAndJump family.Nat test.Zero target ∷ []) code' in
      let code'' = code_rest s program (place + 1) (Apply op.Sub1Nat) (TestAndJump family.Nat test.Zero target ∷ []) code' in
      let third = code_first s program (place + 1 + 1) (TestAndJump family.Nat test.Zero target) [] code'' in
      step_first (state place stack) (program_of s program) f fs (PushGlobal 0) refl refl first
      (does_push_global s.temp (state place stack) 0 (Nat n) read room)
      (step_first (state (place + 1) (Nat n ∷ stack)) (program_of s program) f fs (Apply op.Sub1Nat) refl refl second
      (does_apply s.temp (state (place + 1) (Nat n ∷ stack)) op.Sub1Nat record { third = Nat n; second = Nat n; top = Nat n; below = stack }
      (One (Nat m)) refl less refl)
      (step_first (state (place + 1 + 1) (Nat m ∷ stack)) (program_of s program) f fs (TestAndJump family.Nat test.Zero target) refl refl third
      (does_test_and_jump (state (place + 1 + 1) (Nat m ∷ stack)) family.Nat test.Zero target (Nat m) stack jump refl holds) none))

-- What the code pushes.

push_one : (locals : List Word) (form : Form) (a : Argument) (code : List Instruction) (words : List Word) (n : ℕ) → LocalHolds locals form a
    → Pushing locals code words n →
    Pushing locals (argument_code form a ∷ code) (pushed_word form a ∷ words) (push_count form + n)
push_one locals Simple a code words n h rest = local a.local (Nat a.index) h rest
push_one locals Array a code words n h rest = local a.local (Nat a.index) h rest
push_one locals Literal a code words n h rest = constant (pushed_word Literal a) rest

arguments_push : (locals stack : List Word) (k : Kind) (slots : List Slot) (args : List Argument) → ArgumentsFit stack k slots args
    → LocalsHold locals slots args →
    Pushing locals (arguments_code slots args) (pushed_words slots args) (pushes_count slots) × (length (arguments_code slots args) ≡ length slots)
arguments_push locals stack k [] [] fit holds = (nothing, refl)
arguments_push locals stack k [] (a ∷ args) fit holds = absurd fit
arguments_push locals stack k (slot ∷ slots) [] fit holds = absurd fit
arguments_push locals stack k (slot ∷ slots) (a ∷ args) fit holds =
    let rest = arguments_push locals stack k slots args fit.1 holds.1 in
    (push_one locals slot.form a (arguments_code slots args) (pushed_words slots args) (pushes_count slots) holds.0 rest.0, ap suc rest.1)

constants_push : (locals words : List Word) → Pushing locals (map PushConstant words) words (length words)
constants_push locals [] = nothing
constants_push locals (w ∷ words) =
    let same : 1 + length words ≡ suc (length words) = omega arith in
    subst (Pushing locals (PushConstant w ∷ map PushConstant words) (w ∷ words)) same (constant w (constants_push locals words))

lengths_are : (r : Predef) (vs : List ValueOf) → length (length_words r vs) ≡ lengths_of r
lengths_are row.MgSimpleVariableAssignment vs = refl
lengths_are r vs = refl

-- the words that a call needs cover its arguments, and one more word at least
temp_covers : (r : Predef) → (length (slots_of r) + lengths_of r ≤ predef_temp r) × (1 ≤ predef_temp r)
temp_covers row.MgSimpleVariableAssignment = (omega arith, omega arith)
temp_covers r = (omega arith, omega arith)

abbrev is_normal : Effect → Bool
is_normal (Normal v) = true
is_normal e = false

fails_or_normal : (r : Predef) (vs : List ValueOf) → (can_fail r || is_normal (predef_effect r vs)) ≡ true
unfolding predef_effect
fails_or_normal row.MgSimpleVariableAssignment vs = refl
fails_or_normal r vs = refl

written_value : (e : Effect) → is_normal e ≡ true → (v : ValueOf) × (e ≡ Normal v)
written_value (Normal v) h = (v, refl)
written_value e h = cc

-- a program that can't fail has a normal effect
cannot_fail : (r : Predef) (vs : List ValueOf) → can_fail r ≡ false → (v : ValueOf) × (predef_effect r vs ≡ Normal v)
cannot_fail r vs h =
    let e = predef_effect r vs in
    let normal : is_normal e ≡ true = sym (ap (λ b. b || is_normal e) h) ∙ fails_or_normal r vs in
    written_value e normal

word_set : (areas : List (List Word)) (v w : Word) → word_at areas 0 0 ≡ Some v → word_at (with_word areas 0 0 w) 0 0 ≡ Some w
word_set [] v w h = cc
word_set ([] ∷ areas) v w h = cc
word_set ((u ∷ words) ∷ areas) v w h = refl

not_zero : test_of family.Nat test.Zero (Nat 1) ≡ Ok false
unfolding then_on
not_zero = refl

is_zero : test_of family.Nat test.Zero (Nat 0) ≡ Ok true
unfolding then_on
is_zero = refl

-- after the call: the test, where there is one
test_follows : (s : SystemView) (r : Predef) (args : List Argument) (f : Frame) (fs : List Frame) (p : PitonState) (place target size : ℕ)
    (words : List Word) (e : Effect) (b : Bool) →
    predef_effect r (values_of args) ≡ e → can_fail r ≡ b → p.frames ≡ f ∷ fs → word_at p.areas 0 0 ≡ Some (Nat 2) → length p.stack < s.temp →
    CodeAt s p.program (place + 1) (if b then PushGlobal 0 ∷ Apply op.Sub1Nat ∷ TestAndJump family.Nat test.Zero target ∷ [] else []) →
    p.place + size ≡ place + 1 + (if b then 3 else 0) → ((v : ValueOf) → length (with_elements p.stack (target_of args) (words_of_value v)) ≡ length p.stack) →
    Steps s (if b then 3 else 0) (if b then 5 else 0) (after_call (record p { place = place; frames = f ∷ fs; stack = words }) p.stack args e)
    (after_code (record p { frames = f ∷ fs }) target size args e)
test_follows s r args f fs p place target size words (Normal v) false he hb frames two room code at lengths =
    let same : place + 1 ≡ p.place + size = omega (arith, at) in
    let q = with_elements p.stack (target_of args) (words_of_value v) in
    subst (λ l. Steps s 0 0 (state s p.program f fs p.areas (place + 1) q) (state s p.program f fs p.areas l q)) same none
test_follows s r args f fs p place target size words Fault false he hb frames two room code at lengths =
    let n = cannot_fail r (values_of args) hb in
    let clash : Normal n.0 ≡ Fault = sym n.1 ∙ he in cc
test_follows s r args f fs p place target size words Beyond false he hb frames two room code at lengths =
    let n = cannot_fail r (values_of args) hb in
    let clash : Normal n.0 ≡ Beyond = sym n.1 ∙ he in cc
test_follows s r args f fs p place target size words (Normal v) true he hb frames two room code at lengths =
    let same : place + 1 + 1 + 1 + 1 ≡ p.place + size = omega (arith, at) in
    let q = with_elements p.stack (target_of args) (words_of_value v) in
    let low : length q < s.temp = omega (arith, room, lengths v) in
    subst (λ l. Steps s 3 5 (state s p.program f fs p.areas (place + 1) q) (state s p.program f fs p.areas l q)) same
    (test_runs s p.program f fs p.areas (place + 1) target 2 1 false q code two refl not_zero low)
test_follows s r args f fs p place target size words Fault true he hb frames two room code at lengths =
    test_runs s p.program f fs (with_word p.areas 0 0 (Nat 1)) (place + 1) target 1 0 true p.stack code (word_set p.areas (Nat 2) (Nat 1) two) refl is_zero room
test_follows s r args f fs p place target size words Beyond true he hb frames two room code at lengths =
    test_runs s p.program f fs (with_word p.areas 0 0 (Nat 1)) (place + 1) target 1 0 true p.stack code (word_set p.areas (Nat 2) (Nat 1) two) refl is_zero room

test_length : (b : Bool) (target : ℕ) → length (if b then PushGlobal 0 ∷ Apply op.Sub1Nat ∷ TestAndJump family.Nat test.Zero target ∷ [] else [])
    ≡ (if b then 3 else 0)
test_length true target = refl
test_length false target = refl

push_all_length : (slots : List Slot) (args : List Argument) (below : List Word) (k : Kind) (stack : List Word) → ArgumentsFit stack k slots args →
    length (push_all (pushed_words slots args) below) ≡ length below + length slots
push_all_length [] [] below k stack fit = omega arith
push_all_length [] (a ∷ args) below k stack fit = absurd fit
push_all_length (slot ∷ slots) [] below k stack fit = absurd fit
push_all_length (slot ∷ slots) (a ∷ args) below k stack fit =
    push_all_length slots args (pushed_word slot.form a ∷ below) k stack fit.1 ∙ omega arith

pub calls : PredefCallRuns
calls s start target r k args f fs p found at =
    let program = start + predef_number r in
    let e = predef_effect r (values_of args) in
    let lw = length_words r (values_of args) in
    let pushing = arguments_push f.locals p.stack k (slots_of r) args at.arguments at.locals in
    let acode = arguments_code (slots_of r) args in
    let lcode = map PushConstant lw in
    let tcode = test_code r target in
    let l1 = p.place + length acode in
    let l2 = l1 + length lcode in
    let w1 = push_all (pushed_words (slots_of r) args) p.stack in
    let covers = temp_covers r in
    let lengths = lengths_are r (values_of args) in
    let size1 : length acode ≡ length (slots_of r) = pushing.1 in
    let size2 : length lcode ≡ length lw = length-map lw PushConstant in
    let code1 : CodeAt s p.program p.place (acode ++ (lcode ++ (Call program ∷ tcode))) = at.code in
    let code2 = code_after s p.program p.place acode (lcode ++ (Call program ∷ tcode)) code1 in
    let code3 = code_after s p.program l1 lcode (Call program ∷ tcode) code2 in
    let call = code_first s p.program l2 (Call program) tcode code3 in
    let code4 = code_rest s p.program l2 (Call program) tcode code3 in
    let room1 : length p.stack + length acode ≤ s.temp = omega (arith, at.temp_room, covers.0, size1) in
    let high : length w1 ≡ length p.stack + length (slots_of r) = push_all_length (slots_of r) args p.stack k p.stack at.arguments in
    let room2 : length w1 + length lcode ≤ s.temp = omega (arith, at.temp_room, covers.0, size2, high, lengths) in
    let p0 = record p { frames = f ∷ fs } in
    let same : p ≡ p0 = ap (λ (frames : List Frame). record p { frames = frames }) at.frames in
    let size : length (acode ++ (lcode ++ (Call program ∷ tcode))) ≡ length acode + (length lcode + suc (length tcode)) =
    length-append acode (lcode ++ (Call program ∷ tcode)) ∙ ap (λ n. length acode + n) (length-append lcode (Call program ∷ tcode)) in
    let tests : length tcode ≡ (if can_fail r then 3 else 0) = test_length (can_fail r) target in
    let place : p.place + length (acode ++ (lcode ++ (Call program ∷ tcode))) ≡ l2 + 1 + (if can_fail r then 3 else 0) = omega (arith, size, tests) in
    let pushed = pushing_runs s p.program f fs p.areas acode (pushed_words (slots_of r) args) (pushes_count (slots_of r)) pushing.0
    (lcode ++ (Call program ∷ tcode)) p.place p.stack code1 room1 in
    let longer = pushing_runs s p.program f fs p.areas lcode lw (length lw) (constants_push f.locals lw) (Call program ∷ tcode) l1 w1 code2 room2 in
    let there : IsAtCall s program r args p.stack f fs (state s p.program f fs p.areas l2 (push_all lw w1)) =
    record { call = call; frames = refl; pushed = refl; temp = at.temp; temp_room = at.temp_room; ctrl_room = at.ctrl_room } in
    let called = runs s start r k args p.stack f fs (state s p.program f fs p.areas l2 (push_all lw w1)) found there at.arguments in
    let after = test_follows s r args f fs p l2 target (length (acode ++ (lcode ++ (Call program ∷ tcode)))) (push_all lw w1) e (can_fail r) refl refl
    at.frames at.condition
    (omega (arith, at.temp_room, covers.1)) code4 place (λ v. written_length (words_of_value v) p.stack (target_of args)) in
    let all = counts r e in
    let fail_steps = if can_fail r then 3 else 0 in
    let fail_count = if can_fail r then 5 else 0 in
    let spent_steps = length acode + (length lcode + (called_steps r e + fail_steps)) in
    let spent_count = pushes_count (slots_of r) + (length lw + (called_count r e + fail_count)) in
    let steps : spent_steps ≡ (predef_cost r e).1 = omega (arith, all.1, size1, size2, lengths) in
    let count : spent_count ≡ (predef_cost r e).0 = omega (arith, all.0, lengths) in
    let end = after_code p0 target (length (acode ++ (lcode ++ (Call program ∷ tcode)))) args e in
    subst (λ q. Steps s (predef_cost r e).1 (predef_cost r e).0 q (after_code q target (length (acode ++ (lcode ++ (Call program ∷ tcode)))) args e)) (sym same)
    (counted s spent_steps spent_count (predef_cost r e).1 (predef_cost r e).0 p0 end steps count
    (joined pushed (joined longer (joined called after))))

number_is : (r : Predef) → slice_get bodies (predef_number r) ≡ Some (body_of r)
number_is row.MgSimpleVariableAssignment = refl
number_is r = refl

pub stand : BodiesStand
stand s programs r h =
    ap (λ ps. slice_get ps (length programs + predef_number r)) h ∙ get_after programs bodies (predef_number r) ∙ number_is r
