-- Steps of the generated system, each from its instruction.
use Rattle.std.proofs.Common.{◌≡◌, ℕ, zero, suc, ◌+◌, ◌-◌, ◌<◌, ◌≤◌, List, [], ◌∷◌, ◌++◌, length, map, drop, take, Bool, not, Some, Ok, refl, sym, ap, ◌∙◌}
use Rattle.std.{proofs.Common.{subst, arith, append_assoc}, specs.Prelude.{slice_get, reverse, if◌then◌else◌, ◌==◌}, proofs.lemmas.List.length-map}
use Rattle.std.{proofs.lemmas.List.{length-reverse, reverse-append, reverse-reverse}, proofs.lemmas.Option.get_or_from_slice_get}
use Rattle.std.proofs.Math.Seq.{take-append_seam, drop-append_seam}
use Rattle.stack_text.proofs.SharedLaws.{get_front, get_after, get_map}
use Rattle.piton_words.{specs.declared.word.Word.Word, specs.declared.word.Word.TheVariants.{Nat, Bool as Truth}}
use Rattle.piton_words.specs.declared.op.WordOp.TheVariants as op
use Rattle.piton_words.specs.declared.outcome.Outcome.TheVariants as outcome
use Rattle.piton_syntax.specs.declared.test_kind.TestFamily.TheVariants as family
use Rattle.piton_syntax.specs.declared.test_kind.TestKind.TheVariants as test
use Rattle.piton_check.specs.Instruction as i
use Rattle.piton_check.specs.Instruction.{Instruction, ProgramView, SystemView}
use Rattle.piton_semantics.specs.State as piton
use Rattle.piton_semantics.{specs.State.{PitonState, program_of, instruction_at, locals_of, element, ctrl_used}, specs.Views.{test_of, then_on, Operands}}
use Rattle.piton_semantics.{specs.InstructionRows.{row_of, ret}, specs.Step.{cost_of, cost_from, cost_at, step_cost}, specs.Law.{Steps, none, more}}
use Rattle.piton_semantics.proofs.RowLaws.{step_is, does_push, does_push_local, does_push_global, does_pop_global, does_push_temp_stk_index}
use Rattle.piton_semantics.proofs.RowLaws.{does_fetch_temp_stk, does_pop_star, does_jump_case, does_test_and_jump, does_call, does_apply}
use Rattle.gypsy_syntax.{specs.declared.predef.Predef.Predef, specs.Programs.Program, specs.Predefined.predef_number}
use Rattle.gypsy_syntax.specs.declared.predef.Predef.TheVariants as row
use Rattle.gypsy_space.{specs.Costs.{Tally, spend}, specs.Needs.StackSizes, proofs.SpendLaws.{spend_two, spend_none}}
use Rattle.gypsy_predef.{specs.Runs.push_all, specs.Bodies.bodies}
use Rattle.gypsy_predef.specs.Bodies as predefined
use Rattle.gypsy_codegen.specs.Generated.{generated_view, generated_program, count_from, code_of}

-- Tallies.

pub spend_as : (a b c d : ℕ) (t : Tally) → a ≡ c → b ≡ d → spend a b t ≡ spend c d t
spend_as a b c d t e f = ap (λ i. spend i b t) e ∙ ap (λ i. spend c i t) f

pub three : (a b c d e f : ℕ) (u : Tally) → spend a b (spend c d (spend e f u)) ≡ spend (e + c + a) (f + d + b) u
three a b c d e f u = ap (spend a b) (spend_two c d e f u) ∙ spend_two a b (e + c) (f + d) u

-- Words pushed in turn, as a list.

pub pushed_reverse : (ws s : List Word) → push_all ws s ≡ reverse ws ++ s
pushed_reverse [] s = refl
pushed_reverse (w ∷ ws) s =
    pushed_reverse ws (w ∷ s) ∙ sym (append_assoc (reverse ws) (w ∷ []) s) ∙ ap (λ l. l ++ s) (sym (reverse-append (w ∷ []) ws))

pub pushed_taken : (ws s : List Word) (n : ℕ) → n ≡ length ws → reverse (take n (push_all ws s)) ≡ ws
pushed_taken ws s n e =
    let f : n ≡ length (reverse ws) = e ∙ sym (length-reverse ws) in
    ap (λ l. reverse (take n l)) (pushed_reverse ws s)
    ∙ ap (λ i. reverse (take i (reverse ws ++ s))) f
    ∙ ap (λ l. reverse l) (take-append_seam (reverse ws) s)
    ∙ reverse-reverse ws

pub pushed_dropped : (ws s : List Word) (n : ℕ) → n ≡ length ws → drop n (push_all ws s) ≡ s
pushed_dropped ws s n e =
    let f : n ≡ length (reverse ws) = e ∙ sym (length-reverse ws) in
    ap (λ l. drop n l) (pushed_reverse ws s) ∙ ap (λ i. drop i (reverse ws ++ s)) f ∙ drop-append_seam (reverse ws) s

-- Steps put together.

recount : {s : SystemView} {a b : PitonState} (j k n m : ℕ) → j ≡ k → n ≡ m → Steps s j n a b → Steps s k m a b
recount {s} {a} {b} j k n m e f st = subst (λ i. Steps s k i a b) f (subst (λ i. Steps s i n a b) e st)

pub steps_append : (s : SystemView) (j n k m : ℕ) (a b c : PitonState) → Steps s j n a b → Steps s k m b c → Steps s (j + k) (n + m) a c
steps_append s j n k m a b c (none {p = p}) y = recount k (0 + k) m (0 + m) (omega arith) (omega arith) y
steps_append s j n k m a b c (more {j = j'} {n = n'} {p = p} {q = p'} {r = r} f fs here step rest) y =
    recount (suc (j' + k)) (suc j' + k) (step_cost s p + (n' + m)) (step_cost s p + n' + m) (omega arith) (omega arith)
    (more f fs here step (steps_append s j' n' k m p' r c rest y))

-- a state with one area of one word
abbrev pub state_at : ℕ → ℕ → ℕ → List Word → List piton.Frame → PitonState
state_at program place cc stack frames =
    record { program = program; place = place; frames = frames; stack = stack; areas = (Nat cc ∷ []) ∷ [] }

-- a state with what was spent up to it
pub data P : Type 0 where
  Pt : (pr at cc : ℕ) (stack : List Word) (fr : List piton.Frame) (t : Tally) → P

abbrev pub state : P → PitonState
state (Pt pr at cc stack fr t) = state_at pr at cc stack fr

abbrev pub spent : P → Tally
spent (Pt pr at cc stack fr t) = t

pub record Goes (s : SystemView) (a b : P) : Type 0 where
  pub steps : ℕ
  pub cost : ℕ
  pub runs : Steps s steps cost (state a) (state b)
  pub tally : spent b ≡ spend cost steps (spent a)

pub stay : {s : SystemView} (a : P) → Goes s a a
stay a = record { steps = 0; cost = 0; runs = none; tally = spend_none (spent a) }

pub steps_on : {s : SystemView} {a b c : P} → Goes s a b → Goes s b c → Goes s a c
steps_on {s} {a} {b} {c} x y = record {
  steps = x.steps + y.steps;
  cost = x.cost + y.cost;
  runs = steps_append s x.steps x.cost y.steps y.cost (state a) (state b) (state c) x.runs y.runs;
  tally = y.tally ∙ ap (spend y.cost y.steps) x.tally ∙ spend_two y.cost y.steps x.cost x.steps (spent a);
}

-- the same, with another place and tally
pub lands_at : {s : SystemView} (a : P) (p i j : ℕ) (cc : ℕ) (st : List Word) (fr : List piton.Frame) (t u : Tally) → i ≡ j → t ≡ u
    → Goes s a (Pt p i cc st fr t) → Goes s a (Pt p j cc st fr u)
lands_at {s} a p i j cc st fr t u e f g = subst (λ z. Goes s a (Pt p j cc st fr z)) f (subst (λ z. Goes s a (Pt p z cc st fr t)) e g)

-- Programs of the system.

counted_at : (n k j : ℕ) → j < k → slice_get (count_from n k) j ≡ Some (n + j)
counted_at n zero j h = absurd (omega (arith, h))
counted_at n (suc k) zero h = let e : n ≡ n + 0 = omega arith in ap Some e
counted_at n (suc k) (suc j) h = let e : suc n + j ≡ n + suc j = omega arith in counted_at (suc n) k j (omega (arith, h)) ∙ ap Some e

counted-length : (n k : ℕ) → length (count_from n k) ≡ k
counted-length n zero = refl
counted-length n (suc k) = ap suc (counted-length (suc n) k)

predef_at : (r : Predef) → slice_get bodies (predef_number r) ≡ Some (predefined.body_of r)
predef_at row.MgSimpleVariableAssignment = refl
predef_at r = refl

test_false : (b : Bool) → test_of family.Bool test.F (Truth b) ≡ Ok (not b)
unfolding then_on
test_false b = refl

test_zero : (n : ℕ) → test_of family.Nat test.Zero (Nat n) ≡ Ok (n == 0)
unfolding then_on
test_zero n = refl

module _ (q : Program) (sizes : StackSizes) (base : ℕ) where
  abbrev pub System : SystemView
  System = generated_view q sizes base

  abbrev pub Ways : P → P → Type 0
  Ways = Goes (generated_view q sizes base)

  pub program_there : (p : ℕ) → p < length q.procs → slice_get (generated_view q sizes base).programs p ≡ Some (generated_program q p)
  program_there p h =
      let n = length q.procs in
      get_front (map (generated_program q) (count_from 0 n)) bodies p (generated_program q p)
      (get_map (generated_program q) (count_from 0 n) p p (counted_at 0 n p h ∙ ap Some (omega arith)))

  pub predef_there : (r : Predef) → slice_get (generated_view q sizes base).programs (length q.procs + predef_number r) ≡ Some (predefined.body_of r)
  predef_there r =
      let n = length q.procs in
      let l = map (generated_program q) (count_from 0 n) in
      let e : n + predef_number r ≡ length l + predef_number r = omega (arith, length-map (count_from 0 n) (generated_program q), counted-length 0 n) in
      ap (slice_get (generated_view q sizes base).programs) e ∙ get_after l bodies (predef_number r) ∙ predef_at r

  pub program_is : (p : ℕ) → p < length q.procs → program_of (generated_view q sizes base) p ≡ generated_program q p
  program_is p h = get_or_from_slice_get (generated_view q sizes base).programs p (generated_program q p) _ (program_there p h)

  -- one step
  pub one : (a b : P) (f : piton.Frame) (fs : List piton.Frame) (x : Instruction) → (state a).frames ≡ f ∷ fs
      → instruction_at (generated_view q sizes base) (state a).program (state a).place ≡ Some x
      → row_of (generated_view q sizes base) (state a) x ≡ Ok (state b) → spent b
      ≡ spend (cost_of (generated_view q sizes base) (state a) x) 1 (spent a) → Ways a b
  one a b f fs x e h r t =
      let s = generated_view q sizes base in
      let c : cost_of s (state a) x ≡ step_cost s (state a) + 0 = omega (arith, ap (cost_from s (state a)) e, ap (cost_at s (state a)) h) in
      record {
        steps = 1;
        cost = step_cost s (state a) + 0;
        runs = more f fs e (step_is s (state a) f fs x e h ∙ r) none;
        tally = t ∙ ap (λ n. spend n 1 (spent a)) c;
      }

  -- in procedure p, with these frames
  module _ (p : ℕ) (there : p < length q.procs) (fr : List piton.Frame) (f : piton.Frame) (fs : List piton.Frame) (e : fr ≡ f ∷ fs) where
    act : (at cc : ℕ) (st : List Word) (t : Tally) (x : Instruction) (b : P) → slice_get (code_of q p) at ≡ Some x
        → row_of (generated_view q sizes base) (state_at p at cc st fr) x ≡ Ok (state b)
        → spent b ≡ spend (cost_of (generated_view q sizes base) (state_at p at cc st fr) x) 1 t → Ways (Pt p at cc st fr t) b
    act at cc st t x b h r u =
        one (Pt p at cc st fr t) b f fs x e (ap (λ (z : ProgramView). slice_get z.instructions at) (program_is p there) ∙ h) r u

    pub passes : (at cc : ℕ) (st : List Word) (t : Tally) → slice_get (code_of q p) at ≡ Some i.NoOp
        → Ways (Pt p at cc st fr t) (Pt p (at + 1) cc st fr (spend 1 1 t))
    passes at cc st t h = act at cc st t i.NoOp (Pt p (at + 1) cc st fr (spend 1 1 t)) h refl refl

    pub jumps : (at cc to : ℕ) (st : List Word) (t : Tally) → slice_get (code_of q p) at ≡ Some (i.Jump to)
        → Ways (Pt p at cc st fr t) (Pt p to cc st fr (spend 1 1 t))
    jumps at cc to st t h = act at cc st t (i.Jump to) (Pt p to cc st fr (spend 1 1 t)) h refl refl

    pub pushes_const : (at cc : ℕ) (st : List Word) (t : Tally) (w : Word) → slice_get (code_of q p) at ≡ Some (i.PushConstant w)
        → length st < sizes.temp → Ways (Pt p at cc st fr t) (Pt p (at + 1) cc (w ∷ st) fr (spend 1 1 t))
    pushes_const at cc st t w h free =
        act at cc st t (i.PushConstant w) (Pt p (at + 1) cc (w ∷ st) fr (spend 1 1 t)) h (does_push sizes.temp (state_at p at cc st fr) w free) refl

    pub pops_cc : (at cc n : ℕ) (st : List Word) (t : Tally) → slice_get (code_of q p) at ≡ Some (i.PopGlobal 0)
        → Ways (Pt p at cc (Nat n ∷ st) fr t) (Pt p (at + 1) n st fr (spend 2 1 t))
    pops_cc at cc n st t h =
        act at cc (Nat n ∷ st) t (i.PopGlobal 0) (Pt p (at + 1) n st fr (spend 2 1 t)) h
        (does_pop_global (state_at p at cc (Nat n ∷ st) fr) 0 (Nat n) st refl) refl

    pub pushes_cc : (at cc : ℕ) (st : List Word) (t : Tally) → slice_get (code_of q p) at ≡ Some (i.PushGlobal 0) → length st < sizes.temp
        → Ways (Pt p at cc st fr t) (Pt p (at + 1) cc (Nat cc ∷ st) fr (spend 2 1 t))
    pushes_cc at cc st t h free =
        act at cc st t (i.PushGlobal 0) (Pt p (at + 1) cc (Nat cc ∷ st) fr (spend 2 1 t)) h
        (does_push_global sizes.temp (state_at p at cc st fr) 0 (Nat cc) refl free) refl

    pub pushes_word : (at cc off : ℕ) (st : List Word) (t : Tally) (w : Word) → slice_get (code_of q p) at ≡ Some (i.PushLocal off)
        → slice_get (locals_of fr) off ≡ Some w → length st < sizes.temp → Ways (Pt p at cc st fr t) (Pt p (at + 1) cc (w ∷ st) fr (spend 3 1 t))
    pushes_word at cc off st t w h l free =
        act at cc st t (i.PushLocal off) (Pt p (at + 1) cc (w ∷ st) fr (spend 3 1 t)) h (does_push_local sizes.temp (state_at p at cc st fr) off w l free) refl

    pub pushes_index : (at cc n : ℕ) (st : List Word) (t : Tally) → slice_get (code_of q p) at ≡ Some (i.PushTempStkIndex n) → n < length st
        → length st < sizes.temp → Ways (Pt p at cc st fr t) (Pt p (at + 1) cc (Nat (length st - 1 - n) ∷ st) fr (spend 3 1 t))
    pushes_index at cc n st t h lt free =
        act at cc st t (i.PushTempStkIndex n) (Pt p (at + 1) cc (Nat (length st - 1 - n) ∷ st) fr (spend 3 1 t)) h
        (does_push_temp_stk_index sizes.temp (state_at p at cc st fr) n lt free) refl

    pub fetches : (at cc n : ℕ) (st : List Word) (t : Tally) (w : Word) → slice_get (code_of q p) at ≡ Some i.FetchTempStk → element st n ≡ Some w
        → Ways (Pt p at cc (Nat n ∷ st) fr t) (Pt p (at + 1) cc (w ∷ st) fr (spend 3 1 t))
    fetches at cc n st t w h r =
        act at cc (Nat n ∷ st) t i.FetchTempStk (Pt p (at + 1) cc (w ∷ st) fr (spend 3 1 t)) h
        (does_fetch_temp_stk (state_at p at cc (Nat n ∷ st) fr) n st w refl r) refl

    pub tests_false : (at cc to : ℕ) (b : Bool) (st : List Word) (t : Tally) → slice_get (code_of q p) at ≡ Some (i.TestAndJump family.Bool test.F to)
        → Ways (Pt p at cc (Truth b ∷ st) fr t) (Pt p (if not b then to else at + 1) cc st fr (spend 2 1 t))
    tests_false at cc to b st t h =
        act at cc (Truth b ∷ st) t (i.TestAndJump family.Bool test.F to) (Pt p (if not b then to else at + 1) cc st fr (spend 2 1 t)) h
        (does_test_and_jump (state_at p at cc (Truth b ∷ st) fr) family.Bool test.F to (Truth b) st (not b) refl (test_false b)) refl

    pub tests_zero : (at cc to n : ℕ) (st : List Word) (t : Tally) → slice_get (code_of q p) at ≡ Some (i.TestAndJump family.Nat test.Zero to)
        → Ways (Pt p at cc (Nat n ∷ st) fr t) (Pt p (if n == 0 then to else at + 1) cc st fr (spend 2 1 t))
    tests_zero at cc to n st t h =
        act at cc (Nat n ∷ st) t (i.TestAndJump family.Nat test.Zero to) (Pt p (if n == 0 then to else at + 1) cc st fr (spend 2 1 t)) h
        (does_test_and_jump (state_at p at cc (Nat n ∷ st) fr) family.Nat test.Zero to (Nat n) st (n == 0) refl (test_zero n)) refl

    -- of 2 and of 1, as c-c has it
    pub takes_two : (at cc : ℕ) (st : List Word) (t : Tally) → slice_get (code_of q p) at ≡ Some (i.Apply op.Sub1Nat)
        → Ways (Pt p at cc (Nat 2 ∷ st) fr t) (Pt p (at + 1) cc (Nat 1 ∷ st) fr (spend 1 1 t))
    takes_two at cc st t h =
        let o : Operands = record { third = Nat 2; second = Nat 2; top = Nat 2; below = st } in
        act at cc (Nat 2 ∷ st) t (i.Apply op.Sub1Nat) (Pt p (at + 1) cc (Nat 1 ∷ st) fr (spend 1 1 t)) h
        (does_apply sizes.temp (state_at p at cc (Nat 2 ∷ st) fr) op.Sub1Nat o (outcome.One (Nat 1)) refl refl refl) refl

    pub takes_one : (at cc : ℕ) (st : List Word) (t : Tally) → slice_get (code_of q p) at ≡ Some (i.Apply op.Sub1Nat)
        → Ways (Pt p at cc (Nat 1 ∷ st) fr t) (Pt p (at + 1) cc (Nat 0 ∷ st) fr (spend 1 1 t))
    takes_one at cc st t h =
        let o : Operands = record { third = Nat 1; second = Nat 1; top = Nat 1; below = st } in
        act at cc (Nat 1 ∷ st) t (i.Apply op.Sub1Nat) (Pt p (at + 1) cc (Nat 0 ∷ st) fr (spend 1 1 t)) h
        (does_apply sizes.temp (state_at p at cc (Nat 1 ∷ st) fr) op.Sub1Nat o (outcome.One (Nat 0)) refl refl refl) refl

    pub pops_many : (at cc n : ℕ) (st : List Word) (t : Tally) → slice_get (code_of q p) at ≡ Some (i.PopStar n) → n ≤ length st
        → Ways (Pt p at cc st fr t) (Pt p (at + 1) cc (drop n st) fr (spend 1 1 t))
    pops_many at cc n st t h enough =
        act at cc st t (i.PopStar n) (Pt p (at + 1) cc (drop n st) fr (spend 1 1 t)) h (does_pop_star (state_at p at cc st fr) n enough) refl

    pub jumps_case : (at cc n to : ℕ) (places : List ℕ) (st : List Word) (t : Tally) → slice_get (code_of q p) at ≡ Some (i.JumpCase places)
        → slice_get places n ≡ Some to → Ways (Pt p at cc (Nat n ∷ st) fr t) (Pt p to cc st fr (spend 3 1 t))
    jumps_case at cc n to places st t h r =
        act at cc (Nat n ∷ st) t (i.JumpCase places) (Pt p to cc st fr (spend 3 1 t)) h
        (does_jump_case (state_at p at cc (Nat n ∷ st) fr) places n to st refl r) refl

    -- a program is called, with all its formals just pushed
    pub calls : (at cc c : ℕ) (callee : ProgramView) (ws st : List Word) (t : Tally) → slice_get (code_of q p) at ≡ Some (i.Call c)
        → slice_get (generated_view q sizes base).programs c ≡ Some callee → callee.formals ≡ length ws
        → ctrl_used fr + (2 + (callee.formals + length callee.temporaries)) ≤ sizes.ctrl
        → Ways (Pt p at cc (push_all ws st) fr t)
        (Pt c 0 cc st (record { locals = ws ++ callee.temporaries; program = p; place = at + 1 } ∷ fr)
        (spend (4 + (callee.formals + length callee.temporaries)) 1 t))
    calls at cc c callee ws st t h there' many room =
        let s = generated_view q sizes base in
        let frame : List Word → piton.Frame = λ l. record { locals = l ++ callee.temporaries; program = p; place = at + 1 } in
        let n = callee.formals + length callee.temporaries in
        let enough : callee.formals ≤ length (push_all ws st) = omega (arith, many, Rattle.gypsy_codegen.proofs.StackLaws.push_all-length ws st) in
        let cost : 4 + n ≡ cost_of s (state_at p at cc (push_all ws st) fr) (i.Call c) =
        ap (λ (z : ProgramView). 4 + (z.formals + length z.temporaries)) (sym (get_or_from_slice_get s.programs c callee _ there')) in
        act
        at
        cc
        (push_all ws st)
        t
        (i.Call c)
        (Pt c 0 cc st (frame ws ∷ fr) (spend (4 + n) 1 t))
        h
        (does_call s (state_at p at cc (push_all ws st) fr) c callee (push_all ws st) there' enough room
        ∙ ap (λ l. Ok (state_at c 0 cc (drop callee.formals (push_all ws st)) (frame l ∷ fr))) (pushed_taken ws st callee.formals many)
        ∙ ap (λ l. Ok (state_at c 0 cc l (frame ws ∷ fr))) (pushed_dropped ws st callee.formals many))
        (ap (λ m. spend m 1 t) cost)

    pub returns : (at cc : ℕ) (st : List Word) (t : Tally) (g : piton.Frame) (gs : List piton.Frame) → slice_get (code_of q p) at ≡ Some i.Ret
        → fs ≡ g ∷ gs → Ways (Pt p at cc st fr t) (Pt f.program f.place cc st fs (spend 4 1 t))
    returns at cc st t g gs h e' =
        act at cc st t i.Ret (Pt f.program f.place cc st fs (spend 4 1 t)) h
        (ap (ret (state_at p at cc st fr)) (e ∙ ap (λ z. f ∷ z) e') ∙ ap (λ z. Ok (state_at f.program f.place cc st z)) (sym e')) refl

    pub halts : (at cc : ℕ) (st : List Word) (t : Tally) → slice_get (code_of q p) at ≡ Some i.Ret → fs ≡ []
        → Ways (Pt p at cc st fr t) (Pt p at cc st [] (spend 4 1 t))
    halts at cc st t h e' =
        act at cc st t i.Ret (Pt p at cc st [] (spend 4 1 t)) h (ap (ret (state_at p at cc st fr)) (e ∙ ap (λ z. f ∷ z) e')) refl
