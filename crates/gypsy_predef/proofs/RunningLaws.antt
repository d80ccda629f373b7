-- Steps in a predefined program's body.
use Rattle.std.proofs.Common.{◌≡◌, ℕ, suc, ◌+◌, ◌≤◌, Some, Ok, List, ◌∷◌, ◌++◌, length, take, drop, reverse, refl, ap, ◌∙◌, subst, arith}
use Rattle.std.{specs.Prelude.slice_get, proofs.lemmas.Option.get_or_from_slice_get}
use Rattle.piton_words.specs.declared.word.Word.{Word}
use Rattle.piton_check.specs.Instruction as i
use Rattle.piton_check.specs.Instruction.{Instruction, ProgramView, SystemView}
use Rattle.piton_semantics.{specs.State.{Frame, PitonState, program_of, instruction_at, ctrl_used}, specs.InstructionRows.row_of, specs.Step.piton_step}
use Rattle.piton_semantics.{specs.Step.{step_cost, cost_of, cost_at, operation_cost}, specs.Law.{Steps, none, more}, proofs.RowLaws.{step_is, does_call}}

-- a step whose instruction is known, before other steps
pub step_first : {s : SystemView} {j n : ℕ} {q r : PitonState} (p : PitonState) (body : ProgramView) (f : Frame) (fs : List Frame) (ins : Instruction) →
    program_of s p.program ≡ body → p.frames ≡ f ∷ fs → slice_get body.instructions p.place ≡ Some ins → row_of s p ins ≡ Ok q →
    Steps s j n q r → Steps s (suc j) (cost_of s p ins + n) p r
step_first {s} {j} {n} {q} {r} p body f fs ins is frames at row rest =
    let there : instruction_at s p.program p.place ≡ Some ins = ap (λ (b : ProgramView). slice_get b.instructions p.place) is ∙ at in
    let step : piton_step s p ≡ Ok q = step_is s p f fs ins frames there ∙ row in
    let cost : step_cost s p ≡ cost_of s p ins = ap (Rattle.piton_semantics.specs.Step.cost_from s p) frames ∙ ap (cost_at s p) there in
    subst (λ i. Steps s (suc j) (i + n) p r) cost (more f fs frames step rest)

-- Steps, and then others.
steps_first : (s : SystemView) (j' n' : ℕ) (j n : ℕ) (p q r : PitonState) → Steps s j n p q → Steps s j' n' q r → Steps s (j + j') (n + n') p r
steps_first s j' n' i n x y z (none {p = p}) rest =
    let a : j' ≡ 0 + j' = omega arith in
    let b : n' ≡ 0 + n' = omega arith in
    subst (λ i. Steps s i (0 + n') p z) a (subst (λ i. Steps s j' i p z) b rest)
steps_first s j' n' i n x y z (more {j = j} {n = m} {p = p} {q = p'} {r = q} f fs here step steps) rest =
    let a : suc (j + j') ≡ suc j + j' = omega arith in
    let b : step_cost s p + (m + n') ≡ step_cost s p + m + n' = omega arith in
    subst (λ i. Steps s i (step_cost s p + m + n') p z) a
    (subst (λ i. Steps s (suc (j + j')) i p z) b
    (more f fs here step (steps_first s j' n' j m p' q z steps rest)))

pub joined : {s : SystemView} {j' n' j n : ℕ} {p q r : PitonState} → Steps s j n p q → Steps s j' n' q r → Steps s (j + j') (n + n') p r
joined {s} {j'} {n'} {j} {n} {p} {q} {r} steps rest = steps_first s j' n' j n p q r steps rest

pub counted : (s : SystemView) (j n j' n' : ℕ) (p q : PitonState) → j ≡ j' → n ≡ n' → Steps s j n p q → Steps s j' n' p q
counted s j n j' n' p q a b steps = subst (λ i. Steps s i n' p q) a (subst (λ i. Steps s j i p q) b steps)

pub program_is : (s : SystemView) (program : ℕ) (body : ProgramView) → slice_get s.programs program ≡ Some body → program_of s program ≡ body
program_is s program body found = get_or_from_slice_get s.programs program body _ found

-- A call of a program: the system, the program and its body, the place of the call, and the caller's frames.
pub record Called : Type 0 where
  pub s : SystemView
  pub program : ℕ
  pub body : ProgramView
  pub is : program_of s program ≡ body
  pub caller : ℕ
  pub place : ℕ
  pub f : Frame
  pub fs : List Frame

module _ (here : Called) where
  open here use {s, program, body, is, caller, place, f, fs}

  -- in the body, and after the call
  abbrev pub within : ℕ → List Word → List Word → List (List Word) → PitonState
  within l locals stack areas = record {
    program = program;
    place = l;
    frames = record { locals = locals; program = caller; place = place + 1 } ∷ f ∷ fs;
    stack = stack;
    areas = areas;
  }

  abbrev pub afterwards : List Word → List (List Word) → PitonState
  afterwards stack areas = record { program = caller; place = place + 1; frames = f ∷ fs; stack = stack; areas = areas }

  abbrev pub At : ℕ → Instruction → Type 0
  At l ins = slice_get body.instructions l ≡ Some ins

  pub goes : {j n : ℕ} {q r : PitonState} (l : ℕ) (locals stack : List Word) (areas : List (List Word)) (ins : Instruction) → At l ins →
      row_of s (within l locals stack areas) ins ≡ Ok q → Steps s j n q r →
      Steps s (suc j) (cost_of s (within l locals stack areas) ins + n) (within l locals stack areas) r
  goes l locals stack areas ins at row rest =
      step_first (within l locals stack areas) body record { locals = locals; program = caller; place = place + 1 } (f ∷ fs) ins is refl at row rest

-- the call, from a state at its place
pub calls : {j n : ℕ} {r : PitonState} (here : Called) → slice_get here.s.programs here.program ≡ Some here.body
    → (stack : List Word) (areas : List (List Word)) →
    instruction_at here.s here.caller here.place ≡ Some (i.Call here.program) → here.body.formals ≤ length stack →
    ctrl_used (here.f ∷ here.fs) + (2 + (here.body.formals + length here.body.temporaries)) ≤ here.s.ctrl →
    Steps here.s j n (within here 0 (reverse (take here.body.formals stack) ++ here.body.temporaries) (drop here.body.formals stack) areas) r →
    Steps here.s (suc j) (4 + (here.body.formals + length here.body.temporaries) + n)
    record { program = here.caller; place = here.place; frames = here.f ∷ here.fs; stack = stack; areas = areas } r
calls {j} {n} {r} here found stack areas at enough room rest =
    let s = here.s in
    let body = here.body in
    let p : PitonState = record { program = here.caller; place = here.place; frames = here.f ∷ here.fs; stack = stack; areas = areas } in
    let cost : cost_of s p (i.Call here.program) ≡ 4 + (body.formals + length body.temporaries) =
    ap (λ (b : ProgramView). 4 + (b.formals + length b.temporaries)) here.is in
    subst (λ c. Steps s (suc j) (c + n) p r) cost
    (step_first p (program_of s here.caller) here.f here.fs (i.Call here.program) refl refl at (does_call s p here.program body stack found enough room) rest)
