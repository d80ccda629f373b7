-- As many instructions as a step of Piton costs do that step.
use Rattle.std.{proofs.Common.{◌≡◌, ℕ, zero, suc, ◌+◌, ◌<◌, ◌≤◌, Some, Ok, List, [], ◌∷◌, length, map, sym, ap, ◌∙◌, subst, refl}, specs.Prelude.{◌^◌, get_or}}
use Rattle.std.specs.Prelude.{slice_get, slice_index_or}
use Rattle.fm_machine.specs.State.{Fm}
use Rattle.fm_code.{specs.Execution.CodeAt, proofs.RunLaws.arrives_at_once}
use Rattle.piton_words.specs.declared.word.Word.{Word}
use Rattle.piton_check.specs.Instruction as i
use Rattle.piton_check.{specs.Instruction.{Instruction, ProgramView, SystemView}, specs.Sound.{IsSound, IsProgram}}
use Rattle.piton_semantics.{specs.declared.error_kind.ErrorKind.TheVariants.Range, specs.State.{no_program, Frame, PitonState, program_of, instruction_at}}
use Rattle.piton_semantics.{specs.State.variables_of, specs.InstructionRows.row_of, specs.Step.{piton_step, step_cost, cost_at}, specs.Fits.{IsPlace, IsState}}
use Rattle.piton_semantics.{specs.Fits.{IsInstructionOf, AreFrames}, specs.Addresses.{Addresses, parts_with}, specs.Templates.template, specs.Placed.end_of}
use Rattle.piton_semantics.{specs.Placed.{placed, addresses_of, code_of}, specs.Stands.{StandsAt, SimulatesAt, Stands, Simulates}, proofs.SoundLaws.known}
use Rattle.piton_semantics.{proofs.SoundLaws.placed_at, proofs.OperationForms.{IsWordBy, TellApart}, proofs.ReadyForms.{IsReady, Asks}, proofs.ReadyLaws.ready}
use Rattle.piton_semantics.{proofs.ReadyLaws.{tell_apart, words_in, end_fits}, proofs.TestLaws.is_tested, proofs.StepViewLaws.{by_found, by_ok, area_length}}
use Rattle.piton_semantics.proofs.SimulationLaws.{each_row, state_with}
use Rattle.piton_semantics.proofs.PlacingLaws as placing

-- What a step needs of a placed program and of a state, at an instruction i: the state's words are in range, and the
-- code of i and of the next place stands where the names say.
pub record IsSet (A : Addresses) (code : List ℕ) (S : SystemView) (I : ℕ → ℕ → Type 0) (J : ℕ → Type 0) (pr pl : ℕ) (f : Frame) (ws : List Word)
    (areas : List (List Word)) (i : Instruction) : Type 0 where
  pub ready : IsReady A code S areas
  pub names : TellApart A (map (λ xs. length xs) areas) I J
  pub asks : Asks f areas i
  pub fits : (k : ℕ) (w : Word) → slice_get ws k ≡ Some w → IsWordBy (map (λ xs. length xs) areas) I J w
  pub stands : CodeAt (parts_with A code) (A.place_at pr pl) (template A pr pl (length f.locals) i)
  pub after : A.place_at pr (pl + 1) ≡ A.place_at pr pl + length (template A pr pl (length f.locals) i)

-- the same for a state, whichever instruction stands at its place; a halted one needs nothing
abbrev pub IsAllSet : Addresses → List ℕ → SystemView → (ℕ → ℕ → Type 0) → (ℕ → Type 0) → PitonState → List Frame → Type 0
IsAllSet A code S I J p [] = Unit {0}
IsAllSet A code S I J p (f ∷ fs) =
    (i : Instruction) → instruction_at S p.program p.place ≡ Some i → IsSet A code S I J p.program p.place f p.stack p.areas i

module _ (A : Addresses) (code : List ℕ) (S : SystemView) (I : ℕ → ℕ → Type 0) (J : ℕ → Type 0) where
  one_from : (pr pl : ℕ) (frames : List Frame) (ws : List Word) (areas : List (List Word)) (s : Fm) (q : PitonState)
      → (let p : PitonState = record { program = pr; place = pl; frames = frames; stack = ws; areas = areas } in IsAllSet A code S I J p frames
      → StandsAt A code s p → piton_step S p ≡ Ok q → SimulatesAt A code (step_cost S p) s q)
  one_from pr pl [] ws areas s q set h e =
      by_ok _ q (SimulatesAt A code 0 s) e record { comes = arrives_at_once h.is }
  one_from pr pl (f ∷ fs) ws areas s q set h e =
      by_found (instruction_at S pr pl) Range (row_of S (state_with pr pl f fs areas ws)) q _ e (λ i there g.
      let here = set i there in
      let d = each_row A code S pr pl f fs areas here.ready s I J here.names i ws q here.asks here.fits h here.stands here.after g in
      subst (λ n. SimulatesAt A code n s q) (sym (ap (cost_at S (state_with pr pl f fs areas ws)) there)) d)

  pub one : (s : Fm) (p q : PitonState) → IsAllSet A code S I J p p.frames → StandsAt A code s p → piton_step S p ≡ Ok q
      → SimulatesAt A code (step_cost S p) s q
  one s p q set h e = one_from p.program p.place p.frames p.stack p.areas s q set h e

-- the program of an instruction
some_program : (ps : List ProgramView) (k place : ℕ) (instruction : Instruction)
    → slice_get (slice_index_or ps k no_program).instructions place ≡ Some instruction → slice_get ps k ≡ Some (slice_index_or ps k no_program)
some_program [] k place instruction h = cc
some_program (p ∷ ps) zero place instruction h = refl
some_program (p ∷ ps) (suc k) place instruction h = some_program ps k place instruction h

-- what a checked instruction asks of a state
asked : (s : SystemView) → IsSound s → (p : PitonState) (f : Frame) (fs : List Frame) → length f.locals ≡ variables_of s p.program
    → map length p.areas ≡ map length s.areas → (instruction : Instruction) → instruction_at s p.program p.place ≡ Some instruction
    → IsInstructionOf s p.program p.place instruction → Asks f p.areas instruction
asked s sound p f fs same areas (i.PopLocal k) there h = subst (λ n. k < n) (sym same) h.0
asked s sound p f fs same areas (i.SetLocal k) there h = subst (λ n. k < n) (sym same) h.0
asked s sound p f fs same areas (i.PopGlobal a) there h = subst (λ n. 0 < n) (ap (λ ns. get_or ns a 0) (sym areas) ∙ area_length p.areas a) h.0
asked s sound p f fs same areas (i.SetGlobal a) there h = subst (λ n. 0 < n) (ap (λ ns. get_or ns a 0) (sym areas) ∙ area_length p.areas a) h.0
asked s sound p f fs same areas (i.TestAndJump family kind to) there h =
    is_tested family kind (placed_at s sound p.program p.place (i.TestAndJump family kind to) there).1.0
asked s sound p f fs same areas (i.PushConstant w) there h = tt
asked s sound p f fs same areas (i.PushLocal k) there h = tt
asked s sound p f fs same areas (i.PushGlobal a) there h = tt
asked s sound p f fs same areas (i.PushTempStkIndex n) there h = tt
asked s sound p f fs same areas i.PushTempStkFreeSize there h = tt
asked s sound p f fs same areas i.PushCtrlStkFreeSize there h = tt
asked s sound p f fs same areas i.FetchTempStk there h = tt
asked s sound p f fs same areas i.DepositTempStk there h = tt
asked s sound p f fs same areas i.Fetch there h = tt
asked s sound p f fs same areas i.Deposit there h = tt
asked s sound p f fs same areas i.Pop there h = tt
asked s sound p f fs same areas (i.PopStar n) there h = tt
asked s sound p f fs same areas i.Popn there h = tt
asked s sound p f fs same areas i.NoOp there h = tt
asked s sound p f fs same areas (i.Jump to) there h = tt
asked s sound p f fs same areas (i.JumpIfTempStkFull to) there h = tt
asked s sound p f fs same areas (i.JumpIfTempStkEmpty to) there h = tt
asked s sound p f fs same areas (i.JumpCase places) there h = tt
asked s sound p f fs same areas (i.Pushj to) there h = tt
asked s sound p f fs same areas i.Popj there h = tt
asked s sound p f fs same areas (i.Call callee) there h = tt
asked s sound p f fs same areas i.PopCall there h = tt
asked s sound p f fs same areas i.Ret there h = tt
asked s sound p f fs same areas (i.Apply o) there h = tt

-- what a step needs, from what each state keeps
module _ (s : SystemView) (sound : IsSound s) (fits_in : end_of s < 2 ^ 32) where
  set_at : (p : PitonState) → IsState s p → (f : Frame) (fs : List Frame) → length f.locals ≡ variables_of s p.program → (instruction : Instruction)
      → instruction_at s p.program p.place ≡ Some instruction → IsSet (addresses_of s) (code_of s) s (IsPlace s) (IsProgram s) p.program p.place f
      p.stack p.areas instruction
  set_at p is f fs same instruction there =
      let A = addresses_of s in
      let some = some_program s.programs p.program p.place instruction there in
      record {
        ready = ready s p.areas fits_in is.lengths;
        names = tell_apart s p.areas fits_in is.lengths;
        asks = asked s sound p f fs same is.lengths instruction there ((known s sound).instructions p.program p.place instruction there);
        fits = words_in s p.areas is.lengths p.stack is.stack;
        stands = subst (λ n. CodeAt (parts_with A (code_of s)) (A.place_at p.program p.place) (template A p.program p.place n instruction)) (sym same)
            (placing.instruction_at s p.program (program_of s p.program) some p.place instruction there);
        after = placing.next_at s p.program p.place (length f.locals) instruction there;
      }

  all_set : (p : PitonState) → IsState s p → (fs : List Frame) → AreFrames s p.program fs
      → IsAllSet (addresses_of s) (code_of s) s (IsPlace s) (IsProgram s) p fs
  all_set p is [] are = tt
  all_set p is (f ∷ fs) are = λ instruction there. set_at p is f fs are.0 instruction there

  pub step_simulated : (m : Fm) (p q : PitonState) → IsState s p → Stands s m p → piton_step s p ≡ Ok q → Simulates s (step_cost s p) m q
  step_simulated m p q is h e = one (addresses_of s) (code_of s) s (IsPlace s) (IsProgram s) m p q (all_set p is p.frames is.frames) h e

-- each step of a sound system that is small enough
pub each_step_simulated : (s : SystemView) → IsSound s → (placed s).size ≤ 2 ^ 20 → (m : Fm) (p q : PitonState) → IsState s p → Stands s m p
    → piton_step s p ≡ Ok q → Simulates s (step_cost s p) m q
each_step_simulated s sound small = step_simulated s sound (end_fits s sound.low_base small)
