-- Where the step machine has come to a state, a session says it.
use Rattle.std.proofs.Common.{◌≡◌, ◌≢◌, ℕ, Bool, false, cond, List, [], ◌∷◌, length, Some, Result, Ok, Err, refl, sym, ap, subst, ◌∙◌, arith}
use Rattle.std.{specs.Prelude.{◌==◌, if◌then◌else◌}, proofs.lemmas.Bool.ne_eqb}
use Rattle.fm_machine.specs.State as machine
use Rattle.fm_machine.{specs.Run.pc_of, specs.Step.fm_step, specs.declared.fault.Outside.Outside}
use Rattle.fm_image.specs.Image.{ImageOf}
use Rattle.fm_loader.specs.Loaded.{loaded}
use Rattle.display_maps.{specs.Reading.reading, specs.ReadingAt.{ReadingAtOf, reading_at, read_from}, specs.Report.lines_of_reading}
use Rattle.piton_check.specs.Instruction.{SystemView}
use Rattle.piton_semantics.{specs.declared.error_kind.ErrorKind.ErrorKind, specs.Fits.system_in, specs.Law.{Steps, advanced}, specs.StateView.{Seen, opening}}
use Rattle.piton_semantics.specs.StateView.{seen_step, started}
use Rattle.piton_semantics.specs.State as piton
use Rattle.gypsy_syntax.{specs.Programs.Program, specs.Resolved.program_of}
use Rattle.gypsy_semantics.{specs.Machine.{At, Move}, specs.Views.RunView.spent_at}
use Rattle.gypsy_codegen.{specs.Acceptable.GeneratedIsAcceptable, specs.Generated.generated_view, specs.Moments.{ComesToMark, EachMomentIsReached, HasMoment}}
use Rattle.gypsy_codegen.{specs.Whole.opened, proofs.MomentLaws.moment_fits}
use Rattle.stack_build.{specs.Image.image_of, proofs.MomentLaws.going, specs.Moments.{ArrivesAt, ArrivesAtMark, KeepsMoments}}
use Rattle.stack_build.{specs.SourceMoments.{MomentsAreRead, ShownMomentsAreRead, moment_shown}, specs.Starts.main_words, proofs.StartLaws.made}
use Rattle.level_debuggers.{specs.FmLevels.{FmLevelOf, fm_after}, specs.Levels.{LevelOf, Piton, Fm, lifted, next_of, up_text}, specs.PitonLevels.PitonLevelOf}
use Rattle.level_debuggers.{specs.PitonLevels.{piton_after, piton_from}, specs.PitonReadings.{piton_at, piton_end, piton_up}, specs.RunWalks.MachinesWalk}
use Rattle.level_debuggers.{specs.RunWalks.{SystemsWalk, WalksTo}, specs.ScriptSteps.SaysAfter, specs.Steps.is_over, specs.Texts.mark_text, specs.Walks.walk}
use Rattle.level_debuggers.specs.Steps as step
use Rattle.cli_stack.specs.SessionMoments.{BuiltSaysMoments, MachineSaysMoments, SystemSaysMoments, image_run, steps_at, system_run, state_text}
use Rattle.cli_stack.proofs.StandingLaws.{state_shows}

-- a run that has come there after so many steps, goes on from there, and says this there
says_there : (n : ℕ) (level to : LevelOf) (text : List ℕ) → WalksTo n level to → is_over (next_of to) ≡ false → up_text to ≡ text → SaysAfter n level text
says_there n level to text walks going said = record {
  goes = record { whole = walks.whole; going = subst (λ (l : LevelOf). is_over (next_of l) ≡ false) (sym walks.leads) going };
  says = ap up_text walks.leads ∙ said;
}

-- ---- the processor

made_goes : (run : FmLevelOf) (r : Result machine.Fm Outside) → is_over (lifted Fm (fm_after run r)) ≡ false
made_goes run (Ok t) = refl
made_goes run (Err fault) = refl

module _ (run : FmLevelOf) (apart : pc_of run.state ≢ run.image.final_pc) where
  pub machine_goes : is_over (next_of (Fm run)) ≡ false
  machine_goes =
      ap (λ (b : Bool). is_over (lifted Fm (cond b step.Over (fm_after run (fm_step run.state))))) (ne_eqb (pc_of run.state) run.image.final_pc apart)
      ∙ made_goes run (fm_step run.state)

  machine_said : (read : ReadingAtOf) → reading_at run.image run.state ≡ Some read → up_text (Fm run) ≡ mark_text (Some read)
  machine_said read e =
      ap (λ (b : Bool). if b then lines_of_reading run.image (reading run.image run.state) else mark_text (reading_at run.image run.state))
      (ne_eqb (pc_of run.state) run.image.final_pc apart)
      ∙ ap mark_text e

pub machine_says : MomentsAreRead → MachinesWalk → MachineSaysMoments
machine_says read walk source sizes base j values (At p x w fs t) accepted short fits keeps is =
    let image : ImageOf = image_of source sizes base in
    let arrives : ArrivesAtMark source sizes image values p x w fs t.count =
    subst (λ (m : Move). ArrivesAt source sizes image values m) is (keeps values j fits) in
    let run : FmLevelOf = record { image = image; state = loaded image values } in
    let there : FmLevelOf = record { image = image; state = arrives.state } in
    let apart : pc_of arrives.state ≢ image.final_pc = arrives.goes_on t.count arrives.state (omega arith) arrives.reached in
    says_there t.count (Fm run) (Fm there) (state_text source (At p x w fs t))
    (walk t.count run arrives.state arrives.reached (λ i u lt e. arrives.goes_on i u (omega (arith, lt)) e))
    (machine_goes there apart)
    (machine_said there apart (moment_shown source (At p x w fs t))
    (read source sizes base j values arrives.state (At p x w fs t) accepted short fits is arrives.reads))

-- ---- Piton's machine

-- whatever a step gives, and where a frame is left, the run goes on
after_goes : (run : PitonLevelOf) (r : Result Seen ErrorKind) → is_over (lifted Piton (piton_after run r)) ≡ false
after_goes run (Ok v) = refl
after_goes run (Err kind) = refl

from_goes : (run : PitonLevelOf) (f : piton.Frame) (rest frames : List piton.Frame) → frames ≡ f ∷ rest → is_over (lifted Piton (piton_from run frames)) ≡ false
from_goes run f rest [] e = absurd cc
from_goes run f rest (g ∷ gs) e = after_goes run (seen_step (system_in run.checked) run.seen)

not_halted : (f : piton.Frame) (rest frames : List piton.Frame) → frames ≡ f ∷ rest → (length frames == 0) ≡ false
not_halted f rest frames e = ne_eqb (length frames) 0 (λ z. omega (arith, z, ap length e))

module _ (run : PitonLevelOf) (f : piton.Frame) (rest : List piton.Frame) (there : run.seen.state.frames ≡ f ∷ rest) where
  pub system_goes : is_over (next_of (Piton run)) ≡ false
  system_goes = from_goes run f rest run.seen.state.frames there

  system_said : (read : ReadingAtOf) → read_from run.image (piton_at (system_in run.checked) run.seen.state) ≡ Some read
      → up_text (Piton run) ≡ mark_text (Some read)
  unfolding piton_up
  system_said read e =
      ap (λ (b : Bool). if b then piton_end run else mark_text (read_from run.image (piton_at (system_in run.checked) run.seen.state)))
      (not_halted f rest run.seen.state.frames there)
      ∙ ap mark_text e

pub system_says : EachMomentIsReached → ShownMomentsAreRead → SystemsWalk → SystemSaysMoments
system_says reached shown walk source sizes base j checked values (At p x w fs t) accepted size short fits same is =
    let q : Program = program_of source in
    let S : SystemView = generated_view q sizes base in
    let image : ImageOf = image_of source sizes base in
    let has : ComesToMark q S (opened q sizes base values) p x w fs t =
    subst (λ (m : Move). HasMoment q S (opened q sizes base values) m) is (reached q sizes base values j accepted.fits size fits) in
    let first : Seen = opening (system_in checked) (main_words source values) in
    let run : PitonLevelOf = record { checked = checked; image = image; seen = first } in
    let there : PitonLevelOf = record { checked = checked; image = image; seen = advanced first t.steps t.count has.to } in
    let steps : Steps (system_in checked) t.steps t.count first.state has.to =
    subst (λ (s : SystemView). Steps s t.steps t.count (started s (main_words source values)) has.to) (sym same) has.runs in
    let frame = going q p fs has.to.frames has.reads.frames in
    let vars = (moment_fits q sizes accepted.fits values j (At p x w fs t) fits is).0 in
    let reads : read_from image (piton_at S has.to) ≡ Some (moment_shown source (At p x w fs t)) =
    shown source sizes base j values (piton_at S has.to) (At p x w fs t) accepted short fits is
    (state_shows source sizes base has.to p x w fs vars has.reads) in
    says_there t.steps (Piton run) (Piton there) (state_text source (At p x w fs t)) (walk t.steps t.count run has.to steps (omega arith) (omega arith))
    (system_goes there frame.0 frame.1 frame.2)
    (system_said there frame.0 frame.1 frame.2 (moment_shown source (At p x w fs t))
    (ap (λ (s : SystemView). read_from image (piton_at s has.to)) same ∙ reads))

-- ---- what is built

pub built_says : GeneratedIsAcceptable → MachineSaysMoments → SystemSaysMoments → BuiltSaysMoments
built_says acceptable machine system source sizes j b values g accepted short fits is keeps stands =
    let m = made acceptable source sizes accepted b is in
    let there : KeepsMoments (image_of source sizes 0) source sizes = subst (λ (i : ImageOf). KeepsMoments i source sizes) (sym m.image) keeps in
    record {
      machine =
          subst (λ (i : ImageOf). SaysAfter (spent_at g) (image_run i values) (state_text source g)) m.image
          (machine source sizes 0 j values g accepted short fits there stands);
      system =
          subst (λ (i : ImageOf). SaysAfter (steps_at g) (system_run source b.piton i values) (state_text source g)) m.image
          (system source sizes 0 j b.piton values g accepted m.sizes_fit short fits m.view stands);
    }
