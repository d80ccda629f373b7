-- Where nothing is wrong, `go` stores the image and tells the meaning.
use Rattle.std.proofs.Common.{◌≡◌, ◌≤◌, inr, ℕ, List, [], ◌∷◌, true, Option, Some, None, IfSome, Result, Ok, refl, sym, ap, ◌∙◌, subst, arith}
use Rattle.std.{specs.Prelude.{◌≢◌, nat_le}, proofs.lemmas.Bool.le-leb}
use Rattle.stack_text.{specs.Values.ValueOf, specs.Results.unless_fault}
use Rattle.fm_image.specs.Spelling.{spelling}
use Rattle.fm_loader.specs.Values.{values_in}
use Rattle.stack_shelf.{specs.Files.Files, specs.Causes.Rose, specs.Shelf.appended}
use Rattle.level_debuggers.specs.Tallies.{Watching}
use Rattle.gypsy_syntax.{specs.Programs.Program, specs.Sources.SourceOf, specs.Resolved.program_of}
use Rattle.gypsy_space.specs.Needs.{StackSizes, stack_sizes, main_used, main_need}
use Rattle.gypsy_semantics.specs.Calls.{CurrentCondition}
use Rattle.gypsy_codegen.{specs.declared.fault.GenFault.GenFault, specs.Acceptable.{total_words, LimitsFit}, specs.Generation.{are_sizes, size_fault}}
use Rattle.gypsy_codegen.{specs.Generation.generation, specs.Text.generated, proofs.AnswerLaws.no_fault}
use Rattle.stack_build.{specs.declared.fault.BuildFault.BuildFault, specs.Build.{BuiltOf, built, built_with}, specs.Image.{formal_slots, image_of}}
use Rattle.stack_build.{specs.Implements.Finishes, proofs.BuildLaws.{built_small, text_builds}, proofs.SlotLaws.image_takes}
use Rattle.command_line.{specs.declared.command.Command.Command, specs.declared.early_end.EarlyEnd.EarlyEnd, specs.declared.role.Role.Role}
use Rattle.command_line.{specs.declared.role.Role.TheVariants.{Source, Values, Image}, specs.declared.status.Status.Status}
use Rattle.command_line.{specs.declared.status.Status.TheVariants.{ShelfFault, SinkFault}, specs.CommandFiles.{inputs_of, output_of, file_names}}
use Rattle.command_line.{specs.Ends.end_line, specs.Gathered.Texts}
use Rattle.command_line.specs.declared.command.Command.TheVariants as command
use Rattle.command_line.specs.declared.early_end.EarlyEnd.TheVariants as early
use Rattle.stack_commands.{specs.Prepared.stored_by, specs.Commands.Build.image_stored}
use Rattle.cli_stack.{specs.Answer.{set_file, answer_on, answer_to, answer_by, files_after}, specs.Tells.{IsBuilt, TellsReport, TellsMeanings}}
use Rattle.cli_stack.{specs.FilesAndSizes.IsReadable, specs.Completes.{HasSource, Completed, CompletesRun, CompletesCommand}, specs.Causes.RoseAt}
use Rattle.cli_stack.{specs.Agrees.Agrees, specs.World.World, proofs.MeansLaws.{first_name, others}, proofs.TellsLaws.both_there}

-- 1. What is within the limits is built.

-- main itself needs a word of each stack
needs_control : (q : Program) → 1 ≤ (main_need q).ctrl
unfolding main_need main_used
needs_control q = omega arith

needs_temporary : (q : Program) → 1 ≤ (main_need q).temp
unfolding main_need main_used
needs_temporary q = omega arith

sizes_are : (q : Program) (sizes : StackSizes) → LimitsFit q sizes 0 → are_sizes sizes ≡ true
sizes_are q sizes limits =
    let some_control = needs_control q in
    let some_temporary = needs_temporary q in
    let ctrl : (main_need q).ctrl ≤ sizes.ctrl = limits.sizes_fit.suffice.ctrl in
    let temp : (main_need q).temp ≤ sizes.temp = limits.sizes_fit.suffice.temp in
    let first : nat_le 1 sizes.ctrl ≡ true = le-leb 1 sizes.ctrl (omega (arith, some_control, ctrl)) in
    let second : nat_le sizes.ctrl 65536 ≡ true = le-leb sizes.ctrl 65536 limits.few_ctrl in
    let third : nat_le 1 sizes.temp ≡ true = le-leb 1 sizes.temp (omega (arith, some_temporary, temp)) in
    let fourth : nat_le sizes.temp 65536 ≡ true = le-leb sizes.temp 65536 limits.sizes_fit.small in
    rw (first, second, third, fourth) refl

-- what is built of a source
abbrev parts_of : SourceOf → StackSizes → BuiltOf
parts_of source sizes = built_with source sizes 0 (generated source sizes 0)

is_generated : (source : SourceOf) (sizes : StackSizes) → LimitsFit (program_of source) sizes 0 → generation source sizes 0 ≡ Ok (generated source sizes 0)
is_generated source sizes limits =
    let q = program_of source in
    let none : size_fault q sizes ≡ None = sym
    (no_fault q sizes (total_words q) (sizes_are q sizes limits) limits.sizes_fit.suffice.ctrl limits.sizes_fit.suffice.temp refl limits.few_words) in
    ap (λ (o : Option GenFault). unless_fault o (generated source sizes 0)) none

is_built : (files : Files) (name : List ℕ) (control temporary : ℕ) (source : SourceOf) (has : HasSource files name (stack_sizes control temporary) source)
    → built has.text control temporary 0 ≡ Ok (parts_of source (stack_sizes control temporary))
is_built files name control temporary source has =
    let sizes = stack_sizes control temporary in
    text_builds has.text control temporary 0 source has.read
    ∙ built_small source sizes 0 (generated source sizes 0) (is_generated source sizes has.fits.limits) has.fits.image

-- 2. What is stored.

module _ (watches : List Watching) (files : Files) (source_name values_name name : List ℕ) (control temporary budget : ℕ) (source : SourceOf)
    (values_text : List ℕ)
    (has : HasSource files source_name (stack_sizes control temporary) source) (there : IsReadable files Values values_name values_text) where
  is_stored : (answer_to (command.Go source_name values_name control temporary budget name) watches files).output
      ≡ Some (name, spelling (image_of source (stack_sizes control temporary) 0))
  unfolding inputs_of output_of stored_by
  is_stored =
      ap (λ (r : Result Texts EarlyEnd). (answer_on (command.Go source_name values_name control temporary budget name) watches r).output)
      (both_there files (Source, source_name) (Values, values_name) has.text values_text has.readable there)
      ∙ ap (λ (b : Result BuiltOf BuildFault). set_file (Some (Image, name)) (image_stored b)) (is_built files source_name control temporary source has)

  -- 3. What is told.

  made : IsBuilt files source_name (stack_sizes control temporary) source (image_of source (stack_sizes control temporary) 0)
  made = record {
    text = has.text;
    readable = has.readable;
    read = has.read;
    found = parts_of source (stack_sizes control temporary);
    made = is_built files source_name control temporary source has;
    same = refl;
  }

  is_told : TellsMeanings (command.Go source_name values_name control temporary budget name) files
      (answer_to (command.Go source_name values_name control temporary budget name) watches files)
      → (values finals : List ValueOf) (way : CurrentCondition) (count : ℕ) → values_in (formal_slots source) values_text ≡ Ok values
      → Finishes source (stack_sizes control temporary) values finals way count → count ≤ budget
      → TellsReport source (image_of source (stack_sizes control temporary) 0) finals way count
      (answer_to (command.Go source_name values_name control temporary budget name) watches files)
  unfolding inputs_of output_of
  is_told tells values finals way count gives done enough =
      let run = tells values_name (1, omega arith, refl) (inr (name, refl)) in
      run.1 (stack_sizes control temporary) source (image_of source (stack_sizes control temporary) 0) values_text values finals way count (refl, made)
      there (image_takes source (stack_sizes control temporary) 0 values_text ∙ gives) done enough

  -- the command comes to its answer
  module _ (before after : World) (status : Status) where
    agreeing : Agrees (answer_to (command.Go source_name values_name control temporary budget name) watches files) files before after status
        → TellsMeanings (command.Go source_name values_name control temporary budget name) files
        (answer_to (command.Go source_name values_name control temporary budget name) watches files)
        → Completed files name source (stack_sizes control temporary) values_text budget before after status
    agreeing agrees tells = record {
      stored = agrees.files_left ∙ ap (λ (o : Option (List ℕ × List ℕ)). Some (files_after o files)) is_stored;
      told = λ values finals way count gives done enough.
          let tell = is_told tells values finals way count gives done enough in
          record { ends = agrees.ends ∙ tell.status; printed = agrees.text ∙ ap (appended before.out.taken) tell.text };
    }

-- 4. All commands.

-- the name of a file that is written
abbrev written_name : Option (Role × List ℕ) → List ℕ
written_name None = []
written_name (Some file) = file.1

module _ (watches : List Watching) (before after : World) (status : Status) where
  -- `go`, of its own files
  completes_go : (source_name values_name name : List ℕ) (control temporary budget : ℕ) (files : Files)
      → (status ≢ ShelfFault → status ≢ SinkFault → Agrees
      (answer_to (command.Go source_name values_name control temporary budget name) watches files) files before after status)
      → (status ≡ ShelfFault → RoseAt (λ c. c.faults) (file_names (Some (command.Go source_name values_name control temporary budget name)))
      before.shelf after.shelf (λ n. after.out.taken ≡ appended before.out.taken (end_line (early.ShelfFault n))))
      → (status ≡ SinkFault → Rose before.out.faults after.out.faults)
      → TellsMeanings (command.Go source_name values_name control temporary budget name) files
      (answer_to (command.Go source_name values_name control temporary budget name) watches files)
      → CompletesRun (command.Go source_name values_name control temporary budget name) files source_name values_name name
      (stack_sizes control temporary) budget before after status
  completes_go source_name values_name name control temporary budget files answers shelf_fault sink_fault tells source values_text has there none =
      agreeing watches files source_name values_name name control temporary budget source values_text has there before after status
      (answers (λ e. let failed = shelf_fault e in none.shelf failed.0 failed.1 failed.2) (λ e. none.sink (sink_fault e))) tells

  completes_on : (c : Command) (files : Files)
      → (status ≢ ShelfFault → status ≢ SinkFault → Agrees (answer_to c watches files) files before after status)
      → (status ≡ ShelfFault → RoseAt (λ c. c.faults) (file_names (Some c)) before.shelf after.shelf
      (λ name. after.out.taken ≡ appended before.out.taken (end_line (early.ShelfFault name))))
      → (status ≡ SinkFault → Rose before.out.faults after.out.faults)
      → TellsMeanings c files (answer_to c watches files) → CompletesCommand c files before after status
  unfolding inputs_of output_of
  completes_on (command.Check source_name) files answers shelf_fault sink_fault tells =
      λ source values image reads writes. absurd (let e : None ≡ Some (Image, image) = writes in cc)
  completes_on (command.Mean source_name values_name control temporary limit) files answers shelf_fault sink_fault tells =
      λ source values image reads writes. absurd (let e : None ≡ Some (Image, image) = writes in cc)
  completes_on (command.Pit source_name control temporary piton) files answers shelf_fault sink_fault tells =
      λ source values image reads writes. absurd (let e : [] ≡ (Values, values) ∷ [] = ap others reads in cc)
  completes_on (command.Build source_name control temporary name) files answers shelf_fault sink_fault tells =
      λ source values image reads writes. absurd (let e : [] ≡ (Values, values) ∷ [] = ap others reads in cc)
  completes_on (command.Pbuild piton name) files answers shelf_fault sink_fault tells =
      λ source values image reads writes. absurd (let e : [] ≡ (Values, values) ∷ [] = ap others reads in cc)
  completes_on (command.Run image_name values_name budget) files answers shelf_fault sink_fault tells =
      λ source values image reads writes. absurd (let e : None ≡ Some (Image, image) = writes in cc)
  completes_on (command.Go source_name values_name control temporary budget name) files answers shelf_fault sink_fault tells =
      λ source values image reads writes.
      let first : source_name ≡ source = ap first_name reads in
      let second : values_name ≡ values = ap (λ (fs : List (Role × List ℕ)). first_name (others fs)) reads in
      let written : name ≡ image = ap written_name writes in
      let go = command.Go source_name values_name control temporary budget name in
      let sizes = stack_sizes control temporary in
      subst (λ (n : List ℕ). CompletesRun go files n values image sizes budget before after status) first
      (subst (λ (n : List ℕ). CompletesRun go files source_name n image sizes budget before after status) second
      (subst (λ (n : List ℕ). CompletesRun go files source_name values_name n sizes budget before after status) written
      (completes_go source_name values_name name control temporary budget files answers shelf_fault sink_fault tells)))
  completes_on (command.Show image_name) files answers shelf_fault sink_fault tells =
      λ source values image reads writes. absurd (let e : None ≡ Some (Image, image) = writes in cc)
  completes_on (command.Migrate image_name name) files answers shelf_fault sink_fault tells =
      λ source values image reads writes. absurd (let e : [] ≡ (Values, values) ∷ [] = ap others reads in cc)
  completes_on (command.Asm assembly name) files answers shelf_fault sink_fault tells =
      λ source values image reads writes. absurd (let e : [] ≡ (Values, values) ∷ [] = ap others reads in cc)
  completes_on (command.Unasm name assembly) files answers shelf_fault sink_fault tells =
      λ source values image reads writes. absurd (let e : [] ≡ (Values, values) ∷ [] = ap others reads in cc)
  completes_on (command.Need source_name certificate) files answers shelf_fault sink_fault tells =
      λ source values image reads writes. absurd (let e : [] ≡ (Values, values) ∷ [] = ap others reads in cc)
  completes_on (command.Mini program name) files answers shelf_fault sink_fault tells =
      λ source values image reads writes. absurd (let e : [] ≡ (Values, values) ∷ [] = ap others reads in cc)
  completes_on (command.Quick source_name control temporary name) files answers shelf_fault sink_fault tells =
      λ source values image reads writes. absurd (let e : [] ≡ (Values, values) ∷ [] = ap others reads in cc)
  completes_on c files answers shelf_fault sink_fault tells = λ source values image reads writes. absurd (let e : None ≡ Some (Image, image) = writes in cc)

  pub completes : (command : Option Command) (files : Files)
      → (status ≢ ShelfFault → status ≢ SinkFault → Agrees (answer_by command watches files) files before after status)
      → (status ≡ ShelfFault → RoseAt (λ c. c.faults) (file_names command) before.shelf after.shelf
      (λ name. after.out.taken ≡ appended before.out.taken (end_line (early.ShelfFault name))))
      → (status ≡ SinkFault → Rose before.out.faults after.out.faults)
      → IfSome command (λ c. TellsMeanings c files (answer_to c watches files)) → IfSome command (λ c. CompletesCommand c files before after status)
  completes None files answers shelf_fault sink_fault tells = tt
  completes (Some c) files answers shelf_fault sink_fault tells = completes_on c files answers shelf_fault sink_fault tells
