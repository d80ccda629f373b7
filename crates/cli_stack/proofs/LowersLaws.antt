-- What is stored of an infix program means what the program does, and so does what is built of that.
use Rattle.std.proofs.Common.{◌≡◌, ◌≤◌, ⊎_elim, ◌∷◌, [], ℕ, List, Option, Some, None, Result, Ok, Err, length, map, refl, sym, ap, ◌∙◌, subst, arith}
use Rattle.std.specs.Prelude.{◌<◌, ◌^◌, IsSomeAnd, option_map}
use Rattle.stack_text.{specs.Names.place_among, specs.Results.◌>>=◌, specs.Values.ValueOf}
use Rattle.stack_shelf.{specs.Files.Files, specs.Shelf.fetched}
use Rattle.fm_image.specs.Image.{ImageOf}
use Rattle.fm_loader.specs.Loaded.{loaded}
use Rattle.display_maps.{specs.Reading.reading, specs.Report.report_text}
use Rattle.level_debuggers.specs.Tallies.{Watching}
use Rattle.gypsy_syntax.{specs.Places.{unplaced_decl, unplaced_proc, without_places}, specs.Resolved.program_of, specs.Sources.{ProcOf, SourceOf}}
use Rattle.gypsy_space.{specs.Costs.Tally, specs.Needs.{StackSizes, stack_sizes}}
use Rattle.gypsy_semantics.{specs.Calls.CurrentCondition, specs.Counted.{CountedOutcome, CountedDone, CountedUnfinished, counted_meaning, uncounted, tally_of}}
use Rattle.gypsy_semantics.{specs.Meaning.{Done as RunDone, meaning}, proofs.CountLaws.meaning-uncounted}
use Rattle.mini_syntax.{specs.MiniReading.{IsFaultless, TextReading, faultless, faulty}, specs.Breaches.{body_of, declared_of}}
use Rattle.mini_syntax.{specs.declared.program.Declared.Declared, specs.Grammar.InfixProgram, specs.Language.Stmt, proofs.AnswerLaws.read}
use Rattle.mini_gypsy.{specs.Lowered.{decl_of, lowered}, specs.Stored.{lowering_by, MeansAlways, source_for, StandsFor, stored_text}, proofs.PlaceLaws.map_over}
use Rattle.mini_gypsy.{proofs.BareRuleLaws.procedure_same, proofs.StoredLaws.{stands, stored_short}}
use Rattle.stack_build.{specs.Build.accepted_source, specs.Formals.{formals_in, main_of, shown_formals}, specs.Implements.{meaning_shown, FitsFormals}}
use Rattle.stack_build.{specs.Implements.{Finishes, Implements}, specs.Joined.{BuiltImplements, BuiltTakesValues}, specs.Meant.KeptMeansOnly}
use Rattle.stack_build.{proofs.BuildLaws.accepted_found, proofs.MeantLaws.first_once}
use Rattle.command_line.{specs.declared.command.Command.Command, specs.declared.early_end.EarlyEnd.EarlyEnd, specs.declared.role.Role.TheVariants.Infix}
use Rattle.command_line.{specs.declared.role.Role.TheVariants.Source, specs.declared.status.Status.TheVariants.{Done, Refused}, specs.CommandFiles.inputs_of}
use Rattle.command_line.{specs.CommandFiles.output_of, specs.Ends.end_status, specs.Gathered.text_or_end, specs.Roles.limit_of, proofs.FileLaws.was_short}
use Rattle.command_line.specs.declared.command.Command.TheVariants as command
use Rattle.command_line.specs.declared.early_end.EarlyEnd.TheVariants as early
use Rattle.command_replies.specs.Commands.Mini.{lowering_of, lowered_stored, lowered_reply}
use Rattle.stack_commands.specs.Prepared.{stored_by, reply_by}
use Rattle.cli_stack.{specs.Answer.{Answer, set_file, answer_with, answer_on, answer_to}, specs.Implements.{IsImplementation, HoldsStored}}
use Rattle.cli_stack.{specs.Implements.StoresImplementation, specs.FilesAndSizes.{IsReadable, sizes_of}, specs.Decides.{IsReadyToRun, IsDone, IsNotDone}}
use Rattle.cli_stack.{specs.Decides.Decided, specs.Tells.TellsReport, specs.Lowers.{formal_type, declared_type, MeansProgram, TellsMini, RunEnds, CarriesRuns}}
use Rattle.cli_stack.{specs.Lowers.{HoldsRuns, StoresRuns, TellsFrom, TellsRuns, TellsOwn, LowersPrograms}, proofs.DecidesLaws.{decides, ready_runs}}
use Rattle.cli_stack.{proofs.GoLaws.early_done, proofs.ImplementsLaws.{implements, stores}}

-- 1. The variables of what is stored.

formals_over : (o : Option ProcOf) → map formal_type (formals_in (option_map unplaced_proc o)) ≡ map formal_type (formals_in o)
formals_over None = refl
formals_over (Some p) = map_over formal_type unplaced_decl formal_type (λ d. refl) p.formals

-- without places they have the same names and types
formals_bare : (s : SourceOf) → map formal_type (shown_formals (without_places s)) ≡ map formal_type (shown_formals s)
unfolding main_of
formals_bare s = ap (λ (o : Option ProcOf). map formal_type (formals_in o)) (procedure_same s s.main.name) ∙ formals_over (main_of s)

formals_lowered : (ds : List Declared) (body : Stmt) → map formal_type (shown_formals (lowered ds body)) ≡ map declared_type ds
unfolding main_of place_among
formals_lowered ds body = map_over formal_type (λ (d : Declared). decl_of d.name d.sort) declared_type (λ d. refl) ds

stored_formals : (source : SourceOf) (program : InfixProgram) → without_places source ≡ without_places (source_for program)
    → map formal_type (shown_formals source) ≡ map declared_type (declared_of program)
stored_formals source program same =
    sym (formals_bare source) ∙ ap (λ (s : SourceOf). map formal_type (shown_formals s)) same ∙ formals_bare (source_for program)
    ∙ formals_lowered (declared_of program) (body_of program)

-- what is stored of a program means what the program does
stored_means : (text : List ℕ) (program : InfixProgram) → length text ≤ 2 ^ 20 → IsFaultless text program → MeansProgram (stored_text program) program
stored_means text program few is =
    let s : StandsFor (stored_text program) program = stands text program few is in
    record {
      source = s.source;
      read = accepted_found (stored_text program) s.source s.read s.rules;
      variables = stored_formals s.source program s.same;
      means = s.means;
    }

-- 2. `mini`.

early_refused : (e : EarlyEnd) → end_status e ≡ Refused → ⊥
early_refused (early.Missing name) h = cc
early_refused (early.TooLong limit) h = cc
early_refused (early.ShelfFault name) h = cc
early_refused early.OutOfMemory h = cc

mini_tells : (watches : List Watching) (files : Files) (program source : List ℕ) (first : Result (List ℕ) EarlyEnd)
    → text_or_end (Infix, program) (fetched files program (limit_of Infix)) ≡ first
    → TellsMini files program source (answer_on (command.Mini program source) watches (first >>= λ text. Ok ((Infix, text) ∷ [])))
unfolding output_of stored_by reply_by lowering_of
mini_tells watches files program source (Err e) got = record { done = λ h. absurd (early_done e h); refused = λ h. absurd (early_refused e h) }
mini_tells watches files program source (Ok text) got = by_reading (read text)
  where
    file : IsReadable files Infix program text
    file = let f = was_short files (Infix, program) text got in record { there = f.0; short = f.1 }

    few : length text ≤ 2 ^ 20
    few = let short : length text ≤ limit_of Infix = file.short in omega (arith, short)

    by_reading : (found : TextReading text) → TellsMini files program source
        (answer_with (set_file (Some (Source, source)) (lowered_stored (lowering_by found))) (lowered_reply source (lowering_by found)))
    by_reading (faultless p is) = record {
      done = λ h. record {
        text = text;
        readable = file;
        program = p;
        faultless = is;
        bytes = stored_text p;
        output = refl;
        means = stored_means text p few is;
        short = stored_short text p few is;
      };
      refused = λ h. absurd (let e : Done ≡ Refused = h in cc);
    }
    by_reading (faulty b f) = record {
      done = λ h. absurd (let e : Refused ≡ Done = h in cc);
      refused = λ h. record { text = text; readable = file; rule = b.rule; place = b.place; fault = f; told = refl; output = refl };
    }

-- 3. The images of a source that means what a program does.

-- a run of the program that is done is one of the source, and has a count
finishes : (text : List ℕ) (program : InfixProgram) (means : MeansProgram text program) (sizes : StackSizes) (values finals : List ValueOf)
    (way : CurrentCondition) → FitsFormals means.source values → RunEnds program values finals way
    → (count : ℕ) × Finishes means.source sizes values finals way count
finishes text program means sizes values finals way fits ends =
    by_counted (counted_meaning (program_of means.source) sizes values ends.0) refl (meaning-uncounted (program_of means.source) sizes values ends.0 ∙ done)
  where
    done : meaning (program_of means.source) sizes values ends.0 ≡ RunDone finals way
    done = means.means sizes values ends.0 fits ∙ ends.1

    by_counted : (o : CountedOutcome) → counted_meaning (program_of means.source) sizes values ends.0 ≡ o → uncounted o ≡ RunDone finals way
        → (count : ℕ) × Finishes means.source sizes values finals way count
    by_counted (CountedDone x c t) is same = (
      t.count,
      record { bound = ends.0; done = done; counted = ap (λ (o : CountedOutcome). option_map (λ (t : Tally). t.count) (tally_of o)) is },
    )
    by_counted CountedUnfinished is same = absurd cc

carries : (text : List ℕ) (program : InfixProgram) (means : MeansProgram text program) (image : ImageOf) (sizes : StackSizes)
    → Implements image means.source sizes → CarriesRuns image means.source program
carries text program means image sizes does values finals way fits ends =
    let fin = finishes text program means sizes values finals way fits ends in
    (fin.0, does values finals way fin.0 fits fin.1)

images : (c : Command) (files : Files) (output : Option (List ℕ × List ℕ)) → StoresImplementation c files output → StoresRuns c files output
images c files output holds source image stored bytes text program reads writes sets there means =
    by_sizes (sizes_of c) (holds source image stored bytes reads writes sets)
  where
    by_sizes : (o : Option StackSizes) → IsSomeAnd o (λ sizes. HoldsStored IsImplementation files source sizes bytes) → HoldsRuns bytes means.source program
    by_sizes None none = absurd none
    by_sizes (Some sizes) h =
        let texts : Some h.text ≡ Some text = sym h.there ∙ there in
        let same_text : h.text ≡ text = cc in
        let sources : Ok h.is.source ≡ Ok means.source = sym h.is.read ∙ ap accepted_source same_text ∙ means.read in
        let same : h.is.source ≡ means.source = cc in
        record {
          image = h.is.image;
          spells = h.is.spells;
          runs = carries text program means h.is.image sizes (subst (λ (s : SourceOf). Implements h.is.image s sizes) same h.is.implements);
        }

-- 4. `go`.

-- a meaning is done with one count
counts_once : (image : ImageOf) (source : SourceOf) (sizes : StackSizes) (values x y : List ValueOf) (c d : CurrentCondition) (k j : ℕ)
    → Implements image source sizes → FitsFormals source values
    → Finishes source sizes values x c k → Finishes source sizes values y d j → k ≡ j
counts_once image source sizes values x y c d k j does fits first second =
    let one = does values x c k fits first in
    let two = does values y d j fits second in
    (first_once (loaded image values) image.final_pc k j one.state two.state one.first two.first).0

module _ (implement : BuiltImplements) (take : BuiltTakesValues) (meant : KeptMeansOnly) (watches : List Watching) (files : Files)
    (source values image : List ℕ) (control temporary budget : ℕ)
    (is : IsReadyToRun files source values (stack_sizes control temporary)) (program : InfixProgram) (means : MeansProgram is.built.text program) where
  go_tells : TellsRuns program is.source (stack_sizes control temporary) is.image is.values budget
      (answer_to (command.Go source values control temporary budget image) watches files)
  go_tells =
      let sizes : StackSizes = stack_sizes control temporary in
      let go : Answer = answer_to (command.Go source values control temporary budget image) watches files in
      let run = ready_runs implement take files source values control temporary is in
      let decided : Decided is.source sizes is.image is.values budget go =
      (decides meant implement take (command.Go source values control temporary budget image) watches files).decided is in
      let read : Ok means.source ≡ Ok is.source = sym means.read ∙ is.built.read in
      let same : means.source ≡ is.source = cc in
      let always : MeansAlways (program_of is.source) (body_of program) =
      subst (λ (s : SourceOf). MeansAlways (program_of s) (body_of program)) same means.means in
      let own : MeansProgram is.built.text program =
      record {
        source = is.source;
        read = is.built.read;
        variables = subst
            (λ (s : SourceOf). map formal_type (shown_formals s) ≡ map declared_type (declared_of program)) same means.variables;
        means = always;
      } in
      record {
        ends = λ finals way ends.
            let fin = finishes is.built.text program own sizes is.values finals way run.fits ends in
            from_count sizes go run.implements run.fits decided finals way fin.0 fin.1;
        endless = λ never. decided.endless (λ n. always sizes is.values n run.fits ∙ never n);
      }
    where
      from_count : (sizes : StackSizes) (go : Answer) → Implements is.image is.source sizes → FitsFormals is.source is.values
          → Decided is.source sizes is.image is.values budget go
          → (finals : List ValueOf) (way : CurrentCondition) (count : ℕ) → Finishes is.source sizes is.values finals way count
          → TellsFrom is.source sizes is.image is.values finals way budget go
      from_count sizes go does fits decided finals way count fin = record {
        count = count;
        meant = fin;
        within = λ enough. ⊎_elim (λ (d : IsDone is.source sizes is.image is.values budget go). told d)
            (λ (n : IsNotDone is.source sizes is.values budget go). absurd
            (let beyond : budget < count = n.beyond finals way count fin in omega (arith, beyond, enough))) decided.either;
        beyond = λ few. ⊎_elim (λ (d : IsDone is.source sizes is.image is.values budget go). absurd (
            let once : d.count ≡ count = counts_once is.image is.source sizes is.values d.finals finals d.way way d.count count does fits d.meant fin in
            let within : d.count ≤ budget = d.within in
            omega (arith, once, within, few))) (λ (n : IsNotDone is.source sizes is.values budget go). n.tells) decided.either;
      }
        where
          told : IsDone is.source sizes is.image is.values budget go → TellsReport is.source is.image finals way count go
          told d =
              let one = does is.values d.finals d.way d.count fits d.meant in
              let two = does is.values finals way count fits fin in
              let once = first_once (loaded is.image is.values) is.image.final_pc d.count count one.state two.state one.first two.first in
              let shown : meaning_shown is.source d.finals d.way ≡ meaning_shown is.source finals way =
              sym one.reads ∙ ap (reading is.image) once.1 ∙ two.reads in
              record {
                status = d.tells.status;
                text = d.tells.text ∙ ap (λ r. report_text is.image r d.count) shown ∙ ap (report_text is.image (meaning_shown is.source finals way)) once.0;
              }

-- 5. All commands.

own_by : BuiltImplements → BuiltTakesValues → KeptMeansOnly → (c : Command) (watches : List Watching) (files : Files)
    → TellsOwn c files (answer_to c watches files)
unfolding inputs_of
own_by implement take meant (command.Go source values control temporary budget image) watches files =
    λ is program means. go_tells implement take meant watches files source values image control temporary budget is program means
own_by implement take meant (command.Mini program source) watches files = mini_tells watches files program source _ refl
own_by implement take meant c watches files = tt

pub lowers : BuiltImplements → BuiltTakesValues → KeptMeansOnly → (c : Command) (watches : List Watching) (files : Files)
    → LowersPrograms c files (answer_to c watches files)
lowers implement take meant c watches files = record {
  own = own_by implement take meant c watches files;
  images = images c files (answer_to c watches files).output (implements c files (answer_to c watches files).output (stores implement c watches files));
}
