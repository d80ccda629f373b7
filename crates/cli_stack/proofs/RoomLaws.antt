-- Where a certificate is enough, no run of the source sets spaceerror.
use Rattle.std.proofs.Common.{◌≡◌, ◌≤◌, ◌∷◌, [], ◌++◌, ℕ, suc, List, Bool, true, false, Option, Some, Result, Ok, Err, length, get_or, refl, sym, ap, ◌∙◌}
use Rattle.std.{proofs.Common.{subst, arith, append-nil}, specs.Prelude.{◌^◌, codes}, specs.Result.MatchResult}
use Rattle.stack_text.{specs.Lines.line, specs.Results.◌>>=◌, specs.Values.ValueOf}
use Rattle.stack_shelf.{specs.Files.Files, specs.Shelf.fetched}
use Rattle.fm_machine.{specs.State.Fm, specs.Run.IsFirst, specs.Outcome.{RunOutcome, IsOutcome, outcome}, specs.declared.processor.Run.Run}
use Rattle.fm_machine.proofs.RunLaws.{outcome_is}
use Rattle.fm_machine.specs.declared.processor.Run.TheVariants as run
use Rattle.fm_image.specs.Image.{ImageOf}
use Rattle.fm_loader.specs.Loaded.{loaded}
use Rattle.display_maps.{specs.Reading.{ReadingOf, reading}, specs.Report.report_text}
use Rattle.level_debuggers.specs.Tallies.{Watching}
use Rattle.gypsy_syntax.{specs.ProgramFits.ProgramFits, specs.Resolved.{procedure_names, program_of}, specs.Sources.SourceOf}
use Rattle.gypsy_space.specs.Needs.{StackSizes, stack_sizes}
use Rattle.gypsy_semantics.{specs.Calls.CurrentCondition, specs.Machine.{At, Move, Next, Ended, Over, start}}
use Rattle.gypsy_codegen.{specs.Moments.moment_from, proofs.MomentLaws.{moment_over, counts_grow}}
use Rattle.space_cert.{specs.Accepting.is_covered, specs.Certified.certified, specs.CertText.bounds_in, specs.Covers.{Bounds, sizes_for, Covers}}
use Rattle.space_cert.{specs.Least.{AreLeastBounds, IsFirstRecursive}, specs.Never.NeverSpaceError, proofs.AcceptLaws.covered_is}
use Rattle.space_cert.{proofs.CertifiedLaws.certified_is, proofs.LeastLaws.covers_main, proofs.NeverLaws.never}
use Rattle.stack_build.{specs.declared.fault.BuildFault.BuildFault, specs.Build.accepted_source, specs.Implements.{FitsFormals, meaning_shown}}
use Rattle.stack_build.{specs.Joined.{BuiltImplements, BuiltTakesValues}, specs.Moments.{ArrivesAt, KeepsMoments}, proofs.KnownLaws.source_is_accepted}
use Rattle.stack_build.proofs.MeantLaws.{first_once}
use Rattle.stack_build.specs.declared.fault.BuildFault.TheVariants as fault
use Rattle.command_line.{specs.declared.command.Command.Command, specs.declared.early_end.EarlyEnd.EarlyEnd, specs.declared.role.Role.TheVariants.Source}
use Rattle.command_line.{specs.declared.role.Role.TheVariants.{Values, Certificate}, specs.declared.status.Status.TheVariants.{Done, Recursive}}
use Rattle.command_line.{specs.Roles.limit_of, specs.CommandFiles.{inputs_of, output_of}, specs.Ends.{end_status, end_line}, specs.Gathered.text_or_end}
use Rattle.command_line.proofs.FileLaws.{was_short}
use Rattle.command_line.specs.declared.command.Command.TheVariants as command
use Rattle.command_line.specs.declared.early_end.EarlyEnd.TheVariants as early
use Rattle.command_replies.specs.declared.reply.Verdict.TheVariants as verdict
use Rattle.command_replies.{specs.Replies.{status_of, verdict_line, reply_text}, specs.Commands.Run.{end_reply, run_reply}}
use Rattle.stack_commands.{specs.Commands.SourceText.{build_verdict, unless_refused, accepted_in}, specs.Commands.Need.{bounds_stored, bounds_reply}}
use Rattle.stack_commands.{specs.Commands.Need.{certified_stored, certified_reply, need_stored_by, need_reply_by}, specs.Commands.Cert.yes_or_no}
use Rattle.stack_commands.{specs.Commands.Cert.{judged_reply, certificate_reply, cert_reply_by}, specs.Prepared.{stored_by, reply_by}}
use Rattle.cli_stack.{specs.Answer.{Answer, set_file, answer_with, answer_on, answer_to}, specs.FilesAndSizes.IsReadable, specs.Needs.{TellsOther, GoesOther}}
use Rattle.cli_stack.{specs.Needs.{HasRoom, TellsNeed, Needs}, proofs.GoLaws.{early_done, build_done, go_done}, proofs.TellsLaws.is_there}

-- 1. A run that ended.

module _ (source : SourceOf) (sizes : StackSizes) (never_set : (values : List ValueOf) → NeverSpaceError (program_of source) sizes values)
    (image : ImageOf) (values : List ValueOf)
    (keeps : KeepsMoments image source sizes) (fits : FitsFormals source values) (budget : ℕ) (output : Option (List ℕ × List ℕ)) where
  ended : (k : ℕ) (s : Fm) → IsFirst (loaded image values) image.final_pc k s → TellsOther source (answer_with output (end_reply image budget (run.Ended k) s))
  ended k s first = by_moment (moment_from (program_of source) sizes values (suc k)) refl (keeps values (suc k) fits)
    where
      by_moment : (m : Move) → moment_from (program_of source) sizes values (suc k) ≡ m → ArrivesAt source sizes image values m
          → TellsOther source (answer_with output (end_reply image budget (run.Ended k) s))
      by_moment (Next (At p x w fs t)) e a =
          let grows : suc k ≤ t.count = counts_grow (program_of source) sizes values (suc k) (At p x w fs t) e in
          absurd (a.goes_on k s (omega (arith, grows)) first.reached first.there)
      by_moment (Ended x c t) e a =
          let once = first_once (loaded image values) image.final_pc k t.count s a.comes.state first a.comes.first in
          let shown : reading image s ≡ meaning_shown source x c = ap (reading image) once.1 ∙ a.comes.reads in
          record {
            image = image;
            finals = x;
            way = c;
            count = k;
            other = λ is. (never_set values).ends (suc k) x t
                (moment_over (program_of source) sizes (suc k) (start (program_of source) values) x c t e
                ∙ ap (λ (way : CurrentCondition). Over x way t) is);
            tells = record { status = refl; text = append-nil _ ∙ ap (λ (r : ReadingOf). report_text image r k) shown };
          }

  run_other : status_of (run_reply image values budget).verdict ≡ Done → TellsOther source (answer_with output (run_reply image values budget))
  unfolding run_reply
  run_other done =
      let o : RunOutcome = outcome budget image.final_pc (loaded image values) in
      by_end o.run o.state (outcome_is (loaded image values) image.final_pc budget) done
    where
      by_end : (r : Run) (s : Fm) → IsOutcome (loaded image values) image.final_pc budget r s → status_of (end_reply image budget r s).verdict ≡ Done
          → TellsOther source (answer_with output (end_reply image budget r s))
      by_end (run.Ended k) s is done = ended k s is.1
      by_end run.Spent s is done = absurd cc
      by_end (run.Outside a k) s is done = absurd cc

-- 2. `go`.

module _ (implement : BuiltImplements) (take : BuiltTakesValues) (files : Files) (name text : List ℕ) (readable : IsReadable files Source name text)
    (source : SourceOf) (read : accepted_source text ≡ Ok source) (sizes : StackSizes)
    (never_set : (values : List ValueOf) → NeverSpaceError (program_of source) sizes values) where
  short : length text ≤ 2 ^ 31
  short = omega (arith, readable.short)

  goes_other : GoesOther files name source sizes
  unfolding inputs_of reply_by
  goes_other values image budget watches =
      let go : Command = command.Go name values sizes.ctrl sizes.temp budget image in
      subst (λ (first : Result (List ℕ) EarlyEnd).
      (answer_on go watches (first >>= λ t. (text_or_end (Values, values) (fetched files values (limit_of Values))
      >>= λ other. Ok ((Values, other) ∷ [])) >>= λ texts. Ok ((Source, t) ∷ texts))).status ≡ Done
      → TellsOther source (answer_on go watches
      (first >>= λ t. (text_or_end (Values, values) (fetched files values (limit_of Values)) >>= λ other. Ok ((Values, other) ∷ []))
      >>= λ texts. Ok ((Source, t) ∷ texts))))
      (sym (is_there files (Source, name) text readable)) (by_second (text_or_end (Values, values) (fetched files values (limit_of Values))))
    where
      by_second : (second : Result (List ℕ) EarlyEnd)
          → (answer_on (command.Go name values sizes.ctrl sizes.temp budget image) watches
          ((second >>= λ other. Ok ((Values, other) ∷ [])) >>= λ texts. Ok ((Source, text) ∷ texts))).status ≡ Done
          → TellsOther source (answer_on (command.Go name values sizes.ctrl sizes.temp budget image) watches
          ((second >>= λ other. Ok ((Values, other) ∷ [])) >>= λ texts. Ok ((Source, text) ∷ texts)))
      by_second (Err e) done = absurd (early_done e done)
      by_second (Ok other) done =
          go_done implement take text short source read sizes (TellsOther source) other budget _
          (λ b values builds gives fits ends. run_other source sizes never_set b.image values builds.moments fits budget _ ends) done

  abbrev has_room : HasRoom files name sizes
  has_room = record { text = text; readable = readable; source = source; read = read; never = never_set; goes = goes_other }

-- 3. `need`.

module _ (implement : BuiltImplements) (take : BuiltTakesValues) (watches : List Watching) (files : Files) (name certificate : List ℕ) where
  need_on : Result (List ℕ) EarlyEnd → Answer
  need_on first = answer_on (command.Need name certificate) watches (first >>= λ text. Ok ((Source, text) ∷ []))

  need_tells : (first : Result (List ℕ) EarlyEnd) → text_or_end (Source, name) (fetched files name (limit_of Source)) ≡ first
      → TellsNeed files name certificate (need_on first)
  unfolding need_on output_of stored_by reply_by accepted_in certified_stored certified_reply
  need_tells (Err e) got = record { done = λ h. absurd (early_done e h); recursive = λ h. absurd (early_recursive e h) }
    where
      early_recursive : (e : EarlyEnd) → end_status e ≡ Recursive → ⊥
      early_recursive (early.Missing n) h = cc
      early_recursive (early.TooLong limit) h = cc
      early_recursive (early.ShelfFault n) h = cc
      early_recursive early.OutOfMemory h = cc
  need_tells (Ok text) got = by_source (accepted_source text) refl
    where
      file : IsReadable files Source name text
      file = let f = was_short files (Source, name) text got in record { there = f.0; short = f.1 }

      build_recursive : (f : BuildFault) → status_of (build_verdict f) ≡ Recursive → ⊥
      build_recursive (fault.Text rule place) h = cc
      build_recursive (fault.Form rule place) h = cc
      build_recursive (fault.Rule rule place) h = cc
      build_recursive fault.Size h = cc
      build_recursive (fault.Control need) h = cc
      build_recursive (fault.Temporary need) h = cc
      build_recursive (fault.Words count) h = cc
      build_recursive fault.Memory h = cc

      by_certified : (source : SourceOf) → accepted_source text ≡ Ok source → ProgramFits (program_of source) → (found : Result Bounds ℕ)
          → MatchResult found (AreLeastBounds (program_of source)) (IsFirstRecursive (program_of source))
          → TellsNeed files name certificate (answer_with (set_file (Some (Certificate, certificate)) (bounds_stored source found)) (bounds_reply source found))
      by_certified source read fits (Ok bounds) least = record {
        done = λ h. record {
          sizes = sizes_for (program_of source) bounds;
          room = has_room implement take files name text file source read (sizes_for (program_of source) bounds)
              (never (program_of source) bounds (sizes_for (program_of source) bounds) (covers_main (program_of source) bounds least) fits);
          bounds = bounds;
          least = least;
          enough = refl;
          text = append-nil _;
          stored = refl;
        };
        recursive = λ h. absurd (let e : Done ≡ Recursive = h in cc);
      }
      by_certified source read fits (Err p) first = record {
        done = λ h. absurd (let e : Recursive ≡ Done = h in cc);
        recursive = λ h. record { text = text; readable = file; source = source; read = read; procedure = p; first = first; told = refl; stored = refl };
      }

      by_source : (found : Result SourceOf BuildFault) → accepted_source text ≡ found
          → TellsNeed files name certificate (answer_with (set_file (Some (Certificate, certificate)) (need_stored_by (unless_refused found)))
          (need_reply_by (unless_refused found)))
      by_source (Err f) read = record { done = λ h. absurd (build_done f h); recursive = λ h. absurd (build_recursive f h) }
      by_source (Ok source) read =
          let fits = (source_is_accepted text (omega (arith, file.short)) source read).fits in
          by_certified source read fits (certified (program_of source)) (certified_is (program_of source) fits)

-- 4. `cert`.

abbrev first_byte : List ℕ → ℕ
first_byte bytes = get_or bytes 0 0

abbrev yes : List ℕ
yes = line (codes "yes")

module _ (implement : BuiltImplements) (take : BuiltTakesValues) (watches : List Watching) (files : Files) (name certificate : List ℕ)
    (control temporary : ℕ) where
  -- what begins with another letter isn't yes
  not_yes : (bytes : List ℕ) (letter : ℕ) → first_byte bytes ≡ letter → (letter ≡ 121 → ⊥) → bytes ≡ yes → ⊥
  not_yes bytes letter is other e = other (sym is ∙ ap first_byte e)

  early_yes : (e : EarlyEnd) → end_line e ≡ yes → ⊥
  early_yes (early.Missing n) = not_yes (end_line (early.Missing n)) 109 refl (λ e. omega (arith, e))
  early_yes (early.TooLong limit) = not_yes (end_line (early.TooLong limit)) 115 refl (λ e. omega (arith, e))
  early_yes (early.ShelfFault n) = not_yes (end_line (early.ShelfFault n)) 115 refl (λ e. omega (arith, e))
  early_yes early.OutOfMemory = not_yes [] 0 refl (λ e. omega (arith, e))

  build_yes : (f : BuildFault) → verdict_line (build_verdict f) ≡ yes → ⊥
  build_yes (fault.Text rule place) = not_yes (verdict_line (build_verdict (fault.Text rule place))) 114 refl (λ e. omega (arith, e))
  build_yes (fault.Form rule place) = not_yes (verdict_line (build_verdict (fault.Form rule place))) 114 refl (λ e. omega (arith, e))
  build_yes (fault.Rule rule place) = not_yes (verdict_line (build_verdict (fault.Rule rule place))) 114 refl (λ e. omega (arith, e))
  build_yes fault.Size = not_yes (verdict_line (build_verdict fault.Size)) 117 refl (λ e. omega (arith, e))
  build_yes (fault.Control need) = not_yes (verdict_line (build_verdict (fault.Control need))) 115 refl (λ e. omega (arith, e))
  build_yes (fault.Temporary need) = not_yes (verdict_line (build_verdict (fault.Temporary need))) 115 refl (λ e. omega (arith, e))
  build_yes (fault.Words count) = not_yes (verdict_line (build_verdict (fault.Words count))) 115 refl (λ e. omega (arith, e))
  build_yes fault.Memory = not_yes (verdict_line (build_verdict fault.Memory)) 117 refl (λ e. omega (arith, e))

  module _ (text bounds_text : List ℕ) (readable : IsReadable files Source name text) where
    by_bounds : (source : SourceOf) → accepted_source text ≡ Ok source → (found : Result Bounds (ℕ × ℕ))
        → reply_text (judged_reply source (stack_sizes control temporary) found) ≡ yes → HasRoom files name (stack_sizes control temporary)
    by_bounds source read (Err f) h = absurd (not_yes (verdict_line (verdict.Certificate f.0 f.1)) 99 refl (λ e. omega (arith, e)) h)
    by_bounds source read (Ok bounds) h = by_cover (is_covered (program_of source) bounds (stack_sizes control temporary)) refl h
      where
        by_cover : (b : Bool) → is_covered (program_of source) bounds (stack_sizes control temporary) ≡ b → yes_or_no b ++ [] ≡ yes
            → HasRoom files name (stack_sizes control temporary)
        by_cover false is h = absurd (not_yes (yes_or_no false ++ []) 110 refl (λ e. omega (arith, e)) h)
        by_cover true is h =
            let sizes : StackSizes = stack_sizes control temporary in
            let fits = (source_is_accepted text (omega (arith, readable.short)) source read).fits in
            let covers : Covers (program_of source) bounds sizes = (covered_is (program_of source) fits bounds sizes).0 is in
            has_room implement take files name text readable source read sizes (never (program_of source) bounds sizes covers fits)

    by_source : (found : Result SourceOf BuildFault) → accepted_source text ≡ found
        → reply_text (cert_reply_by (unless_refused found) (stack_sizes control temporary) bounds_text) ≡ yes
        → HasRoom files name (stack_sizes control temporary)
    unfolding certificate_reply
    by_source (Err f) read h = absurd (build_yes f h)
    by_source (Ok source) read h = by_bounds source read (bounds_in (procedure_names source) bounds_text) h

  cert_says : (first second : Result (List ℕ) EarlyEnd) → text_or_end (Source, name) (fetched files name (limit_of Source)) ≡ first
      → (answer_on (command.Cert name certificate control temporary) watches
      (first >>= λ t. (second >>= λ other. Ok ((Certificate, other) ∷ [])) >>= λ texts. Ok ((Source, t) ∷ texts))).text ≡ yes
      → HasRoom files name (stack_sizes control temporary)
  unfolding reply_by accepted_in
  cert_says (Err e) second got h = absurd (early_yes e h)
  cert_says (Ok text) (Err e) got h = absurd (early_yes e h)
  cert_says (Ok text) (Ok other) got h =
      let f = was_short files (Source, name) text got in
      by_source text other (record { there = f.0; short = f.1 }) (accepted_source text) refl h

-- 5. All commands.

pub needs : BuiltImplements → BuiltTakesValues → (c : Command) (watches : List Watching) (files : Files) → Needs c files (answer_to c watches files)
unfolding inputs_of need_on
needs implement take (command.Need source certificate) watches files = need_tells implement take watches files source certificate _ refl
needs implement take (command.Cert source certificate control temporary) watches files =
    λ h. cert_says implement take watches files source certificate control temporary _ _ refl h
needs implement take c watches files = tt
