-- At all sizes of the stacks from those that `need` tells, `go` prints one report.
use Rattle.std.proofs.Common.{◌≡◌, ◌≤◌, ◌-◌, ◌++◌, ◌∷◌, [], ℕ, suc, List, Option, IfOk, Result, Ok, Err, length, append-nil, refl, sym, ap, ◌∙◌, subst, arith}
use Rattle.std.{specs.Prelude.{◌^◌, codes, option_map}, specs.Fmt.decimal}
use Rattle.stack_text.{specs.Lines.line, specs.Results.◌>>=◌, specs.Values.{ValueOf, item_count}}
use Rattle.stack_shelf.{specs.Files.Files, specs.Shelf.fetched}
use Rattle.level_debuggers.specs.Tallies.{Watching}
use Rattle.fm_machine.{specs.State.Fm, specs.Run.IsFirst, specs.Outcome.{RunOutcome, IsOutcome, outcome}, specs.declared.processor.Run.Run}
use Rattle.fm_machine.proofs.RunLaws.{outcome_is}
use Rattle.fm_machine.specs.declared.processor.Run.TheVariants as run
use Rattle.fm_image.specs.Image.{ImageOf}
use Rattle.fm_loader.{specs.Loaded.loaded, specs.Values.values_in}
use Rattle.display_maps.{specs.declared.shown.Shown.Shown, specs.Reading.{ReadingOf, reading}, specs.Report.{VariableOf, reading_lines, shaped, report_text}}
use Rattle.gypsy_syntax.{specs.declared.literal.Decl.Decl, specs.Resolved.{program_of, shape_of}, specs.Sources.SourceOf}
use Rattle.gypsy_space.{specs.Costs.Tally, specs.Needs.StackSizes}
use Rattle.gypsy_semantics.{specs.Calls.CurrentCondition, specs.Counted.{CountedOutcome, uncounted, tally_of}, specs.Machine.{At, Move, Next, Ended, start}}
use Rattle.gypsy_semantics.{proofs.CountLaws.meaning-uncounted, proofs.Runs.agree}
use Rattle.gypsy_codegen.{specs.Moments.moment_from, proofs.MomentLaws.{moment_over, counts_grow}}
use Rattle.space_cert.{specs.Covers.Covers, specs.Larger.{EndsWith, IsSameRun}, proofs.LargerLaws.covered_same, proofs.LeastLaws.covers_main}
use Rattle.stack_build.{specs.declared.fault.BuildFault.BuildFault, specs.Build.{BuiltOf, Builds, BuildsText, accepted_source, built}}
use Rattle.stack_build.{specs.Formals.shown_formals, specs.Image.{slots_from, formal_slots, image_of}, specs.Implements.{FitsFormals, Finishes, meaning_shown}}
use Rattle.stack_build.{specs.Joined.{BuiltImplements, BuiltTakesValues}, specs.Moments.ArrivesAt, proofs.KnownLaws.source_is_accepted}
use Rattle.stack_build.{proofs.MeantLaws.first_once, proofs.SlotLaws.image_takes}
use Rattle.command_line.specs.declared.command.Command.TheVariants as command
use Rattle.command_line.{specs.declared.early_end.EarlyEnd.EarlyEnd, specs.declared.role.Role.TheVariants.{Source, Values}}
use Rattle.command_line.{specs.declared.status.Status.TheVariants.Done, specs.Roles.limit_of, specs.Gathered.text_or_end, specs.CommandFiles.inputs_of}
use Rattle.command_line.{specs.CommandFiles.output_of, proofs.FileLaws.was_short}
use Rattle.command_replies.{specs.Replies.status_of, specs.Commands.Run.{end_reply, run_reply}}
use Rattle.stack_commands.{specs.Commands.Build.build_reply, specs.Prepared.{stored_by, reply_by}}
use Rattle.cli_stack.{specs.Answer.{Answer, answer_with, answer_on, answer_to}, specs.FilesAndSizes.IsReadable, specs.OneResult.{TellsAlso, GoAlike}}
use Rattle.cli_stack.{specs.OneResult.LargerStacksTellTheSame, specs.Tells.{IsBuilt, TellsReport}, proofs.GoLaws.{early_done, build_done, go_done}}
use Rattle.cli_stack.{proofs.RoomLaws.needs, proofs.TellsLaws.{is_there, go_tells}}

-- 1. A report says nothing of the sizes.

-- of the slots it looks at the shapes alone
pub shaped_same : (a b : ℕ) (ds : List Decl) (read : List (List ℕ × List Shown)) → shaped (slots_from a ds) read ≡ shaped (slots_from b ds) read
unfolding shaped
shaped_same a b [] read = refl
shaped_same a b (d ∷ ds) [] = refl
shaped_same a b (d ∷ ds) (first ∷ others) =
    ap (λ (vs : List VariableOf). record { name = first.0; shape = shape_of d.shape; items = first.1 } ∷ vs)
    (shaped_same (a - item_count (shape_of d.shape)) (b - item_count (shape_of d.shape)) ds others)

abbrev told_of : SourceOf → ReadingOf → ℕ → List ℕ
told_of source read count = line (codes "finished " ++ decimal count) ++ reading_lines read.condition (shaped (formal_slots source) read.items)

report_is : (source : SourceOf) (sizes : StackSizes) (base : ℕ) (read : ReadingOf) (count : ℕ)
    → report_text (image_of source sizes base) read count ≡ told_of source read count
unfolding image_of
report_is source sizes base read count =
    ap (λ (vs : List VariableOf). line (codes "finished " ++ decimal count) ++ reading_lines read.condition vs)
    (shaped_same _ 0 (shown_formals source) read.items)

-- 2. What `go` told is what the meaning is done with.

record HasTold (source : SourceOf) (sizes : StackSizes) (values_text : List ℕ) (budget : ℕ) (answer : Answer) : Type 0 where
  values : List ValueOf
  gives : values_in (formal_slots source) values_text ≡ Ok values
  finals : List ValueOf
  way : CurrentCondition
  spent : Tally
  ends : EndsWith (program_of source) sizes values finals way spent
  within : spent.count ≤ budget
  text : answer.text ≡ told_of source (meaning_shown source finals way) spent.count

module _ (source : SourceOf) (sizes : StackSizes) (values_text : List ℕ) (budget : ℕ) (output : Option (List ℕ × List ℕ)) (b : BuiltOf) (values : List ValueOf)
    (builds : Builds source sizes b) (gives : values_in b.image.slots values_text ≡ Ok values) (fits : FitsFormals source values) where
  ended : (k : ℕ) (s : Fm) → k ≤ budget → IsFirst (loaded b.image values) b.image.final_pc k s
      → HasTold source sizes values_text budget (answer_with output (end_reply b.image budget (run.Ended k) s))
  ended k s within first = by_moment (moment_from (program_of source) sizes values (suc k)) refl (builds.moments values (suc k) fits)
    where
      by_moment : (m : Move) → moment_from (program_of source) sizes values (suc k) ≡ m → ArrivesAt source sizes b.image values m
          → HasTold source sizes values_text budget (answer_with output (end_reply b.image budget (run.Ended k) s))
      by_moment (Next (At p x w fs t)) e a =
          let grows : suc k ≤ t.count = counts_grow (program_of source) sizes values (suc k) (At p x w fs t) e in
          absurd (a.goes_on k s (omega (arith, grows)) first.reached first.there)
      by_moment (Ended x c t) e a =
          let q = program_of source in
          let once = first_once (loaded b.image values) b.image.final_pc k t.count s a.comes.state first a.comes.first in
          let shown : reading b.image s ≡ meaning_shown source x c = ap (reading b.image) once.1 ∙ a.comes.reads in
          record {
            values = values;
            gives = sym (image_takes source sizes builds.base values_text) ∙ ap (λ (i : ImageOf). values_in i.slots values_text) (sym builds.is) ∙ gives;
            finals = x;
            way = c;
            spent = t;
            ends = (suc (suc k), (agree q sizes values).ended (suc k) x c t (moment_over q sizes (suc k) (start q values) x c t e));
            within = omega (arith, within, once.0);
            text =
                append-nil _
                ∙ ap (λ (r : ReadingOf). report_text b.image r k) shown
                ∙ ap (λ (i : ImageOf). report_text i (meaning_shown source x c) k) builds.is
                ∙ report_is source sizes builds.base (meaning_shown source x c) k
                ∙ ap (λ (n : ℕ). told_of source (meaning_shown source x c) n) once.0;
          }

  run_told : status_of (run_reply b.image values budget).verdict ≡ Done → HasTold source sizes values_text budget
      (answer_with output (run_reply b.image values budget))
  unfolding run_reply
  run_told done =
      let o : RunOutcome = outcome budget b.image.final_pc (loaded b.image values) in
      by_end o.run o.state (outcome_is (loaded b.image values) b.image.final_pc budget) done
    where
      by_end : (r : Run) (s : Fm) → IsOutcome (loaded b.image values) b.image.final_pc budget r s
          → status_of (end_reply b.image budget r s).verdict ≡ Done → HasTold source sizes values_text budget
          (answer_with output (end_reply b.image budget r s))
      by_end (run.Ended k) s is done = ended k s is.0 is.1
      by_end run.Spent s is done = absurd cc
      by_end (run.Outside a k) s is done = absurd cc

-- 3. It is told again with other stacks.

finishes : (source : SourceOf) (sizes : StackSizes) (v : List ValueOf) (x : List ValueOf) (c : CurrentCondition) (t : Tally)
    → EndsWith (program_of source) sizes v x c t → Finishes source sizes v x c t.count
finishes source sizes v x c t e = record {
  bound = e.0;
  done = sym (meaning-uncounted (program_of source) sizes v e.0) ∙ ap uncounted e.1;
  counted = ap (λ (o : CountedOutcome). option_map (λ (t : Tally). t.count) (tally_of o)) e.1;
}

module _ (implement : BuiltImplements) (take : BuiltTakesValues) (watches : List Watching) (files : Files) (name text : List ℕ)
    (readable : IsReadable files Source name text) (source : SourceOf) (read : accepted_source text ≡ Ok source)
    (s t : StackSizes) (same : (v x : List ValueOf) (c : CurrentCondition) (u : Tally) → EndsWith (program_of source) s v x c u
    → EndsWith (program_of source) t v x c u) where
  abbrev Fetched : Type 0
  Fetched = Result (List ℕ) EarlyEnd

  short : length text ≤ 2 ^ 31
  short = omega (arith, readable.short)

  abbrev fetch_values : List ℕ → Fetched
  fetch_values values = text_or_end (Values, values) (fetched files values (limit_of Values))

  go_on : (sizes : StackSizes) (values image : List ℕ) (budget : ℕ) → Fetched → Fetched → Answer
  go_on sizes values image budget first second =
      answer_on (command.Go name values sizes.ctrl sizes.temp budget image) watches
      (first >>= λ t. (second >>= λ o. Ok ((Values, o) ∷ [])) >>= λ texts. Ok ((Source, t) ∷ texts))

  build_on : (image : List ℕ) → Fetched → Answer
  build_on image first = answer_on (command.Build name t.ctrl t.temp image) watches (first >>= λ text. Ok ((Source, text) ∷ []))

  -- what is built for the sizes t
  built_again : (image : List ℕ) → (build_on image (Ok text)).status ≡ Done → (b : BuiltOf) × (built text t.ctrl t.temp 0 ≡ Ok b)
  unfolding build_on reply_by
  built_again image done = by_built (built text t.ctrl t.temp 0) refl done
    where
      by_built : (found : Result BuiltOf BuildFault) → built text t.ctrl t.temp 0 ≡ found → status_of (build_reply found).verdict ≡ Done → (b : BuiltOf)
          × (built text t.ctrl t.temp 0 ≡ Ok b)
      by_built (Err f) is done = absurd (build_done f done)
      by_built (Ok b) is done = (b, is)

  made_builds : (b : BuiltOf) → built text t.ctrl t.temp 0 ≡ Ok b → Builds source t b
  made_builds b is =
      let builds : BuildsText text t.ctrl t.temp b =
      subst (λ (r : Result BuiltOf BuildFault). IfOk r (BuildsText text t.ctrl t.temp)) is (implement text t.ctrl t.temp 0 short (omega arith)) in
      let same_read : Ok builds.source ≡ Ok source = sym builds.read ∙ read in
      let one : builds.source ≡ source = cc in
      subst (λ (s : SourceOf). Builds s t b) one builds.builds

  module _ (values image other : List ℕ) (budget more : ℕ) (le : budget ≤ more) where
    by_values : (second : Fetched) → fetch_values values ≡ second → (go_on s values image budget (Ok text) second).status ≡ Done
        → (build_on other (Ok text)).status ≡ Done
        → TellsAlso (go_on s values image budget (Ok text) second) (answer_to (command.Go name values t.ctrl t.temp more other) watches files)
    unfolding go_on output_of stored_by reply_by
    by_values (Err e) got done makes = absurd (early_done e done)
    by_values (Ok written) got done makes =
        let q = program_of source in
        let there = was_short files (Values, values) written got in
        let told : HasTold source s written budget (go_on s values image budget (Ok text) (Ok written)) =
        go_done implement take text short source read s (HasTold source s written budget) written budget _
        (λ b vs builds gives fits ends. run_told source s written budget _ b vs builds gives fits ends) done in
        let b = built_again other makes in
        let made : IsBuilt files name t source b.0.image = record { text = text; readable = readable; read = read; found = b.0; made = b.1; same = refl } in
        let builds = made_builds b.0 b.1 in
        let gives : values_in b.0.image.slots written ≡ Ok told.values =
        ap (λ (i : ImageOf). values_in i.slots written) builds.is ∙ image_takes source t builds.base written ∙ told.gives in
        let again : TellsReport source b.0.image told.finals told.way told.spent.count
        (answer_to (command.Go name values t.ctrl t.temp more other) watches files) =
        go_tells files t source b.0.image written told.values told.finals told.way told.spent.count more watches gives
        (finishes source t told.values told.finals told.way told.spent (same told.values told.finals told.way told.spent told.ends))
        (omega (arith, told.within, le)) implement take name values other t.ctrl t.temp refl made (record { there = there.0; short = there.1 }) in
        record {
          status = again.status;
          text =
              again.text
              ∙ ap (λ (i : ImageOf). report_text i (meaning_shown source told.finals told.way) told.spent.count) builds.is
              ∙ report_is source t builds.base (meaning_shown source told.finals told.way) told.spent.count
              ∙ sym told.text;
        }

  go_alike : GoAlike name watches files s t
  unfolding inputs_of go_on build_on
  go_alike values image other budget more le =
      let file = is_there files (Source, name) text readable in
      subst (λ (first : Fetched). (go_on s values image budget first (fetch_values values)).status ≡ Done → (build_on other first).status ≡ Done
      → TellsAlso (go_on s values image budget first (fetch_values values)) (answer_to (command.Go name values t.ctrl t.temp more other) watches files))
      (sym file) (by_values values image other budget more le (fetch_values values) refl)

-- 4. From the sizes that `need` tells.

pub one_result : BuiltImplements → BuiltTakesValues → LargerStacksTellTheSame
one_result implement take source certificate watches files done =
    let told = (needs implement take (command.Need source certificate) watches files).done done in
    let room = told.room in
    let q = program_of room.source in
    let fits = (source_is_accepted room.text (omega (arith, room.readable.short)) room.source room.read).fits in
    let covers : Covers q told.bounds told.sizes = subst (Covers q told.bounds) (sym told.enough) (covers_main q told.bounds told.least) in
    record {
      sizes = told.sizes;
      told = told.text;
      one = λ s t small large.
          go_alike implement take watches files source room.text room.readable room.source room.read s t
          (λ v x c u e.
          let low : IsSameRun q told.sizes s v = covered_same q told.bounds told.sizes s v fits covers small in
          let high : IsSameRun q told.sizes t v = covered_same q told.bounds told.sizes t v fits covers large in
          (high.ends x c u).0 ((low.ends x c u).1 e));
    }
