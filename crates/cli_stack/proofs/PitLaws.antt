-- What `pit` stores carries the meaning of its source, and `pbuild` of it makes what `build` does.
use Rattle.std.proofs.Common.{◌≡◌, ◌≤◌, ◌∷◌, [], ℕ, List, Bool, true, false, if◌then◌else◌, Option, Some, None, Result, Ok, Err, length, map, refl, sym, ap}
use Rattle.std.{proofs.Common.{◌∙◌, subst, arith}, specs.Prelude.nat_lt}
use Rattle.fm_words.specs.WindowLimit.{most_window}
use Rattle.stack_text.{specs.Breaches.least, specs.declared.breach.Breach.Breach, specs.Results.{◌>>=◌, unless_fault}}
use Rattle.stack_shelf.{specs.Files.{Files, file_at, put_file}, specs.Shelf.fetched}
use Rattle.level_debuggers.specs.Tallies.{Watching}
use Rattle.fm_image.specs.Spelling.{spelling}
use Rattle.piton_syntax.{specs.Printed.piton_text, specs.Systems.SystemOf, proofs.PrintingLaws.piton_text_reads}
use Rattle.piton_check.{specs.Instruction.{SystemView, system_view}, specs.Places.PlacesChangeNothing, specs.PitonChecking.CheckedOf, specs.Resolved.resolved}
use Rattle.piton_check.specs.Violations.{violations}
use Rattle.piton_semantics.{specs.Fits.system_in, specs.Placed.placed, specs.StateView.started}
use Rattle.gypsy_syntax.{specs.Resolved.program_of, specs.Sources.SourceOf}
use Rattle.gypsy_check.specs.Accepted.{IsAccepted}
use Rattle.gypsy_space.specs.Needs.{StackSizes, stack_sizes}
use Rattle.gypsy_semantics.specs.Calls.{main_start}
use Rattle.gypsy_codegen.{specs.Acceptable.{LimitsFit, GeneratedIsAcceptable, SourceRuns}, specs.Generated.generated_view, specs.Generation.size_fault}
use Rattle.gypsy_codegen.{specs.Generation.{generation, SystemImplements}, specs.Moments.{EachMomentIsReached, HasMoment, moment_from}, specs.Text.generated}
use Rattle.gypsy_codegen.{specs.Whole.RunsTo, specs.WordsOf.words_of_values, specs.declared.fault.GenFault.GenFault, proofs.AnswerLaws.limits_fit}
use Rattle.stack_build.{specs.declared.fault.BuildFault.BuildFault, specs.Build.{BuiltOf, accepted_source, generated_by, generating_fault, built_with}}
use Rattle.stack_build.{specs.Build.{linked_of, source_built, compiled, built}, specs.Image.{linked_image, image_of}, proofs.KnownLaws.source_is_accepted}
use Rattle.stack_build.specs.declared.fault.BuildFault.TheVariants as fault
use Rattle.command_line.specs.declared.command.Command.TheVariants as command
use Rattle.command_line.{specs.declared.early_end.EarlyEnd.EarlyEnd, specs.declared.role.Role.TheVariants.{Source, Piton, Image}}
use Rattle.command_line.{specs.declared.status.Status.TheVariants.Done, specs.Roles.limit_of, specs.Gathered.text_or_end, specs.CommandFiles.inputs_of}
use Rattle.command_line.{specs.CommandFiles.output_of, proofs.FileLaws.was_short}
use Rattle.command_replies.specs.declared.reply.SizeOf.TheVariants as size
use Rattle.command_replies.{specs.declared.reply.Verdict.Verdict, specs.Replies.{verdict_alone, built_reply}, specs.Commands.PitonText.checked_unless}
use Rattle.command_replies.specs.Commands.PitonText.{checked_by, checked_in}
use Rattle.command_replies.specs.declared.reply.Verdict.TheVariants as verdict
use Rattle.stack_commands.{specs.Commands.Build.{image_stored, build_reply}, specs.Commands.Pbuild.{linked_stored, linked_reply, checked_stored, checked_reply}}
use Rattle.stack_commands.{specs.Commands.Pit.{pit_stored, pit_reply}, specs.Prepared.{stored_by, reply_by}}
use Rattle.cli_stack.{specs.Answer.{Answer, set_file, answer_with, answer_on, files_after}, specs.InARow.EndsAlike, specs.PitAndPbuild.HoldsSystem}
use Rattle.cli_stack.{specs.PitAndPbuild.{PitCarriesMeanings, StoresUntold, IsBuildInTwo, BuildIsPitAndPbuild}, proofs.PutLaws.put_there}
use Rattle.cli_stack.{proofs.RoleLaws.set_bytes, proofs.TellsLaws.is_there}

abbrev Fetched : Type 0
Fetched = Result (List ℕ) EarlyEnd

-- 1. The text of a generated system is checked, and its system is that of the source.

no_rules : (bs : List Breach) → map (λ (b : Breach). b.rule) bs ≡ [] → bs ≡ []
no_rules [] e = refl
no_rules (b ∷ bs) e = absurd cc

record IsReread (s : SourceOf) (sizes : StackSizes) : Type 0 where
  checked : CheckedOf
  reads : checked_in (piton_text (generated s sizes 0)) ≡ Ok checked
  view : system_in checked ≡ generated_view (program_of s) sizes 0

reread : GeneratedIsAcceptable → PlacesChangeNothing → (s : SourceOf) (sizes : StackSizes) → IsAccepted s → LimitsFit (program_of s) sizes 0 → IsReread s sizes
unfolding checked_in
reread acceptable places s sizes accepted limits =
    let g : SystemOf = generated s sizes 0 in
    let a = acceptable s sizes 0 accepted limits in
    let again = piton_text_reads g a.form in
    let r : SystemOf = again.0 in
    let same = places r g again.2 in
    let none : violations r ≡ [] = no_rules (violations r) (same.0 ∙ ap (λ (bs : List Breach). map (λ (b : Breach). b.rule) bs) a.rules) in
    record {
      checked = record { system = r; resolved = resolved r };
      reads = ap checked_by again.1 ∙ ap (λ (bs : List Breach). checked_unless r (least bs)) none;
      view = ap system_view same.1 ∙ a.view;
    }

implements : SourceRuns → EachMomentIsReached → GeneratedIsAcceptable → (s : SourceOf) (sizes : StackSizes) (c : CheckedOf) → IsAccepted s
    → LimitsFit (program_of s) sizes 0 → system_in c ≡ generated_view (program_of s) sizes 0
    → SystemImplements s sizes 0 c
implements runs moments acceptable s sizes c accepted limits view =
    let q = program_of s in
    let seen : system_in c ≡ system_view (resolved (generated s sizes 0)) = view ∙ sym (acceptable s sizes 0 accepted limits).view in
    record {
      view = view;
      runs = λ v n x w fit done.
          let run = runs s sizes 0 v n x w accepted limits fit done in
          (run.0, run.1, subst (λ (z : SystemView). RunsTo z (started z (words_of_values (main_start q v))) x w run.0) (sym seen) run.2);
      moments = λ v j fit.
          subst (λ (z : SystemView). HasMoment q z (started z (words_of_values (main_start q v))) (moment_from q sizes v j)) (sym view)
          (moments q sizes 0 v j accepted.fits limits.sizes_fit fit);
      limits = limits;
    }

-- 2. What `pit` and `build` make of a source.

-- of a source that is within the limits, a system and what is linked of it; and else a fault
data Made (s : SourceOf) (sizes : StackSizes) : Type 0 where
  Fault : (f : GenFault) → generation s sizes 0 ≡ Err f → Made s sizes
  System : generation s sizes 0 ≡ Ok (generated s sizes 0) → LimitsFit (program_of s) sizes 0 → Made s sizes

made : (s : SourceOf) (sizes : StackSizes) → Made s sizes
made s sizes = by_fault (size_fault (program_of s) sizes) refl
  where
    by_fault : (o : Option GenFault) → size_fault (program_of s) sizes ≡ o → Made s sizes
    by_fault (Some f) is = Fault f (ap (λ (o : Option GenFault). unless_fault o (generated s sizes 0)) is)
    by_fault None is = System (ap (λ (o : Option GenFault). unless_fault o (generated s sizes 0)) is) (limits_fit (program_of s) sizes 0 (omega arith) is)

module _ (acceptable : GeneratedIsAcceptable) (places : PlacesChangeNothing) (source piton : List ℕ) (control temporary : ℕ) (watches : List Watching)
    (files : Files) where
  abbrev pit_made : Result SystemOf BuildFault → Answer
  pit_made found = answer_with (set_file (Some (Piton, piton)) (pit_stored found)) (pit_reply piton found)

  pit_on : Fetched → Answer
  pit_on first = answer_on (command.Pit source control temporary piton) watches (first >>= λ t. Ok ((Source, t) ∷ []))

  pit_is : (text : List ℕ) (found : Result SystemOf BuildFault) → compiled text control temporary 0 ≡ found → pit_on (Ok text) ≡ pit_made found
  unfolding pit_on output_of stored_by reply_by
  pit_is text found is = ap pit_made is

  compiled_is : (text : List ℕ) (s : SourceOf) (found : Result SystemOf GenFault) → accepted_source text ≡ Ok s
      → generation s (stack_sizes control temporary) 0 ≡ found → compiled text control temporary 0 ≡ generated_by found
  unfolding compiled
  compiled_is text s found read is = ap (λ (r : Result SourceOf BuildFault). r >>= λ source. generated_by
      (generation source (stack_sizes control temporary) 0)) read ∙ ap generated_by is

  compiled_not : (text : List ℕ) (f : BuildFault) → accepted_source text ≡ Err f → compiled text control temporary 0 ≡ Err f
  unfolding compiled
  compiled_not text f read = ap (λ (r : Result SourceOf BuildFault). r >>= λ source. generated_by (generation source (stack_sizes control temporary) 0)) read

  module _ (runs : SourceRuns) (moments : EachMomentIsReached) where
    pit_holds : (first : Fetched) → text_or_end (Source, source) (fetched files source (limit_of Source)) ≡ first → (stored text : List ℕ)
        → (pit_on first).output ≡ Some (stored, text) → HoldsSystem files source (stack_sizes control temporary) text
    unfolding pit_on
    pit_holds (Err e) got stored text sets = absurd (let none : None ≡ Some (stored, text) = sets in cc)
    pit_holds (Ok own) got stored text sets = by_source (accepted_source own) refl
      where
        was : (file_at files source ≡ Some own) × (length own ≤ limit_of Source)
        was = was_short files (Source, source) own got

        by_source : (found : Result SourceOf BuildFault) → accepted_source own ≡ found → HoldsSystem files source (stack_sizes control temporary) text
        by_source (Err f) read = absurd (let none : None ≡ Some (stored, text) = sym
            (ap (λ (a : Answer). a.output) (pit_is own (Err f) (compiled_not own f read))) ∙ sets in cc)
        by_source (Ok s) read = by_made (made s (stack_sizes control temporary))
          where
            by_made : Made s (stack_sizes control temporary) → HoldsSystem files source (stack_sizes control temporary) text
            by_made (Fault f is) =
                absurd (let none : None ≡ Some (stored, text) = sym
                (ap (λ (a : Answer). a.output) (pit_is own (Err (generating_fault f)) (compiled_is own s (Err f) read is))) ∙ sets in cc)
            by_made (System is limits) =
                let accepted = source_is_accepted own (omega (arith, was.1)) s read in
                let again = reread acceptable places s (stack_sizes control temporary) accepted limits in
                let same : piton_text (generated s (stack_sizes control temporary) 0) ≡ text =
                ap set_bytes (sym (ap (λ (a : Answer). a.output)
                (pit_is own (Ok (generated s (stack_sizes control temporary) 0))
                (compiled_is own s (Ok (generated s (stack_sizes control temporary) 0)) read is))) ∙ sets) in
                record {
                  source_text = own;
                  there = was.0;
                  source = s;
                  read = read;
                  checked = again.checked;
                  reads = ap checked_in (sym same) ∙ again.reads;
                  implements = implements runs moments acceptable s (stack_sizes control temporary) again.checked accepted limits again.view;
                }

  -- 3. `build` in two.

  module _ (image name : List ℕ) where
    abbrev build_made : Result BuiltOf BuildFault → Answer
    build_made found = answer_with (set_file (Some (Image, image)) (image_stored found)) (build_reply found)

    abbrev pbuild_made : Result CheckedOf Verdict → Answer
    pbuild_made found = answer_with (set_file (Some (Image, name)) (checked_stored found)) (checked_reply found)

    build_on : Fetched → Answer
    build_on first = answer_on (command.Build source control temporary image) watches (first >>= λ t. Ok ((Source, t) ∷ []))

    pbuild_on : Fetched → Answer
    pbuild_on first = answer_on (command.Pbuild piton name) watches (first >>= λ t. Ok ((Piton, t) ∷ []))

    build_is : (text : List ℕ) (found : Result BuiltOf BuildFault) → built text control temporary 0 ≡ found → build_on (Ok text) ≡ build_made found
    unfolding build_on output_of stored_by reply_by
    build_is text found is = ap build_made is

    pbuild_is : (text : List ℕ) (found : Result CheckedOf Verdict) → checked_in text ≡ found → pbuild_on (Ok text) ≡ pbuild_made found
    unfolding pbuild_on output_of stored_by reply_by
    pbuild_is text found is = ap pbuild_made is

    built_not : (text : List ℕ) (f : BuildFault) → accepted_source text ≡ Err f → built text control temporary 0 ≡ Err f
    unfolding built
    built_not text f read = ap (λ (r : Result SourceOf BuildFault). r >>= λ source. source_built source (stack_sizes control temporary) 0) read

    built_is : (text : List ℕ) (s : SourceOf) (found : Result SystemOf GenFault) → accepted_source text ≡ Ok s
        → generation s (stack_sizes control temporary) 0 ≡ found
        → built text control temporary 0 ≡ (generated_by found >>= linked_of s (stack_sizes control temporary) 0)
    unfolding built source_built
    built_is text s found read is =
        ap (λ (r : Result SourceOf BuildFault). r >>= λ source. source_built source (stack_sizes control temporary) 0) read
        ∙ ap (λ (r : Result SystemOf GenFault). generated_by r >>= linked_of s (stack_sizes control temporary) 0) is

    abbrev fetch_piton : Files → Fetched
    fetch_piton left = text_or_end (Piton, piton) (fetched left piton (limit_of Piton))

    pbuild_after : Answer → Answer
    pbuild_after pit = pbuild_on (fetch_piton (files_after pit.output files))

    -- what `build` makes of a system, and what `pbuild` does
    module _ (s : SourceOf) (system : SystemOf) where
      abbrev shape : SystemView
      shape = generated_view (program_of s) (stack_sizes control temporary) 0

      abbrev built_if : Bool → Answer
      built_if b = build_made (if b then Err (fault.Words (placed shape).size) else Ok (built_with s (stack_sizes control temporary) 0 system))

      abbrev linked_if : Bool → Answer
      linked_if b =
          answer_with (set_file (Some (Image, name)) (if b then None else Some (spelling (linked_image shape))))
          (if b then verdict_alone (verdict.Size size.Words (placed shape).size) else built_reply (linked_image shape).size)

      abbrev linked_made : SystemView → Answer
      linked_made w = answer_with (set_file (Some (Image, name)) (linked_stored w)) (linked_reply w)

      alike_if : (b : Bool) → EndsAlike (built_if b) (linked_if b)
      unfolding image_of
      alike_if true = record { status = refl; text = refl; machine = refl }
      alike_if false = record { status = refl; text = refl; machine = refl }

      untold_if : (b : Bool) → (built_if b).status ≡ Done → StoresUntold (built_if b) (linked_if b) image name
      unfolding image_of
      untold_if true done = absurd cc
      untold_if false done = record { of = image_of s (stack_sizes control temporary) 0; told = refl; untold = refl }

      ends_alike : EndsAlike (build_made (linked_of s (stack_sizes control temporary) 0 system)) (linked_made shape)
      unfolding linked_of
      ends_alike = alike_if (nat_lt most_window (placed shape).size)

      stores_untold : (build_made (linked_of s (stack_sizes control temporary) 0 system)).status ≡ Done
          → StoresUntold (build_made (linked_of s (stack_sizes control temporary) 0 system)) (linked_made shape) image name
      unfolding linked_of
      stores_untold done = untold_if (nat_lt most_window (placed shape).size) done

      linked_is : (c : CheckedOf) (text : List ℕ) → checked_in text ≡ Ok c → system_in c ≡ shape → pbuild_on (Ok text) ≡ linked_made shape
      linked_is c text reads view = pbuild_is text (Ok c) reads ∙ ap linked_made view

    abbrev InTwo : Fetched → Type 0
    InTwo first = IsBuildInTwo piton image name (build_on first) (pit_on first) (pbuild_after (pit_on first))

    -- nothing is stored where `pit` doesn't end well
    unread : (e : EarlyEnd) → InTwo (Err e)
    unfolding build_on pit_on
    unread e = record {
      stops = λ other. refl;
      ends = λ text sets short. absurd (let none : None ≡ Some (piton, text) = sets in cc);
      stores = λ text sets short done. absurd (let none : None ≡ Some (piton, text) = sets in cc);
    }

    by_fault : (own : List ℕ) (f : BuildFault) → compiled own control temporary 0 ≡ Err f → built own control temporary 0 ≡ Err f → InTwo (Ok own)
    by_fault own f pits builds =
        let pit = pit_is own (Err f) pits in
        let build = build_is own (Err f) builds in
        let none : (pit_on (Ok own)).output ≡ None = ap (λ (a : Answer). a.output) pit in
        record {
          stops = λ other. build ∙ sym pit;
          ends = λ text sets short. absurd (let no : None ≡ Some (piton, text) = sym none ∙ sets in cc);
          stores = λ text sets short done. absurd (let no : None ≡ Some (piton, text) = sym none ∙ sets in cc);
        }

    in_two : (first : Fetched) → text_or_end (Source, source) (fetched files source (limit_of Source)) ≡ first → InTwo first
    unfolding pbuild_after pbuild_on
    in_two (Err e) got = unread e
    in_two (Ok own) got = by_source (accepted_source own) refl
      where
        was : (file_at files source ≡ Some own) × (length own ≤ limit_of Source)
        was = was_short files (Source, source) own got

        by_source : (found : Result SourceOf BuildFault) → accepted_source own ≡ found → InTwo (Ok own)
        by_source (Err f) read = by_fault own f (compiled_not own f read) (built_not own f read)
        by_source (Ok s) read = by_made (made s (stack_sizes control temporary))
          where
            by_made : Made s (stack_sizes control temporary) → InTwo (Ok own)
            by_made (Fault f is) = by_fault own (generating_fault f) (compiled_is own s (Err f) read is) (built_is own s (Err f) read is)
            by_made (System is limits) =
                let g : SystemOf = generated s (stack_sizes control temporary) 0 in
                let accepted = source_is_accepted own (omega (arith, was.1)) s read in
                let again = reread acceptable places s (stack_sizes control temporary) accepted limits in
                let pit : pit_on (Ok own) ≡ pit_made (Ok g) = pit_is own (Ok g) (compiled_is own s (Ok g) read is) in
                let build : build_on (Ok own) ≡ build_made (linked_of s (stack_sizes control temporary) 0 g) =
                build_is own (linked_of s (stack_sizes control temporary) 0 g) (built_is own s (Ok g) read is) in
                let left : Files = put_file files piton (piton_text g) in
                let pbuild : length (piton_text g) ≤ limit_of Piton → pbuild_after (pit_on (Ok own))
                ≡ linked_made s g (generated_view (program_of s) (stack_sizes control temporary) 0) =
                λ short.
                ap pbuild_after pit
                ∙ ap pbuild_on (is_there left (Piton, piton) (piton_text g) (record { there = put_there files piton (piton_text g); short = short }))
                ∙ linked_is s g again.checked (piton_text g) again.reads again.view in
                let text_is : (text : List ℕ) → (pit_on (Ok own)).output ≡ Some (piton, text) → piton_text g ≡ text =
                λ text sets. ap set_bytes (sym (ap (λ (a : Answer). a.output) pit) ∙ sets) in
                record {
                  stops = λ other. absurd (other (ap (λ (a : Answer). a.status) pit));
                  ends = λ text sets short.
                      let few : length (piton_text g) ≤ limit_of Piton = subst (λ (t : List ℕ). length t ≤ limit_of Piton) (sym (text_is text sets)) short in
                      subst (EndsAlike (build_on (Ok own))) (sym (pbuild few))
                      (subst (λ (a : Answer). EndsAlike a (linked_made s g (generated_view (program_of s) (stack_sizes control temporary) 0)))
                      (sym build) (ends_alike s g));
                  stores = λ text sets short done.
                      let few : length (piton_text g) ≤ limit_of Piton = subst (λ (t : List ℕ). length t ≤ limit_of Piton) (sym (text_is text sets)) short in
                      let ended : (build_made (linked_of s (stack_sizes control temporary) 0 g)).status ≡ Done =
                      ap (λ (a : Answer). a.status) (sym build) ∙ done in
                      subst (λ (a : Answer). StoresUntold (build_on (Ok own)) a image name) (sym (pbuild few))
                      (subst (λ (a : Answer). StoresUntold a (linked_made s g (generated_view (program_of s) (stack_sizes control temporary) 0)) image
                      name) (sym build) (stores_untold s g ended));
                }

pub pit_carries : GeneratedIsAcceptable → PlacesChangeNothing → SourceRuns → EachMomentIsReached → PitCarriesMeanings
unfolding inputs_of pit_on
pit_carries acceptable places runs moments source piton stored text control temporary watches files sets =
    pit_holds acceptable places source piton control temporary watches files runs moments _ refl stored text sets

pub build_in_two : GeneratedIsAcceptable → PlacesChangeNothing → BuildIsPitAndPbuild
unfolding inputs_of pit_on build_on pbuild_on pbuild_after
build_in_two acceptable places source piton image name control temporary watches files =
    in_two acceptable places source piton control temporary watches files image name _ refl
