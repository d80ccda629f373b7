-- `asm` after `unasm`, `cert` after `need`, and `check` beside `build`.
use Rattle.std.proofs.Common.{◌≡◌, ◌≢◌, ◌≤◌, ◌∷◌, [], ℕ, List, Bool, true, false, if◌then◌else◌, Option, Some, None, Result, Ok, Err, length, append-nil, refl}
use Rattle.std.{proofs.Common.{sym, ap, ◌∙◌, subst, arith}, specs.Prelude.{codes, nat_lt}, specs.Result.MatchResult}
use Rattle.stack_text.{specs.Results.◌>>=◌, specs.Lines.line}
use Rattle.stack_shelf.{specs.Files.{Files, file_at, put_file}, specs.Shelf.{fetched, within}}
use Rattle.level_debuggers.specs.Tallies.{Watching}
use Rattle.fm_words.specs.WindowLimit.{most_window}
use Rattle.fm_image.{specs.Image.ImageOf, specs.Reading.read_of, specs.Spelling.spelling}
use Rattle.fm_asm.{specs.Assembling.assembly_of, specs.Printing.{is_plain, assembly_text}, proofs.PrintLaws.printed_is_assembled}
use Rattle.piton_syntax.specs.Systems.{SystemOf}
use Rattle.gypsy_syntax.{specs.Programs.Program, specs.Resolved.{procedure_names, program_of}, specs.Sources.SourceOf}
use Rattle.gypsy_space.specs.Needs.{StackSizes, stack_sizes}
use Rattle.gypsy_codegen.{specs.Generation.generation, specs.declared.fault.GenFault.GenFault}
use Rattle.gypsy_codegen.specs.declared.fault.GenFault.TheVariants as gen
use Rattle.space_cert.{specs.Accepting.is_covered, specs.CertAgain.CertificatesAreReadAgain, specs.CertText.{bounds_in, certificate_text}}
use Rattle.space_cert.{specs.Certified.certified, specs.Covers.{Bounds, Covers, IsAtMost, sizes_for}, specs.Least.{AreLeastBounds, IsFirstRecursive}}
use Rattle.space_cert.{proofs.AcceptLaws.covered_is, proofs.CertAgainLaws.certificates_again, proofs.CertifiedLaws.certified_is, proofs.LeastLaws.covers_main}
use Rattle.stack_build.{specs.declared.fault.BuildFault.BuildFault, specs.Build.{accepted_source, source_built, built, generated_by, linked_of, built_with}}
use Rattle.stack_build.{specs.Build.placed_size, proofs.KnownLaws.source_is_accepted}
use Rattle.stack_build.specs.declared.fault.BuildFault.TheVariants as fault
use Rattle.command_line.specs.declared.command.Command.TheVariants as command
use Rattle.command_line.{specs.declared.early_end.EarlyEnd.EarlyEnd, specs.declared.role.Role.TheVariants.{Source, Image, Assembly, Certificate}}
use Rattle.command_line.{specs.declared.status.Status.TheVariants.{Done, Refused}, specs.Roles.limit_of, specs.Gathered.text_or_end}
use Rattle.command_line.{specs.CommandFiles.{inputs_of, output_of}, proofs.FileLaws.was_short}
use Rattle.command_replies.{specs.Replies.{status_of, reply_text, all_said, judgement_reply}, specs.Commands.Asm.assembled_stored}
use Rattle.command_replies.specs.Commands.Unasm.{printed_stored, printed_reply}
use Rattle.stack_commands.{specs.Commands.Build.{image_stored, build_reply}, specs.Commands.Cert.{yes_or_no, judged_reply, certificate_reply, cert_reply_by}}
use Rattle.stack_commands.specs.Commands.Need.{sizes_text, bounds_stored, bounds_reply, certified_stored, certified_reply, need_stored_by, need_reply_by}
use Rattle.stack_commands.{specs.Commands.SourceText.{accepted_in, unless_refused}, specs.Prepared.{stored_by, reply_by}}
use Rattle.cli_stack.{specs.Again.{HasBytes, AssembledIsTheSame, NeedIsCertified, ChecksAsBuild, CheckIsOfBuild}, specs.Answer.{Answer, set_file, answer_with}}
use Rattle.cli_stack.{specs.Answer.{answer_on, files_after}, proofs.AssemblesLaws.{spells_again, first_below}, proofs.GoLaws.{early_done, build_done}}
use Rattle.cli_stack.{proofs.PutLaws.{put_there, put_other}, proofs.TellsLaws.is_there}

abbrev Fetched : Type 0
Fetched = Result (List ℕ) EarlyEnd

-- 1. `asm` after `unasm`.

module _ (image assembly again : List ℕ) (watches : List Watching) (files : Files) (all : HasBytes files image) where
  unasm_on : Fetched → Answer
  unasm_on first = answer_on (command.Unasm image assembly) watches (first >>= λ t. Ok ((Image, t) ∷ []))

  asm_on : Fetched → Answer
  asm_on first = answer_on (command.Asm assembly again) watches (first >>= λ t. Ok ((Assembly, t) ∷ []))

  abbrev fetch_assembly : Files → Fetched
  fetch_assembly left = text_or_end (Assembly, assembly) (fetched left assembly (limit_of Assembly))

  asm_after : Answer → Answer
  asm_after made = asm_on (fetch_assembly (files_after made.output files))

  assembled : (text : List ℕ) (made : ImageOf) → assembly_of text ≡ Ok made → (asm_on (Ok text)).output ≡ Some (again, spelling made)
  unfolding asm_on output_of stored_by
  assembled text made is = ap (λ r. set_file (Some (Image, again)) (assembled_stored r)) is

  unasm_by : (first : Fetched) → text_or_end (Image, image) (fetched files image (limit_of Image)) ≡ first → (bytes : List ℕ)
      → file_at files image ≡ Some bytes → (unasm_on first).status ≡ Done → (asm_after (unasm_on first)).output ≡ Some (again, bytes)
  unfolding unasm_on asm_after output_of stored_by reply_by
  unasm_by (Err e) got bytes there done = absurd (early_done e done)
  unasm_by (Ok own) got bytes there done = by_reading (read_of own) refl done
    where
      was : (file_at files image ≡ Some own) × (length own ≤ limit_of Image)
      was = was_short files (Image, image) own got

      by_plain : (read : ImageOf) → read_of own ≡ Ok read → (b : Bool) → is_plain read ≡ b → status_of (printed_reply assembly (Ok read)).verdict ≡ Done
          → (asm_after (answer_with (set_file (Some (Assembly, assembly)) (printed_stored (Ok read))) (printed_reply assembly (Ok read)))).output
          ≡ Some (again, bytes)
      by_plain read is false plain done = absurd cc
      by_plain read is true plain done =
          let text : List ℕ = assembly_text read in
          let spelled = spells_again own read is plain (all own was.0) in
          let left : Files = put_file files assembly text in
          let fetches : fetch_assembly left ≡ Ok text =
          is_there left (Assembly, assembly) text (record { there = put_there files assembly text; short = spelled.short }) in
          let back : assembly_of text ≡ Ok read =
          printed_is_assembled read plain spelled.spells.limits (first_below read.registers 15 spelled.spells.registers) spelled.spells.words in
          let one : Some own ≡ Some bytes = sym was.0 ∙ there in
          let same : own ≡ bytes = cc in
          let stores : printed_stored (Ok read) ≡ Some text = ap (λ b. if b then Some (assembly_text read) else None) plain in
          ap (λ (o : Option (List ℕ)). (asm_on (fetch_assembly (files_after (set_file (Some (Assembly, assembly)) o) files))).output) stores
          ∙ ap (λ (f : Fetched). (asm_on f).output) fetches
          ∙ assembled text read back
          ∙ ap (λ (b : List ℕ). Some (again, b)) (sym spelled.spells.fields ∙ same)

      by_reading : (found : Result ImageOf (ℕ × ℕ)) → read_of own ≡ found → status_of (printed_reply assembly found).verdict ≡ Done
          → (asm_after (answer_with (set_file (Some (Assembly, assembly)) (printed_stored found)) (printed_reply assembly found))).output ≡ Some (again, bytes)
      by_reading (Err f) is done = absurd cc
      by_reading (Ok read) is done = by_plain read is (is_plain read) refl done

pub assembled_again : AssembledIsTheSame
unfolding inputs_of unasm_on asm_on asm_after
assembled_again image assembly again bytes watches files all there done = unasm_by image assembly again watches files all _ refl bytes there done

-- 2. `check` beside `build`.

module _ (source image : List ℕ) (control temporary : ℕ) (watches : List Watching) where
  check_on : Fetched → Answer
  check_on first = answer_on (command.Check source) watches (first >>= λ t. Ok ((Source, t) ∷ []))

  build_on : Fetched → Answer
  build_on first = answer_on (command.Build source control temporary image) watches (first >>= λ t. Ok ((Source, t) ∷ []))

  -- a source that was read is refused for its sizes alone
  not_refused : (made : Result SystemOf GenFault) (s : SourceOf) → status_of
      (build_reply (generated_by made >>= linked_of s (stack_sizes control temporary) 0)).verdict ≡ Refused → ⊥
  unfolding linked_of
  not_refused (Err gen.Size) s h = cc
  not_refused (Err (gen.Control need)) s h = cc
  not_refused (Err (gen.Temporary need)) s h = cc
  not_refused (Err (gen.Words count)) s h = cc
  not_refused (Err gen.Memory) s h = cc
  not_refused (Ok system) s h = by_size (nat_lt most_window (placed_size s (stack_sizes control temporary) 0)) h
    where
      by_size : (b : Bool) → status_of (build_reply
          (if b then Err (fault.Words (placed_size s (stack_sizes control temporary) 0))
          else Ok (built_with s (stack_sizes control temporary) 0 system))).verdict ≡ Refused → ⊥
      by_size true h = cc
      by_size false h = cc

  check_by : (first : Fetched) → ChecksAsBuild (check_on first) (build_on first)
  unfolding check_on build_on output_of stored_by reply_by accepted_in built source_built
  check_by (Err e) = record { goes = λ done. absurd (early_done e done); stops = λ other. refl }
  check_by (Ok text) = by_source (accepted_source text)
    where
      by_source : (found : Result SourceOf BuildFault) →
          ChecksAsBuild (answer_with None (judgement_reply (unless_refused found)))
          (answer_with (set_file (Some (Image, image))
          (image_stored (found >>= λ s. generated_by (generation s (stack_sizes control temporary) 0)
          >>= linked_of s (stack_sizes control temporary) 0)))
          (build_reply (found >>= λ s. generated_by (generation s (stack_sizes control temporary) 0) >>= linked_of s (stack_sizes control temporary) 0)))
      by_source (Err f) = record { goes = λ done. absurd (build_done f done); stops = λ other. refl }
      by_source (Ok s) = record { goes = λ done. not_refused (generation s (stack_sizes control temporary) 0) s; stops = λ other. absurd (other refl) }

pub checked_before : CheckIsOfBuild
unfolding inputs_of check_on build_on
checked_before source image control temporary watches files = check_by source image control temporary watches _

-- 3. `cert` after `need`.

module _ (source certificate : List ℕ) (watches : List Watching) (files : Files) (differ : certificate ≢ source) where
  need_on : Fetched → Answer
  need_on first = answer_on (command.Need source certificate) watches (first >>= λ t. Ok ((Source, t) ∷ []))

  cert_on : StackSizes → Fetched → Fetched → Answer
  cert_on sizes first second =
      answer_on (command.Cert source certificate sizes.ctrl sizes.temp) watches
      (first >>= λ t. (second >>= λ o. Ok ((Certificate, o) ∷ [])) >>= λ texts. Ok ((Source, t) ∷ texts))

  abbrev fetch_source : Files → Fetched
  fetch_source left = text_or_end (Source, source) (fetched left source (limit_of Source))

  abbrev fetch_certificate : Files → Fetched
  fetch_certificate left = text_or_end (Certificate, certificate) (fetched left certificate (limit_of Certificate))

  cert_after : StackSizes → Answer → Answer
  cert_after sizes made = let left = files_after made.output files in cert_on sizes (fetch_source left) (fetch_certificate left)

  -- needed by sizes, told and certified
  record Certified (need : Answer) : Type 0 where
    sizes : StackSizes
    told : need.text ≡ sizes_text sizes
    yes : (larger : StackSizes) → IsAtMost sizes larger → (cert_after larger need).text ≡ line (codes "yes")

  says_yes : (text written : List ℕ) (s : SourceOf) (bounds : Bounds) (sizes : StackSizes) → accepted_source text ≡ Ok s
      → bounds_in (procedure_names s) written ≡ Ok bounds → is_covered (program_of s) bounds sizes ≡ true
      → (cert_on sizes (Ok text) (Ok written)).text ≡ line (codes "yes")
  unfolding cert_on output_of stored_by reply_by accepted_in certificate_reply
  says_yes text written s bounds sizes read reads covered =
      ap (λ (r : Result SourceOf BuildFault). reply_text (cert_reply_by (unless_refused r) (stack_sizes sizes.ctrl sizes.temp) written)) read
      ∙ ap (λ (r : Result Bounds (ℕ × ℕ)). reply_text (judged_reply s (stack_sizes sizes.ctrl sizes.temp) r)) reads
      ∙ ap (λ (b : Bool). reply_text (all_said (yes_or_no b))) covered

  need_by : CertificatesAreReadAgain → (first : Fetched) → fetch_source files ≡ first → (need_on first).status ≡ Done → Certified (need_on first)
  unfolding need_on cert_after output_of stored_by reply_by accepted_in certified_stored certified_reply
  need_by again (Err e) got done = absurd (early_done e done)
  need_by again (Ok text) got done = by_source (accepted_source text) refl done
    where
      was : (file_at files source ≡ Some text) × (length text ≤ limit_of Source)
      was = was_short files (Source, source) text got

      by_bounds : (s : SourceOf) → accepted_source text ≡ Ok s → (found : Result Bounds ℕ) → certified (program_of s) ≡ found
          → status_of (bounds_reply s found).verdict ≡ Done
          → Certified (answer_with (set_file (Some (Certificate, certificate)) (bounds_stored s found)) (bounds_reply s found))
      by_bounds s read (Err p) is done = absurd cc
      by_bounds s read (Ok bounds) is done =
          let q = program_of s in
          let accepted = source_is_accepted text (omega (arith, was.1)) s read in
          let least : AreLeastBounds q bounds =
          subst (λ (r : Result Bounds ℕ). MatchResult r (AreLeastBounds q) (IsFirstRecursive q)) is (certified_is q accepted.fits) in
          let covers : Covers q bounds (sizes_for q bounds) = covers_main q bounds least in
          let reads = again s bounds accepted is in
          let written : List ℕ = certificate_text (procedure_names s) bounds in
          let left : Files = put_file files certificate written in
          let there : fetch_certificate left ≡ Ok written = is_there left (Certificate, certificate) written
          (record { there = put_there files certificate written; short = omega (arith, reads.short) }) in
          let kept : fetch_source left ≡ Ok text = ap (λ (o : Option (List ℕ)). text_or_end (Source, source) (within (limit_of Source) o))
          (put_other files certificate written source differ) ∙ got in
          record {
            sizes = sizes_for q bounds;
            told = append-nil _;
            yes = λ larger most.
                let covered : is_covered q bounds larger ≡ true = (covered_is q accepted.fits bounds larger).1 (more covers most) in
                ap (λ (first : Fetched). (cert_on larger first (fetch_certificate left)).text) kept
                ∙ ap (λ (second : Fetched). (cert_on larger (Ok text) second).text) there
                ∙ says_yes text written s bounds larger read reads.again covered;
          }
        where
          more : {q : Program} {bs : Bounds} {s t : StackSizes} → Covers q bs s → IsAtMost s t → Covers q bs t
          more c m = record {
            certificate = c.certificate;
            within =
                record { temp = omega (arith, c.within.temp, m.temp); ctrl = omega (arith, c.within.ctrl, m.ctrl) };
          }

      by_source : (found : Result SourceOf BuildFault) → accepted_source text ≡ found → status_of (need_reply_by (unless_refused found)).verdict ≡ Done
          → Certified (answer_with (set_file (Some (Certificate, certificate)) (need_stored_by (unless_refused found))) (need_reply_by (unless_refused found)))
      by_source (Err f) read done = absurd (build_done f done)
      by_source (Ok s) read done = by_bounds s read (certified (program_of s)) refl done

pub certified_after : NeedIsCertified
unfolding inputs_of need_on cert_after cert_on
certified_after source certificate watches files differ done =
    let c = need_by source certificate watches files differ certificates_again _ refl done in
    record { sizes = c.sizes; told = c.told; yes = c.yes }
