-- What is stored of a Piton text does what its system does.
use Rattle.std.proofs.Common.{◌≡◌, ◌≤◌, ℕ, Bool, true, false, List, [], ◌∷◌, ◌++◌, Some, None, Result, Ok, Err, length, refl, sym, ap, ◌∙◌, subst, append-nil}
use Rattle.std.{proofs.Common.arith, specs.Prelude.{◌^◌, if◌then◌else◌, codes}, specs.Fmt.decimal, proofs.lemmas.Bool.ltb-false}
use Rattle.stack_text.{specs.Results.◌>>=◌, specs.Lines.line}
use Rattle.level_debuggers.specs.Tallies.{Watching}
use Rattle.stack_shelf.{specs.Files.{Files, file_at}, specs.Shelf.fetched}
use Rattle.fm_machine.{specs.Outcome.{RunOutcome, outcome}, specs.declared.processor.Run.TheVariants.Ended, proofs.RunLaws.outcome_only, specs.State.Fm}
use Rattle.fm_image.{specs.Image.ImageOf, specs.Spelling.{spelling, Spelled}, proofs.ImageLaws.spelled_reads}
use Rattle.fm_loader.specs.Loaded as loader
use Rattle.fm_loader.specs.Values.{values_in}
use Rattle.piton_check.specs.PitonChecking.{CheckedOf, IsChecked}
use Rattle.piton_semantics.{specs.Fits.{IsInitialStack, system_in}, specs.Placed.placed}
use Rattle.piton_linker.{specs.Theorem.ComesToStand, proofs.ProcessorLaws.checked_runs}
use Rattle.display_maps.specs.Report.{shaped}
use Rattle.stack_build.{specs.Image.linked_image, specs.PlacedWords.PlacedAreWords}
use Rattle.command_line.{specs.declared.command.Command.Command, specs.declared.early_end.EarlyEnd.EarlyEnd, specs.declared.role.Role.Role}
use Rattle.command_line.{specs.declared.role.Role.TheVariants.{Source, Piton, Values, Image, Assembly, QuickImage}, specs.Roles.limit_of, specs.Gathered.Texts}
use Rattle.command_line.{specs.Gathered.text_or_end, specs.CommandFiles.{inputs_of, output_of}, proofs.FileLaws.was_short}
use Rattle.command_line.specs.declared.command.Command.TheVariants as command
use Rattle.command_replies.{specs.declared.reply.Verdict.Verdict, specs.declared.reply.Verdict.TheVariants.Done, specs.Replies.{ReplyOf, status_of}}
use Rattle.command_replies.{specs.Replies.verdict_line, specs.Commands.Run.{outcome_reply, run_reply, image_file_reply}, specs.Commands.PitonText.checked_in}
use Rattle.stack_commands.{specs.Commands.Pbuild.{is_large, checked_stored}, specs.Prepared.{stored_by, reply_by}, proofs.LinkedLaws.image_short}
use Rattle.stack_commands.proofs.LinkedLaws.{image_spelled}
use Rattle.cli_stack.{specs.Answer.{set_file, answer_on, answer_to}, specs.FilesAndSizes.IsReadable, specs.Links.{cost_to_step, FollowsSystem, TellsCost}}
use Rattle.cli_stack.{specs.Links.{TellsCosts, HoldsLinked, StoresLinked}, proofs.RoleLaws.{set_bytes, written_role, only_file, only_role, both_roles}}
use Rattle.cli_stack.{proofs.KnownLaws.text_is_checked, proofs.LoadedLaws.image_loaded, proofs.TellsLaws.both_there}

-- 1. The image of a checked system.

-- the answer of `run`, where a file spells the image and another gives no values
run_tells : (image : ImageOf) (bytes values_text : List ℕ) (files : Files) (image_name values_name : List ℕ) (budget count : ℕ)
    (watches : List Watching) → Spelled bytes image → values_in image.slots values_text ≡ Ok []
    → IsReadable files Image image_name bytes → IsReadable files Values values_name values_text → (run_reply image [] budget).verdict ≡ Done
    → (run_reply image [] budget).said ≡ line (codes "finished " ++ decimal count)
    → TellsCost count (answer_to (command.Run image_name values_name budget) watches files)
unfolding inputs_of reply_by
run_tells image bytes values_text files image_name values_name budget count watches spells gives there there' ends says =
    let reply : ReplyOf = image_file_reply bytes values_text budget in
    let is : image_file_reply bytes values_text budget ≡ run_reply image [] budget = rw (spelled_reads bytes image spells, gives) refl in
    let verdict : reply.verdict ≡ Done = ap (λ (r : ReplyOf). r.verdict) is ∙ ends in
    let said : reply.said ≡ line (codes "finished " ++ decimal count) = ap (λ (r : ReplyOf). r.said) is ∙ says in
    subst (λ (r : Result Texts EarlyEnd). TellsCost count (answer_on (command.Run image_name values_name budget) watches r))
    (sym (both_there files (Image, image_name) (Values, values_name) bytes values_text there there'))
    (record { status = ap status_of verdict; text = ap (λ (v : Verdict). reply.said ++ verdict_line v) verdict ∙ append-nil reply.said ∙ said })

module _ (c : CheckedOf) (is : IsChecked c) (small : (placed (system_in c)).size ≤ 2 ^ 20) where
  image_runs : FollowsSystem (linked_image (system_in c)) (system_in c)
  image_runs j state comes =
      let initial : IsInitialStack (system_in c) (system_in c).stack = record { as_long = refl; words = is.sound.stack } in
      subst (λ (m : Fm). ComesToStand (system_in c) m (cost_to_step (system_in c) j) state) (sym (image_loaded c is))
      (checked_runs c is small (system_in c).stack j state initial comes)

  image_tells : (bytes : List ℕ) → Spelled bytes (linked_image (system_in c)) → TellsCosts bytes (system_in c)
  unfolding run_reply shaped
  image_tells bytes spells files image_name values_name values_text budget watches j state there there' gives comes halts enough =
      let image = linked_image (system_in c) in
      let end = image_runs j state comes in
      let count : ℕ = cost_to_step (system_in c) j in
      let ends : outcome budget image.final_pc (loader.loaded image []) ≡ record { run = Ended count; state = end.state } =
      outcome_only (loader.loaded image []) image.final_pc budget (Ended count) end.state
      (enough, record { reached = end.runs; there = end.halted.0 halts; before = end.before }) in
      run_tells image bytes values_text files image_name values_name budget count watches spells gives there there'
      (ap (λ (o : RunOutcome). (outcome_reply image budget o).verdict) ends)
      (ap (λ (o : RunOutcome). (outcome_reply image budget o).said) ends ∙ append-nil (line (codes "finished " ++ decimal count)))

-- 2. The text in a file.

module _ (words : PlacedAreWords) (files : Files) (piton text stored bytes : List ℕ) (there : file_at files piton ≡ Some text)
    (short : length text ≤ 2 ^ 31) where
  linked_holds : (image : Role × List ℕ) (found : Result CheckedOf Verdict) → checked_in text ≡ found
      → set_file (Some image) (checked_stored found) ≡ Some (stored, bytes) → HoldsLinked files piton bytes
  linked_holds image (Err verdict) is sets = absurd (let e : None ≡ Some (stored, bytes) = sets in cc)
  linked_holds image (Ok c) is sets = by_size (is_large (system_in c)) refl sets
    where
      by_size : (large : Bool) → is_large (system_in c) ≡ large → set_file (Some image)
          (if large then None else Some (spelling (linked_image (system_in c)))) ≡ Some (stored, bytes) → HoldsLinked files piton bytes
      by_size true large sets = absurd (let e : None ≡ Some (stored, bytes) = sets in cc)
      by_size false fits sets =
          let known = text_is_checked text short c is in
          let small : (placed (system_in c)).size ≤ 2 ^ 20 = ltb-false (2 ^ 20) (placed (system_in c)).size fits in
          let same : spelling (linked_image (system_in c)) ≡ bytes = ap set_bytes sets in
          let spells : Spelled bytes (linked_image (system_in c)) =
          subst (λ (b : List ℕ). Spelled b (linked_image (system_in c))) same (image_spelled words c known small) in
          record {
            text = text;
            there = there;
            checked = c;
            read = is;
            image = linked_image (system_in c);
            short = subst (λ (b : List ℕ). length b ≤ limit_of Image) same (image_short c known small);
            spells = spells;
            slots = refl;
            runs = image_runs c known small;
            tells = image_tells c known small bytes spells;
          }

pbuild_holds : PlacedAreWords → (watches : List Watching) (files : Files) (piton image : List ℕ) (first : Result (List ℕ) EarlyEnd) (stored bytes : List ℕ)
    → text_or_end (Piton, piton) (fetched files piton (limit_of Piton)) ≡ first
    → (answer_on (command.Pbuild piton image) watches (first >>= λ text. Ok ((Piton, text) ∷ []))).output ≡ Some (stored, bytes)
    → HoldsLinked files piton bytes
unfolding output_of stored_by
pbuild_holds words watches files piton image (Err early) stored bytes got sets = absurd cc
pbuild_holds words watches files piton image (Ok text) stored bytes got sets =
    let file = was_short files (Piton, piton) text got in
    linked_holds words files piton text stored bytes file.0 (omega (arith, file.1)) (Image, image) (checked_in text) refl sets

-- 3. All commands.

pub links : PlacedAreWords → (c : Command) (watches : List Watching) (files : Files) → StoresLinked c files (answer_to c watches files).output
unfolding inputs_of output_of
links words (command.Pit source control temporary piton) watches files =
    λ name own stored bytes reads writes sets. absurd (only_role Piton Source source name (λ e. cc) reads)
links words (command.Build source control temporary image) watches files =
    λ name own stored bytes reads writes sets. absurd (only_role Piton Source source name (λ e. cc) reads)
links words (command.Pbuild piton image) watches files = λ name own stored bytes reads writes sets.
    subst (λ (n : List ℕ). HoldsLinked files n bytes) (only_file Piton piton name reads) (pbuild_holds words watches files piton image _ stored bytes refl sets)
links words (command.Go source values control temporary budget image) watches files =
    λ name own stored bytes reads writes sets. absurd (both_roles Piton Source Values source values name (λ e. cc) (λ e. cc) reads)
links words (command.Migrate image output) watches files = λ name own stored bytes reads writes sets. absurd (only_role Piton Image image name (λ e. cc) reads)
links words (command.Asm assembly image) watches files =
    λ name own stored bytes reads writes sets. absurd (only_role Piton Assembly assembly name (λ e. cc) reads)
links words (command.Unasm image assembly) watches files = λ name own stored bytes reads writes sets. absurd (only_role Piton Image image name (λ e. cc) reads)
links words (command.Need source certificate) watches files =
    λ name own stored bytes reads writes sets. absurd (only_role Piton Source source name (λ e. cc) reads)
links words (command.Mini program source) watches files =
    λ name own stored bytes reads writes sets. absurd (let e : Source ≡ Image = ap written_role writes in cc)
links words (command.Quick source control temporary image) watches files =
    λ name own stored bytes reads writes sets. absurd (let e : QuickImage ≡ Image = ap written_role writes in cc)
links words c watches files = λ name own stored bytes reads writes sets. absurd (let e : None ≡ Some (Image, own) = writes in cc)
