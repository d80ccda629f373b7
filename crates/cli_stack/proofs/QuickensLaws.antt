-- What `quick` stores is the quickened image of its source, which does what that means.
use Rattle.std.{proofs.Common.{◌≡◌, ◌≤◌, ℕ, List, [], ◌∷◌, Some, None, Result, Ok, Err, length, refl, sym, ap, ◌∙◌, subst, arith}, specs.Prelude.Option}
use Rattle.stack_text.specs.Results.{◌>>=◌}
use Rattle.stack_shelf.{specs.Files.Files, specs.Shelf.fetched}
use Rattle.fm_image.specs.Spelling.{spelling}
use Rattle.level_debuggers.specs.Tallies.{Watching}
use Rattle.gypsy_syntax.specs.Sources.{SourceOf}
use Rattle.gypsy_space.specs.Needs.{stack_sizes}
use Rattle.stack_build.{specs.declared.fault.BuildFault.BuildFault, specs.Build.{BuiltOf, accepted_source, source_built, built}, proofs.BuildLaws.text_builds}
use Rattle.quick_generate.{specs.Quickened.quickened, specs.DoesQuickly.TextsAreQuickened}
use Rattle.command_line.{proofs.FileLaws.was_short, specs.declared.command.Command.Command, specs.declared.early_end.EarlyEnd.EarlyEnd}
use Rattle.command_line.{specs.declared.role.Role.TheVariants.{Source, QuickImage}, specs.Roles.limit_of, specs.Gathered.{Texts, text_of, text_or_end}}
use Rattle.command_line.specs.CommandFiles.{inputs_of, output_of}
use Rattle.command_line.specs.declared.command.Command.TheVariants as command
use Rattle.stack_commands.{specs.Prepared.stored_by, specs.Commands.Quick.{quick_built, quick_stored}}
use Rattle.cli_stack.{specs.Answer.{set_file, answer_on, answer_to}, specs.Implements.HoldsStored, specs.RepliesTo.AreTexts, specs.Quickens.IsQuickened}
use Rattle.cli_stack.{specs.Quickens.{StoresQuickened, StoresQuickenedOf}, proofs.ImplementsLaws.source_short, proofs.RoleLaws.{set_bytes, written_role}}
use Rattle.cli_stack.proofs.RoleLaws.{only_file}

-- 1. Of a text.

module _ (laws : TextsAreQuickened) (text : List ℕ) (control temporary : ℕ) (few : length text ≤ 1048576) where
  abbrev Is : List ℕ → Type 0
  Is bytes = IsQuickened text (stack_sizes control temporary) bytes

  made_is : (s : SourceOf) (plain : BuiltOf) → accepted_source text ≡ Ok s → source_built s (stack_sizes control temporary) 0 ≡ Ok plain
      → Is (spelling (quickened s (stack_sizes control temporary) plain.image))
  made_is s plain read made =
      let whole : built text control temporary 0 ≡ Ok plain = text_builds text control temporary 0 s read ∙ made in
      let q = laws text control temporary 0 plain (omega (arith, few)) (omega arith) whole in
      let both : Ok q.source ≡ Ok s = sym q.read ∙ read in
      let same : q.source ≡ s = cc in
      subst (λ (source : SourceOf). Is (spelling (quickened source (stack_sizes control temporary) plain.image))) same (record {
        is = record {
          source = q.source;
          read = q.read;
          image = quickened q.source (stack_sizes control temporary) plain.image;
          short = q.short few;
          spells = q.quickens.spells;
          does = q.quickens.does;
        };
        plain = plain;
        made = whole;
        same = refl;
        exact = q.quickens.exact;
      })

  pub quickened_is : (bytes : List ℕ) → quick_stored (quick_built text control temporary) ≡ Some bytes → Is bytes
  unfolding quick_built
  quickened_is bytes is = by_source (accepted_source text) refl is
    where
      by_plain : (s : SourceOf) → accepted_source text ≡ Ok s → (found : Result BuiltOf BuildFault)
          → source_built s (stack_sizes control temporary) 0 ≡ found
          → quick_stored (found >>= λ plain. Ok (quickened s (stack_sizes control temporary) plain.image)) ≡ Some bytes → Is bytes
      by_plain s read (Err fault) made is = absurd (let e : None ≡ Some bytes = is in cc)
      by_plain s read (Ok plain) made is =
          let both : Some (spelling (quickened s (stack_sizes control temporary) plain.image)) ≡ Some bytes = is in
          let same : spelling (quickened s (stack_sizes control temporary) plain.image) ≡ bytes = cc in
          subst Is same (made_is s plain read made)

      by_source : (found : Result SourceOf BuildFault) → accepted_source text ≡ found
          → quick_stored (found >>= λ s. source_built s (stack_sizes control temporary) 0 >>= λ plain.
          Ok (quickened s (stack_sizes control temporary) plain.image)) ≡ Some bytes
          → Is bytes
      by_source (Err fault) read is = absurd (let e : None ≡ Some bytes = is in cc)
      by_source (Ok s) read is = by_plain s read (source_built s (stack_sizes control temporary) 0) refl is

-- 2. Of the source in a file.

module _ (laws : TextsAreQuickened) (watches : List Watching) (files : Files) (source image : List ℕ) (control temporary : ℕ) where
  abbrev Holds : List ℕ → Type 0
  Holds bytes = HoldsStored IsQuickened files source (stack_sizes control temporary) bytes

  quick_holds : (first : Result (List ℕ) EarlyEnd) (stored bytes : List ℕ)
      → text_or_end (Source, source) (fetched files source (limit_of Source)) ≡ first
      → (answer_on (command.Quick source control temporary image) watches (first >>= λ text. Ok ((Source, text) ∷ []))).output ≡ Some (stored, bytes)
      → Holds bytes
  unfolding output_of stored_by
  quick_holds (Err early) stored bytes got sets = absurd (let e : None ≡ Some (stored, bytes) = sets in cc)
  quick_holds (Ok text) stored bytes got sets = by_stored (quick_stored (quick_built text control temporary)) refl sets
    where
      by_stored : (found : Option (List ℕ)) → quick_stored (quick_built text control temporary) ≡ found
          → set_file (Some (QuickImage, image)) found ≡ Some (stored, bytes) → Holds bytes
      by_stored None is sets = absurd (let e : None ≡ Some (stored, bytes) = sets in cc)
      by_stored (Some own) is sets =
          let file = was_short files (Source, source) text got in
          let same : own ≡ bytes = ap set_bytes sets in
          subst Holds same record { text = text; there = file.0; is = quickened_is laws text control temporary file.1 own is }

pub stores_quick : TextsAreQuickened → (c : Command) (watches : List Watching) (files : Files) → StoresQuickened c files (answer_to c watches files).output
unfolding inputs_of output_of
stores_quick laws (command.Quick source control temporary image) watches files = λ name own stored bytes reads writes sets.
    subst (λ (n : List ℕ). HoldsStored IsQuickened files n (stack_sizes control temporary) bytes) (only_file Source source name reads)
    (quick_holds laws watches files source image control temporary _ stored bytes refl sets)
stores_quick laws c watches files =
    λ name own stored bytes reads writes sets. absurd (let e : written_role (output_of c) ≡ QuickImage = ap written_role writes in cc)

-- 3. Of the texts of its files, as any shelf gives them.

pub stores_quick_of : TextsAreQuickened → (c : Command) (texts : Texts) → AreTexts c texts → StoresQuickenedOf c texts
unfolding inputs_of output_of stored_by
stores_quick_of laws (command.Quick source control temporary image) texts are = λ name own bytes reads writes is.
    quickened_is laws (text_of Source texts) control temporary (source_short texts [] are.roles are.short) bytes is
stores_quick_of laws c texts are =
    λ name own bytes reads writes is. absurd (let e : written_role (output_of c) ≡ QuickImage = ap written_role writes in cc)
