-- What a command stores does as its source means.
use Rattle.std.proofs.Common.{◌≡◌, ◌≤◌, ℕ, zero, suc, List, [], ◌∷◌, Some, None, Result, Ok, Err, IfOk, length, refl, sym, ap, subst, arith, if◌then◌else◌}
use Rattle.std.{proofs.lemmas.List.Elements.All-head, specs.Prelude.{◌^◌, Contains, IsSomeAnd, Option}}
use Rattle.stack_text.specs.Results.{◌>>=◌}
use Rattle.stack_shelf.{specs.Files.{Files, file_at}, specs.Shelf.fetched}
use Rattle.gypsy_space.specs.Needs.{StackSizes, stack_sizes}
use Rattle.level_debuggers.specs.Tallies.{Watching}
use Rattle.stack_build.{specs.declared.fault.BuildFault.BuildFault, specs.Build.{BuiltOf, built, BuildsText}, specs.Joined.BuiltImplements}
use Rattle.command_line.{proofs.FileLaws.was_short, specs.declared.command.Command.Command, specs.declared.early_end.EarlyEnd.EarlyEnd}
use Rattle.command_line.{specs.declared.role.Role.Role, specs.declared.role.Role.TheVariants.{Source, Piton, Values, Image, Assembly, Certificate, QuickImage}}
use Rattle.command_line.{specs.Roles.{limit_of, is_role}, specs.Gathered.{Texts, AreShort, roles_of, text_of, text_or_end}, specs.CommandFiles.inputs_of}
use Rattle.command_line.specs.CommandFiles.{output_of}
use Rattle.command_line.specs.declared.command.Command.TheVariants as command
use Rattle.stack_commands.{specs.Prepared.stored_by, specs.Commands.Build.image_stored}
use Rattle.cli_stack.{specs.Answer.{set_file, answer_on, answer_to}, specs.FilesAndSizes.sizes_of, specs.Implements.{IsImplementation, KeepsToSource}}
use Rattle.cli_stack.{specs.Implements.{HoldsStored, StoresMoments, StoresMomentsOf, StoresImplementation, StoresImplementationOf}, specs.RepliesTo.AreTexts}
use Rattle.cli_stack.proofs.RoleLaws.{set_bytes, written_role, only_file, only_role}

-- a source's text is short enough to be read
is_readable : (text : List ℕ) → length text ≤ 1048576 → length text ≤ 2 ^ 31
is_readable text short = omega (arith, short)

-- what is stored of what was built
built_is : (text : List ℕ) (control temporary : ℕ) (bytes : List ℕ) → length text ≤ 1048576 → (found : Result BuiltOf BuildFault)
    → IfOk found (BuildsText text control temporary) → image_stored found ≡ Some bytes
    → KeepsToSource text (stack_sizes control temporary) bytes
built_is text control temporary bytes few (Err fault) builds is = absurd (let e : None ≡ Some bytes = is in cc)
built_is text control temporary bytes few (Ok found) builds is =
    let both : Some found.bytes ≡ Some bytes = is in
    let same : found.bytes ≡ bytes = cc in
    subst (KeepsToSource text (stack_sizes control temporary)) same (record {
      is = record {
        source = builds.source;
        read = builds.read;
        image = found.image;
        short = builds.short few;
        spells = builds.builds.spells;
        implements = builds.builds.implements;
        unfinished = builds.builds.unfinished;
      };
      moments = builds.builds.moments;
    })

module _ (files : Files) (source text : List ℕ) (control temporary : ℕ) (stored bytes : List ℕ) (there : file_at files source ≡ Some text)
    (few : length text ≤ 1048576) where
  built_holds : (found : Result BuiltOf BuildFault) → IfOk found (BuildsText text control temporary) → (image : Role × List ℕ)
      → set_file (Some image) (image_stored found) ≡ Some (stored, bytes) → HoldsStored KeepsToSource files source (stack_sizes control temporary) bytes
  built_holds (Err fault) builds image sets = absurd (let e : None ≡ Some (stored, bytes) = sets in cc)
  built_holds (Ok found) builds image sets =
      let same : found.bytes ≡ bytes = ap set_bytes sets in
      subst (HoldsStored KeepsToSource files source (stack_sizes control temporary)) same (record {
        text = text;
        there = there;
        is = built_is text control temporary found.bytes few (Ok found) builds refl;
      })

go_holds : BuiltImplements → (watches : List Watching) (files : Files) (source values image : List ℕ) (control temporary budget : ℕ)
    (first second : Result (List ℕ) EarlyEnd) (stored bytes : List ℕ)
    → text_or_end (Source, source) (fetched files source (limit_of Source)) ≡ first
    → (answer_on (command.Go source values control temporary budget image) watches
    (first >>= λ text. (second >>= λ other. Ok ((Values, other) ∷ [])) >>= λ texts. Ok ((Source, text) ∷ texts))).output ≡ Some (stored, bytes)
    → HoldsStored KeepsToSource files source (stack_sizes control temporary) bytes
unfolding output_of stored_by
go_holds laws watches files source values image control temporary budget (Err early) second stored bytes got sets =
    absurd (let e : None ≡ Some (stored, bytes) = sets in cc)
go_holds laws watches files source values image control temporary budget (Ok text) (Err early) stored bytes got sets =
    absurd (let e : None ≡ Some (stored, bytes) = sets in cc)
go_holds laws watches files source values image control temporary budget (Ok text) (Ok other) stored bytes got sets =
    let file = was_short files (Source, source) text got in
    built_holds files source text control temporary stored bytes file.0 file.1 (built text control temporary 0)
    (laws text control temporary 0 (is_readable text file.1) (omega arith)) (Image, image) sets

build_holds : BuiltImplements → (watches : List Watching) (files : Files) (source image : List ℕ) (control temporary : ℕ)
    (first : Result (List ℕ) EarlyEnd) (stored bytes : List ℕ)
    → text_or_end (Source, source) (fetched files source (limit_of Source)) ≡ first
    → (answer_on (command.Build source control temporary image) watches (first >>= λ text. Ok ((Source, text) ∷ []))).output ≡ Some (stored, bytes)
    → HoldsStored KeepsToSource files source (stack_sizes control temporary) bytes
unfolding output_of stored_by
build_holds laws watches files source image control temporary (Err early) stored bytes got sets = absurd (let e : None ≡ Some (stored, bytes) = sets in cc)
build_holds laws watches files source image control temporary (Ok text) stored bytes got sets =
    let file = was_short files (Source, source) text got in
    built_holds files source text control temporary stored bytes file.0 file.1 (built text control temporary 0)
    (laws text control temporary 0 (is_readable text file.1) (omega arith)) (Image, image) sets

-- a name that `go` reads as a source is its source
go_source : (source values name : List ℕ) → Contains {X = Role × List ℕ} ((Source, source) ∷ (Values, values) ∷ []) (Source, name) → source ≡ name
go_source source values name (zero, lt, is) = ap (λ (f : Role × List ℕ). f.1) is
go_source source values name (suc zero, lt, is) = absurd (let e : Values ≡ Source = ap (λ (f : Role × List ℕ). f.0) is in cc)
go_source source values name (suc (suc i), lt, is) = absurd (omega arith)

pub stores : BuiltImplements → (c : Command) (watches : List Watching) (files : Files) → StoresMoments c files (answer_to c watches files).output
unfolding inputs_of output_of
stores laws (command.Pit source control temporary piton) watches files = λ name own stored bytes reads writes sets.
    absurd (let e : Piton ≡ Image = ap written_role writes in cc)
stores laws (command.Build source control temporary image) watches files = λ name own stored bytes reads writes sets.
    subst (λ (n : List ℕ). HoldsStored KeepsToSource files n (stack_sizes control temporary) bytes) (only_file Source source name reads)
    (build_holds laws watches files source image control temporary _ stored bytes refl sets)
stores laws (command.Pbuild piton image) watches files = λ name own stored bytes reads writes sets. absurd (only_role Source Piton piton name (λ e. cc) reads)
stores laws (command.Go source values control temporary budget image) watches files = λ name own stored bytes reads writes sets.
    subst (λ (n : List ℕ). HoldsStored KeepsToSource files n (stack_sizes control temporary) bytes) (go_source source values name reads)
    (go_holds laws watches files source values image control temporary budget _ _ stored bytes refl sets)
stores laws (command.Migrate image output) watches files = λ name own stored bytes reads writes sets. absurd (only_role Source Image image name (λ e. cc) reads)
stores laws (command.Asm assembly image) watches files =
    λ name own stored bytes reads writes sets. absurd (only_role Source Assembly assembly name (λ e. cc) reads)
stores laws (command.Unasm image assembly) watches files = λ name own stored bytes reads writes sets.
    absurd (let e : Assembly ≡ Image = ap written_role writes in cc)
stores laws (command.Need source certificate) watches files = λ name own stored bytes reads writes sets.
    absurd (let e : Certificate ≡ Image = ap written_role writes in cc)
stores laws (command.Mini program source) watches files =
    λ name own stored bytes reads writes sets. absurd (let e : Source ≡ Image = ap written_role writes in cc)
stores laws (command.Quick source control temporary image) watches files =
    λ name own stored bytes reads writes sets. absurd (let e : QuickImage ≡ Image = ap written_role writes in cc)
stores laws c watches files = λ name own stored bytes reads writes sets. absurd (let e : None ≡ Some (Image, own) = writes in cc)

-- The texts of its files, as any shelf gives them.

abbrev first_role : List Role → Role
first_role [] = Piton
first_role (role ∷ roles) = role

-- the first text is the source's, and short
pub source_short : (texts : Texts) (roles : List Role) → roles_of texts ≡ Source ∷ roles → AreShort texts → length (text_of Source texts) ≤ 1048576
source_short [] roles e short = absurd cc
source_short ((role, text) ∷ texts) roles e short =
    let first : role ≡ Source = ap first_role e in
    subst (λ (r : Role). length text ≤ limit_of r → length (if is_role r Source then text else text_of Source texts) ≤ 1048576) (sym first) (λ few. few)
    (All-head (λ (t : Role × List ℕ). length t.1 ≤ limit_of t.0) (role, text) texts short)

-- what was built of the source's text is stored
of_text : BuiltImplements → (texts : Texts) (roles : List Role) (control temporary : ℕ) (bytes : List ℕ) → roles_of texts ≡ Source ∷ roles → AreShort texts
    → image_stored (built (text_of Source texts) control temporary 0) ≡ Some bytes
    → KeepsToSource (text_of Source texts) (stack_sizes control temporary) bytes
of_text laws texts roles control temporary bytes e short is =
    let text : List ℕ = text_of Source texts in
    let few : length text ≤ 1048576 = source_short texts roles e short in
    built_is text control temporary bytes few (built text control temporary 0) (laws text control temporary 0 (is_readable text few) (omega arith)) is

pub stores_of : BuiltImplements → (c : Command) (texts : Texts) → AreTexts c texts → StoresMomentsOf c texts
unfolding inputs_of output_of stored_by
stores_of laws (command.Pit source control temporary piton) texts are =
    λ name own bytes reads writes is. absurd (let e : Piton ≡ Image = ap written_role writes in cc)
stores_of laws (command.Build source control temporary image) texts are =
    λ name own bytes reads writes is. of_text laws texts [] control temporary bytes are.roles are.short is
stores_of laws (command.Pbuild piton image) texts are = λ name own bytes reads writes is. absurd (only_role Source Piton piton name (λ e. cc) reads)
stores_of laws (command.Go source values control temporary budget image) texts are =
    λ name own bytes reads writes is. of_text laws texts (Values ∷ []) control temporary bytes are.roles are.short is
stores_of laws (command.Migrate image output) texts are = λ name own bytes reads writes is. absurd (only_role Source Image image name (λ e. cc) reads)
stores_of laws (command.Asm assembly image) texts are = λ name own bytes reads writes is. absurd (only_role Source Assembly assembly name (λ e. cc) reads)
stores_of laws (command.Unasm image assembly) texts are = λ name own bytes reads writes is. absurd (let e : Assembly ≡ Image = ap written_role writes in cc)
stores_of laws (command.Need source certificate) texts are =
    λ name own bytes reads writes is. absurd (let e : Certificate ≡ Image = ap written_role writes in cc)
stores_of laws (command.Mini program source) texts are = λ name own bytes reads writes is. absurd (let e : Source ≡ Image = ap written_role writes in cc)
stores_of laws (command.Quick source control temporary image) texts are =
    λ name own bytes reads writes is. absurd (let e : QuickImage ≡ Image = ap written_role writes in cc)
stores_of laws c texts are = λ name own bytes reads writes is. absurd (let e : None ≡ Some (Image, own) = writes in cc)

-- Moments left out.

weaker : (o : Option StackSizes) (P Q : StackSizes → Type 0) → ((sizes : StackSizes) → P sizes → Q sizes) → IsSomeAnd o P → IsSomeAnd o Q
weaker None P Q leads is = absurd is
weaker (Some sizes) P Q leads is = leads sizes is

pub implements : (c : Command) (files : Files) (output : Option (List ℕ × List ℕ)) → StoresMoments c files output → StoresImplementation c files output
implements c files output keeps = λ source image stored bytes reads writes sets.
    weaker (sizes_of c) (λ sizes. HoldsStored KeepsToSource files source sizes bytes) (λ sizes. HoldsStored IsImplementation files source sizes bytes)
    (λ sizes holds. record { text = holds.text; there = holds.there; is = holds.is.is }) (keeps source image stored bytes reads writes sets)

pub implements_of : (c : Command) (texts : Texts) → StoresMomentsOf c texts → StoresImplementationOf c texts
implements_of c texts keeps = λ source image bytes reads writes is.
    weaker (sizes_of c) (λ sizes. KeepsToSource (text_of Source texts) sizes bytes) (λ sizes. IsImplementation (text_of Source texts) sizes bytes)
    (λ sizes keeps_it. keeps_it.is) (keeps source image bytes reads writes is)
