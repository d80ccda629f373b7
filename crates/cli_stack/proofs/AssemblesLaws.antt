-- The image that is stored of an assembly text is the one that it spells, and a text that is stored of an image spells it.
use Rattle.std.proofs.Common.{◌≡◌, ◌≤◌, ◌<◌, ◌∷◌, [], inl, inr, ℕ, zero, suc, List, Bool, true, false, Some, None, Result, Ok, Err, length, get_or, refl, sym}
use Rattle.std.{proofs.Common.{ap, subst, arith}, specs.Prelude.{◌^◌, All, IsTrue, if◌then◌else◌}, proofs.lemmas.Bool.{and_parts, cases_lt, ltb-true}}
use Rattle.std.proofs.lemmas.List.{get_or_past}
use Rattle.stack_text.{specs.Results.◌>>=◌, specs.declared.breach.Breach.Breach}
use Rattle.stack_shelf.{specs.Files.Files, specs.Shelf.fetched}
use Rattle.level_debuggers.specs.Tallies.{Watching}
use Rattle.fm_image.{specs.Image.ImageOf, specs.Limits.is_image, specs.Reading.read_of, specs.Spelling.{spelling, are_words, Spelled}}
use Rattle.fm_image.{proofs.ImageLaws.read_spells, proofs.ReaderLaws.IsBytes}
use Rattle.fm_asm.{specs.Assembling.assembly_of, specs.Cuts.without_trailing, specs.Assembly.IsAssembly, specs.Printing.{is_plain, plain_image, start_of}}
use Rattle.fm_asm.{specs.Printing.assembly_text, proofs.FileLaws.assembled_fits, proofs.LengthLaws.printed_short, proofs.PrintLaws.printed_spells}
use Rattle.fm_asm.proofs.RelatedLaws.{assembled_is_spelled}
use Rattle.stack_build.proofs.ImageBytes.{file_few}
use Rattle.command_line.{specs.declared.command.Command.Command, specs.declared.early_end.EarlyEnd.EarlyEnd, specs.declared.role.Role.TheVariants.Source}
use Rattle.command_line.{specs.declared.role.Role.TheVariants.{Piton, Values, Image, Assembly, Certificate, QuickImage}, specs.Roles.limit_of}
use Rattle.command_line.{specs.Gathered.text_or_end, specs.CommandFiles.{inputs_of, output_of}, proofs.FileLaws.was_short}
use Rattle.command_line.specs.declared.command.Command.TheVariants as command
use Rattle.command_replies.{specs.Commands.Asm.assembled_stored, specs.Commands.Unasm.printed_stored}
use Rattle.stack_commands.specs.Prepared.{stored_by}
use Rattle.cli_stack.{specs.Answer.{set_file, answer_on, answer_to}, specs.Assembles.{HoldsAssembled, SpellsAgain, HoldsAssembly, StoresAssembled}}
use Rattle.cli_stack.{specs.Assembles.{StoresAssembly, Assembles}, proofs.RoleLaws.{set_bytes, written_role, only_file, only_role, both_roles}}

-- 1. The image of a text.

-- its file is short enough to be read
plain_short : (base size final_pc start : ℕ) (words : List ℕ) → IsTrue (is_image (plain_image base size final_pc start words))
    → length (spelling (plain_image base size final_pc start words)) ≤ limit_of Image
plain_short base size final_pc start words fits = let all = file_few (plain_image base size final_pc start words) fits in omega (arith, all)

assembled_short : (text : List ℕ) (image : ImageOf) → IsAssembly text image → Spelled (spelling image) image → length (spelling image) ≤ limit_of Image
assembled_short text image a spelled =
    subst (λ (i : ImageOf). length (spelling i) ≤ limit_of Image) (sym a.image_is)
    (plain_short image.base image.size image.final_pc a.start_pc (without_trailing 0 a.words)
    (subst (λ (i : ImageOf). IsTrue (is_image i)) a.image_is spelled.limits))

asm_holds : (watches : List Watching) (files : Files) (assembly image : List ℕ) (first : Result (List ℕ) EarlyEnd) (stored bytes : List ℕ)
    → text_or_end (Assembly, assembly) (fetched files assembly (limit_of Assembly)) ≡ first
    → (answer_on (command.Asm assembly image) watches (first >>= λ text. Ok ((Assembly, text) ∷ []))).output ≡ Some (stored, bytes)
    → HoldsAssembled files assembly bytes
unfolding output_of stored_by
asm_holds watches files assembly image (Err early) stored bytes got sets = absurd cc
asm_holds watches files assembly image (Ok text) stored bytes got sets = by_assembly (assembly_of text) refl sets
  where
    by_assembly : (found : Result ImageOf Breach) → assembly_of text ≡ found → set_file (Some (Image, image)) (assembled_stored found)
        ≡ Some (stored, bytes) → HoldsAssembled files assembly bytes
    by_assembly (Err breach) is sets = absurd (let e : None ≡ Some (stored, bytes) = sets in cc)
    by_assembly (Ok made) is sets =
        let spelled = assembled_is_spelled text made is in
        let same : spelling made ≡ bytes = ap set_bytes sets in
        let again : Spelled (spelling made) made = assembled_fits text made spelled in
        record {
          text = text;
          there = (was_short files (Assembly, assembly) text got).0;
          image = made;
          assembles = spelled;
          short = subst (λ (b : List ℕ). length b ≤ limit_of Image) same (assembled_short text made spelled again);
          spells = subst (λ (b : List ℕ). Spelled b made) same again;
        }

-- 2. The text of an image.

pub are_bytes : (bytes : List ℕ) → All (λ byte. byte < 256) bytes → IsBytes bytes
are_bytes bytes all i =
    elim (cases_lt i (length bytes)) [
      | inl lt ↦ all i 0 lt
      | inr le ↦ let none : get_or bytes i 0 ≡ 0 = get_or_past bytes i 0 le in omega (arith, none)
    ]

-- the address at which a run starts is a number of 32 bits
pub first_below : (words : List ℕ) (i : ℕ) → IsTrue (are_words words) → get_or words i 0 < 2 ^ 32
first_below [] i fit = omega arith
first_below (w ∷ words) zero fit = ltb-true w (2 ^ 32) (and_parts _ _ fit).0
first_below (w ∷ words) (suc i) fit = first_below words i (and_parts _ _ fit).1

pub spells_again : (bytes : List ℕ) (image : ImageOf) → read_of bytes ≡ Ok image → IsTrue (is_plain image) → All (λ byte. byte < 256) bytes
    → SpellsAgain bytes (assembly_text image) image
spells_again bytes image read plain all =
    let spelled = read_spells bytes image (are_bytes bytes all) read in
    let start : start_of image < 2 ^ 32 = first_below image.registers 15 spelled.registers in
    record {
      spells = spelled;
      assembles = printed_spells image plain spelled.limits start spelled.words;
      short = printed_short image spelled.limits start;
    }

unasm_holds : (watches : List Watching) (files : Files) (image assembly : List ℕ) (first : Result (List ℕ) EarlyEnd) (stored written : List ℕ)
    → text_or_end (Image, image) (fetched files image (limit_of Image)) ≡ first
    → (answer_on (command.Unasm image assembly) watches (first >>= λ bytes. Ok ((Image, bytes) ∷ []))).output ≡ Some (stored, written)
    → HoldsAssembly files image written
unfolding output_of stored_by
unasm_holds watches files image assembly (Err early) stored written got sets = absurd cc
unasm_holds watches files image assembly (Ok bytes) stored written got sets = by_reading (read_of bytes) refl sets
  where
    by_plain : (read : ImageOf) → read_of bytes ≡ Ok read → (t : Bool) → is_plain read ≡ t
        → set_file (Some (Assembly, assembly)) (if t then Some (assembly_text read) else None) ≡ Some (stored, written)
        → HoldsAssembly files image written
    by_plain read is false plain sets = absurd (let e : None ≡ Some (stored, written) = sets in cc)
    by_plain read is true plain sets =
        let same : assembly_text read ≡ written = ap set_bytes sets in
        record {
          bytes = bytes;
          there = (was_short files (Image, image) bytes got).0;
          image = read;
          read = is;
          plain = plain;
          again = λ all. subst (λ (t : List ℕ). SpellsAgain bytes t read) same (spells_again bytes read is plain all);
        }

    by_reading : (found : Result ImageOf (ℕ × ℕ)) → read_of bytes ≡ found → set_file (Some (Assembly, assembly)) (printed_stored found)
        ≡ Some (stored, written) → HoldsAssembly files image written
    by_reading (Err fault) is sets = absurd (let e : None ≡ Some (stored, written) = sets in cc)
    by_reading (Ok read) is sets = by_plain read is (is_plain read) refl sets

-- 3. All commands.

images_by : (c : Command) (watches : List Watching) (files : Files) → StoresAssembled c files (answer_to c watches files).output
unfolding inputs_of output_of
images_by (command.Pit source control temporary piton) watches files =
    λ name own stored bytes reads writes sets. absurd (let e : Piton ≡ Image = ap written_role writes in cc)
images_by (command.Build source control temporary image) watches files =
    λ name own stored bytes reads writes sets. absurd (only_role Assembly Source source name (λ e. cc) reads)
images_by (command.Pbuild piton image) watches files = λ name own stored bytes reads writes sets. absurd (only_role Assembly Piton piton name (λ e. cc) reads)
images_by (command.Go source values control temporary budget image) watches files =
    λ name own stored bytes reads writes sets. absurd (both_roles Assembly Source Values source values name (λ e. cc) (λ e. cc) reads)
images_by (command.Migrate image output) watches files = λ name own stored bytes reads writes sets. absurd (only_role Assembly Image image name (λ e. cc) reads)
images_by (command.Asm assembly image) watches files = λ name own stored bytes reads writes sets.
    subst (λ (n : List ℕ). HoldsAssembled files n bytes) (only_file Assembly assembly name reads)
    (asm_holds watches files assembly image _ stored bytes refl sets)
images_by (command.Unasm image assembly) watches files =
    λ name own stored bytes reads writes sets. absurd (let e : Assembly ≡ Image = ap written_role writes in cc)
images_by (command.Need source certificate) watches files =
    λ name own stored bytes reads writes sets. absurd (let e : Certificate ≡ Image = ap written_role writes in cc)
images_by (command.Mini program source) watches files =
    λ name own stored bytes reads writes sets. absurd (let e : Source ≡ Image = ap written_role writes in cc)
images_by (command.Quick source control temporary image) watches files =
    λ name own stored bytes reads writes sets. absurd (let e : QuickImage ≡ Image = ap written_role writes in cc)
images_by c watches files = λ name own stored bytes reads writes sets. absurd (let e : None ≡ Some (Image, own) = writes in cc)

texts_by : (c : Command) (watches : List Watching) (files : Files) → StoresAssembly c files (answer_to c watches files).output
unfolding inputs_of output_of
texts_by (command.Pit source control temporary piton) watches files =
    λ name own stored written reads writes sets. absurd (let e : Piton ≡ Assembly = ap written_role writes in cc)
texts_by (command.Build source control temporary image) watches files =
    λ name own stored written reads writes sets. absurd (let e : Image ≡ Assembly = ap written_role writes in cc)
texts_by (command.Pbuild piton image) watches files =
    λ name own stored written reads writes sets. absurd (let e : Image ≡ Assembly = ap written_role writes in cc)
texts_by (command.Go source values control temporary budget image) watches files =
    λ name own stored written reads writes sets. absurd (let e : Image ≡ Assembly = ap written_role writes in cc)
texts_by (command.Migrate image output) watches files =
    λ name own stored written reads writes sets. absurd (let e : Image ≡ Assembly = ap written_role writes in cc)
texts_by (command.Asm assembly image) watches files =
    λ name own stored written reads writes sets. absurd (let e : Image ≡ Assembly = ap written_role writes in cc)
texts_by (command.Unasm image assembly) watches files = λ name own stored written reads writes sets.
    subst (λ (n : List ℕ). HoldsAssembly files n written) (only_file Image image name reads)
    (unasm_holds watches files image assembly _ stored written refl sets)
texts_by (command.Need source certificate) watches files =
    λ name own stored written reads writes sets. absurd (let e : Certificate ≡ Assembly = ap written_role writes in cc)
texts_by (command.Mini program source) watches files =
    λ name own stored written reads writes sets. absurd (let e : Source ≡ Assembly = ap written_role writes in cc)
texts_by (command.Quick source control temporary image) watches files =
    λ name own stored written reads writes sets. absurd (let e : QuickImage ≡ Assembly = ap written_role writes in cc)
texts_by c watches files = λ name own stored written reads writes sets. absurd (let e : None ≡ Some (Assembly, own) = writes in cc)

pub assembles : (c : Command) (watches : List Watching) (files : Files) → Assembles c files (answer_to c watches files).output
assembles c watches files = record { images = images_by c watches files; texts = texts_by c watches files }
