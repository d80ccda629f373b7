-- The image of a linked system keeps the limits of images, and its file those of files; where the words are too many, there is none, and
-- no session of the system.
use Rattle.std.{proofs.Common.{◌≡◌, ◌≤◌, ℕ, length, Some, None, Ok, true, false, refl, arith}, specs.Prelude.{◌^◌, IsTrue}, proofs.lemmas.Bool.and_from}
use Rattle.std.proofs.lemmas.Bool.{le-leb, le-ltb, lt-ltb}
use Rattle.fm_image.{specs.Image.ImageOf, specs.Limits.{all_after, is_image}, specs.Spelling.{spelling, Spelled}, proofs.LimitLaws.from_limits}
use Rattle.piton_check.{specs.PitonChecking.{CheckedOf, IsChecked}, specs.Instruction.SystemView}
use Rattle.piton_semantics.{specs.Fits.system_in, specs.Placed.placed, specs.StateView.{Seen, opening}}
use Rattle.piton_linker.{specs.declared.fault.LinkFault.TheVariants.Large, specs.Layouts.{trimmed, IsFault}}
use Rattle.stack_build.{specs.Image.linked_image, specs.PlacedWords.PlacedAreWords, proofs.ImageBytes.file_few, proofs.ImageLimits.placed_fits}
use Rattle.command_line.{specs.declared.role.Role.TheVariants.Image, specs.Roles.limit_of}
use Rattle.command_replies.{specs.declared.reply.SizeOf.TheVariants.Words, specs.declared.reply.Verdict.TheVariants.Size, specs.Replies.verdict_alone}
use Rattle.level_debuggers.specs.Levels.{Piton}
use Rattle.stack_commands.{specs.Commands.Pbuild.{is_large, linked_stored, linked_reply}, specs.Commands.Pdebug.opened_within}

-- the image keeps the limits of images
pub image_fits : (c : CheckedOf) → IsChecked c → (placed (system_in c)).size ≤ 2 ^ 20 → IsTrue (is_image (linked_image (system_in c)))
unfolding all_after
image_fits c is small =
    let s : SystemView = system_in c in
    let fits = placed_fits s is.sound small in
    from_limits (linked_image s) record {
      version = refl;
      tables = refl;
      window = and_from _ _ fits.sized fits.inside;
      registers = refl;
      condition_address = refl;
      condition_count = refl;
      conditions = refl;
      slot_count = refl;
      slots = refl;
      words = le-leb (length (trimmed (placed s).words)) (placed s).size fits.few;
    }

-- its file is short enough to be read
pub image_short : (c : CheckedOf) → IsChecked c → (placed (system_in c)).size ≤ 2 ^ 20 → length (spelling (linked_image (system_in c))) ≤ limit_of Image
image_short c is small = let all = file_few (linked_image (system_in c)) (image_fits c is small) in omega (arith, all)

-- and is the one spelling of it
pub image_spelled : PlacedAreWords → (c : CheckedOf) → IsChecked c → (placed (system_in c)).size ≤ 2 ^ 20
    → Spelled (spelling (linked_image (system_in c))) (linked_image (system_in c))
image_spelled placed_are_words c is small =
    let words = placed_are_words (system_in c) is.sound small in
    record { limits = image_fits c is small; registers = words.0; words = words.1; fields = refl }

-- where the words are few enough, its spelling is stored
pub small_stored : (s : SystemView) → (placed s).size ≤ 2 ^ 20 → linked_stored s ≡ Some (spelling (linked_image s))
small_stored s small =
    let few : is_large s ≡ false = le-ltb (2 ^ 20) (placed s).size small in
    rw few refl

-- where the words are too many, nothing is stored
pub large_stored : (s : SystemView) (need : ℕ) → IsFault s (Large need) → linked_stored s ≡ None
large_stored s need fault =
    let large : is_large s ≡ true = lt-ltb (2 ^ 20) (placed s).size fault.1 in
    rw large refl

-- and it is said how many they are
pub large_reply : (s : SystemView) (need : ℕ) → IsFault s (Large need) → linked_reply s ≡ verdict_alone (Size Words need)
large_reply s need fault =
    let large : is_large s ≡ true = lt-ltb (2 ^ 20) (placed s).size fault.1 in
    rw (large, fault.0) refl

-- where the words are few enough, a session begins with the image and the opening state
pub small_opened : (c : CheckedOf) (image : ImageOf) (seen : Seen) → (placed (system_in c)).size ≤ 2 ^ 20 → image ≡ linked_image (system_in c)
    → seen ≡ opening (system_in c) (system_in c).stack → Ok (Piton record { checked = c; image = image; seen = seen }) ≡ opened_within c
small_opened c image seen small linked opens =
    let few : is_large (system_in c) ≡ false = le-ltb (2 ^ 20) (placed (system_in c)).size small in
    rw (few, linked, opens) refl
