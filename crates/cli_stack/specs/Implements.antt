-- That what a command stores does as its source means.
use Rattle.std.specs.Prelude.{◌≡◌, ◌≤◌, ℕ, List, length, Option, Some, Ok, IsSomeAnd}
use Rattle.fm_image.specs.{Image.{ImageOf}, Spelling.{Spelled}}
use Rattle.stack_shelf.specs.Files.{Files, file_at}
use Rattle.gypsy_syntax.specs.Sources.{SourceOf}
use Rattle.gypsy_space.specs.Needs.{StackSizes}
use Rattle.stack_build.specs.{Build.{accepted_source}, Implements.{Implements}, Moments.{KeepsMoments}, StaysUnfinished.{StaysUnfinished}}
use Rattle.command_line.specs.{declared.command.Command.{Command}, declared.role.Role.{Role}, declared.role.Role.TheVariants.{Source}}
use Rattle.command_line.specs.{declared.role.Role.TheVariants.{Image}, Roles.{limit_of}, Gathered.{Texts, text_of}}
use Rattle.stack_commands.specs.Prepared.{stored_by}
use Rattle.cli_stack.specs.FilesAndSizes.{ReadsFile, StoresFile, sizes_of}

-- The bytes are an image file that can be read again. Its image implements the source in a text, for stacks of these sizes, and a run of
-- it is unfinished at every budget where the source never ends. Nothing of the compiler is in what this rests on.
pub record IsImplementation (text : List ℕ) (sizes : StackSizes) (bytes : List ℕ) : Type 0 where
  pub source : SourceOf
  pub read : accepted_source text ≡ Ok source
  pub image : ImageOf
  pub short : length bytes ≤ limit_of Image
  pub spells : Spelled bytes image
  pub implements : Implements image source sizes
  pub unfinished : StaysUnfinished image source sizes

-- and the image keeps to the source at every moment
pub record KeepsToSource (text : List ℕ) (sizes : StackSizes) (bytes : List ℕ) : Type 0 where
  pub is : IsImplementation text sizes bytes
  pub moments : KeepsMoments is.image is.source sizes

-- one of these, of the source in a file
pub record HoldsStored (Is : List ℕ → StackSizes → List ℕ → Type 0) (files : Files) (name : List ℕ) (sizes : StackSizes) (bytes : List ℕ) :
    Type 0 where
  pub text : List ℕ
  pub there : file_at files name ≡ Some text
  pub is : Is text sizes bytes

-- who reads a source and stores an image, a file of this role, has sizes of stacks, and stores one that is so of the source for them
abbrev pub Stores : Role → (List ℕ → StackSizes → List ℕ → Type 0) → Command → Files → Option (List ℕ × List ℕ) → Type 0
Stores role Is command files output =
    (source image stored bytes : List ℕ) → ReadsFile command Source source → StoresFile command role image
    → output ≡ Some (stored, bytes)
    → IsSomeAnd (sizes_of command) (λ sizes. HoldsStored Is files source sizes bytes)

abbrev pub StoresImplementation : Command → Files → Option (List ℕ × List ℕ) → Type 0
StoresImplementation command files output = Stores Image IsImplementation command files output

abbrev pub StoresMoments : Command → Files → Option (List ℕ × List ℕ) → Type 0
StoresMoments command files output = Stores Image KeepsToSource command files output

-- the same of the texts of its files, as any shelf gives them
abbrev pub StoresOf : Role → (List ℕ → StackSizes → List ℕ → Type 0) → Command → Texts → Type 0
StoresOf role Is command texts =
    (source image bytes : List ℕ) → ReadsFile command Source source → StoresFile command role image
    → stored_by command texts ≡ Some bytes
    → IsSomeAnd (sizes_of command) (λ sizes. Is (text_of Source texts) sizes bytes)

abbrev pub StoresImplementationOf : Command → Texts → Type 0
StoresImplementationOf command texts = StoresOf Image IsImplementation command texts

abbrev pub StoresMomentsOf : Command → Texts → Type 0
StoresMomentsOf command texts = StoresOf Image KeepsToSource command texts
