-- That what `quick` stores does as its source means, in no more instructions than are counted.
use Rattle.std.specs.Prelude.{◌≡◌, ◌≤◌, ℕ, List, length, Option, Ok}
use Rattle.stack_text.specs.Values.{ValueOf}
use Rattle.fm_image.specs.{Image.{ImageOf}, Spelling.{Spelled}}
use Rattle.stack_shelf.specs.Files.{Files}
use Rattle.gypsy_syntax.specs.{Resolved.{program_of}, Sources.{SourceOf}}
use Rattle.gypsy_space.specs.Needs.{StackSizes}
use Rattle.gypsy_semantics.specs.{Calls.{CurrentCondition}, Meaning.{Done, meaning}}
use Rattle.stack_build.specs.{Build.{BuiltOf, accepted_source, built}, Implements.{FitsFormals, meaning_shown}}
use Rattle.quick_generate.specs.{DoesQuickly.{ComesAsCounted, DoesQuickly}, Quickened.{quickened}}
use Rattle.command_line.specs.{declared.command.Command.{Command}, declared.role.Role.TheVariants.{QuickImage}, Roles.{limit_of}}
use Rattle.command_line.specs.Gathered.{Texts}
use Rattle.cli_stack.specs.Implements.{Stores, StoresOf}

-- The bytes are an image file that can be read again. Its image does what the source in a text means, for stacks of these sizes, in no
-- more instructions than are counted. Nothing of the compilers is in what this rests on.
pub record ImplementsQuickly (text : List ℕ) (sizes : StackSizes) (bytes : List ℕ) : Type 0 where
  pub source : SourceOf
  pub read : accepted_source text ≡ Ok source
  pub image : ImageOf
  pub short : length bytes ≤ limit_of QuickImage
  pub spells : Spelled bytes image
  pub does : DoesQuickly image source sizes

-- And the image is exactly the quick image of the source if it has one, and else the plain image that is built of it; so its runs take
-- exactly the instructions that are counted for that. The plain image alone is as the first record says.
pub record IsQuickened (text : List ℕ) (sizes : StackSizes) (bytes : List ℕ) : Type 0 where
  pub is : ImplementsQuickly text sizes bytes
  pub plain : BuiltOf
  pub made : built text sizes.ctrl sizes.temp 0 ≡ Ok plain
  pub same : is.image ≡ quickened is.source sizes plain.image
  pub exact : (values finals : List ValueOf) (way : CurrentCondition) (bound : ℕ) → FitsFormals is.source values →
      meaning (program_of is.source) sizes values bound ≡ Done finals way →
      ComesAsCounted is.source sizes plain.image values bound (meaning_shown is.source finals way)

-- who reads a source and stores a quick image stores such a one, of the files that it reads
abbrev pub StoresQuickened : Command → Files → Option (List ℕ × List ℕ) → Type 0
StoresQuickened command files output = Stores QuickImage IsQuickened command files output

-- and so of the texts of its files, as any shelf gives them
abbrev pub StoresQuickenedOf : Command → Texts → Type 0
StoresQuickenedOf command texts = StoresOf QuickImage IsQuickened command texts
