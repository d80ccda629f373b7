-- What it is for an image to do what a source means in no more instructions than its plain image takes.
use Rattle.std.specs.Prelude.{◌≡◌, ℕ, ◌≤◌, ◌^◌, List, length, Ok, Some}
use Rattle.stack_text.specs.{SharedLimits.{most_text, most_image_file}, Values.{ValueOf}}
use Rattle.fm_machine.specs.{State.{Fm}, Run.{IsFirst}}
use Rattle.fm_image.specs.{Image.{ImageOf}, Spelling.{Spelled, spelling}}
use Rattle.fm_loader.specs.Loaded.{loaded}
use Rattle.display_maps.specs.Reading.{ReadingOf, reading}
use Rattle.gypsy_syntax.specs.{Resolved.{program_of}, Sources.{SourceOf}}
use Rattle.gypsy_check.specs.Accepted.{IsAccepted}
use Rattle.gypsy_space.specs.Needs.{StackSizes, stack_sizes}
use Rattle.gypsy_semantics.specs.{Calls.{CurrentCondition}, Meaning.{Done, meaning}}
use Rattle.stack_build.specs.{Build.{BuiltOf, Builds, accepted_source, built}, ComesTo.{ComesTo}, Implements.{meaning_shown, FitsFormals}}
use Rattle.stack_build.specs.{Implements.{Finishes}, Meant.{NeverOutside}, StaysUnfinished.{StaysUnfinished}}
use Rattle.quick_generate.specs.Quickened.{quickened, quick_count}

-- 1. An image and a source.

-- the machine that is loaded with the values first comes to the end after at most so many instructions, and memory is read as this there
pub record ComesWithin (image : ImageOf) (values : List ValueOf) (most : ℕ) (read : ReadingOf) : Type 0 where
  pub steps : ℕ
  pub few : steps ≤ most
  pub comes : ComesTo image values steps read

-- the meaning is done, after so many counted instructions or more, and the memory of this state shows it
pub record IsMeantWithin (source : SourceOf) (sizes : StackSizes) (image : ImageOf) (values : List ValueOf) (steps : ℕ) (state : Fm) :
    Type 0 where
  pub finals : List ValueOf
  pub way : CurrentCondition
  pub count : ℕ
  pub finishes : Finishes source sizes values finals way count
  pub few : steps ≤ count
  pub reads : reading image state ≡ meaning_shown source finals way

-- On all values that fit main's formals: if the meaning is done, the loaded machine comes to the end within the counted
-- instructions, and memory shows the meaning there; the other way round, if the machine comes to its end, the meaning is done,
-- and memory shows it there; no run needs an address outside the window; and if the source never ends, no run comes to an end.
pub record DoesQuickly (image : ImageOf) (source : SourceOf) (sizes : StackSizes) : Type 0 where
  pub comes : (values finals : List ValueOf) (way : CurrentCondition) (count : ℕ) → FitsFormals source values →
      Finishes source sizes values finals way count → ComesWithin image values count (meaning_shown source finals way)
  pub ends : (values : List ValueOf) (steps : ℕ) (state : Fm) → FitsFormals source values →
      IsFirst (loaded image values) image.final_pc steps state → IsMeantWithin source sizes image values steps state
  pub inside : NeverOutside image source
  pub unfinished : StaysUnfinished image source sizes

-- 2. The image that is stored.

-- the machine that is loaded with what is stored, and the values, first comes to the end after exactly the instructions that are counted
-- at this bound, and memory is read as this there
pub record ComesAsCounted (source : SourceOf) (sizes : StackSizes) (plain : ImageOf) (values : List ValueOf) (bound : ℕ)
    (read : ReadingOf) : Type 0 where
  pub count : ℕ
  pub counted : quick_count source sizes plain.base values bound ≡ Some count
  pub comes : ComesTo (quickened source sizes plain) values count read

-- What is stored of a source does what the source means, in exactly the counted instructions, which are never more than the plain image
-- takes; and a file spells it.
pub record Quickens (source : SourceOf) (sizes : StackSizes) (plain : ImageOf) : Type 0 where
  pub does : DoesQuickly (quickened source sizes plain) source sizes
  pub exact : (values finals : List ValueOf) (way : CurrentCondition) (bound : ℕ) → FitsFormals source values →
      meaning (program_of source) sizes values bound ≡ Done finals way →
      ComesAsCounted source sizes plain values bound (meaning_shown source finals way)
  pub spells : Spelled (spelling (quickened source sizes plain)) (quickened source sizes plain)

-- The same of the source in a text. If that has at most 2^20 bytes, the file has at most 2^25 bytes.
pub record QuickensText (text : List ℕ) (ctrl temp : ℕ) (plain : ImageOf) : Type 0 where
  pub source : SourceOf
  pub read : accepted_source text ≡ Ok source
  pub short : length text ≤ most_text → length (spelling (quickened source (stack_sizes ctrl temp) plain)) ≤ most_image_file
  pub quickens : Quickens source (stack_sizes ctrl temp) plain

-- 3. So it is of all sources, with no premise on their form: of what is built of a source, and of a text.

abbrev pub SourcesAreQuickened : Type 0
SourcesAreQuickened = (source : SourceOf) (sizes : StackSizes) (made : BuiltOf) → IsAccepted source → made.image.base ≤ 2 ^ 31 →
    Builds source sizes made → Quickens source sizes made.image

abbrev pub TextsAreQuickened : Type 0
TextsAreQuickened = (text : List ℕ) (ctrl temp base : ℕ) (made : BuiltOf) → length text ≤ 2 ^ 31 → base ≤ 2 ^ 31 →
    built text ctrl temp base ≡ Ok made → QuickensText text ctrl temp made.image
