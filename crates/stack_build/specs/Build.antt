-- What is built from the text of a source.
use Rattle.std.specs.Prelude.{◌≡◌, ◌≤◌, ℕ, List, length, Option, Some, None, Result, Ok, Err, IsTrue, nat_lt, if◌then◌else◌}
use Rattle.fm_words.specs.WindowLimit.{most_window}
use Rattle.stack_text.specs.{SharedLimits.{most_text, most_image_file}, declared.breach.Breach.{Breach}, Breaches.{least}, Results.{◌>>=◌}}
use Rattle.stack_text.specs.Gives as common
use Rattle.fm_image.specs.{Image.{ImageOf}, Spelling.{Spelled, spelling}}
use Rattle.piton_syntax.specs.Systems.{SystemOf}
use Rattle.piton_check.specs.{PitonChecking.{CheckedOf}, Resolved.{resolved}}
use Rattle.piton_semantics.specs.Placed.{placed}
use Rattle.piton_linker.specs.declared.fault.LinkFault.{LinkFault}
use Rattle.piton_linker.specs.declared.fault.LinkFault.TheVariants as link
use Rattle.gypsy_syntax.specs.{declared.fault.GypsyFault.{GypsyFault}, GypsyReading.{gypsy_in}, Sources.{SourceOf}, Resolved.{program_of}}
use Rattle.gypsy_syntax.specs.declared.fault.GypsyFault.TheVariants as gypsy
use Rattle.gypsy_check.specs.{declared.fault.CheckFault.{CheckFault}, Rules.{violations}}
use Rattle.gypsy_check.specs.declared.fault.CheckFault.TheVariants as check
use Rattle.gypsy_space.specs.Needs.{StackSizes, stack_sizes}
use Rattle.gypsy_codegen.specs.{Generated.{generated_view}, Generation.{generation}, declared.fault.GenFault.{GenFault}}
use Rattle.gypsy_codegen.specs.declared.fault.GenFault.TheVariants as gen
use Rattle.stack_build.specs.{declared.fault.BuildFault.{BuildFault}, declared.fault.BuildFault.TheVariants.{Text, Form, Rule, Size}}
use Rattle.stack_build.specs.{declared.fault.BuildFault.TheVariants.{Control, Temporary, Words as TooManyWords, Memory}, Image.{image_of}}
use Rattle.stack_build.specs.{Image.{places_fit}, Implements.{Implements}, Moments.{KeepsMoments}, StaysUnfinished.{StaysUnfinished}}

-- a checked Piton system, an image, and the bytes of its file
pub record BuiltOf : Type 0 where
  pub piton : CheckedOf
  pub image : ImageOf
  pub bytes : List ℕ

-- ---- faults of the parts, as faults of the whole

abbrev pub reading_fault : GypsyFault → BuildFault
reading_fault (gypsy.Text rule place) = Text rule place
reading_fault (gypsy.Form rule place) = Form rule place
reading_fault gypsy.Memory = Memory

abbrev pub checking_fault : CheckFault → BuildFault
checking_fault (check.Violation rule place) = Rule rule place
checking_fault check.Memory = Memory

abbrev pub generating_fault : GenFault → BuildFault
generating_fault gen.Size = Size
generating_fault (gen.Control need) = Control need
generating_fault (gen.Temporary need) = Temporary need
generating_fault (gen.Words count) = TooManyWords count
generating_fault gen.Memory = Memory

abbrev pub linking_fault : LinkFault → BuildFault
linking_fault (link.Large words) = TooManyWords words
linking_fault link.Memory = Memory

-- out of memory is no fault of a text
abbrev pub fault_of : BuildFault → Option BuildFault
fault_of Memory = None
fault_of fault = Some fault

-- the call returned exactly what the definition gives, seen through the view; memory runs out only where it was refused
abbrev pub GivesBuiltUnless : {X Y : Type 0} → Type 0 → (X → Y) → Result X BuildFault → Result Y BuildFault → Type 0
GivesBuiltUnless refused view result value = common.GivesUnless refused fault_of view result value

-- ---- the source in a text

abbrev pub accepted_unless : SourceOf → Option Breach → Result SourceOf BuildFault
accepted_unless source None = Ok source
accepted_unless source (Some breach) = Err (Rule breach.rule breach.place)

abbrev pub accepted_by : Result SourceOf GypsyFault → Result SourceOf BuildFault
accepted_by (Ok source) = accepted_unless source (least (violations source))
accepted_by (Err fault) = Err (reading_fault fault)

-- the source that a text has, where it breaks no static rule, and else the first fault of the text, of its tree or of the source
unfoldable pub accepted_source : List ℕ → Result SourceOf BuildFault
accepted_source text = accepted_by (gypsy_in text)

-- ---- its system and its image

abbrev pub generated_by : Result SystemOf GenFault → Result SystemOf BuildFault
generated_by (Ok system) = Ok system
generated_by (Err fault) = Err (generating_fault fault)

-- what is built of a source whose system is this
abbrev pub built_with : SourceOf → StackSizes → ℕ → SystemOf → BuiltOf
built_with source sizes base system =
    let image = image_of source sizes base in
    record { piton = record { system = system; resolved = resolved system }; image = image; bytes = spelling image }

-- the placed size, which is judged where the sum of the code's words is within the limit
abbrev pub placed_size : SourceOf → StackSizes → ℕ → ℕ
placed_size source sizes base = (placed (generated_view (program_of source) sizes base)).size

unfoldable pub linked_of : SourceOf → StackSizes → ℕ → SystemOf → Result BuiltOf BuildFault
linked_of source sizes base system =
    if nat_lt most_window (placed_size source sizes base) then Err (TooManyWords (placed_size source sizes base))
    else Ok (built_with source sizes base system)

-- what is built of a source, for stacks of these sizes and from this address on
unfoldable pub source_built : SourceOf → StackSizes → ℕ → Result BuiltOf BuildFault
source_built source sizes base = generated_by (generation source sizes base) >>= linked_of source sizes base

-- the Piton system of a text
unfoldable pub compiled : List ℕ → ℕ → ℕ → ℕ → Result SystemOf BuildFault
compiled text ctrl temp base = accepted_source text >>= λ source. generated_by (generation source (stack_sizes ctrl temp) base)

-- what is built of a text
unfoldable pub built : List ℕ → ℕ → ℕ → ℕ → Result BuiltOf BuildFault
built text ctrl temp base = accepted_source text >>= λ source. source_built source (stack_sizes ctrl temp) base

-- What was built of a source, for stacks of these sizes: its image does what the source means, and keeps to it at every moment, so
-- that it is unfinished at every budget where the source never ends; and the file spells the image.
pub record Builds (source : SourceOf) (sizes : StackSizes) (built : BuiltOf) : Type 0 where
  pub base : ℕ
  pub is : built.image ≡ image_of source sizes base
  pub spells : Spelled built.bytes built.image
  pub implements : Implements built.image source sizes
  pub moments : KeepsMoments built.image source sizes
  pub unfinished : StaysUnfinished built.image source sizes

-- The same of the source in a text. Where that has at most 2^20 bytes, the image has its marks, and its file at most 2^25 bytes.
pub record BuildsText (text : List ℕ) (ctrl temp : ℕ) (built : BuiltOf) : Type 0 where
  pub source : SourceOf
  pub read : accepted_source text ≡ Ok source
  pub marked : length text ≤ most_text → IsTrue (places_fit (program_of source))
  pub short : length text ≤ most_text → length built.bytes ≤ most_image_file
  pub builds : Builds source (stack_sizes ctrl temp) built
