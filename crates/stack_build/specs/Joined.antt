-- The image of each accepted source does what the source means; and so does what is built of a text.
use Rattle.std.specs.Prelude.{◌≡◌, ℕ, ◌≤◌, ◌^◌, List, length, Ok, IfOk}
use Rattle.fm_words.specs.WindowLimit.{most_window}
use Rattle.stack_text.specs.Values.{ValueOf}
use Rattle.fm_loader.specs.Values.{values_in}
use Rattle.piton_semantics.specs.Placed.{placed}
use Rattle.gypsy_syntax.specs.{Sources.{SourceOf}, Resolved.{program_of}}
use Rattle.gypsy_check.specs.Accepted.{IsAccepted}
use Rattle.gypsy_space.specs.Needs.{StackSizes}
use Rattle.gypsy_codegen.specs.{Generated.{generated_view}, Acceptable.{LimitsFit}}
use Rattle.stack_build.specs.{Image.{image_of}, Implements.{FitsFormals, Implements}, Build.{BuiltOf, accepted_source, built, BuildsText}}

-- within the limits, and where the placed size is at most 2^20
abbrev pub GeneratedImageImplements : Type 0
GeneratedImageImplements = (source : SourceOf) (sizes : StackSizes) (base : ℕ) → IsAccepted source →
    LimitsFit (program_of source) sizes base →
    (placed (generated_view (program_of source) sizes base)).size ≤ most_window → Implements (image_of source sizes base) source sizes

-- what is built of a text
abbrev pub BuiltImplements : Type 0
BuiltImplements = (text : List ℕ) (ctrl temp base : ℕ) → length text ≤ 2 ^ 31 → base ≤ 2 ^ 31 →
    IfOk (built text ctrl temp base) (BuildsText text ctrl temp)

-- values that are read for its image fit main's formals
abbrev pub BuiltTakesValues : Type 0
BuiltTakesValues = (text : List ℕ) (ctrl temp base : ℕ) (source : SourceOf) (b : BuiltOf) (values_text : List ℕ) (values : List ValueOf) →
    length text ≤ 2 ^ 31 → base ≤ 2 ^ 31 → accepted_source text ≡ Ok source → built text ctrl temp base ≡ Ok b →
    values_in b.image.slots values_text ≡ Ok values → FitsFormals source values
