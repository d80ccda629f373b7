-- What a text is assembled to.
use Rattle.std.specs.Prelude.{ℕ, Option, Some, None, Result, Ok, Err, List}
use Rattle.stack_text.specs.{Breaches.{least}, Results.{◌>>=◌}, declared.breach.Breach.{Breach}}
use Rattle.stack_text.specs.Gives as common
use Rattle.fm_image.specs.Image.{ImageOf}
use Rattle.fm_asm.specs.{declared.fault.AsmFault.{AsmFault}, declared.fault.AsmFault.TheVariants.{Refused, Memory}, Cuts.{without_trailing}}
use Rattle.fm_asm.specs.{Sources.{SourceOf, source_in}, Labels.{offset_of, breaches, words_of, final_in, start_in}, Printing.{plain_image}}

-- the fault of a text that an error is; there is none where memory ran out
abbrev pub fault_of : AsmFault → Option Breach
fault_of (Refused rule place) = Some (record { rule = rule; place = place })
fault_of Memory = None

-- exactly what the definition gives, unless memory was refused
abbrev pub GivesAssemblyUnless : {X Y : Type 0} → Type 0 → (X → Y) → Result X AsmFault → Result Y Breach → Type 0
GivesAssemblyUnless refused view result value = common.GivesUnless refused fault_of view result value

-- the image of a source
abbrev pub image_of : SourceOf → ImageOf
image_of s =
    let known = offset_of s.lines in
    plain_image s.base s.size (final_in s.base known s.lines) (start_in s.base known s.lines) (without_trailing 0 (words_of s))

-- the image of a source without a breach, and else the least breach
abbrev pub image_unless : SourceOf → Option Breach → Result ImageOf Breach
image_unless s None = Ok (image_of s)
image_unless s (Some fault) = Err fault

-- the image that a text is assembled to, or its least fault: place before rule, and rules 4 to 7 only where no line breaks rules 1
-- to 3
unfoldable pub assembly_of : List ℕ → Result ImageOf Breach
assembly_of text = source_in text >>= λ s. image_unless s (least (breaches s))
