-- What is known of an accepted source.
use Rattle.std.specs.Prelude.{◌≡◌, []}
use Rattle.gypsy_syntax.specs.{GypsyReading.{KeepsForm}, ProgramFits.{ProgramFits}, Resolved.{program_of}, Sources.{SourceOf}}
use Rattle.gypsy_check.specs.Rules.{violations}

-- it keeps the form and breaks no rule, and its program fits
pub record IsAccepted (s : SourceOf) : Type 0 where
  pub form : KeepsForm s
  pub rules : violations s ≡ []
  pub fits : ProgramFits (program_of s)
