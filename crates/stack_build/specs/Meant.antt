-- The other way round: what a run of an image ends with is what its source means.
use Rattle.std.specs.Prelude.{◌≡◌, ◌≤◌, ◌⊎◌, ℕ, List}
use Rattle.stack_text.specs.Values.{ValueOf}
use Rattle.fm_machine.specs.{State.{Fm}, Run.{IsFirst}, Outcome.{outcome}}
use Rattle.fm_machine.specs.declared.processor.Run.TheVariants as run
use Rattle.fm_image.specs.Image.{ImageOf}
use Rattle.fm_loader.specs.Loaded.{loaded}
use Rattle.display_maps.specs.Reading.{reading}
use Rattle.gypsy_syntax.specs.{Sources.{SourceOf}, Resolved.{program_of}}
use Rattle.gypsy_space.specs.Needs.{StackSizes}
use Rattle.gypsy_semantics.specs.{Calls.{CurrentCondition}, Meaning.{Unfinished, meaning}}
use Rattle.stack_build.specs.{Implements.{meaning_shown, FitsFormals, Finishes}, Moments.{KeepsMoments}}

-- the meaning is done after so many counted instructions, and the memory of this state shows it
pub record IsMeant (source : SourceOf) (sizes : StackSizes) (image : ImageOf) (values : List ValueOf) (count : ℕ) (state : Fm) :
    Type 0 where
  pub finals : List ValueOf
  pub way : CurrentCondition
  pub finishes : Finishes source sizes values finals way count
  pub reads : reading image state ≡ meaning_shown source finals way

-- wherever the machine that is loaded with values that fit main's formals first comes to its end
abbrev pub EndsAsMeant : ImageOf → SourceOf → StackSizes → Type 0
EndsAsMeant image source sizes =
    (values : List ValueOf) (count : ℕ) (state : Fm) → FitsFormals source values →
    IsFirst (loaded image values) image.final_pc count state → IsMeant source sizes image values count state

-- within each budget it comes to its end, or makes as many instructions as that has: none of them needs an address outside
abbrev pub NeverOutside : ImageOf → SourceOf → Type 0
NeverOutside image source =
    (values : List ValueOf) (budget : ℕ) → FitsFormals source values →
    let made = outcome budget image.final_pc (loaded image values) in
    ((count : ℕ) × (count ≤ budget) × (made.run ≡ run.Ended count)) ⊎ (made.run ≡ run.Spent)

-- where the meaning is done at no bound, it makes as many as each budget has
abbrev pub EndlessAsMeant : ImageOf → SourceOf → StackSizes → Type 0
EndlessAsMeant image source sizes =
    (values : List ValueOf) (budget : ℕ) → FitsFormals source values →
    ((bound : ℕ) → meaning (program_of source) sizes values bound ≡ Unfinished) →
    (outcome budget image.final_pc (loaded image values)).run ≡ run.Spent

pub record MeansOnly (image : ImageOf) (source : SourceOf) (sizes : StackSizes) : Type 0 where
  pub ends : EndsAsMeant image source sizes
  pub inside : NeverOutside image source
  pub endless : EndlessAsMeant image source sizes

-- So it is of each image that keeps to its source at every moment.
abbrev pub KeptMeansOnly : Type 0
KeptMeansOnly = (image : ImageOf) (source : SourceOf) (sizes : StackSizes) → KeepsMoments image source sizes → MeansOnly image source sizes
