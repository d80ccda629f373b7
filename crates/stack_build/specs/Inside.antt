-- Each run of an image that is built stays inside the image's window.
use Rattle.std.specs.Prelude.{◌≡◌, ◌≢◌, ℕ, ◌+◌, ◌≤◌, ◌^◌, List, length, Ok, Err}
use Rattle.stack_text.specs.Values.{ValueOf}
use Rattle.fm_machine.specs.{State.{Fm}, Step.{fm_step}, Run.{fm_run, Avoids}, declared.fault.Outside.{Outside}}
use Rattle.fm_image.specs.Image.{ImageOf}
use Rattle.fm_loader.specs.Loaded.{loaded}
use Rattle.gypsy_syntax.specs.Sources.{SourceOf}
use Rattle.stack_build.specs.{Build.{BuiltOf, accepted_source, built}, Implements.{FitsFormals}}

-- no step of the run, from the machine that is loaded with the values to its first stand at the final pc, needs an address
-- outside the image's window
abbrev pub RunsInside : ImageOf → List ValueOf → Type 0
RunsInside image values =
    (k : ℕ) (s : Fm) (e : Outside) → fm_run k (loaded image values) ≡ Ok s → Avoids (loaded image values) image.final_pc (k + 1)
    → fm_step s ≢ Err e

-- the window of what is built of a text begins at the base
abbrev pub BuiltAtBase : Type 0
BuiltAtBase = (text : List ℕ) (ctrl temp base : ℕ) (b : BuiltOf) → built text ctrl temp base ≡ Ok b → b.image.base ≡ base

-- runs of the image of what is built of a text stay inside, on all values that fit main's formals
abbrev pub BuiltRunsInside : Type 0
BuiltRunsInside = (text : List ℕ) (ctrl temp base : ℕ) (source : SourceOf) (b : BuiltOf) (values : List ValueOf) →
    length text ≤ 2 ^ 31 → base ≤ 2 ^ 31 → accepted_source text ≡ Ok source → built text ctrl temp base ≡ Ok b →
    FitsFormals source values → RunsInside b.image values
