-- Examples, computed: of sources with these programs the quick image is what is stored, not the plain one.
use Rattle.std.specs.Prelude.{◌≡◌, ◌+◌, pos, [], ◌∷◌, Some}
use Rattle.fm_image.specs.Image.{ImageOf}
use Rattle.gypsy_syntax.specs.{Effects.{integer_value}, Resolved.{program_of}, Sources.{SourceOf}}
use Rattle.quick_gypsy.specs.InLine.{lined_main}
use Rattle.quick_build.specs.{QuickExamples.{hundred, swap, upto, upto_main}, QuickImage.{most_nested}}
use Rattle.quick_generate.specs.{Choice.{chosen_of}, QuickOf.{whole_image}, Quickened.{quickened, quick_count}}

-- of a source whose program is that of `examples/counting/upto.gypsy`, but with 0 for each place in the text
pub record UptoIsQuickened : Type 0 where
  -- it names i most, then is-over, n and one
  pub chosen : chosen_of upto_main ≡ 1 ∷ 2 ∷ 0 ∷ 3 ∷ []
  -- its quick image is what is stored, in a window of 38 words
  pub stored : (s : SourceOf) (plain : ImageOf) → program_of s ≡ upto →
      quickened s hundred plain ≡ whole_image (chosen_of upto_main) s upto_main plain.base (plain.base + 38)
  -- and from n = 5 a run of it takes 63 instructions
  pub counted : (s : SourceOf) → program_of s ≡ upto →
      quick_count s hundred 0 (integer_value (pos 5) ∷ integer_value (pos 0) ∷ []) 7 ≡ Some 63

-- of a source whose program is that of `examples/calls/swap.gypsy`, in the same way
pub record SwapIsQuickened : Type 0 where
  -- its call is in line, and the local of the called procedure is named most; the window has 22 words
  pub stored : (s : SourceOf) (plain : ImageOf) → program_of s ≡ swap →
      quickened s hundred plain ≡ whole_image (2 ∷ 0 ∷ 1 ∷ []) s (lined_main swap hundred most_nested) plain.base (plain.base + 22)
  -- and a run of it takes 4 instructions
  pub counted : (s : SourceOf) → program_of s ≡ swap →
      quick_count s hundred 0 (integer_value (pos 3) ∷ integer_value (pos 4) ∷ []) 3 ≡ Some 4
