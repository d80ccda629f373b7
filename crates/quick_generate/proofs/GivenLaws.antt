-- What the definitions say of the image, if there is one.
use Rattle.quick_generate.{specs.QuickOf.{image_found, image_size, main_found, quick_of, small_image, whole_image, window_end}, specs.Quickened.image_or}
use Rattle.quick_generate.{specs.Quickened.quickened, specs.Choice.chosen_of, specs.Lining.{is_lined, main_size, most_lined}}
use Rattle.std.{proofs.Common.{◌≡◌, ℕ, ◌≤◌, ◌<◌, List, Bool, true, false, Option, Some, None, refl, ap}, specs.Prelude.{nat_le, if◌then◌else◌}}
use Rattle.std.proofs.lemmas.Bool.{le-leb, leb-true, lt-leb}
use Rattle.fm_words.specs.WindowLimit.{most_window}
use Rattle.fm_image.specs.Image.{ImageOf}
use Rattle.gypsy_syntax.{specs.Programs.Proc, specs.Resolved.program_of, specs.Sources.SourceOf}
use Rattle.gypsy_space.specs.Needs.{StackSizes}
use Rattle.quick_build.specs.QuickImage.{quick_main}

-- by its size
pub image_given : (vs : List ℕ) (s : SourceOf) (p : Proc) (base : ℕ) → image_size vs p ≤ most_window
    → small_image vs s p base ≡ Some (whole_image vs s p base (window_end vs p base))
unfolding small_image
image_given vs s p base small =
    ap (λ (t : Bool). if t then Some (whole_image vs s p base (window_end vs p base)) else None) (le-leb (image_size vs p) most_window small)

pub none_given : (vs : List ℕ) (s : SourceOf) (p : Proc) (base : ℕ) → most_window < image_size vs p → small_image vs s p base ≡ None
unfolding small_image
none_given vs s p base large =
    ap (λ (t : Bool). if t then Some (whole_image vs s p base (window_end vs p base)) else None) (lt-leb (image_size vs p) most_window large)

-- Where there is a quick image, main's calls are in line, and nothing is too much.
pub record IsTaken (s : SourceOf) (sizes : StackSizes) (base : ℕ) (image : ImageOf) : Type 0 where
  pub lined : main_size (program_of s) sizes ≤ most_lined
  pub small : image_size (chosen_of (quick_main s sizes)) (quick_main s sizes) ≤ most_window
  pub is : image ≡ whole_image (chosen_of (quick_main s sizes)) s (quick_main s sizes) base
      (window_end (chosen_of (quick_main s sizes)) (quick_main s sizes) base)

pub taken : (s : SourceOf) (sizes : StackSizes) (base : ℕ) (image : ImageOf) → quick_of s sizes base ≡ Some image → IsTaken s sizes base image
unfolding quick_of main_found small_image
taken s sizes base image e = by_lining (is_lined s sizes) refl e
  where
    p : Proc
    p = quick_main s sizes

    vs : List ℕ
    vs = chosen_of (quick_main s sizes)

    made : ImageOf
    made = whole_image (chosen_of (quick_main s sizes)) s (quick_main s sizes) base (window_end (chosen_of (quick_main s sizes)) (quick_main s sizes) base)

    by_size : is_lined s sizes ≡ true → (t : Bool) → nat_le (image_size (chosen_of (quick_main s sizes)) (quick_main s sizes)) most_window ≡ t
        → (if t then Some made else None) ≡ Some image → IsTaken s sizes base image
    by_size lined true small f = record {
      lined = leb-true (main_size (program_of s) sizes) most_lined lined;
      small = leb-true (image_size (chosen_of (quick_main s sizes)) (quick_main s sizes)) most_window small;
      is = cc;
    }
    by_size lined false large f = absurd cc

    by_lining : (t : Bool) → is_lined s sizes ≡ t → image_found s base (if t then Some (quick_main s sizes) else None) ≡ Some image
        → IsTaken s sizes base image
    by_lining true lined f = by_size lined (nat_le (image_size (chosen_of (quick_main s sizes)) (quick_main s sizes)) most_window) refl f
    by_lining false lined f = absurd cc

-- of the main that is found
pub quick_by_main : (s : SourceOf) (sizes : StackSizes) (base : ℕ) (found : Option Proc) → found ≡ main_found s sizes
    → image_found s base found ≡ quick_of s sizes base
unfolding quick_of
quick_by_main s sizes base found is = ap (image_found s base) is

-- and which image is stored
pub quick_stored : (s : SourceOf) (sizes : StackSizes) (plain : ImageOf) (found : Option ImageOf) → found ≡ quick_of s sizes plain.base
    → image_or plain found ≡ quickened s sizes plain
unfolding quickened
quick_stored s sizes plain found is = ap (image_or plain) is
