-- Every moment of a run, as memory is read by the image alone.
use Rattle.std.proofs.Common.{◌≡◌, refl}
use Rattle.gypsy_syntax.specs.Resolved.{program_of}
use Rattle.gypsy_semantics.specs.Machine.{At, Move, Next, Ended}
use Rattle.gypsy_codegen.specs.Moments.{moment_from}
use Rattle.stack_build.{specs.Image.image_of, specs.Moments.ArrivesAt, specs.ReadMoments.{SaysMove, KeptMomentsAreSaid}, proofs.ReadingLaws.moments_are_read}

pub images_say_moments : KeptMomentsAreSaid
images_say_moments source sizes base accepted marked keeps v j fits = by_moment (moment_from (program_of source) sizes v j) refl (keeps v j fits)
  where
    by_moment : (m : Move) → moment_from (program_of source) sizes v j ≡ m → ArrivesAt source sizes (image_of source sizes base) v m
        → SaysMove source (image_of source sizes base) v m
    by_moment (Next (At p x w fs t)) e a = record {
      state = a.state;
      reached = a.reached;
      inside = a.inside;
      goes_on = a.goes_on;
      says = moments_are_read source sizes base j v a.state (At p x w fs t) accepted marked fits e a.reads;
    }
    by_moment (Ended x c t) e a = a.comes
