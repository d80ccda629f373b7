use Rattle.std.proofs.Common.{ap, length, List, ℕ}
use Rattle.piton_semantics.specs.Fits.{system_in}
use Rattle.stack_build.proofs.ImageLimits.{placed_fits}
use Rattle.stack_build.proofs.imaging.placed_image.Goals as goal

pub bare_image-image-requires-clause-sized : goal.bare_image-image-requires-clause-sized
bare_image-image-requires-clause-sized g c =
    let linked = c.in_ok-base.ensures in
    rw (linked.base, linked.size) (placed_fits (system_in c.args.piton.now) c.requires.sound linked.small).sized

pub bare_image-image-requires-clause-inside : goal.bare_image-image-requires-clause-inside
bare_image-image-requires-clause-inside g c =
    let linked = c.in_ok-base.ensures in
    rw (linked.base, linked.size, linked.final_pc) (placed_fits (system_in c.args.piton.now) c.requires.sound linked.small).inside

pub bare_image-image-requires-clause-sixteen : goal.bare_image-image-requires-clause-sixteen
bare_image-image-requires-clause-sixteen g c = ap (λ (rs : List ℕ). length rs) c.in_ok-base.ensures.registers

pub bare_image-image-requires-clause-few : goal.bare_image-image-requires-clause-few
bare_image-image-requires-clause-few g c =
    let linked = c.in_ok-base.ensures in
    rw (linked.words, linked.size) (placed_fits (system_in c.args.piton.now) c.requires.sound linked.small).few
