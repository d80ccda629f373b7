use Rattle.std.proofs.Common.{ap, ◌∙◌}
use Rattle.gypsy_space.specs.declared.need.Need.{Need}
use Rattle.gypsy_codegen.{specs.Internal.Listing.marked_program, proofs.MarkingLaws.callee_words}
use Rattle.gypsy_codegen.proofs.marking.local_words.Goals as goal

pub returns : goal.returns
returns c =
    ap (λ (n : Need). n.locals_words) c.need_of.ensures
    ∙ callee_words (marked_program c.args.marking.now) c.args.marking.now.needs.now.procedures.items c.args.procedure c.requires.known.fits
    c.requires.known.needs c.requires.there
