use Rattle.std.proofs.Common.{subst, arith}
use Rattle.fm_image.{specs.Rules.GivesImageUnless, proofs.ImageLaws.{is_found, tells, spelled_reads}}
use Rattle.fm_image.proofs.reading.read_image.Goals as goal

pub returns-clause-found : goal.returns-clause-found
returns-clause-found g c = is_found (g.H.Heap.may_refuse c.args.heap) c.args.bytes.now c.image.result (λ i. omega (arith, c.type_inv.bytes i)) c.image.ensures

pub returns-clause-only : goal.returns-clause-only
returns-clause-only g c = λ image spelled. subst (λ read. GivesImageUnless (g.H.Heap.may_refuse c.args.heap) (λ i. i) c.image.result read)
    (spelled_reads c.args.bytes.now image spelled) c.image.ensures

pub returns-clause-fault : goal.returns-clause-fault
returns-clause-fault g c = tells (g.H.Heap.may_refuse c.args.heap) c.args.bytes.now c.image.result c.image.ensures
