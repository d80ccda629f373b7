use Rattle.fm_asm.proofs.PrintLaws.{spelled_where}
use Rattle.fm_asm.proofs.printing.print_asm.Goals as goal

pub returns-clause-spells : goal.returns-clause-spells
returns-clause-spells g c =
    spelled_where (g.H.Heap.may_refuse c.args.heap) (λ text. text.items) c.printed.result c.args.image.now c.requires c.printed.ensures.limits
    c.printed.ensures.text c.printed.ensures.start c.printed.ensures.words
