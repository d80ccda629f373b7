use Rattle.stack_text.specs.Views.TreeView.{node_of}
use Rattle.fm_loader.proofs.ValuesLaws.{fits_if_ok}
use Rattle.fm_loader.proofs.values.read_values.Goals as goal

pub returns-in-Ok-clause-fits : goal.returns-in-Ok-clause-fits
returns-in-Ok-clause-fits g c = fits_if_ok (g.H.Heap.may_refuse c.args.heap) c.args.slots.now (node_of c.in-Ok.tree) c.values.result c.values.ensures
