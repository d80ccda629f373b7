use Rattle.std.proofs.Common.{◌≡◌, List, [], ap, refl, sym}
use Rattle.gypsy_space.specs.Nodes.{seen_statement}
use Rattle.gypsy_semantics.specs.Machine.{Item}
use Rattle.gypsy_meaning.{specs.Views.Work.work_on, specs.declared.work.Item.Item as Kept, proofs.OpenLaws.put_opens}
use Rattle.gypsy_meaning.proofs.pending.Work.begun.Goals as goal

pub returns : goal.returns
returns g c =
    let v : List Item = [] in
    let none : work_on c.new-items.result.items v ≡ v = ap (λ (l : List Kept). work_on l v) c.new-items.ensures.items in
    sym (put_opens (seen_statement c.args.body.now.value) c.new-items.result.items c.open.new.work.items c.in_ok-_opened._opened v v v none
    c.in_ok-_opened.ensures refl)
