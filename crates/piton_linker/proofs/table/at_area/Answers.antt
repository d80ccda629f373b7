use Rattle.std.{proofs.Common.{◌≡◌, ◌+◌, ap, ◌∙◌, arith}, specs.Prelude.unwrap_or}
use Rattle.piton_check.specs.Instruction.{system_view}
use Rattle.piton_semantics.specs.Placed.{address_of_area}
use Rattle.piton_linker.proofs.LookupLaws.{area_word, area_fits}
use Rattle.piton_linker.proofs.table.at_area.Goals as goal

pub overflow_add-result : goal.overflow_add-result
overflow_add-result c =
    let s = system_view c.args._checked.now in
    let found : c.unwrap_or.result ≡ address_of_area s c.args.to =
    c.unwrap_or.ensures ∙ ap (λ o. unwrap_or o 0) c.area.ensures ∙ area_word s c.args.table.now c.args.to c.args.offset c.requires.table c.requires.there in
    let at = area_word s c.args.table.now c.args.to c.args.offset c.requires.table c.requires.there in
    omega (arith, found, at, area_fits s c.args.table.now c.args.to c.args.offset c.requires.table c.requires.fits c.requires.there)

pub returns : goal.returns
returns c =
    let s = system_view c.args._checked.now in
    ap (λ n. n + c.args.offset) (c.unwrap_or.ensures ∙ ap (λ o. unwrap_or o 0) c.area.ensures
    ∙ area_word s c.args.table.now c.args.to c.args.offset c.requires.table c.requires.there)
