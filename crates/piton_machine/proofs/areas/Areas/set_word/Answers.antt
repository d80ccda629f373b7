use Rattle.std.proofs.Common.{◌∙◌, ◌<◌, ap, sym, length, map, arith}
use Rattle.piton_semantics.{specs.StateView.words_in, proofs.KeepLaws.area_lengths}
use Rattle.piton_machine.proofs.AreaLaws.{set_area}
use Rattle.piton_machine.proofs.areas.Areas.set_word.Goals as goal

pub invariant_of-self : goal.invariant_of-self
invariant_of-self c =
    let areas = c.self.inside.areas.items in
    let within : c.args.area < length areas = omega (arith, c.len.ensures, c.self.inside.areas.ok.0) in
    c.self.invariant
    ∙ sym
    (ap (map length) (set_area areas c.args.area c.args.offset c.args.word c.index_mut.result.now c.set.new.words within c.index_mut.ensures.value
    c.set.ensures)
    ∙ area_lengths (map words_in areas) c.args.area c.args.offset c.args.word)

pub returns-then-at-len : goal.returns-then-at-len
returns-then-at-len c =
    let areas = c.self.inside.areas.items in
    let within : c.args.area < length areas = omega (arith, c.len.ensures, c.self.inside.areas.ok.0) in
    rw (← c.self.view_is) (set_area areas c.args.area c.args.offset c.args.word c.index_mut.result.now c.set.new.words within c.index_mut.ensures.value
    c.set.ensures)
