use Rattle.std.{proofs.Common.{ap, ◌∙◌, length, reverse, sym}, proofs.lemmas.List.length-reverse}
use Rattle.piton_machine.{specs.Stacked.FramesIn, proofs.FrameLaws.frames_count}
use Rattle.piton_machine.proofs.frames.Frames.len.Goals as goal

pub returns-clause-len : goal.returns-clause-len
returns-clause-len c =
    let links = c.self.inside.links.items in
    c.len.ensures
    ∙ c.self.inside.links.ok.0
    ∙ sym (length-reverse links)
    ∙ sym (frames_count (reverse links) c.self.inside.words.items)
    ∙ ap (λ (f : FramesIn). length f.frames) c.self.view_is
