use Rattle.std.{proofs.Common.{ap, reverse, arith}, proofs.lemmas.List.length-reverse}
use Rattle.piton_semantics.specs.State.{ctrl_used}
use Rattle.piton_machine.{specs.Stacked.FramesIn, proofs.FrameLaws.frames_used}
use Rattle.piton_machine.proofs.frames.Frames.used.Goals as goal

pub returns-clause-used : goal.returns-clause-used
returns-clause-used c =
    let links = c.self.inside.links.items in
    let used = frames_used (reverse links) c.self.inside.words.items c.self.invariant.are in
    let seen = ap (λ (f : FramesIn). ctrl_used f.frames) c.self.view_is in
    omega (arith, used, seen, length-reverse links, c.len.ensures, c.len-2.ensures, c.self.inside.links.ok.0, c.self.inside.words.ok.0)

pub returns-clause-fits : goal.returns-clause-fits
returns-clause-fits c =
    let links = c.self.inside.links.items in
    let used = frames_used (reverse links) c.self.inside.words.items c.self.invariant.are in
    let seen = ap (λ (f : FramesIn). ctrl_used f.frames) c.self.view_is in
    let room = ap (λ (f : FramesIn). f.room) c.self.view_is in
    omega (arith, used, seen, room, length-reverse links, c.self.invariant.fits)
