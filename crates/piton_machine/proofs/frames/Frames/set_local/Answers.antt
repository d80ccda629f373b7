use Rattle.std.{proofs.Common.{ap, ◌∙◌, ◌≡◌, ◌<◌, List, reverse, arith}, specs.Prelude.{slice_get, Some}}
use Rattle.piton_semantics.specs.State.{Frame}
use Rattle.piton_machine.{specs.Stacked.FramesIn, proofs.FrameLaws.{last_link, set_newest}}
use Rattle.piton_machine.proofs.frames.Frames.set_local.Goals as goal

pub returns-then-at-len : goal.returns-then-at-len
returns-then-at-len c =
    let links = c.self.inside.links.items in
    let words = c.self.inside.words.items in
    let link = c.index.result.now in
    let some : 0 < c.len-count.result = omega arith in
    let last : slice_get (reverse links) 0 ≡ Some link =
    last_link links c.len-count.result link link (c.len-count.ensures ∙ c.self.inside.links.ok.0) some c.index.ensures in
    let made : List Frame → FramesIn = λ fs. record { frames = fs; room = c.self.inside.room } in
    rw (← c.self.view_is) (ap made (set_newest (reverse links) words link c.args.offset c.args.word last))
