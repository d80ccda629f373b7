use Rattle.std.{proofs.Common.{ap, ◌∙◌, ◌≡◌, ◌-◌, ℕ, List, drop, length, reverse, take, sym, arith}, specs.Prelude.{Some, slice_get}}
use Rattle.std.{proofs.lemmas.List.length-reverse, proofs.lemmas.Option.slice_get_past}
use Rattle.piton_words.specs.declared.word.Word.{Word}
use Rattle.piton_semantics.specs.State.{Frame}
use Rattle.piton_machine.{specs.declared.frames.Link.Link, specs.Stacked.{FramesIn, frames_of, locals_end}, proofs.FrameLaws.{IsThere, frame_there}}
use Rattle.piton_machine.{proofs.FrameLaws.{frames_count, link_there}, proofs.frames.Frames.frame.Goals.After-locals_end-end}
use Rattle.piton_machine.proofs.frames.Frames.frame.Goals as goal

pub returns-then-number-count : goal.returns-then-number-count
returns-then-number-count c =
    let links = c.self.inside.links.items in
    let frames = frames_of (reverse links) c.self.inside.words.items in
    let count = frames_count (reverse links) c.self.inside.words.items in
    sym (slice_get_past frames c.args.number
    (omega (arith, count, length-reverse links, c.len-count.ensures, c.self.inside.links.ok.0, c.if-number-count.true)))
    ∙ ap (λ (f : FramesIn). slice_get f.frames c.args.number) c.self.view_is

there : (c : After-locals_end-end) → IsThere (reverse c.self.inside.links.items) c.self.inside.words.items c.args.number c.index-link.result.now
there c =
    let links = c.self.inside.links.items in
    let link = c.index-link.result.now in
    frame_there (reverse links) c.self.inside.words.items c.args.number link c.self.invariant.are
    (link_there links c.args.number c.len-count.result link link (c.len-count.ensures ∙ c.self.inside.links.ok.0) (omega (arith, c.if-number-count.false))
    c.index-link.ensures)

ends : (c : After-locals_end-end) → c.locals_end-end.result ≡ locals_end (length c.self.inside.words.items) (reverse c.self.inside.links.items) c.args.number
ends c =
    c.locals_end-end.ensures
    ∙ ap (λ (n : ℕ). locals_end n (reverse c.as_slice.result.now) c.args.number) (c.len.ensures ∙ c.self.inside.words.ok.0)
    ∙ ap (λ (ls : List Link). locals_end (length c.self.inside.words.items) (reverse ls) c.args.number) c.as_slice.ensures.value

pub part-requires-clause-low : goal.part-requires-clause-low
part-requires-clause-low c =
    let at = (goal.at.part-requires-clause-low c).After-locals_end-end in
    omega (arith, (there at).low, ends at)

pub part-requires-clause-high : goal.part-requires-clause-high
part-requires-clause-high c =
    let at = (goal.at.part-requires-clause-high c).After-locals_end-end in
    omega (arith, (there at).high, ends at, ap length c.as_slice-2.ensures.value)

pub returns : goal.returns
returns c =
    let at = (goal.at.returns c).After-locals_end-end in
    let link = c.index-link.result.now in
    let frame : List Word → Frame = λ ws. record { locals = ws; program = link.program; place = link.place } in
    ap (λ (ws : List Word). Some (frame ws))
    (c.part.ensures
    ∙ ap (λ (ws : List Word). take (c.locals_end-end.result - link.first) (drop link.first ws)) c.as_slice-2.ensures.value
    ∙ ap (λ (n : ℕ). take (n - link.first) (drop link.first c.self.inside.words.items)) (ends at))
    ∙ sym (there at).is
    ∙ ap (λ (f : FramesIn). slice_get f.frames c.args.number) c.self.view_is
