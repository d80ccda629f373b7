use Rattle.std.{proofs.Common.{ap, ◌∙◌, ◌≡◌, ◌+◌, ◌≤◌, List, [], ◌∷◌, ◌++◌, length, reverse, arith, length-append}, specs.Prelude.{◌*◌, if◌then◌else◌}}
use Rattle.std.proofs.lemmas.List.{length-reverse}
use Rattle.stack_text.proofs.SharedLaws.{reverse_snoc}
use Rattle.piton_machine.{specs.declared.frames.Link.Link, specs.Stacked.{FramesIn, AreLinks}, proofs.FrameLaws.{frames_used, entered_frames, entered_links}}
use Rattle.piton_machine.proofs.frames.Frames.enter.Goals.{After-extend_from_slice-temporaries}
use Rattle.piton_semantics.specs.State.{Frame, ctrl_used}
use Rattle.piton_machine.proofs.frames.Frames.enter.Goals as goal

-- the link of the frame
abbrev link_of : After-extend_from_slice-temporaries → Link
link_of c = record { program = c.args.program; place = c.args.place; first = c.len.result }

-- the link and the words that were appended, and that they had room
record Entered (c : After-extend_from_slice-temporaries) : Type 0 where
  begins : (link_of c).first ≡ length c.self.inside.words.items
  bound : length c.self.inside.words.items + 2 * length c.self.inside.links.items + (2 + (length c.args.formals.now + length c.args.temporaries.now))
      ≤ c.self.inside.room
  links_are : reverse c.push-linked.new.self.items ≡ link_of c ∷ reverse c.self.inside.links.items
  words_are : c.extend_from_slice-temporaries.new.self.items ≡ c.self.inside.words.items ++ c.args.formals.now ++ c.args.temporaries.now

entered : (c : After-extend_from_slice-temporaries) → Entered c
entered c =
    let links = c.self.inside.links.items in
    let words = c.self.inside.words.items in
    let link = link_of c in
    let used = frames_used (reverse links) words c.self.invariant.are in
    let seen = ap (λ (f : FramesIn). ctrl_used f.frames) c.self.view_is in
    let room = ap (λ (f : FramesIn). f.room) c.self.view_is in
    let bound : length words + 2 * length links + (2 + (length c.args.formals.now + length c.args.temporaries.now)) ≤ c.self.inside.room =
    omega (arith, used, seen, room, length-reverse links, c.requires) in
    let linked = c.push-linked.ensures.succeeds (omega (arith, c.self.inside.links.ok.0, c.self.invariant.links_fit)) in
    let links' : c.push-linked.new.self.items ≡ links ++ link ∷ [] =
    c.push-linked.ensures.items ∙ ap (λ b. if b then links ++ link ∷ [] else links) linked in
    let first = c.extend_from_slice-formals.ensures.succeeds (omega (arith, c.self.inside.words.ok.0, c.self.invariant.words_fit)) in
    let words' : c.extend_from_slice-formals.new.self.items ≡ words ++ c.args.formals.now =
    c.extend_from_slice-formals.ensures.items ∙ ap (λ b. if b then words ++ c.args.formals.now else words) first in
    let size' : length c.extend_from_slice-formals.new.self.items ≡ length words + length c.args.formals.now =
    ap length words' ∙ length-append words c.args.formals.now in
    let second = c.extend_from_slice-temporaries.ensures.succeeds
    (omega (arith, size', c.extend_from_slice-formals.new.self.ok.0, c.extend_from_slice-formals.ensures.capacity, c.self.invariant.words_fit)) in
    record {
      begins = c.len.ensures ∙ c.self.inside.words.ok.0;
      bound = bound;
      links_are = ap reverse links' ∙ reverse_snoc links link;
      words_are =
          c.extend_from_slice-temporaries.ensures.items
          ∙ ap (λ b. if b then c.extend_from_slice-formals.new.self.items ++ c.args.temporaries.now else c.extend_from_slice-formals.new.self.items) second
          ∙ ap (λ ws. ws ++ c.args.temporaries.now) words';
    }

pub invariant_of-self : goal.invariant_of-self
invariant_of-self c =
    let links = c.self.inside.links.items in
    let words = c.self.inside.words.items in
    let link = link_of (goal.at.invariant_of-self c).After-extend_from_slice-temporaries in
    let new = entered (goal.at.invariant_of-self c).After-extend_from_slice-temporaries in
    let are : AreLinks (link ∷ reverse links) (words ++ c.args.formals.now ++ c.args.temporaries.now) =
    entered_links (reverse links) words c.args.formals.now c.args.temporaries.now link new.begins c.self.invariant.are in
    record {
      are = rw (new.links_are, new.words_are) are;
      fits = omega (
        arith,
        new.bound,
        ap length new.links_are,
        length-reverse c.push-linked.new.self.items,
        length-reverse links,
        ap length new.words_are,
        length-append words c.args.formals.now,
        length-append (words ++ c.args.formals.now) c.args.temporaries.now,
      );
      small = c.self.invariant.small;
      links_fit = omega (arith, c.push-linked.ensures.capacity, c.self.invariant.links_fit);
      words_fit = omega (arith, c.extend_from_slice-formals.ensures.capacity, c.extend_from_slice-temporaries.ensures.capacity, c.self.invariant.words_fit);
    }

pub returns : goal.returns
returns c =
    let links = c.self.inside.links.items in
    let words = c.self.inside.words.items in
    let link = link_of (goal.at.returns c).After-extend_from_slice-temporaries in
    let new = entered (goal.at.returns c).After-extend_from_slice-temporaries in
    let made : List Frame → FramesIn = λ fs. record { frames = fs; room = c.self.inside.room } in
    rw (new.links_are, new.words_are, ← c.self.view_is)
    (ap made (entered_frames (reverse links) words c.args.formals.now c.args.temporaries.now link new.begins))
