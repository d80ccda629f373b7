use Rattle.std.proofs.Common.{◌≡◌, ◌++◌, IfSome, map, drop}
use Rattle.stack_shelf.specs.Causes.{NoneFell}
use Rattle.command_line.{specs.Gathered.{AreShort, Texts, roles_of, gathered}, specs.Devices.gave_each, proofs.TextsLaws.with_texts}
use Rattle.command_line.proofs.fetching.gather.Given as goal

-- the texts so far, and those of the files that are left, are those of all
abbrev pub invariant-loop-input : goal.invariant-loop-input
invariant-loop-input g l =
    let shelf = g.S.Shelf in
    record {
      texts : IfSome (shelf.files l.initial.shelf) (λ files.
          with_texts l.texts (gathered files (map (λ input. (input.role, input.name.now)) (drop l.input-index l.inputs)))
          ≡ gathered files (map (λ input. (input.role, input.name.now)) l.inputs));
      roles : roles_of l.texts ++ roles_of (map (λ input. (input.role, input.name.now)) (drop l.input-index l.inputs))
          ≡ roles_of (map (λ input. (input.role, input.name.now)) l.inputs);
      short : AreShort l.texts;
      gave : (more : Texts) → gave_each shelf.gave l.initial.shelf (map (λ input. (input.role, input.name.now)) l.inputs) (l.texts ++ more)
          ≡ gave_each shelf.gave l.shelf (map (λ input. (input.role, input.name.now)) (drop l.input-index l.inputs)) more;
      files : shelf.files l.shelf ≡ shelf.files l.initial.shelf;
      counts : NoneFell (shelf.counts l.initial.shelf) (shelf.counts l.shelf);
    }
