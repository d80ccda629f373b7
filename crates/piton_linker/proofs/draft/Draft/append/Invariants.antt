use Rattle.std.proofs.Common.{◌≡◌, ◌+◌, ◌++◌, length, take}
use Rattle.piton_check.specs.Instruction.{system_view}
use Rattle.piton_semantics.{specs.Placed.addresses_of, specs.Templates.words_of}
use Rattle.piton_linker.specs.Drafts.{drafted, IsDraft}
use Rattle.piton_linker.proofs.draft.Draft.append.Given as goal

-- the words of the pieces so far
abbrev pub invariant-loop-piece : goal.invariant-loop-piece
invariant-loop-piece g l = record {
  draft : IsDraft (system_view l.checked) l.self;
  words : drafted (system_view l.checked) l.self ≡ drafted (system_view l.checked) l.fn.self
      ++ words_of (addresses_of (system_view l.checked)) ((system_view l.checked).base + length l.fn.self.words) (take l.piece-index l.pieces);
}
