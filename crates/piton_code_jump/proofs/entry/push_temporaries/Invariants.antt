use Rattle.std.proofs.Common.{◌≡◌, ◌-◌, ◌++◌, drop}
use Rattle.piton_semantics.specs.Templates.{temporary_pieces}
use Rattle.piton_code_jump.proofs.entry.push_temporaries.Given as goal

-- the temporaries from the last on
abbrev pub invariant-loop-done : goal.invariant-loop-done
invariant-loop-done g l = l.pieces.items ≡ l.fn.pieces.items ++ temporary_pieces (drop (l.count - l.done) l.temporaries)
