use Rattle.std.proofs.Common.{◌≡◌, ◌+◌, ◌≤◌, true, [], ◌∷◌, length}
use Rattle.mini_syntax.specs.declared.expected.Expected.TheVariants as wants
use Rattle.mini_syntax.{specs.Internal.Declaring.are_proper, specs.Internal.Lexemes.left_of, specs.Internal.Phrases.Awaits, specs.Internal.Scopes.IsScope}
use Rattle.mini_syntax.proofs.ReadingLaws.{DeclaredSoFar}
use Rattle.mini_syntax.proofs.reading.declarations.Given as goal

-- each declaration has three tokens
abbrev pub invariant-loop-sort : goal.invariant-loop-sort
invariant-loop-sort g l = record {
  scope : IsScope l.scope;
  awaits : Awaits (wants.MoreDeclarations ∷ []) (left_of l.cursor);
  named : are_proper (left_of l.cursor) ≡ true;
  few : length l.scope.declared.items + length (left_of l.cursor) ≤ length (left_of l.fn.cursor);
  read : DeclaredSoFar l.scope.declared.items (left_of l.fn.cursor) (left_of l.cursor) l.fn.best l.best;
}

abbrev pub decreases-loop-sort : goal.decreases-loop-sort
decreases-loop-sort g l = length (left_of l.cursor)
