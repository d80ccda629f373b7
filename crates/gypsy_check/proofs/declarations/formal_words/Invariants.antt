use Rattle.std.proofs.Common.{◌≡◌, ◌+◌, ◌≤◌, map, drop, min}
use Rattle.gypsy_syntax.specs.declared.literal.Decl.{Decl}
use Rattle.gypsy_check.specs.Types.{words_of_types}
use Rattle.gypsy_check.proofs.declarations.formal_words.Given as goal

-- the words so far with those to come, up to the limit
abbrev pub invariant-loop-decl : goal.invariant-loop-decl
invariant-loop-decl l = record {
  words : min (l.total + words_of_types (map (λ (d : Decl). d.shape) (drop l.decl-index l.formals))) 65537
      ≡ min (words_of_types (map (λ (d : Decl). d.shape) l.formals)) 65537;
  small : l.total ≤ 69633;
}
