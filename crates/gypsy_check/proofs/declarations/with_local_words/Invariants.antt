use Rattle.std.proofs.Common.{◌≡◌, ◌+◌, ◌≤◌, map, drop, min}
use Rattle.gypsy_syntax.specs.declared.literal.Local.{Local}
use Rattle.gypsy_check.specs.Types.{words_of_types}
use Rattle.gypsy_check.proofs.declarations.with_local_words.Given as goal

-- the words so far with those to come, up to the limit
abbrev pub invariant-loop-local : goal.invariant-loop-local
invariant-loop-local l = record {
  words : min (l.total + words_of_types (map (λ (x : Local). x.decl.shape) (drop l.local-index l.locals))) 65537
      ≡ min (l.before + words_of_types (map (λ (x : Local). x.decl.shape) l.locals)) 65537;
  small : l.total ≤ 69633;
}
