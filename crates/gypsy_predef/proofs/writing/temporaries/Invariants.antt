use Rattle.std.proofs.Common.{◌≡◌, ◌++◌, map, drop}
use Rattle.gypsy_predef.specs.Texts.{temporary_text}
use Rattle.gypsy_predef.proofs.writing.temporaries.Given as goal

abbrev pub invariant-loop-each : goal.invariant-loop-each
invariant-loop-each g l = l.texts.items ++ map temporary_text (drop l.each-index l.temporaries) ≡ map temporary_text l.temporaries
