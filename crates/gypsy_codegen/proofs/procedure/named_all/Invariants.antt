use Rattle.std.proofs.Common.{◌≡◌, ◌++◌, map, drop}
use Rattle.stack_text.specs.Grammar.Printed.{unplaced}
use Rattle.gypsy_codegen.proofs.procedure.named_all.Given as goal

abbrev pub invariant-loop-name : goal.invariant-loop-name
invariant-loop-name g l = l.made.items ++ map unplaced (drop l.name-index l.names) ≡ map unplaced l.names
