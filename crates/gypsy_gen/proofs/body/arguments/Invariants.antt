use Rattle.std.proofs.Common.{◌≡◌, map, take}
use Rattle.gypsy_syntax.specs.Views.SourceView.{arg_of}
use Rattle.gypsy_gen.specs.Parts.{argument}
use Rattle.gypsy_gen.proofs.body.arguments.Given as goal

abbrev pub invariant-loop-variable : goal.invariant-loop-variable
invariant-loop-variable g l = map arg_of l.args.items ≡ map argument (take l.variable-index l.variables)
