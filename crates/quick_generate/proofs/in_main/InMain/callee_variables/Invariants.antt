use Rattle.std.proofs.Common.{◌≡◌, ◌++◌, drop, get_or, map}
use Rattle.quick_generate.proofs.in_main.InMain.callee_variables.Given as goal

abbrev pub invariant-loop-actual : goal.invariant-loop-actual
invariant-loop-actual g l =
    l.variables.items ++ map (λ a. get_or l.self.variables.items a 0) (drop l.actual-index l.actuals)
    ≡ map (λ a. get_or l.self.variables.items a 0) l.actuals
