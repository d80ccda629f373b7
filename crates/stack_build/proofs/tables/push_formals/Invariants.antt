use Rattle.std.proofs.Common.{◌≡◌, ◌≤◌, ◌+◌, ◌++◌, length, drop}
use Rattle.stack_build.specs.Internal.Listing.{formal_infos, offset_in}
use Rattle.stack_build.proofs.tables.push_formals.Given as goal

-- the variables so far and those of what is left are all, and there is room for them
abbrev pub invariant-loop-formal : goal.invariant-loop-formal
invariant-loop-formal g l = record {
  listed :
      l.variables.items ++ formal_infos (offset_in l.order) (length l.variables.items) (drop l.formal-index l.formals) ≡
      l.initial.variables.items ++ formal_infos (offset_in l.order) (length l.initial.variables.items) l.formals;
  there : length l.variables.items + length l.formals ≤ l.order.formals + l.order.locals + l.formal-index;
}
