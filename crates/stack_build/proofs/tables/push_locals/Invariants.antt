use Rattle.std.proofs.Common.{◌≡◌, ◌≤◌, ◌+◌, ◌++◌, length, drop}
use Rattle.stack_build.specs.Internal.Listing.{local_infos, offset_in}
use Rattle.stack_build.proofs.tables.push_locals.Given as goal

-- the variables so far and those of what is left are all, and there is room for them
abbrev pub invariant-loop-local : goal.invariant-loop-local
invariant-loop-local g l = record {
  listed :
      l.variables.items ++ local_infos (offset_in l.order) (length l.variables.items) (drop l.local-index l.locals) ≡
      l.initial.variables.items ++ local_infos (offset_in l.order) (length l.initial.variables.items) l.locals;
  there : length l.variables.items + length l.locals ≤ l.order.formals + l.order.locals + l.local-index;
}
