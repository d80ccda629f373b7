use Rattle.std.proofs.Common.{◌≡◌, ◌++◌, drop}
use Rattle.stack_build.proofs.tables.push_names.Given as goal

-- the names so far and those that are left are all
abbrev pub invariant-loop-name : goal.invariant-loop-name
invariant-loop-name g l = l.names.items ++ drop l.name-index l.more ≡ l.initial.names.items ++ l.more
