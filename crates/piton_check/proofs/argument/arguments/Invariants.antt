use Rattle.std.{proofs.Common.{◌≡◌, map, take}, specs.List.flat_map}
use Rattle.stack_text.specs.Breaches.{Notes}
use Rattle.piton_check.{specs.Resolved.resolved_argument, specs.Violations.argument_breaches}
use Rattle.piton_check.proofs.argument.arguments.Given as goal

-- the arguments so far
abbrev pub invariant-loop-text : goal.invariant-loop-text
invariant-loop-text g l = record {
  value : l.args.items ≡ map (resolved_argument l.scope.names.now.system.now l.scope.program.now l.kind) (take l.text-index l.texts);
  noted : Notes l.fn.best (flat_map (argument_breaches l.scope.names.now.system.now l.scope.program.now l.kind) (take l.text-index l.texts)) l.best;
}
