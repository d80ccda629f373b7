use Rattle.std.{proofs.Common.{◌≡◌, None, map, take, drop}, specs.List.{flat_map, list_any}}
use Rattle.stack_text.specs.Breaches.{Notes}
use Rattle.gypsy_syntax.{specs.declared.statement.Arg.Arg, specs.Views.SourceView.{arg_of, proc_of}}
use Rattle.gypsy_check.{specs.Arguments.is_undeclared, specs.Rules.{argument_breaches, slots_breaches}, proofs.NoteLaws.noted}
use Rattle.gypsy_check.proofs.predefs.check_slots.Given as goal

-- those so far are noted; what is left of the slots; whether one of those so far isn't declared
abbrev pub invariant-loop-index : goal.invariant-loop-index
invariant-loop-index l =
    Notes l.fn.best (flat_map (λ (a : Arg). argument_breaches (proc_of l.scope) (arg_of a)) (take l.index l.args)) l.best
    × (noted l.unwanted (slots_breaches (proc_of l.scope) l.settled (drop l.index l.slots) (map arg_of (drop l.index l.args))) ≡
    noted None (slots_breaches (proc_of l.scope) None l.slots (map arg_of l.args)))
    × (l.lacks_declaration ≡ list_any (λ (a : Arg). is_undeclared (proc_of l.scope) (arg_of a)) (take l.index l.args))
