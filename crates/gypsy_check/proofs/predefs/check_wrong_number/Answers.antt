use Rattle.std.{proofs.Common.true, specs.List.flat_map}
use Rattle.stack_text.{specs.Breaches.when, proofs.BreachLaws.notes_more}
use Rattle.gypsy_syntax.{specs.declared.statement.Arg.Arg, specs.Views.SourceView.{arg_of, proc_of}}
use Rattle.gypsy_check.specs.Rules.{argument_breaches}
use Rattle.gypsy_check.proofs.predefs.check_wrong_number.Goals as goal

pub returns : goal.returns
returns c =
    let alone = flat_map (λ (a : Arg). argument_breaches (proc_of c.args.scope.now) (arg_of a)) c.args.args.now in
    notes_more c.args.best.now c.check_arguments.new.best c.note_if.new.best alone (when true c.args.place 22)
    c.check_arguments.ensures c.note_if.ensures
