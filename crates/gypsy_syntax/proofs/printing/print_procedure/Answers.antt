use Rattle.gypsy_syntax.{specs.Views.SourceView.proc_of, proofs.PrintingLaws.printed_proc}
use Rattle.gypsy_syntax.proofs.printing.print_procedure.Goals as goal

pub returns : goal.returns
returns g c =
    printed_proc c.args.out.now.items c.print_head.new.out.items c.spaced_rest.new.out.items c.push.new.items.items (proc_of c.args.proc.now)
    c.in_ok-print_head.ensures c.in_ok-spaced_rest.ensures
    c.in_ok-push.ensures.items
