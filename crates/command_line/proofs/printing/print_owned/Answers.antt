use Rattle.std.{proofs.Common.refl, proofs.lemmas.Result.err_from_is_err_and}
use Rattle.command_line.proofs.PrintLaws.{nothing_printed}
use Rattle.command_line.proofs.printing.print_owned.Goals as goal

pub returns-in_err-text-clause-prefix : goal.returns-in_err-text-clause-prefix
returns-in_err-text-clause-prefix g c =
    let p = err_from_is_err_and c.from_residual.result c.from_residual.ensures.1 in
    rw p.1 (nothing_printed _ _ _ refl)
