-- Texts that are gathered one after the other.
use Rattle.std.proofs.Common.{◌++◌, Result, Ok, Err}
use Rattle.command_line.{specs.declared.early_end.EarlyEnd.EarlyEnd, specs.Gathered.Texts}

-- with these texts before the others
abbrev pub with_texts : Texts → Result Texts EarlyEnd → Result Texts EarlyEnd
with_texts front (Ok texts) = Ok (front ++ texts)
with_texts front (Err early) = Err early
