use Rattle.std.{proofs.Common.{ap, ◌∙◌}, specs.Prelude.unwrap_or}
use Rattle.piton_check.specs.Instruction.{system_view}
use Rattle.piton_linker.proofs.LookupLaws.{entry_word}
use Rattle.piton_linker.proofs.table.at_entry.Goals as goal

pub returns : goal.returns
returns c =
    c.unwrap_or.ensures ∙ ap (λ o. unwrap_or o 0) c.entry.ensures
    ∙ entry_word (system_view c.args._checked.now) c.args.table.now c.args.program c.requires.table c.requires.there
