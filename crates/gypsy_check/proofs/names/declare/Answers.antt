use Rattle.std.proofs.Common.{◌∙◌, ap, List, bytes_eq, ℕ}
use Rattle.stack_text.specs.Options.{first_or}
use Rattle.name_tables.specs.Entries.{look_up}
use Rattle.gypsy_check.proofs.names.declare.Goals as goal

pub returns-clause-entered : goal.returns-clause-entered
returns-clause-entered g c = λ other.
    c.in_ok-is_known.ensures.entered other
    ∙ ap (λ (text : List ℕ). first_or (look_up c.args.variables.now other) (bytes_eq other text) c.args.decl.now.shape) c.bytes.ensures.bytes
