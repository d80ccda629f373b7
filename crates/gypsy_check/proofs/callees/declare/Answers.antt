use Rattle.std.proofs.Common.{◌∙◌, ap, List, option_map, bytes_eq, ℕ, Bor}
use Rattle.stack_text.specs.Options.{first_or}
use Rattle.name_tables.specs.Entries.{look_up}
use Rattle.gypsy_syntax.specs.declared.proc.Proc.{Proc}
use Rattle.gypsy_check.{specs.Tables.procedure_in, proofs.CalleeLaws.past_map}
use Rattle.gypsy_check.proofs.callees.declare.Goals as goal

pub returns-clause-entered : goal.returns-clause-entered
returns-clause-entered g c = λ other.
    ap (option_map (λ (proc : Bor Proc). proc.now)) (c.in_ok-is_known.ensures.entered other)
    ∙ past_map (λ (proc : Bor Proc). proc.now) (look_up c.args.table.now other) (bytes_eq other c.bytes.result.now) c.args.proc
    ∙ ap (λ (text : List ℕ). first_or (procedure_in c.args.table.now other) (bytes_eq other text) c.args.proc.now) c.bytes.ensures.bytes
