use Rattle.std.proofs.Common.{◌∙◌, ◌||◌, ap, List, bytes_eq, ℕ}
use Rattle.stack_text.specs.Names.{is_among}
use Rattle.gypsy_check.proofs.RepeatLaws.{listed_with}
use Rattle.gypsy_check.proofs.names.enter.Goals as goal

pub returns-clause-entered : goal.returns-clause-entered
returns-clause-entered g c = λ other.
    ap (is_among other) c.in_ok-is_new.ensures.names
    ∙ listed_with c.args.names.now c.bytes.result.now other
    ∙ ap (λ (text : List ℕ). bytes_eq other text || is_among other c.args.names.now) c.bytes.ensures.bytes
