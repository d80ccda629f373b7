use Rattle.std.proofs.Common.{map, refl}
use Rattle.mini_gypsy.{specs.Lowered.statement_parts, proofs.PartLaws.block_is}
use Rattle.mini_syntax.specs.ProgramView.{block_in}
use Rattle.mini_gypsy.proofs.statements.block.Goals as goal

pub returns : goal.returns
returns g c =
    let made = statement_parts (map (λ d. d.name) c.args.declared.now) (block_in c.args.statements.now) in
    block_is c.sequence.result c.in_ok-parts.parts.items c.append_statements.new.parts.items made made
    c.sequence.ensures c.in_ok-append_statements.ensures c.in_ok-parts.ensures refl
