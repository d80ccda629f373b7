use Rattle.std.proofs.Common.{◌∙◌}
use Rattle.gypsy_space.specs.Nodes.{seen_program}
use Rattle.gypsy_codegen.proofs.CodeLaws.{temp_counted}
use Rattle.gypsy_codegen.proofs.context.temporary_call_need.Goals as goal

pub returns : goal.returns
returns c =
    c.max.ensures ∙ temp_counted (seen_program c.args.context.now.program.now) c.args.callee c.need_of-need.result
    (c.need_of-need.ensures ∙ c.requires.ready.needs.each c.args.callee c.requires.callee)
