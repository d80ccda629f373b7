use Rattle.gypsy_codegen.proofs.FrameLaws.{frame_name}
use Rattle.gypsy_codegen.proofs.laws.variables_keep_names.Goals as goal

pub returns : goal.returns
returns c = frame_name
