use Rattle.gypsy_codegen.proofs.laws.procedures_take_words.Goals as goal
use Rattle.gypsy_codegen.proofs.SizeLaws.{procedures_take_words}

pub returns : goal.returns
returns c = procedures_take_words
