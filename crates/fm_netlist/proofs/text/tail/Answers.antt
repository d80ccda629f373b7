use Rattle.std.{proofs.Common.refl, specs.Fmt.digits}
use Rattle.fm_netlist.specs.NetlistText.{gate_text, tail_text}
use Rattle.fm_netlist.proofs.text.tail.Goals as goal

pub returns : goal.returns
unfolding tail_text gate_text digits
returns c = refl
