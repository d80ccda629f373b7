use Rattle.std.{proofs.Common.{sym, arith}, proofs.lemmas.Nat.Bits.bit_at_above}
use Rattle.fm_netlist.proofs.bits.bit_of.Goals as goal

pub returns-else-i-lt32 : goal.returns-else-i-lt32
returns-else-i-lt32 c = sym (bit_at_above c.args.value 32 c.args.i (omega (arith, c.ranges.value.fits)) (omega (arith, c.if-i-lt32.false)))
