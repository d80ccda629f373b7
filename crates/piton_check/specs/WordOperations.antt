-- The operations on words, as the text of Piton names them.
use Rattle.std.specs.Prelude.{Option, Some, None}
use Rattle.piton_words.specs.declared.op.WordOp.{WordOp}
use Rattle.piton_words.specs.declared.op.WordOp.TheVariants as operation
use Rattle.piton_syntax.specs.declared.op.PitonOp.{PitonOp}
use Rattle.piton_syntax.specs.declared.op.PitonOp.TheVariants as op

-- the operation on words that an operation is, if it is one
abbrev pub word_operation : PitonOp → Option WordOp
word_operation op.Eq = Some operation.Eq
word_operation op.AddInt = Some operation.AddInt
word_operation op.AddNat = Some operation.AddNat
word_operation op.SubInt = Some operation.SubInt
word_operation op.SubNat = Some operation.SubNat
word_operation op.AddAddr = Some operation.AddAddr
word_operation op.SubAddr = Some operation.SubAddr
word_operation op.LtInt = Some operation.LtInt
word_operation op.LtNat = Some operation.LtNat
word_operation op.LtAddr = Some operation.LtAddr
word_operation op.Add1Int = Some operation.Add1Int
word_operation op.Add1Nat = Some operation.Add1Nat
word_operation op.Sub1Int = Some operation.Sub1Int
word_operation op.Sub1Nat = Some operation.Sub1Nat
word_operation op.NegInt = Some operation.NegInt
word_operation op.IntToNat = Some operation.IntToNat
word_operation op.Mult2Nat = Some operation.Mult2Nat
word_operation op.AddIntWithCarry = Some operation.AddIntWithCarry
word_operation op.AddNatWithCarry = Some operation.AddNatWithCarry
word_operation op.SubIntWithCarry = Some operation.SubIntWithCarry
word_operation op.SubNatWithCarry = Some operation.SubNatWithCarry
word_operation op.Mult2NatWithCarryOut = Some operation.Mult2NatWithCarryOut
word_operation op.Div2Nat = Some operation.Div2Nat
word_operation op.OrBitv = Some operation.OrBitv
word_operation op.AndBitv = Some operation.AndBitv
word_operation op.XorBitv = Some operation.XorBitv
word_operation op.OrBool = Some operation.OrBool
word_operation op.AndBool = Some operation.AndBool
word_operation op.NotBitv = Some operation.NotBitv
word_operation op.RshBitv = Some operation.RshBitv
word_operation op.LshBitv = Some operation.LshBitv
word_operation op.NotBool = Some operation.NotBool
word_operation o = None
