-- How many bits each wire has.
use Rattle.std.specs.Prelude.{ℕ, List, [], ◌∷◌}
use Rattle.fm_circuit.specs.declared.wire.Wire.{Wire}
use Rattle.fm_circuit.specs.declared.wire.Wire.TheVariants as w

-- all wires
abbrev pub wires : List Wire
wires =
    w.Phase ∷ w.Ir ∷ w.A ∷ w.B ∷ w.At ∷ w.C ∷ w.V ∷ w.N ∷ w.Z ∷ w.Read ∷ w.Outside ∷ w.ModeA ∷ w.Mode ∷ w.Number ∷
    w.Own ∷ w.Delta ∷ w.Moved ∷ w.Address ∷ w.InMemory ∷ w.Sign ∷ w.Immediate ∷ w.First ∷ w.ReadsB ∷ w.LoadsB ∷
    w.NotA ∷ w.NotC ∷ w.Left ∷ w.Right ∷ w.CarryIn ∷ w.Sum ∷ w.SumCarry ∷ w.LeftTurns ∷ w.RightTurns ∷ w.Overflow ∷
    w.Ror ∷ w.Asr ∷ w.Lsr ∷ w.AXorB ∷ w.AOrB ∷ w.AAndB ∷ w.Out ∷ w.OutC ∷ w.OutV ∷ w.OutZ ∷ w.NotV ∷ w.NotN ∷ w.NotZ ∷
    w.Hi ∷ w.Ls ∷ w.Lt ∷ w.Ge ∷ w.Gt ∷ w.Le ∷ w.Holds ∷ w.Stores ∷ w.Keeps ∷ w.FileWrite ∷ w.FileData ∷ w.MemoryWrite ∷
    w.AfterFetched ∷ w.AfterReadA ∷ w.AfterGotA ∷ w.AfterReadB ∷ w.AfterGotB ∷ w.AfterExecute ∷ w.AfterStored ∷
    w.NextPhase ∷ w.NextIr ∷ w.NextA ∷ w.NextB ∷ w.NextAt ∷ w.SetC ∷ w.NextC ∷ w.SetV ∷ w.NextV ∷ w.SetN ∷ w.NextN ∷
    w.SetZ ∷ w.NextZ ∷ []

-- the width of a wire
abbrev pub width_of : Wire → ℕ
width_of w.Phase = 4
width_of w.Ir = 32
width_of w.A = 32
width_of w.B = 32
width_of w.At = 32
width_of w.C = 1
width_of w.V = 1
width_of w.N = 1
width_of w.Z = 1
width_of w.Read = 32
width_of w.Outside = 1
width_of w.ModeA = 2
width_of w.Mode = 2
width_of w.Number = 4
width_of w.Own = 32
width_of w.Delta = 32
width_of w.Moved = 33
width_of w.Address = 32
width_of w.InMemory = 1
width_of w.Sign = 23
width_of w.Immediate = 32
width_of w.First = 32
width_of w.ReadsB = 1
width_of w.LoadsB = 1
width_of w.NotA = 32
width_of w.NotC = 1
width_of w.Left = 32
width_of w.Right = 32
width_of w.CarryIn = 1
width_of w.Sum = 33
width_of w.SumCarry = 1
width_of w.LeftTurns = 1
width_of w.RightTurns = 1
width_of w.Overflow = 1
width_of w.Ror = 32
width_of w.Asr = 32
width_of w.Lsr = 32
width_of w.AXorB = 32
width_of w.AOrB = 32
width_of w.AAndB = 32
width_of w.Out = 32
width_of w.OutC = 1
width_of w.OutV = 1
width_of w.OutZ = 1
width_of w.NotV = 1
width_of w.NotN = 1
width_of w.NotZ = 1
width_of w.Hi = 1
width_of w.Ls = 1
width_of w.Lt = 1
width_of w.Ge = 1
width_of w.Gt = 1
width_of w.Le = 1
width_of w.Holds = 1
width_of w.Stores = 1
width_of w.Keeps = 1
width_of w.FileWrite = 1
width_of w.FileData = 32
width_of w.MemoryWrite = 1
width_of w.AfterFetched = 4
width_of w.AfterReadA = 4
width_of w.AfterGotA = 4
width_of w.AfterReadB = 4
width_of w.AfterGotB = 4
width_of w.AfterExecute = 4
width_of w.AfterStored = 4
width_of w.NextPhase = 4
width_of w.NextIr = 32
width_of w.NextA = 32
width_of w.NextB = 32
width_of w.NextAt = 32
width_of w.SetC = 1
width_of w.NextC = 1
width_of w.SetV = 1
width_of w.NextV = 1
width_of w.SetN = 1
width_of w.NextN = 1
width_of w.SetZ = 1
width_of w.NextZ = 1
