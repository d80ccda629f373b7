-- The processor: what drives each of its wires. In a choice the rows stand by their names, over what is so in all others.
use Rattle.std.specs.Prelude.{[], ◌∷◌}
use Rattle.fm_circuit.specs.{declared.wire.Wire.{Wire}, declared.circuit.Driver.{Driver}, declared.circuit.Driver.TheVariants.{Register}}
use Rattle.fm_circuit.specs.declared.circuit.Driver.TheVariants.{Input, FileRead, Not, And, Or, Xor, Join, Add, Equal, Two}
use Rattle.fm_circuit.specs.{declared.circuit.Pin.TheVariants.{Whole, Bits, Constant}, Phases.{fetch, fetched, read_a, got_a, read_b}}
use Rattle.fm_circuit.specs.{Phases.{got_b, execute, stored, fault}, Rows.{by_phase, in_each_phase, by_mode, by_operation}}
use Rattle.fm_circuit.specs.Rows.{for_each_operation, for_each_sum, by_sum, in_each_sum, by_condition, by_mask}
use Rattle.fm_circuit.specs.declared.wire.Wire.TheVariants as w

-- what drives a wire
unfoldable pub driver_of : Wire → Driver
-- the registers
driver_of w.Phase = Register 0 0 (Whole w.NextPhase)
driver_of w.Ir = Register 1 0 (Whole w.NextIr)
driver_of w.A = Register 2 0 (Whole w.NextA)
driver_of w.B = Register 3 0 (Whole w.NextB)
driver_of w.At = Register 4 0 (Whole w.NextAt)
driver_of w.C = Register 5 0 (Whole w.NextC)
driver_of w.V = Register 6 0 (Whole w.NextV)
driver_of w.N = Register 7 0 (Whole w.NextN)
driver_of w.Z = Register 8 0 (Whole w.NextZ)
-- what memory gives
driver_of w.Read = Input 0
driver_of w.Outside = Input 1
-- where the operand of the phase is
driver_of w.ModeA = Two (Bits w.Ir 9 9) (Bits w.Ir 5 4 ∷ Constant 2 0 ∷ [])
driver_of w.Mode = by_phase (record (in_each_phase (Bits w.Ir 15 14)) { fetch = Constant 2 3; read_a = Whole w.ModeA })
driver_of w.Number = by_phase (record (in_each_phase (Bits w.Ir 13 10)) {
  fetch = Constant 4 15;
  read_a = Bits w.Ir 3 0;
})
driver_of w.Own = FileRead (Whole w.Number)
driver_of w.Delta = Two (Bits w.Mode 0 0) (Constant 32 4294967295 ∷ Constant 32 1 ∷ [])
driver_of w.Moved = Add (Whole w.Own) (Whole w.Delta) (Constant 1 0)
driver_of w.Address = by_mode (record {
  register = Whole w.Own;
  indirect = Whole w.Own;
  pre_decrement = Bits w.Moved 31 0;
  post_increment = Whole w.Own;
})
driver_of w.InMemory = Or (Bits w.Mode 1 1) (Bits w.Mode 0 0)
-- the first operand, where it is not in memory
driver_of w.Sign = Two (Bits w.Ir 8 8) (Constant 23 0 ∷ Constant 23 8388607 ∷ [])
driver_of w.Immediate = Join (Whole w.Sign) (Bits w.Ir 8 0)
driver_of w.First = Two (Bits w.Ir 9 9) (Whole w.Own ∷ Whole w.Immediate ∷ [])
-- whether the second operand is loaded
driver_of w.ReadsB = by_operation (record (for_each_operation (Constant 1 0)) {
  addc = Constant 1 1;
  add = Constant 1 1;
  subb = Constant 1 1;
  sub = Constant 1 1;
  xor = Constant 1 1;
  or = Constant 1 1;
  and = Constant 1 1;
})
driver_of w.LoadsB = And (Whole w.ReadsB) (Whole w.InMemory)
-- the adder
driver_of w.NotA = Not (Whole w.A)
driver_of w.NotC = Not (Whole w.C)
driver_of w.Left = by_sum (record (in_each_sum (Whole w.A)) {
  neg = Whole w.NotA;
  subb = Whole w.NotA;
  sub = Whole w.NotA;
})
driver_of w.Right = by_sum (record (in_each_sum (Whole w.B)) {
  inc = Constant 32 0;
  neg = Constant 32 0;
  dec = Constant 32 4294967295;
})
driver_of w.CarryIn = by_sum (record (in_each_sum (Constant 1 0)) {
  inc = Constant 1 1;
  addc = Whole w.C;
  neg = Constant 1 1;
  subb = Whole w.NotC;
  sub = Constant 1 1;
})
driver_of w.Sum = Add (Whole w.Left) (Whole w.Right) (Whole w.CarryIn)
driver_of w.SumCarry = Xor (Bits w.Sum 32 32) (Bits w.Ir 26 26)
driver_of w.LeftTurns = Xor (Bits w.Left 31 31) (Bits w.Sum 31 31)
driver_of w.RightTurns = Xor (Bits w.Right 31 31) (Bits w.Sum 31 31)
driver_of w.Overflow = And (Whole w.LeftTurns) (Whole w.RightTurns)
-- the other results
driver_of w.Ror = Join (Whole w.C) (Bits w.A 31 1)
driver_of w.Asr = Join (Bits w.A 31 31) (Bits w.A 31 1)
driver_of w.Lsr = Join (Constant 1 0) (Bits w.A 31 1)
driver_of w.AXorB = Xor (Whole w.A) (Whole w.B)
driver_of w.AOrB = Or (Whole w.A) (Whole w.B)
driver_of w.AAndB = And (Whole w.A) (Whole w.B)
-- the result, and its carry, overflow and zero; bit 31 is its sign
driver_of w.Out = by_operation (record (for_each_sum (Bits w.Sum 31 0) (Whole w.A)) {
  ror = Whole w.Ror;
  asr = Whole w.Asr;
  lsr = Whole w.Lsr;
  xor = Whole w.AXorB;
  or = Whole w.AOrB;
  and = Whole w.AAndB;
  not = Whole w.NotA;
})
driver_of w.OutC = by_operation (record (for_each_sum (Whole w.SumCarry) (Constant 1 0)) {
  ror = Bits w.A 0 0;
  asr = Bits w.A 0 0;
  lsr = Bits w.A 0 0;
})
driver_of w.OutV = by_operation (for_each_sum (Whole w.Overflow) (Constant 1 0))
driver_of w.OutZ = Equal (Whole w.Out) (Constant 32 0)
-- the store condition
driver_of w.NotV = Not (Whole w.V)
driver_of w.NotN = Not (Whole w.N)
driver_of w.NotZ = Not (Whole w.Z)
driver_of w.Hi = And (Whole w.NotC) (Whole w.NotZ)
driver_of w.Ls = Or (Whole w.C) (Whole w.Z)
driver_of w.Lt = Xor (Whole w.N) (Whole w.V)
driver_of w.Ge = Not (Whole w.Lt)
driver_of w.Gt = And (Whole w.Ge) (Whole w.NotZ)
driver_of w.Le = Or (Whole w.Lt) (Whole w.Z)
driver_of w.Holds = by_condition (record {
  cc = Whole w.NotC;
  cs = Whole w.C;
  vc = Whole w.NotV;
  vs = Whole w.V;
  nc = Whole w.NotN;
  ns = Whole w.N;
  zc = Whole w.NotZ;
  zs = Whole w.Z;
  hi = Whole w.Hi;
  ls = Whole w.Ls;
  ge = Whole w.Ge;
  lt = Whole w.Lt;
  gt = Whole w.Gt;
  le = Whole w.Le;
  al = Constant 1 1;
  nv = Constant 1 0;
})
driver_of w.Stores = And (Whole w.Holds) (Whole w.InMemory)
-- what is written
driver_of w.Keeps = by_mode (record {
  register = Whole w.Holds;
  indirect = Constant 1 0;
  pre_decrement = Constant 1 1;
  post_increment = Constant 1 1;
})
driver_of w.FileWrite = by_phase (record (in_each_phase (Constant 1 0)) {
  fetch = Constant 1 1;
  read_a = Bits w.Mode 1 1;
  execute = Whole w.Keeps;
})
driver_of w.FileData = Two (Bits w.Mode 1 1) (Whole w.Out ∷ Bits w.Moved 31 0 ∷ [])
driver_of w.MemoryWrite = by_phase (record (in_each_phase (Constant 1 0)) { execute = Whole w.Stores })
-- the phase after each phase
driver_of w.AfterFetched = Two (Whole w.Outside) (Constant 4 read_a ∷ Constant 4 fault ∷ [])
driver_of w.AfterReadA = Two (Whole w.InMemory) (Constant 4 read_b ∷ Constant 4 got_a ∷ [])
driver_of w.AfterGotA = Two (Whole w.Outside) (Constant 4 read_b ∷ Constant 4 fault ∷ [])
driver_of w.AfterReadB = Two (Whole w.LoadsB) (Constant 4 execute ∷ Constant 4 got_b ∷ [])
driver_of w.AfterGotB = Two (Whole w.Outside) (Constant 4 execute ∷ Constant 4 fault ∷ [])
driver_of w.AfterExecute = Two (Whole w.Stores) (Constant 4 fetch ∷ Constant 4 stored ∷ [])
driver_of w.AfterStored = Two (Whole w.Outside) (Constant 4 fetch ∷ Constant 4 fault ∷ [])
-- what the registers take
driver_of w.NextPhase = by_phase (record (in_each_phase (Constant 4 fault)) {
  fetch = Constant 4 fetched;
  fetched = Whole w.AfterFetched;
  read_a = Whole w.AfterReadA;
  got_a = Whole w.AfterGotA;
  read_b = Whole w.AfterReadB;
  got_b = Whole w.AfterGotB;
  execute = Whole w.AfterExecute;
  stored = Whole w.AfterStored;
})
driver_of w.NextIr = by_phase (record (in_each_phase (Whole w.Ir)) { fetched = Whole w.Read })
driver_of w.NextA = by_phase (record (in_each_phase (Whole w.A)) { read_a = Whole w.First; got_a = Whole w.Read })
driver_of w.NextB = by_phase (record (in_each_phase (Whole w.B)) { read_b = Whole w.Own; got_b = Whole w.Read })
driver_of w.NextAt = by_phase (record (in_each_phase (Whole w.At)) {
  fetch = Whole w.Address;
  read_a = Whole w.Address;
  read_b = Whole w.Address;
  execute = Whole w.Address;
})
driver_of w.SetC = by_mask (record { bit = 19; unasked = Whole w.C; asked = Whole w.OutC })
driver_of w.NextC = by_phase (record (in_each_phase (Whole w.C)) { execute = Whole w.SetC })
driver_of w.SetV = by_mask (record { bit = 18; unasked = Whole w.V; asked = Whole w.OutV })
driver_of w.NextV = by_phase (record (in_each_phase (Whole w.V)) { execute = Whole w.SetV })
driver_of w.SetN = by_mask (record { bit = 17; unasked = Whole w.N; asked = Bits w.Out 31 31 })
driver_of w.NextN = by_phase (record (in_each_phase (Whole w.N)) { execute = Whole w.SetN })
driver_of w.SetZ = by_mask (record { bit = 16; unasked = Whole w.Z; asked = Whole w.OutZ })
driver_of w.NextZ = by_phase (record (in_each_phase (Whole w.Z)) { execute = Whole w.SetZ })
