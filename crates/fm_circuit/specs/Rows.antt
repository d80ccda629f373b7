-- Choices whose rows stand by their names.
use Rattle.std.specs.Prelude.{[], ◌∷◌}
use Rattle.fm_circuit.specs.declared.wire.Wire.TheVariants as w
use Rattle.fm_circuit.specs.{declared.circuit.Pin.{Pin}, declared.circuit.Pin.TheVariants.{Whole, Bits}, declared.circuit.Driver.{Driver}}
use Rattle.fm_circuit.specs.{declared.circuit.Driver.TheVariants.{Two, Four, Eight, Sixteen}, declared.rows.ByPhase.{ByPhase}}
use Rattle.fm_circuit.specs.{declared.rows.ByMode.{ByMode}, declared.rows.ByOperation.{ByOperation}, declared.rows.BySum.{BySum}}
use Rattle.fm_circuit.specs.{declared.rows.ByCondition.{ByCondition}, declared.rows.ByMask.{ByMask}}

-- by the phase; seven numbers are no phase
abbrev pub by_phase : ByPhase → Driver
by_phase row =
    Sixteen (Whole w.Phase)
    (row.fetch ∷ row.fetched ∷ row.read_a ∷ row.got_a ∷ row.read_b ∷ row.got_b ∷ row.execute ∷ row.stored ∷ row.fault ∷
    row.rest ∷ row.rest ∷ row.rest ∷ row.rest ∷ row.rest ∷ row.rest ∷ row.rest ∷ [])

-- the same in each phase
abbrev pub in_each_phase : Pin → ByPhase
in_each_phase p =
    record { fetch = p; fetched = p; read_a = p; got_a = p; read_b = p; got_b = p; execute = p; stored = p; fault = p; rest = p }

-- by the mode of the operand that the phase is at
abbrev pub by_mode : ByMode → Driver
by_mode row = Four (Whole w.Mode) (row.register ∷ row.indirect ∷ row.pre_decrement ∷ row.post_increment ∷ [])

-- by the instruction's operation
abbrev pub by_operation : ByOperation → Driver
by_operation row =
    Sixteen (Bits w.Ir 27 24)
    (row.move_ ∷ row.inc ∷ row.addc ∷ row.add ∷ row.neg ∷ row.dec ∷ row.subb ∷ row.sub ∷ row.ror ∷ row.asr ∷ row.lsr ∷
    row.xor ∷ row.or ∷ row.and ∷ row.not ∷ row.m15 ∷ [])

-- the same for each operation
abbrev pub for_each_operation : Pin → ByOperation
for_each_operation p =
    record {
      move_ = p;
      inc = p;
      addc = p;
      add = p;
      neg = p;
      dec = p;
      subb = p;
      sub = p;
      ror = p;
      asr = p;
      lsr = p;
      xor = p;
      or = p;
      and = p;
      not = p;
      m15 = p;
    }

-- one for the seven sums and differences, and another for the rest
abbrev pub for_each_sum : Pin → Pin → ByOperation
for_each_sum sum rest = record (for_each_operation rest) { inc = sum; addc = sum; add = sum; neg = sum; dec = sum; subb = sum; sub = sum }

-- by the sum or difference of the instruction, in the lower three bits of its operation
abbrev pub by_sum : BySum → Driver
by_sum row = Eight (Bits w.Ir 26 24) (row.rest ∷ row.inc ∷ row.addc ∷ row.add ∷ row.neg ∷ row.dec ∷ row.subb ∷ row.sub ∷ [])

-- the same for each sum and difference
abbrev pub in_each_sum : Pin → BySum
in_each_sum p = record { inc = p; addc = p; add = p; neg = p; dec = p; subb = p; sub = p; rest = p }

-- by the instruction's store condition
abbrev pub by_condition : ByCondition → Driver
by_condition row =
    Sixteen (Bits w.Ir 23 20)
    (row.cc ∷ row.cs ∷ row.vc ∷ row.vs ∷ row.nc ∷ row.ns ∷ row.zc ∷ row.zs ∷ row.hi ∷ row.ls ∷ row.ge ∷ row.lt ∷ row.gt ∷
    row.le ∷ row.al ∷ row.nv ∷ [])

-- by a bit of the instruction's mask, which asks for a flag
abbrev pub by_mask : ByMask → Driver
by_mask row = Two (Bits w.Ir row.bit row.bit) (row.unasked ∷ row.asked ∷ [])
