-- Nine levels of logic are enough, from whatever the wires were, and so the wires have one solution.
use Rattle.std.proofs.Common.{◌≡◌, ℕ, zero, suc, List, refl, sym, ap, ◌∙◌}
use Rattle.fm_circuit.{specs.declared.wire.Wire.Wire, specs.Circuit.{Kept, driven, settled}, specs.Processor.driver_of, specs.Board.levels, specs.Laws.Settles}
use Rattle.fm_circuit.specs.declared.wire.Wire.TheVariants as w

-- the values after so many levels, from these on
settled_from : (Wire → ℕ) → ℕ → Kept → List ℕ → Wire → ℕ
settled_from start zero kept inputs = start
settled_from start (suc n) kept inputs = λ wire. driven kept inputs (settled_from start n kept inputs) (driver_of wire)

-- after nine levels they don't depend on what they were
from_any : (start : Wire → ℕ) (k : Kept) (i : List ℕ) (wire : Wire) → settled_from start levels k i wire ≡ settled levels k i wire
unfolding settled_from settled driver_of
from_any s k i w.Phase = refl
from_any s k i w.Ir = refl
from_any s k i w.A = refl
from_any s k i w.B = refl
from_any s k i w.At = refl
from_any s k i w.C = refl
from_any s k i w.V = refl
from_any s k i w.N = refl
from_any s k i w.Z = refl
from_any s k i w.Read = refl
from_any s k i w.Outside = refl
from_any s k i w.ModeA = refl
from_any s k i w.Mode = refl
from_any s k i w.Number = refl
from_any s k i w.Own = refl
from_any s k i w.Delta = refl
from_any s k i w.Moved = refl
from_any s k i w.Address = refl
from_any s k i w.InMemory = refl
from_any s k i w.Sign = refl
from_any s k i w.Immediate = refl
from_any s k i w.First = refl
from_any s k i w.ReadsB = refl
from_any s k i w.LoadsB = refl
from_any s k i w.NotA = refl
from_any s k i w.NotC = refl
from_any s k i w.Left = refl
from_any s k i w.Right = refl
from_any s k i w.CarryIn = refl
from_any s k i w.Sum = refl
from_any s k i w.SumCarry = refl
from_any s k i w.LeftTurns = refl
from_any s k i w.RightTurns = refl
from_any s k i w.Overflow = refl
from_any s k i w.Ror = refl
from_any s k i w.Asr = refl
from_any s k i w.Lsr = refl
from_any s k i w.AXorB = refl
from_any s k i w.AOrB = refl
from_any s k i w.AAndB = refl
from_any s k i w.Out = refl
from_any s k i w.OutC = refl
from_any s k i w.OutV = refl
from_any s k i w.OutZ = refl
from_any s k i w.NotV = refl
from_any s k i w.NotN = refl
from_any s k i w.NotZ = refl
from_any s k i w.Hi = refl
from_any s k i w.Ls = refl
from_any s k i w.Lt = refl
from_any s k i w.Ge = refl
from_any s k i w.Gt = refl
from_any s k i w.Le = refl
from_any s k i w.Holds = refl
from_any s k i w.Stores = refl
from_any s k i w.Keeps = refl
from_any s k i w.FileWrite = refl
from_any s k i w.FileData = refl
from_any s k i w.MemoryWrite = refl
from_any s k i w.AfterFetched = refl
from_any s k i w.AfterReadA = refl
from_any s k i w.AfterGotA = refl
from_any s k i w.AfterReadB = refl
from_any s k i w.AfterGotB = refl
from_any s k i w.AfterExecute = refl
from_any s k i w.AfterStored = refl
from_any s k i w.NextPhase = refl
from_any s k i w.NextIr = refl
from_any s k i w.NextA = refl
from_any s k i w.NextB = refl
from_any s k i w.NextAt = refl
from_any s k i w.SetC = refl
from_any s k i w.NextC = refl
from_any s k i w.SetV = refl
from_any s k i w.NextV = refl
from_any s k i w.SetN = refl
from_any s k i w.NextN = refl
from_any s k i w.SetZ = refl
from_any s k i w.NextZ = refl

-- what drives each wire, where the wires have settled, gives its value
pub settled_on : (kept : Kept) (inputs : List ℕ) (wire : Wire) → driven kept inputs (settled levels kept inputs) (driver_of wire)
    ≡ settled levels kept inputs wire
unfolding settled_from
settled_on kept inputs wire =
    let first : Wire → ℕ = λ v. driven kept inputs (λ u. 0) (driver_of v) in
    let nine : settled_from (λ u. 0) levels kept inputs ≡ settled levels kept inputs = λ j v. from_any (λ u. 0) kept inputs v j in
    ap (λ (on : Wire → ℕ). driven kept inputs on (driver_of wire)) (sym nine) ∙ from_any first kept inputs wire

-- where each wire is what drives it, nothing changes from level to level
stays : (on : Wire → ℕ) (kept : Kept) (inputs : List ℕ) → ((wire : Wire) → on wire ≡ driven kept inputs on (driver_of wire)) → (n : ℕ)
    → settled_from on n kept inputs ≡ on
unfolding settled_from
stays on kept inputs same zero = refl
stays on kept inputs same (suc n) = (λ j wire. driven kept inputs (stays on kept inputs same n j) (driver_of wire)) ∙ (λ j wire. sym (same wire) j)

-- so they have settled
pub only_settled : (on : Wire → ℕ) (kept : Kept) (inputs : List ℕ) → ((wire : Wire) → on wire ≡ driven kept inputs on (driver_of wire)) → (wire : Wire)
    → on wire ≡ settled levels kept inputs wire
only_settled on kept inputs same wire = sym (ap (λ (o : Wire → ℕ). o wire) (stays on kept inputs same levels)) ∙ from_any on kept inputs wire

pub settles : Settles
settles kept inputs = record { is = settled_on kept inputs; only = λ on same. only_settled on kept inputs same }
