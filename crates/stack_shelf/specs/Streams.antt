-- What is read from a stream and written to one.
use Rattle.std.specs.{Prelude.{◌≡◌, ◌≤◌, ◌<◌, ℕ, Bool, true, false, List, length, Option, IfSome, Result, Ok, Err}, Global.{Vec}}
use Rattle.std.specs.{declared.io.ErrorKind.{ErrorKind}, declared.io.ErrorKind.TheVariants.{NotFound, PermissionDenied, ReadOnlyFilesystem}}
use Rattle.std.specs.declared.io.ErrorKind.TheVariants.{InvalidFilename, ResourceBusy, Unsupported}
use Rattle.stack_shelf.specs.{declared.fault.FetchFault.{FetchFault}, declared.fault.FetchFault.TheVariants.{Missing, TooLong, Failed}}
use Rattle.stack_shelf.specs.declared.fault.FetchFault.TheVariants.{Memory}

-- why a file that could not be opened has no bytes, by the kind of the error
abbrev pub opening_fault : ErrorKind → FetchFault
opening_fault NotFound = Missing
opening_fault kind = Failed

-- what reading a stream of known bytes within a limit returns: all of them, or that they are more; it may also fail, or run out of
-- memory, which is left open
abbrev pub ReadsWithin : Option (List ℕ) → ℕ → Result (Vec ℕ) FetchFault → Type 0
ReadsWithin known limit (Ok bytes) = (length bytes.items ≤ limit) × IfSome known (λ all. bytes.items ≡ all)
ReadsWithin known limit (Err TooLong) = IfSome known (λ all. limit < length all)
ReadsWithin known limit (Err Missing) = ⊥
ReadsWithin known limit (Err Failed) = Unit {0}
ReadsWithin known limit (Err Memory) = Unit {0}

-- there was a writer and there is one, with this between them
abbrev pub WithWriter : {W E : Type 0} → Result W E → Result W E → (W → W → Type 0) → Type 0
WithWriter (Ok old) (Ok new) P = P old new
WithWriter (Ok old) (Err e) P = ⊥
WithWriter (Err e) new P = ⊥

-- the same where there was a writer; where there was none, there is none
abbrev pub WithWriterIfAny : {W E : Type 0} → Result W E → Result W E → (W → W → Type 0) → Type 0
WithWriterIfAny (Ok old) new P = WithWriter (Ok old) new P
WithWriterIfAny (Err e) new P = new ≡ Err e

-- whether an error says that the system doesn't allow another file beside one, and not that a device failed
abbrev pub is_refusal : ErrorKind → Bool
is_refusal PermissionDenied = true
is_refusal ReadOnlyFilesystem = true
is_refusal InvalidFilename = true
is_refusal ResourceBusy = true
is_refusal Unsupported = true
is_refusal kind = false
