use Rattle.std.proofs.Common.{◌≡◌, take}
use Rattle.gypsy_space.specs.Callees.{names_of}
use Rattle.space_cert.proofs.reading.names.Given as goal

-- the names so far
abbrev pub invariant-loop-proc : goal.invariant-loop-proc
invariant-loop-proc g l = l.names ≡ names_of (take l.proc-index l.procs)
