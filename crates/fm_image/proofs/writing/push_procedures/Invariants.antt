use Rattle.std.{proofs.Common.{◌≡◌, ◌++◌, drop}, specs.List.flat_map}
use Rattle.fm_image.specs.Spelling.{procedure_bytes}
use Rattle.fm_image.proofs.writing.push_procedures.Given as goal

-- the bytes so far and those of what is left are those of all
abbrev pub invariant-loop-procedure : goal.invariant-loop-procedure
invariant-loop-procedure g l =
    l.bytes.items ++ flat_map procedure_bytes (drop l.procedure-index l.procedures) ≡ l.initial.bytes.items ++ flat_map procedure_bytes l.procedures
