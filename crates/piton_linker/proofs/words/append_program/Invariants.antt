use Rattle.std.proofs.Common.{◌≡◌, ◌++◌, take}
use Rattle.piton_check.specs.Sound.{local_count}
use Rattle.piton_semantics.{specs.Fits.system_in, specs.State.program_of, specs.Placed.{entry_of, addresses_of}, specs.Templates.prelude_words}
use Rattle.piton_semantics.specs.Templates.{instructions_words}
use Rattle.piton_linker.{specs.Tables.row_at, specs.Drafts.{drafted, IsDraft}}
use Rattle.piton_linker.proofs.words.append_program.Given as goal

-- the words so far, once all addresses are known, and the addresses of the places so far
abbrev pub invariant-loop-place : goal.invariant-loop-place
invariant-loop-place g l = record {
  draft : IsDraft (system_in l.checked) l.draft;
  words : drafted (system_in l.checked) l.draft ≡ drafted (system_in l.checked) l.fn.draft
      ++ (prelude_words (addresses_of (system_in l.checked)) l.program (program_of (system_in l.checked) l.program)
      ++ instructions_words (addresses_of (system_in l.checked)) l.program (local_count (program_of (system_in l.checked) l.program)) 0
      (take l.place (program_of (system_in l.checked) l.program).instructions));
  row : l.row.items ≡ take l.place (row_at (entry_of (system_in l.checked) l.program) (program_of (system_in l.checked) l.program));
}
