use Rattle.std.proofs.Common.{◌≡◌, map, take}
use Rattle.piton_semantics.{specs.Fits.system_in, specs.Placed.{addresses_of, program_size}, specs.Templates.programs_words}
use Rattle.piton_linker.{specs.Tables.{starts, place_rows}, specs.Drafts.{drafted, IsDraft}}
use Rattle.piton_linker.proofs.words.code.Given as goal

-- the words so far, once all addresses are known, and the addresses so far
abbrev pub invariant-loop-program : goal.invariant-loop-program
invariant-loop-program g l = record {
  draft : IsDraft (system_in l.checked) l.draft;
  words : drafted (system_in l.checked) l.draft ≡ programs_words (addresses_of (system_in l.checked)) 0 (take l.program (system_in l.checked).programs);
  entries : l.entries.items ≡ take l.program (starts (system_in l.checked).base (map program_size (system_in l.checked).programs));
  places : map (λ row. row.items) l.places.items ≡ take l.program (place_rows (system_in l.checked).base (system_in l.checked).programs);
}
