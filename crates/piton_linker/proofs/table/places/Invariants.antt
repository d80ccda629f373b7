use Rattle.std.proofs.Common.{◌≡◌, ◌+◌, map, take}
use Rattle.piton_check.specs.Instruction.{program_view}
use Rattle.piton_semantics.specs.Placed.{programs_size}
use Rattle.piton_linker.specs.Tables.{place_rows}
use Rattle.piton_linker.proofs.table.places.Given as goal

-- the rows so far, and the next program's address
abbrev pub invariant-loop-program : goal.invariant-loop-program
invariant-loop-program g l = record {
  at : l.at ≡ l.base + programs_size (take l.program-index (map program_view l.programs));
  made : map (λ row. row.items) l.made.items ≡ take l.program-index (place_rows l.base (map program_view l.programs));
}
