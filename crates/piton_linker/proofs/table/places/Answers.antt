use Rattle.std.{proofs.Common.{◌≡◌, ◌+◌, ◌≤◌, ◌++◌, ◌∷◌, [], length, map, take, ap, sym, ◌∙◌, arith}, proofs.lemmas.List.{length-map, map_push}}
use Rattle.std.proofs.lemmas.Simd.{map-map}
use Rattle.piton_check.{specs.Instruction.{program_view, instruction_view}, specs.Resolved.{ResolvedInstrOf, ResolvedProgramOf}}
use Rattle.piton_semantics.specs.Placed.{programs_size, prelude_size, instruction_size, instructions_size}
use Rattle.piton_linker.{specs.Tables.{place_rows, starts}, proofs.BoundLaws.{instructions_seen, program_at}, proofs.LookupLaws.{rows_more, whole_rows}}
use Rattle.piton_linker.proofs.table.places.Goals as goal

pub prelude_size-requires : goal.prelude_size-requires
prelude_size-requires g c =
    let at = program_at c.args.programs.now c.loop-program.program-index c.program-item.result c.loop-program-test.true c.program-item.is in
    omega (arith, at.next, at.within, c.requires)

pub overflow_add-first : goal.overflow_add-first
overflow_add-first g c =
    let at = program_at c.args.programs.now c.loop-program.program-index c.program-item.result c.loop-program-test.true c.program-item.is in
    omega (arith, at.next, at.within, c.requires, c.loop-program.invariant.at, c.prelude_size.ensures)

pub starts-requires : goal.starts-requires
starts-requires g c =
    let at = program_at c.args.programs.now c.loop-program.program-index c.program-item.result c.loop-program-test.true c.program-item.is in
    let same : map instruction_view c.as_slice.result.now ≡ (program_view c.program-item.result).instructions =
    ap (map instruction_view) (c.as_slice.ensures.value ∙ ap (λ (p : ResolvedProgramOf). p.instrs) c.program.view_is) in
    let sums : instructions_size (map instruction_view c.as_slice.result.now) ≡ instructions_size (program_view c.program-item.result).instructions =
    ap instructions_size same in
    let seen = instructions_seen c.as_slice.result.now in
    omega (arith, at.next, at.within, c.requires, c.loop-program.invariant.at, c.prelude_size.ensures, sums, seen)

pub program_size-requires : goal.program_size-requires
program_size-requires g c =
    let at = program_at c.args.programs.now c.loop-program.program-index c.program-item.result c.loop-program-test.true c.program-item.is in
    omega (arith, at.next, at.within, c.requires)

pub overflow_add-at : goal.overflow_add-at
overflow_add-at g c =
    let at = program_at c.args.programs.now c.loop-program.program-index c.program-item.result c.loop-program-test.true c.program-item.is in
    omega (arith, at.next, at.within, c.requires, c.loop-program.invariant.at, c.program_size.ensures)

pub loop-program-preserved : goal.loop-program-preserved
loop-program-preserved g c =
    let all = map program_view c.args.programs.now in
    let k = c.loop-program.program-index in
    let at = program_at c.args.programs.now c.loop-program.program-index c.program-item.result c.loop-program-test.true c.program-item.is in
    let same : map instruction_view c.as_slice.result.now ≡ (program_view c.program-item.result).instructions =
    ap (map instruction_view) (c.as_slice.ensures.value ∙ ap (λ (p : ResolvedProgramOf). p.instrs) c.program.view_is) in
    let p = program_view c.program-item.result in
    let first : c.loop-program.at + c.prelude_size.result ≡ c.args.base + programs_size (take k all) + prelude_size p =
    omega (arith, c.loop-program.invariant.at, c.prelude_size.ensures) in
    let sizes : map (λ (i : ResolvedInstrOf). instruction_size (instruction_view i)) c.as_slice.result.now ≡ map instruction_size p.instructions =
    sym (map-map instruction_size instruction_view c.as_slice.result.now) ∙ ap (map instruction_size) same in
    record {
      at = omega (arith, at.next, c.loop-program.invariant.at, c.program_size.ensures);
      made = ap (map (λ row. row.items)) c.in_ok-push.ensures.items
          ∙ map_push (λ row. row.items) c.loop-program.made.items c.in_ok-starts.field-0
          ∙ ap (λ ns. ns ++ c.in_ok-starts.field-0.items ∷ []) c.loop-program.invariant.made
          ∙ ap (λ ns. take k (place_rows c.args.base all) ++ ns ∷ []) (c.in_ok-starts.ensures ∙ (λ t. starts (first t) (sizes t)))
          ∙ sym (rows_more c.args.base k all p at.there);
    }

pub returns : goal.returns
returns g c =
    let all = map program_view c.args.programs.now in
    let size : length all ≤ c.loop-program.program-index = omega (arith, length-map c.args.programs.now program_view, c.loop-program-test.false) in
    c.loop-program.invariant.made ∙ whole_rows c.args.base c.loop-program.program-index all size
