use Rattle.std.proofs.Common.{◌≡◌, ◌++◌, [], ◌∷◌, ap, ◌∙◌}
use Rattle.piton_syntax.specs.Systems.{ProgramOf}
use Rattle.gypsy_syntax.specs.Views.SourceView.{proc_of}
use Rattle.gypsy_space.specs.Nodes.{seen_program}
use Rattle.gypsy_codegen.{specs.Text.procedure_with, proofs.WritableLaws.{writable_next, procedures_next}}
use Rattle.gypsy_codegen.proofs.system.procedures.Goals as goal

pub loop-number-preserved : goal.loop-number-preserved
loop-number-preserved g c =
    let q = seen_program c.args.program.now in
    let programs = c.args.programs.now in
    let k = c.loop-number.number in
    let x = c.index-procs-number.result in
    let is = c.index-procs-number.is in
    let pushed : c.push.new.items.items ≡ c.loop-number.made.items ++ procedure_with q programs k (proc_of x) ∷ [] =
    c.in_ok-push.ensures.items ∙ ap (λ (made : ProgramOf). c.loop-number.made.items ++ made ∷ []) c.in_ok-procedure.ensures in
    record {
      writable = writable_next q programs c.args.procs.now k x c.loop-number-test.true is c.loop-number.invariant.writable;
      made =
          procedures_next q programs c.args.procs.now k x c.loop-number-test.true is c.loop-number.made.items c.push.new.items.items _
          pushed c.loop-number.invariant.made;
    }
