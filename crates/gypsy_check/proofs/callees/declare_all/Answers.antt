use Rattle.std.{proofs.Common.{◌∙◌, ◌+◌, [], map, take, ap, List, is_some}, proofs.lemmas.List.take_all}
use Rattle.stack_text.specs.Breaches.{lesser_of, least}
use Rattle.gypsy_syntax.specs.declared.proc.Proc.{Proc}
use Rattle.gypsy_check.{specs.Declarations.repeats, specs.Tables.procedure_in, proofs.RepeatLaws.{noted_more, items_more}, proofs.CalleeLaws.known_next}
use Rattle.gypsy_check.proofs.CalleeLaws.{known_name}
use Rattle.gypsy_check.proofs.callees.declare_all.Goals as goal

pub loop-proc-preserved : goal.loop-proc-preserved
loop-proc-preserved g c =
    let one = c.proc-item.result in
    let procs = c.args.procs.now in
    let i = c.loop-proc.proc-index in
    let known = c.loop-proc.invariant.known in
    record {
      known = known_next procs i one (procedure_in c.loop-proc.table) (procedure_in c.declare.new.table) c.loop-proc-test.true c.proc-item.is known
          c.in_ok-declare.ensures.entered;
      noted = noted_more 1 (map (λ (p : Proc). p.name) (take i procs)) (map (λ (p : Proc). p.name) (take (i + 1) procs)) one.name c.args.best.now
          c.loop-proc.best c.declare.new.best (λ name. is_some (procedure_in c.loop-proc.table name))
          (items_more (λ (p : Proc). p.name) [] procs i one c.loop-proc-test.true c.proc-item.is)
          (known_name procs i (procedure_in c.loop-proc.table) known) c.loop-proc.invariant.noted c.in_ok-declare.ensures.noted;
    }

pub returns-clause-noted : goal.returns-clause-noted
returns-clause-noted g c =
    c.loop-proc.invariant.noted
    ∙ ap (λ (ps : List Proc). lesser_of c.args.best.now (least (repeats 1 [] (map (λ (p : Proc). p.name) ps))))
    (take_all c.loop-proc.proc-index c.args.procs.now c.loop-proc-test.false)
