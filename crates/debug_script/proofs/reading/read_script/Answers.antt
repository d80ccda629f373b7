use Rattle.std.{proofs.Common.{arith, ap, length, append-nil, sym}, specs.Prelude.{None, Some}, proofs.lemmas.Result.err_from_is_err_and}
use Rattle.debug_script.{specs.Scripts.fault_of, proofs.ScriptLaws.{next_read, next_fails, all_read}}
use Rattle.debug_script.proofs.reading.read_script.Goals as goal

pub returns-in_err-read : goal.returns-in_err-read
returns-in_err-read g c =
    let p = err_from_is_err_and c.from_residual.result c.from_residual.ensures.1 in
    rw (p.1, p.2) (next_fails _ _ _ _ _ _ c.in-Some.ensures.steps c.loop-line.invariant.so_far (g.H.Heap.may_refuse c.args.heap)
    (fault_of c.in_err-read.field-0.0) c.in_err-read.ensures)

pub loop-line-preserved-in-Continue-branch-3 : goal.loop-line-preserved-in-Continue-branch-3
loop-line-preserved-in-Continue-branch-3 g c = record {
  so_far = rw c.in_ok-push.ensures.items (next_read _ _ _ _ _ _ c.in-Some.ensures.steps c.loop-line.invariant.so_far (Some c.in-Some-2.read)
      (cc c.in_ok-read.ensures));
  few = omega (arith, c.loop-line.invariant.few, ap length c.in-Some.ensures.steps);
}

pub loop-line-preserved : goal.loop-line-preserved
loop-line-preserved g c = record {
  so_far = rw (sym (append-nil c.loop-line.lines.items))
      (next_read _ _ _ _ _ _ c.in-Some.ensures.steps c.loop-line.invariant.so_far None (cc c.in_ok-read.ensures));
  few = omega (arith, c.loop-line.invariant.few, ap length c.in-Some.ensures.steps);
}

pub returns : goal.returns
returns g c = all_read _ _ _ _ c.in-None.ensures.steps.0 c.loop-line.invariant.so_far
