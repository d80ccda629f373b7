use Rattle.gypsy_codegen.proofs.RowCaseLaws as law
use Rattle.gypsy_codegen.proofs.laws.rows_follow.Goals as goal

pub returns-clause-no_op : goal.returns-clause-no_op
returns-clause-no_op c =
    law.no_op_row record { calls = c.predefs_run.ensures.calls; arguments = c.predefs_run.ensures.arguments; values = c.predefs_run.ensures.values }

pub returns-clause-signal : goal.returns-clause-signal
returns-clause-signal c =
    law.signal_row record { calls = c.predefs_run.ensures.calls; arguments = c.predefs_run.ensures.arguments; values = c.predefs_run.ensures.values }

pub returns-clause-loop_begins : goal.returns-clause-loop_begins
returns-clause-loop_begins c =
    law.loop_row record { calls = c.predefs_run.ensures.calls; arguments = c.predefs_run.ensures.arguments; values = c.predefs_run.ensures.values }

pub returns-clause-loop_again : goal.returns-clause-loop_again
returns-clause-loop_again c =
    law.back_row record { calls = c.predefs_run.ensures.calls; arguments = c.predefs_run.ensures.arguments; values = c.predefs_run.ensures.values }

pub returns-clause-then_branch : goal.returns-clause-then_branch
returns-clause-then_branch c =
    law.then_row record { calls = c.predefs_run.ensures.calls; arguments = c.predefs_run.ensures.arguments; values = c.predefs_run.ensures.values }

pub returns-clause-else_branch : goal.returns-clause-else_branch
returns-clause-else_branch c =
    law.else_row record { calls = c.predefs_run.ensures.calls; arguments = c.predefs_run.ensures.arguments; values = c.predefs_run.ensures.values }

pub returns-clause-join_then : goal.returns-clause-join_then
returns-clause-join_then c =
    law.join_then_row record { calls = c.predefs_run.ensures.calls; arguments = c.predefs_run.ensures.arguments; values = c.predefs_run.ensures.values }

pub returns-clause-join_one : goal.returns-clause-join_one
returns-clause-join_one c =
    law.join_one_row record { calls = c.predefs_run.ensures.calls; arguments = c.predefs_run.ensures.arguments; values = c.predefs_run.ensures.values }

pub returns-clause-guard : goal.returns-clause-guard
returns-clause-guard c =
    law.guard_row record { calls = c.predefs_run.ensures.calls; arguments = c.predefs_run.ensures.arguments; values = c.predefs_run.ensures.values }

pub returns-clause-call : goal.returns-clause-call
returns-clause-call c =
    law.call_row record { calls = c.predefs_run.ensures.calls; arguments = c.predefs_run.ensures.arguments; values = c.predefs_run.ensures.values }

pub returns-clause-lack_temporary : goal.returns-clause-lack_temporary
returns-clause-lack_temporary c = law.lack_temporary_row
    record { calls = c.predefs_run.ensures.calls; arguments = c.predefs_run.ensures.arguments; values = c.predefs_run.ensures.values }

pub returns-clause-lack_control : goal.returns-clause-lack_control
returns-clause-lack_control c = law.lack_control_row
    record { calls = c.predefs_run.ensures.calls; arguments = c.predefs_run.ensures.arguments; values = c.predefs_run.ensures.values }

pub returns-clause-write : goal.returns-clause-write
returns-clause-write c =
    law.write_row record { calls = c.predefs_run.ensures.calls; arguments = c.predefs_run.ensures.arguments; values = c.predefs_run.ensures.values }

pub returns-clause-fault : goal.returns-clause-fault
returns-clause-fault c =
    law.fault_row record { calls = c.predefs_run.ensures.calls; arguments = c.predefs_run.ensures.arguments; values = c.predefs_run.ensures.values }

pub returns-clause-beyond : goal.returns-clause-beyond
returns-clause-beyond c =
    law.beyond_row record { calls = c.predefs_run.ensures.calls; arguments = c.predefs_run.ensures.arguments; values = c.predefs_run.ensures.values }

pub returns-clause-returned : goal.returns-clause-returned
returns-clause-returned c =
    law.return_row record { calls = c.predefs_run.ensures.calls; arguments = c.predefs_run.ensures.arguments; values = c.predefs_run.ensures.values }

pub returns-clause-out : goal.returns-clause-out
returns-clause-out c =
    law.out_row record { calls = c.predefs_run.ensures.calls; arguments = c.predefs_run.ensures.arguments; values = c.predefs_run.ensures.values }

pub returns-clause-main_end : goal.returns-clause-main_end
returns-clause-main_end c =
    law.end_row record { calls = c.predefs_run.ensures.calls; arguments = c.predefs_run.ensures.arguments; values = c.predefs_run.ensures.values }

pub returns-clause-main_out : goal.returns-clause-main_out
returns-clause-main_out c =
    law.main_out_row record { calls = c.predefs_run.ensures.calls; arguments = c.predefs_run.ensures.arguments; values = c.predefs_run.ensures.values }
