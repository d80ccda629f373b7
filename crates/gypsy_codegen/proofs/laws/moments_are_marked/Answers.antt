use Rattle.gypsy_codegen.{proofs.MarkLaws.each_moment_is_marked, proofs.MarkOrderLaws.{marks_ascend, marks_are_places}}
use Rattle.gypsy_codegen.proofs.laws.moments_are_marked.Goals as goal

pub returns-clause-among : goal.returns-clause-among
returns-clause-among c = each_moment_is_marked

pub returns-clause-ascend : goal.returns-clause-ascend
returns-clause-ascend c = marks_ascend

pub returns-clause-places : goal.returns-clause-places
returns-clause-places c = marks_are_places
