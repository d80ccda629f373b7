use Rattle.level_debuggers.proofs.LineLaws.{answer_is_lines, transcript_is_lines}
use Rattle.level_debuggers.proofs.laws.answers_are_lines.Goals as goal

pub returns-clause-answers : goal.returns-clause-answers
returns-clause-answers c = answer_is_lines

pub returns-clause-transcripts : goal.returns-clause-transcripts
returns-clause-transcripts c = transcript_is_lines
