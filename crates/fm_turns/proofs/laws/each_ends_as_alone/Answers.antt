use Rattle.fm_turns.proofs.EqualLaws.{round_is_quotient, each_ends_as_alone}
use Rattle.fm_turns.proofs.laws.each_ends_as_alone.Goals as goal

pub returns-clause-round : goal.returns-clause-round
returns-clause-round c = round_is_quotient

pub returns-clause-ends : goal.returns-clause-ends
returns-clause-ends c = each_ends_as_alone
