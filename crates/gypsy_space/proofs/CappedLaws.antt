-- Sums that are exact up to 2^60.
use Rattle.std.proofs.Common.{◌≡◌, ℕ, arith}
use Rattle.gypsy_syntax.specs.Programs.{Program, Stmt, Skip}
use Rattle.gypsy_space.{specs.StatementNeeds.{capped, HasMore, HasMoreWords, IsStatementNeed}, specs.declared.counting.StatementNeed.StatementNeed}

-- where nothing is to come, all is counted
pub no_more_words : (n whole : ℕ) → HasMoreWords n 0 whole → n ≡ capped whole
no_more_words n whole h = omega (arith, h.words, h.small)

pub no_more : (q : Program) (n : StatementNeed) (whole : Stmt) → HasMore q n Skip whole → IsStatementNeed q whole n
no_more q n whole h = record {
  temp = omega (arith, h.temp);
  ctrl = omega (arith, h.ctrl);
  words = omega (arith, h.words, h.small);
  low_temp = h.low_temp;
  low_ctrl = h.low_ctrl;
}
