-- What the code counts for statements and procedures: sums are exact up to 2^60, and stay there.
use Rattle.std.specs.Prelude.{◌≡◌, ℕ, ◌+◌, ◌^◌, ◌<◌, ◌≤◌, max, min, List, length}
use Rattle.gypsy_syntax.specs.Programs.{Program, Stmt}
use Rattle.gypsy_space.specs.{Needs.{statement_temp, statement_ctrl, statement_words}, Events.{need_at, need_of, IsSmall}}
use Rattle.gypsy_space.specs.{declared.need.Need.{Need}, declared.counting.StatementNeed.{StatementNeed}}

abbrev pub capped : ℕ → ℕ
capped n = min n (2 ^ 60)

abbrev pub capped_need : Need → Need
capped_need n = record n { locals_words = capped n.locals_words; vars = capped n.vars; code_words = capped n.code_words }

-- the need of two statements, and so many words of code
abbrev pub joined : ℕ → StatementNeed → StatementNeed → StatementNeed
joined words first second = record {
  temp = max first.temp second.temp;
  ctrl = max first.ctrl second.ctrl;
  words = capped (capped (words + first.words) + second.words);
}

pub record IsStatementNeed (q : Program) (s : Stmt) (n : StatementNeed) : Type 0 where
  pub temp : n.temp ≡ statement_temp s
  pub ctrl : n.ctrl ≡ statement_ctrl s
  pub words : n.words ≡ capped (statement_words q s)
  pub low_temp : n.temp ≤ 4
  pub low_ctrl : n.ctrl ≤ 10

-- what was counted, and what this rest needs, make the need of the whole
pub record HasMore (q : Program) (n : StatementNeed) (rest whole : Stmt) : Type 0 where
  pub temp : max n.temp (statement_temp rest) ≡ statement_temp whole
  pub ctrl : max n.ctrl (statement_ctrl rest) ≡ statement_ctrl whole
  pub words : capped (n.words + statement_words q rest) ≡ capped (statement_words q whole)
  pub small : n.words ≤ 2 ^ 60
  pub low_temp : n.temp ≤ 4
  pub low_ctrl : n.ctrl ≤ 10

-- the words so far, and those of the rest, are those of all
pub record HasMoreWords (n rest whole : ℕ) : Type 0 where
  pub words : capped (n + rest) ≡ capped whole
  pub small : n ≤ 2 ^ 60

-- those of the first procedures, none of them above 2^60
pub record AreFirst (q : Program) (k : ℕ) (ns : List Need) : Type 0 where
  pub number : length ns ≡ k
  pub each : (p : ℕ) → p < k → need_at ns p ≡ capped_need (need_of q p)
  pub small : (p : ℕ) → IsSmall (need_at ns p)

-- those of all procedures, in order
pub record AreCapped (q : Program) (ns : List Need) : Type 0 where
  pub number : length ns ≡ length q.procs
  pub each : (p : ℕ) → p < length q.procs → need_at ns p ≡ capped_need (need_of q p)
