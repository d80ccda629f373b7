-- What a token breaks, by what is expected and what was counted before it.
use Rattle.std.specs.Prelude.{◌≡◌, ℕ, ◌+◌, ◌<◌, List, reverse, Option, Some, None, Bool, true, false, ◌&&◌, nat_le, if◌then◌else◌, Result}
use Rattle.std.specs.Prelude.{Ok, Err}
use Rattle.mini_syntax.specs.{declared.fault.MiniFault.{MiniFault}, declared.fault.MiniFault.TheVariants.{Refused, Memory}}
use Rattle.mini_syntax.specs.{declared.expected.Expected.{Expected}, declared.judging.Counts.{Counts}, declared.lexer.TokenKind.{TokenKind}}
use Rattle.mini_syntax.specs.{Expected.{takes}, Faults.{opens_bracket, closes_bracket, opens_block, closes_block, is_operator}}
use Rattle.mini_syntax.specs.{Faults.{begins_expression, IsTextFault, count_of, operators}, Tokens.{Token}}
use Rattle.mini_syntax.specs.declared.lexer.TokenKind.TheVariants as kind

-- the counts of tokens
abbrev pub counts_of : List Token → Counts
counts_of ts = record {
  opened_brackets = count_of opens_bracket ts;
  closed_brackets = count_of closes_bracket ts;
  opened_blocks = count_of opens_block ts;
  closed_blocks = count_of closes_block ts;
  operators = operators ts;
}

abbrev pub tally : ℕ → Bool → ℕ
tally n test = if test then n + 1 else n

-- the counts after one more token
abbrev pub counted : Counts → TokenKind → Counts
counted n k = record {
  opened_brackets = tally n.opened_brackets (opens_bracket k);
  closed_brackets = tally n.closed_brackets (closes_bracket k);
  opened_blocks = tally n.opened_blocks (opens_block k);
  closed_blocks = tally n.closed_blocks (closes_block k);
  operators = if begins_expression k then 0 else tally n.operators (is_operator k);
}

pub record IsBelow (n : Counts) (bound : ℕ) : Type 0 where
  pub opened_brackets : n.opened_brackets < bound
  pub closed_brackets : n.closed_brackets < bound
  pub opened_blocks : n.opened_blocks < bound
  pub closed_blocks : n.closed_blocks < bound
  pub operators : n.operators < bound

abbrev pub is_over_limit : Bool → ℕ → ℕ → Bool
is_over_limit test opened closed = test && nat_le (closed + 40) opened

-- rule 3 or 4, where it is broken
abbrev pub limit_of : Counts → TokenKind → Option ℕ
limit_of n k =
    if is_over_limit (opens_bracket k) n.opened_brackets n.closed_brackets then Some 3 else
    if is_over_limit (opens_block k) n.opened_blocks n.closed_blocks then Some 3 else
    if is_over_limit (is_operator k) n.operators 0 then Some 4 else
    None

abbrev pub is_wrong : TokenKind → Bool
is_wrong kind.Wrong = true
is_wrong k = false

-- the rule that a token breaks; where it breaks none, it is taken
pub data Judges (old : List Expected) (n : Counts) (k : TokenKind) (rule : Option ℕ) (new : List Expected) : Type 0 where
  no_token : is_wrong k ≡ true → rule ≡ Some 1 → Judges old n k rule new
  not_taken : is_wrong k ≡ false → takes (reverse old) k ≡ None → rule ≡ Some 2 → Judges old n k rule new
  taken : is_wrong k ≡ false → takes (reverse old) k ≡ Some (reverse new) → rule ≡ limit_of n k → Judges old n k rule new

-- an error is the text's fault, unless memory was refused
abbrev pub RefusesUnless : {X : Type 0} → Type 0 → List ℕ → Result X MiniFault → Type 0
RefusesUnless refused text (Ok x) = Unit {0}
RefusesUnless refused text (Err Memory) = refused
RefusesUnless refused text (Err (Refused rule place)) = IsTextFault text rule place
