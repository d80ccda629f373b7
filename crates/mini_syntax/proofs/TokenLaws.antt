-- A token after others breaks a rule, or a program goes on with it; so from left to right a first token breaks one, or none does.
use Rattle.std.proofs.Common.{◌≡◌, ℕ, ◌≤◌, List, [], ◌∷◌, ◌++◌, true, false, Option, Some, None, refl, sym, ap, subst, ◌∙◌, append_assoc, arith}
use Rattle.std.{specs.Prelude.{◌&&◌, nat_le}, proofs.lemmas.Bool.{leb-true, le-leb, and_parts}, proofs.lemmas.List.append-nil}
use Rattle.std.specs.Prelude as std
use Rattle.mini_syntax.{specs.declared.expected.Expected.Expected, specs.Expected.{at_start, taken, takes}, specs.Faults.{BreaksAt, blocks, brackets}}
use Rattle.mini_syntax.specs.Faults.{no_program, no_token, open_blocks, open_brackets, operators, too_many, is_operator, opens_block, opens_bracket}
use Rattle.mini_syntax.{specs.Grammar.GoesOn, specs.Internal.Judging.is_wrong, specs.Tokens.{Token, name_at, number_at, word_at, mark_at, wrong_at, kind_of}}
use Rattle.mini_syntax.{proofs.ExpectedLaws.not_taken, proofs.GoesOnLaws.goes_on, proofs.JudgeLaws.taken_one}

-- ---- one token

-- the limit is reached where the test holds
abbrev is_full : std.Bool → ℕ → std.Bool
is_full test n = test && nat_le 40 n

full : (test : std.Bool) (n : ℕ) → test ≡ true → 40 ≤ n → is_full test n ≡ true
full test n holds le = rw (holds, le-leb 40 n le) refl

-- what is known where a token breaks a rule
data Broken (before : List Token) (t : Token) (rule : ℕ) : Type 0 where
  wrong : rule ≡ 1 → is_wrong (kind_of t) ≡ true → Broken before t rule
  ends : rule ≡ 2 → (GoesOn (before ++ t ∷ []) → ⊥) → Broken before t rule
  bracket : rule ≡ 3 → is_full (opens_bracket (kind_of t)) (open_brackets before) ≡ true → Broken before t rule
  block : rule ≡ 3 → is_full (opens_block (kind_of t)) (open_blocks before) ≡ true → Broken before t rule
  operator : rule ≡ 4 → is_full (is_operator (kind_of t)) (operators before) ≡ true → Broken before t rule

broken : (before : List Token) (t : Token) (rule : ℕ) → BreaksAt before t rule → Broken before t rule
broken before t rule (no_token place) = wrong refl refl
broken before t rule (no_program u n) = ends refl n
broken before t rule (brackets u g o l) = bracket refl (full (opens_bracket (kind_of t)) (open_brackets before) o l)
broken before t rule (blocks u g o l) = block refl (full (opens_block (kind_of t)) (open_blocks before) o l)
broken before t rule (too_many u g o l) = operator refl (full (is_operator (kind_of t)) (operators before) o l)

wrong_breaks : (before : List Token) (t : Token) → is_wrong (kind_of t) ≡ true → BreaksAt before t 1
wrong_breaks before (wrong_at place) e = no_token place
wrong_breaks before (name_at place bytes) e = absurd cc
wrong_breaks before (number_at place digits) e = absurd cc
wrong_breaks before (word_at place w) e = absurd cc
wrong_breaks before (mark_at place m) e = absurd cc

-- the least rule that a token breaks, or what is expected after it
pub data Judged (before : List Token) (t : Token) : Type 0 where
  breaks : (rule : ℕ) → BreaksAt before t rule → ((other : ℕ) → BreaksAt before t other → rule ≤ other) → Judged before t
  passes : (st : List Expected) → taken (Some at_start) (before ++ t ∷ []) ≡ Some st → ((rule : ℕ) → BreaksAt before t rule → ⊥) → Judged before t

module _ (before : List Token) (t : Token) (st : List Expected) (is : taken (Some at_start) before ≡ Some st) where
  at_least_one : (rule : ℕ) → Broken before t rule → 1 ≤ rule
  at_least_one rule (wrong e h) = omega (arith, e)
  at_least_one rule (ends e h) = omega (arith, e)
  at_least_one rule (bracket e h) = omega (arith, e)
  at_least_one rule (block e h) = omega (arith, e)
  at_least_one rule (operator e h) = omega (arith, e)

  at_least_two : is_wrong (kind_of t) ≡ false → (rule : ℕ) → Broken before t rule → 2 ≤ rule
  at_least_two right rule (wrong e h) = absurd (let bad : false ≡ true = sym right ∙ h in cc)
  at_least_two right rule (ends e h) = omega (arith, e)
  at_least_two right rule (bracket e h) = omega (arith, e)
  at_least_two right rule (block e h) = omega (arith, e)
  at_least_two right rule (operator e h) = omega (arith, e)

  at_least_three : is_wrong (kind_of t) ≡ false → GoesOn (before ++ t ∷ []) → (rule : ℕ) → Broken before t rule → 3 ≤ rule
  at_least_three right goes rule (wrong e h) = absurd (let bad : false ≡ true = sym right ∙ h in cc)
  at_least_three right goes rule (ends e h) = absurd (h goes)
  at_least_three right goes rule (bracket e h) = omega (arith, e)
  at_least_three right goes rule (block e h) = omega (arith, e)
  at_least_three right goes rule (operator e h) = omega (arith, e)

  module _ (right : is_wrong (kind_of t) ≡ false) (new : List Expected) (some : takes st (kind_of t) ≡ Some new) where
    further : taken (Some at_start) (before ++ t ∷ []) ≡ Some new
    further = taken_one before t st is ∙ some

    goes : GoesOn (before ++ t ∷ [])
    goes = goes_on (before ++ t ∷ []) new further

    -- rules 3 and 4, by whether a limit is reached
    by_limits : (a b c : std.Bool) → is_full (opens_bracket (kind_of t)) (open_brackets before) ≡ a → is_full (opens_block (kind_of t)) (open_blocks before) ≡ b
        → is_full (is_operator (kind_of t)) (operators before) ≡ c → Judged before t
    by_limits true b c x y z =
        let h = and_parts (opens_bracket (kind_of t)) (nat_le 40 (open_brackets before)) x in
        breaks 3 (brackets t goes h.0 (leb-true 40 (open_brackets before) h.1)) (λ rule k. at_least_three right goes rule (broken before t rule k))
    by_limits false true c x y z =
        let h = and_parts (opens_block (kind_of t)) (nat_le 40 (open_blocks before)) y in
        breaks 3 (blocks t goes h.0 (leb-true 40 (open_blocks before) h.1)) (λ rule k. at_least_three right goes rule (broken before t rule k))
    by_limits false false true x y z =
        let h = and_parts (is_operator (kind_of t)) (nat_le 40 (operators before)) z in
        breaks 4 (too_many t goes h.0 (leb-true 40 (operators before) h.1)) (λ rule k. at_least_four rule (broken before t rule k))
      where
        at_least_four : (rule : ℕ) → Broken before t rule → 4 ≤ rule
        at_least_four rule (wrong e h) = absurd (let bad : false ≡ true = sym right ∙ h in cc)
        at_least_four rule (ends e h) = absurd (h goes)
        at_least_four rule (bracket e h) = absurd (let bad : false ≡ true = sym x ∙ h in cc)
        at_least_four rule (block e h) = absurd (let bad : false ≡ true = sym y ∙ h in cc)
        at_least_four rule (operator e h) = omega (arith, e)
    by_limits false false false x y z = passes new further (λ rule k. none rule (broken before t rule k))
      where
        none : (rule : ℕ) → Broken before t rule → ⊥
        none rule (wrong e h) = let bad : false ≡ true = sym right ∙ h in cc
        none rule (ends e h) = h goes
        none rule (bracket e h) = let bad : false ≡ true = sym x ∙ h in cc
        none rule (block e h) = let bad : false ≡ true = sym y ∙ h in cc
        none rule (operator e h) = let bad : false ≡ true = sym z ∙ h in cc

  by_taken : is_wrong (kind_of t) ≡ false → (o : Option (List Expected)) → takes st (kind_of t) ≡ o → Judged before t
  by_taken right None none =
      breaks 2 (no_program t (not_taken (before ++ t ∷ []) (taken_one before t st is ∙ none))) (λ rule k. at_least_two right rule (broken before t rule k))
  by_taken right (Some new) some = by_limits right new some _ _ _ refl refl refl

  judge : Judged before t
  judge = by_wrong (is_wrong (kind_of t)) refl
    where
      by_wrong : (b : std.Bool) → is_wrong (kind_of t) ≡ b → Judged before t
      by_wrong true w = breaks 1 (wrong_breaks before t w) (λ rule k. at_least_one rule (broken before t rule k))
      by_wrong false right = by_taken right (takes st (kind_of t)) refl

-- ---- the tokens after others

-- none of them breaks a rule
pub record FreeAfter (before rest : List Token) : Type 0 where
  pub free : (pre : List Token) (t : Token) (post : List Token) (rule : ℕ) → rest ≡ pre ++ t ∷ post → BreaksAt (before ++ pre) t rule → ⊥

none_free : (before : List Token) → FreeAfter before []
none_free before = record { free = nothing }
  where
    nothing : (pre : List Token) (t : Token) (post : List Token) (rule : ℕ) → [] ≡ pre ++ t ∷ post → BreaksAt (before ++ pre) t rule → ⊥
    nothing [] t post rule e b = cc
    nothing (v ∷ pre) t post rule e b = cc

one_more : (before : List Token) (u : Token) (us : List Token) → ((rule : ℕ) → BreaksAt before u rule → ⊥) → FreeAfter (before ++ u ∷ []) us
    → FreeAfter before (u ∷ us)
one_more before u us none f = record { free = by_front }
  where
    by_front : (pre : List Token) (t : Token) (post : List Token) (rule : ℕ) → u ∷ us ≡ pre ++ t ∷ post → BreaksAt (before ++ pre) t rule → ⊥
    by_front [] t post rule e b =
        let head : t ≡ u = cc in
        none rule (subst (λ (x : Token). BreaksAt before x rule) head (subst (λ (ts : List Token). BreaksAt ts t rule) (append-nil before) b))
    by_front (v ∷ pre) t post rule e b =
        let head : v ≡ u = cc in
        let tail : us ≡ pre ++ t ∷ post = cc in
        let front : before ++ v ∷ pre ≡ (before ++ u ∷ []) ++ pre = ap (λ (x : Token). before ++ x ∷ pre) head ∙ sym (append_assoc before (u ∷ []) pre) in
        f.free pre t post rule tail (subst (λ (ts : List Token). BreaksAt ts t rule) front b)

-- the first that breaks a rule, with the least rule; or what is expected after all of them
pub data Walked (before rest : List Token) : Type 0 where
  stops : (pre : List Token) (t : Token) (post : List Token) (rule : ℕ) → rest ≡ pre ++ t ∷ post → FreeAfter before pre → BreaksAt (before ++ pre) t rule
      → ((other : ℕ) → BreaksAt (before ++ pre) t other → rule ≤ other) → Walked before rest
  ends_so : (st : List Expected) → taken (Some at_start) (before ++ rest) ≡ Some st → FreeAfter before rest → Walked before rest

longer : (before : List Token) (u : Token) (us : List Token) → ((rule : ℕ) → BreaksAt before u rule → ⊥) → Walked (before ++ u ∷ []) us → Walked before (u ∷ us)
longer before u us none (stops pre t post rule e f b least) =
    let front : (before ++ u ∷ []) ++ pre ≡ before ++ u ∷ pre = append_assoc before (u ∷ []) pre in
    stops (u ∷ pre) t post rule (ap (λ (ts : List Token). u ∷ ts) e) (one_more before u pre none f) (subst (λ (ts : List Token). BreaksAt ts t rule) front b)
    (λ other c. least other (subst (λ (ts : List Token). BreaksAt ts t other) (sym front) c))
longer before u us none (ends_so st e f) =
    ends_so st (ap (taken (Some at_start)) (sym (append_assoc before (u ∷ []) us)) ∙ e) (one_more before u us none f)

pub walk : (before rest : List Token) (st : List Expected) → taken (Some at_start) before ≡ Some st → Walked before rest
walk before [] st is = ends_so st (ap (taken (Some at_start)) (append-nil before) ∙ is) (none_free before)
walk before (u ∷ us) st is = pick (judge before u st is) (λ new e. walk (before ++ u ∷ []) us new e)
  where
    pick : Judged before u → ((new : List Expected) → taken (Some at_start) (before ++ u ∷ []) ≡ Some new → Walked (before ++ u ∷ []) us)
        → Walked before (u ∷ us)
    pick (breaks rule b least) later =
        stops [] u us rule refl (none_free before) (subst (λ (ts : List Token). BreaksAt ts u rule) (sym (append-nil before)) b)
        (λ other c. least other (subst (λ (ts : List Token). BreaksAt ts u other) (append-nil before) c))
    pick (passes new e none) later = longer before u us none (later new e)
