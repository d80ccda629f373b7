-- Lines that are read one after the other.
use Rattle.std.{proofs.Common.{◌≡◌, ◌+◌, ℕ, List, [], ◌∷◌, ◌++◌, Option, Some, None, Result, Ok, Err, refl, sym, ap, ◌∙◌}, specs.Prelude.option_to_list}
use Rattle.stack_text.specs.Gives as common
use Rattle.stack_text.{specs.Results.◌>>=◌, proofs.ResultLoops.{with_front, with_front-with_front, with_front-none}}
use Rattle.debug_script.{specs.declared.fault.ScriptFault.ScriptFault, specs.declared.reading.Line.Line, specs.Scripts.{line_read, lines_read}}

-- what a line gives and the lines behind it
abbrev behind : ℕ → List (List ℕ) → Option Line → Result (List Line) ScriptFault
behind number lines first = lines_read number lines >>= λ rest. Ok (option_to_list first ++ rest)

-- `left` is a line and those behind it; what was read before them and what they give is all
module _ (number : ℕ) (line : List ℕ) (lines left : List (List ℕ)) (before : List Line) (all : Result (List Line) ScriptFault)
    (first : left ≡ line ∷ lines) (so_far : with_front before (lines_read number left) ≡ all) where
  opened : (r : Result (Option Line) ScriptFault) → line_read number line ≡ r
      → with_front before (r >>= behind (number + 1) lines) ≡ all
  unfolding lines_read
  opened r e =
      ap (λ (s : Result (Option Line) ScriptFault). with_front before (s >>= behind (number + 1) lines)) (sym e)
      ∙ ap (λ (ls : List (List ℕ)). with_front before (lines_read number ls)) (sym first) ∙ so_far

  -- the next line is read
  pub next_read : (read : Option Line) → line_read number line ≡ Ok read
      → with_front (before ++ option_to_list read) (lines_read (number + 1) lines) ≡ all
  next_read read e =
      sym (with_front-with_front before (option_to_list read) (lines_read (number + 1) lines))
      ∙ ap (with_front before) (sym (cases (lines_read (number + 1) lines))) ∙ opened (Ok read) e
    where
      cases : (r : Result (List Line) ScriptFault) → (r >>= λ rest. Ok (option_to_list read ++ rest)) ≡ with_front (option_to_list read) r
      cases (Ok rest) = refl
      cases (Err fault) = refl

  -- the next line has a fault, where `None` is out of memory, for which there is a reason
  pub next_fails : (refused : Type 0) (fault : Option ScriptFault) → common.FailsUnless refused fault (line_read number line)
      → common.FailsUnless refused fault all
  next_fails refused None e = e
  next_fails refused (Some fault) e = sym (opened (Err fault) e)

-- no line is left
pub all_read : (number : ℕ) (left : List (List ℕ)) (before : List Line) (all : Result (List Line) ScriptFault)
    → left ≡ [] → with_front before (lines_read number left) ≡ all → all ≡ Ok before
unfolding lines_read
all_read number left before all none so_far =
    sym so_far ∙ ap (λ (ls : List (List ℕ)). with_front before (lines_read number ls)) none ∙ with_front-none before
