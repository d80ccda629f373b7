-- Scripts that are followed, line by line.
use Rattle.std.proofs.Common.{◌≡◌, ◌+◌, ◌<◌, ◌≤◌, ℕ, List, ◌∷◌, length, drop, get_or, Option, Some, None, sym, ap, subst, ◌∙◌, inl, inr}
use Rattle.std.proofs.lemmas.List.{drop_all}
use Rattle.stack_text.proofs.Loops.{drop-item}
use Rattle.debug_script.specs.declared.reading.Line.{Line}
use Rattle.level_debuggers.{specs.Walks.SessionOf, specs.declared.script_end.ScriptEnd.ScriptEnd, specs.Transcripts.{Followed, IsLeftBy, IsLeftIn, IsSaid}}
use Rattle.level_debuggers.specs.Transcripts.{follow_on, followed, said_to}
use Rattle.level_debuggers.specs.declared.script_end.ScriptEnd.TheVariants as end

-- a line after which the script goes on
went_on : (text new : List ℕ) (line : Line) (lines : List Line) (s t : SessionOf) → IsSaid (said_to line s) text new None t
    → followed text (line ∷ lines) s ≡ followed new lines t
unfolding followed
went_on text new line lines s t h =
    ap (λ (e : Option ScriptEnd). follow_on text (said_to line s) e (λ text s. followed text lines s)) (sym h.1)
    ∙ ap (λ (n : List ℕ). followed n lines (said_to line s).session) (sym h.0)
    ∙ ap (λ (z : SessionOf). followed new lines z) (sym h.2)

-- a line that ends it
ended : (text new : List ℕ) (line : Line) (lines : List Line) (s t : SessionOf) (e : ScriptEnd) → IsSaid (said_to line s) text new (Some e) t
    → followed text (line ∷ lines) s ≡ record { text = new; end = e; session = t }
unfolding followed
ended text new line lines s t e h =
    ap (λ (o : Option ScriptEnd). follow_on text (said_to line s) o (λ text s. followed text lines s)) (sym h.1)
    ∙ (let n = h.0 in let z = h.2 in λ i. record { text = (sym n) i; end = e; session = (sym z) i })

module _ (lines : List Line) (k : ℕ) (text : List ℕ) (s : SessionOf) (all : Followed) where
  pub next_line : (new : List ℕ) (t : SessionOf) (line : Line) → k < length lines → line ≡ get_or lines k line
      → IsSaid (said_to line s) text new None t → followed text (drop k lines) s ≡ all
      → followed new (drop (k + 1) lines) t ≡ all
  next_line new t line lt at said is =
      sym (went_on text new line (drop (k + 1) lines) s t said)
      ∙ ap (λ (ls : List Line). followed text ls s) (sym (drop-item lines k line lt at)) ∙ is

  pub last_line : (new : List ℕ) (t : SessionOf) (e : ScriptEnd) (line : Line) → k < length lines → line ≡ get_or lines k line
      → IsSaid (said_to line s) text new (Some e) t
      → followed text (drop k lines) s ≡ all → all ≡ record { text = new; end = e; session = t }
  last_line new t e line lt at said is =
      sym is ∙ ap (λ (ls : List Line). followed text ls s) (drop-item lines k line lt at) ∙ ended text new line (drop (k + 1) lines) s t e said

  pub no_line : length lines ≤ k → followed text (drop k lines) s ≡ all → all ≡ record { text = text; end = end.Done; session = s }
  unfolding followed
  no_line le is = sym is ∙ ap (λ (ls : List Line). followed text ls s) (drop_all k lines le)

-- Where memory runs out at a later line, or at this one.
module _ (lines : List Line) (k : ℕ) (s old : SessionOf) (before : (left : SessionOf) → IsLeftIn (drop k lines) s left → IsLeftIn lines old left) where
  pub next_left : (text new : List ℕ) (t : SessionOf) (line : Line) → k < length lines → line ≡ get_or lines k line
      → IsSaid (said_to line s) text new None t
      → (left : SessionOf) → IsLeftIn (drop (k + 1) lines) t left → IsLeftIn lines old left
  unfolding IsLeftIn
  next_left text new t line lt at said left later =
      before left (subst (λ (ls : List Line). IsLeftIn ls s left) (sym (drop-item lines k line lt at))
      (inr (sym said.1, subst (λ (z : SessionOf). IsLeftIn (drop (k + 1) lines) z left) said.2 later)))

  pub left_here : (left : SessionOf) (line : Line) → k < length lines → line ≡ get_or lines k line
      → IsLeftBy line.line line.command s left → IsLeftIn lines old left
  unfolding IsLeftIn
  left_here left line lt at here =
      before left (subst (λ (ls : List Line). IsLeftIn ls s left) (sym (drop-item lines k line lt at)) (inl here))
