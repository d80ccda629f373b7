-- Words that stand in a window.
use Rattle.std.proofs.Common.{◌≡◌, ℕ, ◌+◌, ◌-◌, Some, None, Bool, List, [], ◌∷◌, ◌++◌, length, sym, ap, ◌∙◌, subst, arith, length-append, append_assoc}
use Rattle.std.{specs.Prelude.{if◌then◌else◌, slice_get}, proofs.lemmas.Bool.le-ltb}
use Rattle.fm_machine.specs.State.{word_at}
use Rattle.fm_code.{specs.Execution.Holds, proofs.ListLaws.get_after}

word_there : (b : ℕ) (pre ws : List ℕ) (w : ℕ) → word_at b (pre ++ w ∷ ws) (b + length pre) ≡ Some w
unfolding word_at
word_there b pre ws w =
    let e : b + length pre - b ≡ length pre + 0 = omega arith in
    ap (λ (t : Bool). if t then None else slice_get (pre ++ w ∷ ws) (b + length pre - b)) (le-ltb (b + length pre) b (omega arith))
    ∙ ap (slice_get (pre ++ w ∷ ws)) e ∙ get_after pre (w ∷ ws) 0

-- words behind others, at the end of a window
pub at_end : (b : ℕ) (pre ws : List ℕ) → Holds b (pre ++ ws) (b + length pre) ws
at_end b pre [] = tt
at_end b pre (w ∷ ws) =
    let same : (pre ++ w ∷ []) ++ ws ≡ pre ++ w ∷ ws = append_assoc pre (w ∷ []) ws in
    let next : b + length (pre ++ w ∷ []) ≡ b + length pre + 1 = omega (arith, length-append pre (w ∷ [])) in
    let rest = subst (λ m. Holds b m (b + length (pre ++ w ∷ [])) ws) same (at_end b (pre ++ w ∷ []) ws) in
    (word_there b pre ws w, subst (λ a. Holds b (pre ++ w ∷ ws) a ws) next rest)

-- the front of words that stand somewhere
pub in_front : (b : ℕ) (m : List ℕ) (p : ℕ) (xs ys : List ℕ) → Holds b m p (xs ++ ys) → Holds b m p xs
in_front b m p [] ys h = tt
in_front b m p (x ∷ xs) ys h = (h.0, in_front b m (p + 1) xs ys h.1)

-- words that stand between others
pub between : (b : ℕ) (pre ws post : List ℕ) (p : ℕ) → p ≡ b + length pre → Holds b (pre ++ (ws ++ post)) p ws
between b pre ws post p e =
    subst (λ a. Holds b (pre ++ (ws ++ post)) a ws) (sym e) (in_front b (pre ++ (ws ++ post)) (b + length pre) ws post (at_end b pre (ws ++ post)))
