-- Texts one after another.
use Rattle.std.proofs.Common.{◌≡◌, ℕ, suc, ◌+◌, List, ◌++◌, sym, ap, ◌∙◌, arith, append-nil, append_assoc}
use Rattle.fm_netlist.specs.NetlistText.{below}

-- one text more
pub below_next : (f : ℕ → List ℕ) (i : ℕ) (init old new : List ℕ)
    → new ≡ old ++ f i → old ≡ init ++ below f i → new ≡ init ++ below f (i + 1)
unfolding below
below_next f i init old new more so_far =
    let e : suc i ≡ i + 1 = omega arith in
    more ∙ ap (λ (xs : List ℕ). xs ++ f i) so_far ∙ append_assoc init (below f i) (f i) ∙ ap (λ n. init ++ below f n) e

-- none yet
pub below_none : (f : ℕ → List ℕ) (init : List ℕ) → init ≡ init ++ below f 0
unfolding below
below_none f init = sym (append-nil init)
