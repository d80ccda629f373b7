-- Cycles of a board that does not fetch.
use Rattle.std.{proofs.Common.{◌≡◌, ◌≢◌, ℕ, zero, suc, ◌+◌, ◌-◌, ◌<◌, ◌≤◌, sym, ap, subst, ◌∙◌, arith, ⊎_elim}, proofs.lemmas.Bool.cases_lt}
use Rattle.fm_circuit.{specs.Phases.fetch, specs.Board.{Board, cycle, cycles}, specs.Following.phase_of}

-- k cycles lead from b to c, and at none of them is the board about to fetch
pub record Passes (b : Board) (k : ℕ) (c : Board) : Type 0 where
  pub ends : cycles k b ≡ c
  pub busy : (j : ℕ) → j < k → phase_of (cycles j b) ≢ fetch

pub cycles_add : (j k : ℕ) (b : Board) → cycles (j + k) b ≡ cycles k (cycles j b)
unfolding cycles
cycles_add zero k b = let e : 0 + k ≡ k = omega arith in ap (λ n. cycles n b) e
cycles_add (suc j) k b =
    let e : suc j + k ≡ suc (j + k) = omega arith in
    ap (λ n. cycles n b) e ∙ cycles_add j k (cycle b)

pub one : (b c : Board) → phase_of b ≢ fetch → cycle b ≡ c → Passes b 1 c
unfolding cycles
one b c ne e = record { ends = e; busy = at }
  where
    at : (j : ℕ) → j < 1 → phase_of (cycles j b) ≢ fetch
    at zero h = ne
    at (suc j) h = absurd (omega arith)

pub after : {b c d : Board} (j k : ℕ) → Passes b j c → Passes c k d → Passes b (j + k) d
after {b} {c} {d} j k p q =
    record {
      ends = cycles_add j k b ∙ ap (cycles k) p.ends ∙ q.ends;
      busy = λ i h. ⊎_elim (λ below. p.busy i below) (λ past. later i h past) (cases_lt i j);
    }
  where
    later : (i : ℕ) → i < j + k → j ≤ i → phase_of (cycles i b) ≢ fetch
    later i h past =
        let e : j + (i - j) ≡ i = omega arith in
        let there : cycles (i - j) c ≡ cycles i b = sym (cycles_add j (i - j) b ∙ ap (cycles (i - j)) p.ends) ∙ ap (λ n. cycles n b) e in
        subst (λ x. phase_of x ≢ fetch) there (q.busy (i - j) (omega arith))

pub same_start : {b b' c : Board} {k : ℕ} → b ≡ b' → Passes b' k c → Passes b k c
same_start {b} {b'} {c} {k} e p = subst (λ x. Passes x k c) (sym e) p

pub same_end : {b c c' : Board} {k : ℕ} → c ≡ c' → Passes b k c → Passes b k c'
same_end {b} {c} {c'} {k} e p = subst (λ x. Passes b k x) e p
