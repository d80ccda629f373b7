-- Bouton's theorem.
use Rattle.std.proofs.Common.{◌≡◌, ◌≢◌, ℕ, zero, suc, ◌+◌, ◌%◌, ◌<◌, List, [], ◌∷◌, length, get_or, slice_set, ◌⊎◌, inl, inr, refl, sym, ap, ◌∙◌, subst, arith}
use Rattle.std.{specs.Prelude.bit_xor, specs.Int.bit_at, specs.Int.Bits.{xor_self, xor_zero_r}, proofs.lemmas.Nat.Bits.{bit_at_xor, bit_at-lt, bit_at-zero}}
use Rattle.gypsy_logic.proofs.Rules.{recursion_rule}
use Rattle.proved_programs.{specs.NimGame.{NimMove, Wins, by_move, Loses, whatever, nim_sum, BoutonsTheorem}, proofs.ExclusiveOr.{xor_twice, xor_exchange}}
use Rattle.proved_programs.proofs.ExclusiveOr.{highest, xor_less}
use Rattle.fm_code.proofs.XorLaws.{same_from_xor}

-- how many objects there are
abbrev objects : List ℕ → ℕ
objects [] = 0
objects (x ∷ xs) = x + objects xs

fewer_objects : (xs : List ℕ) (i a : ℕ) → a < get_or xs i 0 → objects (slice_set xs i a) < objects xs
fewer_objects [] i a less = absurd (omega arith)
fewer_objects (x ∷ xs) zero a less = omega arith
fewer_objects (x ∷ xs) (suc i) a less = let h = fewer_objects xs i a less in omega arith

pub pile_there : (xs : List ℕ) (i a : ℕ) → a < get_or xs i 0 → i < length xs
pile_there [] i a less = absurd (omega arith)
pile_there (x ∷ xs) zero a less = omega arith
pile_there (x ∷ xs) (suc i) a less = let h = pile_there xs i a less in omega arith

-- another number in place of a pile
pub sum_set : (xs : List ℕ) (i a : ℕ) → i < length xs → nim_sum (slice_set xs i a) ≡ bit_xor a (bit_xor (get_or xs i 0) (nim_sum xs))
sum_set [] i a there = absurd (omega arith)
sum_set (x ∷ xs) zero a there = ap (bit_xor a) (sym (xor_twice x (nim_sum xs)))
sum_set (x ∷ xs) (suc i) a there =
    let p = get_or xs i 0 in
    ap (bit_xor x) (sum_set xs i a (omega arith)) ∙ xor_exchange x a (bit_xor p (nim_sum xs)) ∙ ap (bit_xor a) (xor_exchange x p (nim_sum xs))

-- a move from zero leads away from it
leaves_zero : (xs ys : List ℕ) → nim_sum xs ≡ 0 → NimMove xs ys → nim_sum ys ≢ 0
leaves_zero xs ys zero_sum m f =
    let p = get_or xs m.pile 0 in
    let there = pile_there xs m.pile m.left m.fewer in
    let e : nim_sum ys ≡ bit_xor m.left p =
    ap nim_sum m.is ∙ sum_set xs m.pile m.left there ∙ ap (λ (n : ℕ). bit_xor m.left (bit_xor p n)) zero_sum ∙ ap (bit_xor m.left) (xor_zero_r p) in
    let same : m.left ≡ p = same_from_xor m.left p (sym e ∙ f) in
    absurd (omega (arith, m.fewer, same))

-- a bit of the exclusive or is a bit of some pile
some_pile : (xs : List ℕ) (j : ℕ) → bit_at (nim_sum xs) j ≡ 1 → (i : ℕ) × (bit_at (get_or xs i 0) j ≡ 1)
some_pile [] j set = absurd (let e = bit_at-zero j in omega (arith, e, set))
some_pile (x ∷ xs) j set = pick (some_pile xs j) (bit_at x j) refl
  where
    later : (a b : ℕ) → (a + b) % 2 ≡ 1 → a ≡ 0 → b < 2 → b ≡ 1
    later a b e f g = omega arith

    one : (a b : ℕ) → a ≡ suc b → a < 2 → a ≡ 1
    one a b e f = omega arith

    pick : (bit_at (nim_sum xs) j ≡ 1 → (i : ℕ) × (bit_at (get_or xs i 0) j ≡ 1)) → (b : ℕ) → bit_at x j ≡ b → (i : ℕ) × (bit_at (get_or (x ∷ xs) i 0) j ≡ 1)
    pick rest zero e =
        let h = rest (later (bit_at x j) (bit_at (nim_sum xs) j) (sym (bit_at_xor x (nim_sum xs) j) ∙ set) e (bit_at-lt (nim_sum xs) j)) in
        (suc h.0, h.1)
    pick rest (suc b) e = (0, one (bit_at x j) b e (bit_at-lt x j))

-- from any other there is a pile that the move makes as small as the exclusive or with it
pub winning_pile : (xs : List ℕ) → nim_sum xs ≢ 0 → (i : ℕ) × (bit_xor (get_or xs i 0) (nim_sum xs) < get_or xs i 0)
winning_pile xs other =
    let h = highest (nim_sum xs) (positive (nim_sum xs) other) in
    let p = some_pile xs h.0 (ap (λ (n : ℕ). n % 2) h.1) in
    (p.0, xor_less (get_or xs p.0 0) (nim_sum xs) h.0 h.1 p.1)
  where
    positive : (n : ℕ) → n ≢ 0 → 0 < n
    positive zero h = absurd (h refl)
    positive (suc n) h = omega arith

pub to_zero : (xs : List ℕ) (i : ℕ) → i < length xs → nim_sum (slice_set xs i (bit_xor (get_or xs i 0) (nim_sum xs))) ≡ 0
to_zero xs i there = sum_set xs i (bit_xor (get_or xs i 0) (nim_sum xs)) there ∙ xor_self (bit_xor (get_or xs i 0) (nim_sum xs))

-- ---- Bouton's theorem

-- positions of so many objects
abbrev ZeroLoses : ℕ → Type 0
ZeroLoses n = (xs : List ℕ) → objects xs ≡ n → nim_sum xs ≡ 0 → Loses xs

zero_loses_each : (n : ℕ) → ((m : ℕ) → m < n → ZeroLoses m) → ZeroLoses n
zero_loses_each n below xs e zero_sum = whatever xs (λ ys move. back ys move (leaves_zero xs ys zero_sum move))
  where
    back : (ys : List ℕ) → NimMove xs ys → nim_sum ys ≢ 0 → Wins ys
    back ys move other =
        let w = winning_pile ys other in
        let a = bit_xor (get_or ys w.0 0) (nim_sum ys) in
        let zs = slice_set ys w.0 a in
        let less : objects zs < objects ys = fewer_objects ys w.0 a w.1 in
        let fewer : objects ys < objects xs =
        subst (λ (vs : List ℕ). objects vs < objects xs) (sym move.is) (fewer_objects xs move.pile move.left move.fewer) in
        by_move ys zs record { pile = w.0; left = a; fewer = w.1; is = refl }
        (below (objects zs) (omega arith) zs refl (to_zero ys w.0 (pile_there ys w.0 a w.1)))

pub zero_loses : (xs : List ℕ) → nim_sum xs ≡ 0 → Loses xs
zero_loses xs = recursion_rule ZeroLoses zero_loses_each (objects xs) xs refl

pub other_wins : (xs : List ℕ) → nim_sum xs ≢ 0 → Wins xs
other_wins xs other =
    let w = winning_pile xs other in
    let a = bit_xor (get_or xs w.0 0) (nim_sum xs) in
    by_move xs (slice_set xs w.0 a) record { pile = w.0; left = a; fewer = w.1; is = refl }
    (zero_loses (slice_set xs w.0 a) (to_zero xs w.0 (pile_there xs w.0 a w.1)))

-- nobody wins a lost position
mutual
  pub not_lost : (xs : List ℕ) → Wins xs → Loses xs → ⊥
  not_lost xs (by_move vs ys move lost) (whatever ws each) = not_won ys lost (each ys move)

  not_won : (xs : List ℕ) → Loses xs → Wins xs → ⊥
  not_won xs (whatever ws each) (by_move vs ys move lost) = not_lost ys (each ys move) lost

pub loses_zero : (xs : List ℕ) → Loses xs → nim_sum xs ≡ 0
loses_zero xs lost = pick (nim_sum xs) refl
  where
    pick : (n : ℕ) → nim_sum xs ≡ n → nim_sum xs ≡ 0
    pick zero e = e
    pick (suc n) e = absurd (not_lost xs (other_wins xs (λ f. absurd (omega (arith, e, f)))) lost)

pub wins_other : (xs : List ℕ) → Wins xs → nim_sum xs ≢ 0
wins_other xs won e = not_lost xs won (zero_loses xs e)

-- each position is one or the other
pub decided : (xs : List ℕ) → Wins xs ⊎ Loses xs
decided xs = pick (nim_sum xs) refl
  where
    pick : (n : ℕ) → nim_sum xs ≡ n → Wins xs ⊎ Loses xs
    pick zero e = inr (zero_loses xs e)
    pick (suc n) e = inl (other_wins xs (λ f. absurd (omega (arith, e, f))))

pub boutons_theorem : BoutonsTheorem
boutons_theorem = record {
  lost = λ xs. (loses_zero xs, zero_loses xs);
  won = λ xs. (wins_other xs, other_wins xs);
  decided = decided;
}
