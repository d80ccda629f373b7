-- Loops that append what goes by a number.
use Rattle.std.proofs.Common.{◌≡◌, ℕ, zero, suc, ◌+◌, ◌-◌, ◌<◌, List, [], ◌∷◌, ◌++◌, length, drop, get_or, map, replicate, refl, sym, ap, ◌∙◌, append_assoc}
use Rattle.std.{proofs.Common.arith, specs.Prelude.pos}
use Rattle.stack_text.{specs.declared.shape.Shape.Shape, specs.Values.{ValueOf, item_count}}
use Rattle.fm_words.specs.Word.{word_of_int}
use Rattle.gypsy_space.specs.Nodes.{held_shapes, held_values}
use Rattle.gypsy_codegen.{specs.WordsOf.zero_value, proofs.WriteLaws.more_next}
use Rattle.quick_gypsy.specs.Numbers.{numbers_of, value_numbers}
use Rattle.quick_build.specs.QuickImage.{declared_numbers, exit_code, exits_code}

-- one more exit is there, and one fewer is to come
pub exit_next : (cell behind n k : ℕ) (old new all : List ℕ) → k < n → new ≡ old ++ exit_code cell behind (4 + k)
    → old ++ exits_code cell behind (declared_numbers (4 + k) (n - k)) ≡ all
    → new ++ exits_code cell behind (declared_numbers (4 + (k + 1)) (n - (k + 1))) ≡ all
exit_next cell behind n k old new all lt now so_far =
    let one : n - k ≡ suc (n - (k + 1)) = omega (arith, lt) in
    let next : suc (4 + k) ≡ 4 + (k + 1) = omega arith in
    let piece = exit_code cell behind (4 + k) in
    ap (λ (ys : List ℕ). ys ++ exits_code cell behind (declared_numbers (4 + (k + 1)) (n - (k + 1)))) now
    ∙ append_assoc old piece (exits_code cell behind (declared_numbers (4 + (k + 1)) (n - (k + 1))))
    ∙ ap (λ (m : ℕ). old ++ (piece ++ exits_code cell behind (declared_numbers m (n - (k + 1))))) (sym next)
    ∙ ap (λ (m : ℕ). old ++ exits_code cell behind (declared_numbers (4 + k) m)) (sym one)
    ∙ so_far

-- the numbers of a zero value
zeros_are : (n : ℕ) → map word_of_int (replicate n (pos 0)) ≡ replicate n 0
zeros_are zero = refl
zeros_are (suc n) = ap (λ (ws : List ℕ). 0 ∷ ws) (zeros_are n)

-- the zero value of one more formal is there
pub formal_next : {N : Type 0} (xs : List (N × Shape)) (k n : ℕ) (x : N × Shape) (old new all : List ℕ) → k < length xs → x ≡ get_or xs k x
    → n ≡ item_count x.1 → new ≡ old ++ replicate n 0 → old ++ numbers_of (map zero_value (held_shapes (drop k xs))) ≡ all
    → new ++ numbers_of (map zero_value (held_shapes (drop (k + 1) xs))) ≡ all
formal_next {N} xs k n x old new all lt is count now so_far =
    let zeros : new ≡ old ++ value_numbers (zero_value x.1) =
    now ∙ ap (λ (m : ℕ). old ++ replicate m 0) count ∙ ap (λ (ws : List ℕ). old ++ ws) (sym (zeros_are (item_count x.1))) in
    more_next (λ (fs : List (N × Shape)). numbers_of (map zero_value (held_shapes fs))) xs k x (value_numbers (zero_value x.1)) old new all
    lt is refl zeros so_far

numbers_join : (x y : List ValueOf) → numbers_of (x ++ y) ≡ numbers_of x ++ numbers_of y
numbers_join [] y = refl
numbers_join (v ∷ x) y =
    ap (λ (ws : List ℕ). value_numbers v ++ ws) (numbers_join x y) ∙ sym (append_assoc (value_numbers v) (numbers_of x) (numbers_of y))

-- the numbers of formals and then those of locals are those of all variables
pub numbers_made : {N M : Type 0} (fs gs : List (N × Shape)) (vs ws : List (M × ValueOf)) (start mid all : List ℕ) → fs ≡ gs → vs ≡ ws
    → start ≡ [] → mid ≡ start ++ numbers_of (map zero_value (held_shapes fs)) → all ≡ mid ++ numbers_of (held_values vs)
    → all ≡ numbers_of (map zero_value (held_shapes gs) ++ held_values ws)
numbers_made {N} {M} fs gs vs ws start mid all same_formals same_locals none first then =
    let numbers : List (N × Shape) → List ℕ = λ xs. numbers_of (map zero_value (held_shapes xs)) in
    let others : List (M × ValueOf) → List ℕ = λ xs. numbers_of (held_values xs) in
    then ∙ ap (λ (ns : List ℕ). ns ++ others vs) first ∙ ap (λ (ns : List ℕ). (ns ++ numbers fs) ++ others vs) none
    ∙ ap (λ (xs : List (N × Shape)). numbers xs ++ others vs) same_formals ∙ ap (λ (xs : List (M × ValueOf)). numbers gs ++ others xs) same_locals
    ∙ sym (numbers_join (map zero_value (held_shapes gs)) (held_values ws))
