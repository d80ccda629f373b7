-- Procedures in main, made in parts.
use Rattle.std.proofs.Common.{◌≡◌, ℕ, suc, ◌+◌, ◌-◌, ◌<◌, List, [], ◌∷◌, ◌++◌, append_assoc, get_or, length, map, sym, ap, ◌∙◌, arith}
use Rattle.std.proofs.lemmas.List.{length-map}
use Rattle.stack_text.{specs.Values.ValueOf, specs.declared.name.Name.Name}
use Rattle.gypsy_syntax.specs.Programs.{Proc, Program, conds_of, proc_at}
use Rattle.gypsy_space.{specs.Needs.with_call, specs.Nodes.seen_proc, specs.declared.program.Procedure.Procedure}
use Rattle.quick_gypsy.specs.InLine as line
use Rattle.quick_gypsy.specs.InLine.{callee_context, numbers_from}
use Rattle.quick_generate.{specs.declared.calls.Activation.Activation, specs.declared.in_main.InMain.InMain, specs.LinedViews.{seen_in_main, used_in}}

-- one more number is there, and one fewer is to come
pub numbers_next : (from count k : ℕ) (old new all : List ℕ) → k < count → new ≡ old ++ (from + k) ∷ []
    → old ++ numbers_from (from + k) (count - k) ≡ all → new ++ numbers_from (from + (k + 1)) (count - (k + 1)) ≡ all
numbers_next from count k old new all lt now so_far =
    let one : count - k ≡ suc (count - (k + 1)) = omega (arith, lt) in
    let next : suc (from + k) ≡ from + (k + 1) = omega arith in
    ap (λ (ys : List ℕ). ys ++ numbers_from (from + (k + 1)) (count - (k + 1))) now
    ∙ append_assoc old ((from + k) ∷ []) (numbers_from (from + (k + 1)) (count - (k + 1)))
    ∙ ap (λ (m : ℕ). old ++ ((from + k) ∷ numbers_from m (count - (k + 1)))) (sym next)
    ∙ ap (λ (m : ℕ). old ++ numbers_from (from + k) m) (sym one)
    ∙ so_far

pub callee_seen : (q : Program) (h : InMain) (a : Activation) (callee : Procedure) (p next count behind conds : ℕ) (vs ys xs : List ℕ)
    → seen_proc callee ≡ proc_at q p → used_in a ≡ with_call q p (used_in h.activation)
    → vs ≡ map (λ b. get_or h.variables.items b 0) ys ++ numbers_from next count → ys ≡ xs → count ≡ length callee.locals.items
    → behind ≡ next + length (proc_at q p).locals → conds ≡ h.next_cond + (length callee.conds.items + length callee.local_conds.items) →
    (let made : line.InMain = record { used = used_in a; variables = vs; next = behind; first_cond = h.next_cond; next_cond = conds } in made)
    ≡ callee_context q (seen_in_main h next) p xs
unfolding callee_context
callee_seen q h a callee p next count behind conds vs ys xs is used variables same counted end numbered =
    let locals : count ≡ length (proc_at q p).locals =
    omega (arith, counted, length-map callee.locals.items (λ (v : Name × ValueOf). v.1), ap (λ (c : Proc). length c.locals) is) in
    let named : vs ≡ map (λ b. get_or h.variables.items b 0) xs ++ numbers_from next (length (proc_at q p).locals) =
    variables ∙ ap (λ (zs : List ℕ). map (λ b. get_or h.variables.items b 0) zs ++ numbers_from next count) same
    ∙ ap (λ (n : ℕ). map (λ b. get_or h.variables.items b 0) xs ++ numbers_from next n) locals in
    let free : conds ≡ h.next_cond + conds_of (proc_at q p) = numbered ∙ ap (λ (c : Proc). h.next_cond + conds_of c) is in
    λ i. record { used = used i; variables = named i; next = end i; first_cond = h.next_cond; next_cond = free i }
