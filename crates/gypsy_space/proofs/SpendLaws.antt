-- What is spent in two parts, and nothing that is spent.
use Rattle.std.proofs.Common.{◌≡◌, ℕ, ◌+◌, ap, ◌∙◌, arith}
use Rattle.gypsy_space.specs.Costs.{Tally, spend}

pub spend_two : (a b c d : ℕ) (t : Tally) → spend a b (spend c d t) ≡ spend (c + a) (d + b) t
unfolding spend
spend_two a b c d t =
    let e : t.count + c + a ≡ t.count + (c + a) = omega arith in
    let f : t.steps + d + b ≡ t.steps + (d + b) = omega arith in
    ap (λ i. record { count = i; steps = t.steps + d + b }) e ∙ ap (λ i. record { count = t.count + (c + a); steps = i }) f

pub spend_none : (t : Tally) → t ≡ spend 0 0 t
unfolding spend
spend_none t =
    let e : t.count ≡ t.count + 0 = omega arith in
    let f : t.steps ≡ t.steps + 0 = omega arith in
    ap (λ i. record { count = i; steps = t.steps }) e ∙ ap (λ i. record { count = t.count + 0; steps = i }) f
