use Rattle.std.proofs.Common.{[], ◌∷◌, ap, sym, ◌∙◌, rules}
use Rattle.space_cert.{specs.Internal.Search.first_with, proofs.SearchCode.closes_on}
use Rattle.space_cert.proofs.search.Search.close.Goals as goal

pub loop-self-preserved-then-self : goal.loop-self-preserved-then-self
loop-self-preserved-then-self g c =
    closes_on _ c.loop-self.self _ c.pop.new.self.items c.in-Some.procedure c.loop-self.invariant (search rules) (search rules) (search rules)
    (search rules) (search rules)
    (c.earlier.ensures ∙ ap (λ b. first_with b (c.in-Some.procedure ∷ []) c.loop-self.self.first) (sym c.if-self.true)) (search rules) (search rules)
    (search rules) (search rules)

pub loop-self-preserved : goal.loop-self-preserved
loop-self-preserved g c =
    closes_on _ c.loop-self.self _ c.pop.new.self.items c.in-Some.procedure c.loop-self.invariant (search rules) (search rules) (search rules)
    (search rules) (search rules)
    (ap (λ b. first_with b (c.in-Some.procedure ∷ []) c.loop-self.self.first) (sym c.if-self.false)) (search rules) (search rules) (search rules) (search rules)
