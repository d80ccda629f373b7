use Rattle.std.proofs.Common.{map, ap, ◌∙◌}
use Rattle.gypsy_meaning.proofs.WaitingLaws.{last_found}
use Rattle.gypsy_meaning.proofs.activations.last_variables.Goals as goal

pub returns-in-Some : goal.returns-in-Some
returns-in-Some c =
    ap (map (λ v. v.1)) c.as_slice.ensures.value
    ∙ last_found (map (λ v. v.1) c.args.active.now) c.args.all.now c.in-Some.last.now c.in-Some.ensures.value
