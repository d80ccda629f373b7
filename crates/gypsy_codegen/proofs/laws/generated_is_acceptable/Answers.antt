use Rattle.gypsy_codegen.proofs.SystemLaws.{is_acceptable}
use Rattle.gypsy_codegen.proofs.laws.generated_is_acceptable.Goals as goal

pub returns : goal.returns
returns c = is_acceptable record { fits = c.bodies_resolve.ensures.fit; rules = c.bodies_resolve.ensures.rules; views = c.bodies_resolve.ensures.one }
