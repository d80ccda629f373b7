use Rattle.std.proofs.Common.{ap, ◌∙◌}
use Rattle.stack_text.specs.Names.{place_among}
use Rattle.space_cert.proofs.NameLaws.{place_below}
use Rattle.space_cert.proofs.reading.named_place.Goals as goal

pub returns-clause-exact : goal.returns-clause-exact
returns-clause-exact c = c.place.ensures ∙ ap (λ name. place_among name c.args.names.now) c.bytes.ensures.bytes

pub returns-clause-there : goal.returns-clause-there
returns-clause-there c = place_below c.bytes.result.now c.args.names.now c.place.result c.place.ensures
