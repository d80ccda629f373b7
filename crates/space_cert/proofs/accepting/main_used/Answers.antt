use Rattle.gypsy_syntax.specs.Views.SourceView.{source_of}
use Rattle.std.proofs.Common.{◌+◌, ap, ◌∙◌}
use Rattle.gypsy_space.specs.Needs.{stack_sizes}
use Rattle.space_cert.proofs.AcceptLaws.{used_is}
use Rattle.space_cert.proofs.accepting.main_used.Goals as goal

pub returns-clause-used : goal.returns-clause-used
returns-clause-used c =
    ap (λ n. stack_sizes (2 + n.vars) (c.main_formal_words-words.result + n.locals_words)) c.need_of-need.ensures.need
    ∙ used_is (source_of c.args.source.now) c.args.needs.now.procedures.items c.requires.needs c.requires.accepted.fits c.args.main c.requires.main
    c.main_formal_words-words.result c.main_formal_words-words.ensures.exact
