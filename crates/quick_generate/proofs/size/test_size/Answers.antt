use Rattle.std.proofs.Common.{◌+◌, length, ap, sym, ◌∙◌}
use Rattle.quick_code.specs.Access.{find_code}
use Rattle.quick_generate.{specs.Views.frame_layout, proofs.SizeLaws.test_size_is}
use Rattle.quick_generate.proofs.size.test_size.Goals as goal

pub returns-clause-exact : goal.returns-clause-exact
returns-clause-exact c =
    ap (λ n. n + 3) (c.find_size.ensures.exact ∙ ap (λ x. length (find_code x)) c.reach.ensures.value)
    ∙ sym (test_size_is (frame_layout c.args.frame.now) c.args.variable 0)
