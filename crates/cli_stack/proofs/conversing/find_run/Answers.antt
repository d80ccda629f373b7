use Rattle.std.proofs.Common.{rules}
use Rattle.cli_stack.proofs.conversing.find_run.Goals as goal

pub returns-in_ok-image_run-in-Image-clause-found : goal.returns-in_ok-image_run-in-Image-clause-found
returns-in_ok-image_run-in-Image-clause-found g c = record {
  texts = c.in_ok-texts-in-Image.texts;
  roles = search (rules, c.in_ok-texts-in-Image.ensures.roles);
  short = search (rules, c.in_ok-texts-in-Image.ensures.short);
  known = search (rules, c.in_ok-texts-in-Image.ensures.texts);
  is = search (rules, c.in_ok-image_run-in-Image.ensures.run);
  shelf = search (rules, c.in_ok-texts-in-Image.ensures.gave);
}
