use Rattle.std.proofs.Common.{Err, Ok, refl, rules}
use Rattle.level_debuggers.specs.Levels.{level_of}
use Rattle.cli_stack.proofs.conversing.converse.Goals as goal

pub returns-in-Ok-Ok : goal.returns-in-Ok-Ok
returns-in-Ok-Ok g c = record {
  found = Ok (Ok (level_of c.in-Ok-Ok.runner));
  finds = search (rules, c.in-Ok-Ok.ensures.found);
  files = c.find_run.ensures.files;
  tells = c.tell_run.ensures;
}

pub returns-in-Ok-Err : goal.returns-in-Ok-Err
returns-in-Ok-Err g c = record {
  found = Ok (Err c.in-Ok-Err.verdict);
  finds = search (rules, c.in-Ok-Err.ensures.found);
  files = c.find_run.ensures.files;
  tells = (refl, c.verdict_alone-reply.result, c.verdict_alone-reply.ensures, (c.conclude_reply.new.kept, c.conclude_reply.ensures));
}

pub returns-in-Err : goal.returns-in-Err
returns-in-Err g c = record {
  found = Err c.in-Err.end;
  finds = c.in-Err.ensures.early;
  files = c.find_run.ensures.files;
  tells = (refl, (c.conclude_reply-in-Err.new.kept, c.conclude_reply-in-Err.ensures));
}
