use Rattle.std.proofs.Common.{[], ◌∷◌, map}
use Rattle.mini_syntax.specs.declared.expected.Expected.TheVariants as wants
use Rattle.mini_syntax.{specs.Internal.Lexemes.{left_of, token_seen}, proofs.AwaitLaws.nothing_left, proofs.ProgramLaws.whole_read, proofs.StepLaws.all_passed}
use Rattle.mini_syntax.proofs.StepLaws.{decls_passed, program_completes}
use Rattle.mini_syntax.proofs.reading.read_program.Goals as goal

pub declarations-requires-clause-awaits : goal.declarations-requires-clause-awaits
declarations-requires-clause-awaits g c = record {
  rest = wants.MoreStatements ∷ [];
  completes = program_completes (map token_seen c.args.lexemes.now) c.requires.program.0 c.requires.program.1;
}

pub statements-requires-clause-awaits : goal.statements-requires-clause-awaits
statements-requires-clause-awaits g c = record {
  rest = [];
  completes = decls_passed (program_completes (map token_seen c.args.lexemes.now) c.requires.program.0 c.requires.program.1) c.in_ok-scope.ensures.read;
}

pub returns : goal.returns
returns g c =
    let start = program_completes (map token_seen c.args.lexemes.now) c.requires.program.0 c.requires.program.1 in
    let over = all_passed (decls_passed start c.in_ok-scope.ensures.read) c.in_ok-body.ensures in
    let w = whole_read c.in_ok-scope.ensures.read c.in_ok-body.ensures (nothing_left (left_of c.statements.new.cursor) over) in
    record { tree = w.tree; tokens_are = w.tokens_are; declared = w.declared; body = w.means; breach = w.breach_is }
