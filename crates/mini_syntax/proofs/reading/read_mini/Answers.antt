use Rattle.std.{proofs.Common.{Global, Vec, map, ap, ◌∙◌}, proofs.lemmas.Result.err_from_is_err_and}
use Rattle.mini_syntax.{specs.declared.lexeme.Lexeme.Lexeme, specs.declared.program.InfixProgram.InfixProgram, specs.Internal.Lexemes.token_seen}
use Rattle.mini_syntax.proofs.ProgramLaws.{lexemes_few, refuses_text, text_faulty, text_read, tokens_proper}
use Rattle.mini_syntax.proofs.reading.read_mini.Goals as goal

pub read_program-requires : goal.read_program-requires
read_program-requires g c =
    let same = ap (map token_seen) c.as_slice.ensures.value ∙ c.in_ok-lexemes.ensures.tokens in
    record {
      program = (c.in_ok-lexemes.ensures.program.0, same ∙ c.in_ok-lexemes.ensures.program.1);
      named = tokens_proper c.args.text.now (map token_seen c.as_slice.result.now) same;
      few = lexemes_few c.args.text.now c.as_slice.result.now same c.requires;
    }

pub returns-in_err-lexemes-clause-fault : goal.returns-in_err-lexemes-clause-fault
returns-in_err-lexemes-clause-fault g c =
    let p = err_from_is_err_and c.from_residual.result c.from_residual.ensures.1 in
    rw (p.1, p.2) (refuses_text (Vec Lexeme Global) InfixProgram (g.H.Heap.may_refuse c.args.heap) c.args.text.now c.in_err-lexemes.field-0.0
    c.in_err-lexemes.ensures.fault)

pub returns-in-None-clause-read : goal.returns-in-None-clause-read
returns-in-None-clause-read g c =
    let same = ap (map token_seen) c.as_slice.ensures.value ∙ c.in_ok-lexemes.ensures.tokens in
    text_read c.args.text.now (map token_seen c.as_slice.result.now) c.in_ok-read.read same c.in_ok-lexemes.ensures.free c.in_ok-read.ensures c.requires
    c.in-None.is

pub returns-clause-fault : goal.returns-clause-fault
returns-clause-fault g c =
    let same = ap (map token_seen) c.as_slice.ensures.value ∙ c.in_ok-lexemes.ensures.tokens in
    text_faulty c.args.text.now (map token_seen c.as_slice.result.now) c.in_ok-read.read same c.in_ok-lexemes.ensures.free c.in_ok-read.ensures _ c.in-Some.is
