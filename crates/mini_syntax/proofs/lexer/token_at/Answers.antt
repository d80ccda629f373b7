use Rattle.std.proofs.Common.{sym}
use Rattle.mini_syntax.proofs.LexerLaws.{number_found, word_found}
use Rattle.mini_syntax.proofs.lexer.token_at.Goals as goal

pub returns-then-is_ascii_alphabetic : goal.returns-then-is_ascii_alphabetic
returns-then-is_ascii_alphabetic c =
    rw c.word_kind.ensures (word_found c.args.text.now c.args.start c.run_end-end.result c.requires.within c.requires.visible
    (sym c.if-is_ascii_alphabetic.ensures.value) c.run_end-end.ensures.later c.run_end-end.ensures.within
    c.run_end-end.ensures.run c.run_end-end.ensures.tokens)

pub returns-then-is_ascii_digit : goal.returns-then-is_ascii_digit
returns-then-is_ascii_digit c =
    let end = c.run_end-end-then-is_ascii_digit in
    number_found c.args.text.now c.args.start end.result c.requires.within c.requires.visible (sym c.if-is_ascii_alphabetic.ensures.value)
    (sym c.if-is_ascii_digit.ensures.value) end.ensures.later end.ensures.within
    end.ensures.run end.ensures.tokens
