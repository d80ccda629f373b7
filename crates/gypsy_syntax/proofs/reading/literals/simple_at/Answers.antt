use Rattle.std.{proofs.Common.{refl, rules, sym, ◌∙◌}, proofs.lemmas.Result.err_from_is_err_and}
use Rattle.stack_text.proofs.TreeListLaws.{rest_is_drop}
use Rattle.gypsy_syntax.proofs.reading.literals.simple_at.Goals as goal

pub returns-in_err-number : goal.returns-in_err-number
returns-in_err-number c =
    let p = err_from_is_err_and c.from_residual.result c.from_residual.ensures.1 in
    rw (p.1, p.2, sym c.is_numeral.ensures ∙ c.if-is_numeral.true, c.in_err-number.ensures.1) (c.in_err-number.ensures.0, refl)

pub returns-then-is_numeral : goal.returns-then-is_numeral
returns-then-is_numeral c = rw (sym c.is_numeral.ensures ∙ c.if-is_numeral.true, c.in_ok-number.ensures) (search rules)

pub returns-in_err-code : goal.returns-in_err-code
returns-in_err-code c =
    let p = err_from_is_err_and c.from_residual-in_err-code.result c.from_residual-in_err-code.ensures.1 in
    rw (
      p.1,
      p.2,
      sym c.is_numeral.ensures ∙ c.if-is_numeral.false,
      sym c.is_character.ensures ∙ c.if-is_character.true,
      sym (rest_is_drop 1 c.args.text.now),
      c.in_err-code.ensures.1,
    ) (c.in_err-code.ensures.0, refl)

pub returns-then-is_character : goal.returns-then-is_character
returns-then-is_character c =
    rw (
      sym c.is_numeral.ensures ∙ c.if-is_numeral.false,
      sym c.is_character.ensures ∙ c.if-is_character.true,
      sym (rest_is_drop 1 c.args.text.now),
      c.in_ok-code.ensures,
    ) (search rules)

pub returns : goal.returns
returns c = rw (sym c.is_numeral.ensures ∙ c.if-is_numeral.false, sym c.is_character.ensures ∙ c.if-is_character.false) c.truth_at.ensures
