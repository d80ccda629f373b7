use Rattle.std.proofs.Common.{◌+◌, ◌-◌, ◌*◌, ◌∙◌, drop, get_or, sym}
use Rattle.mini_syntax.proofs.DigitLaws.{digits_large, digits_next, is_refused}
use Rattle.mini_syntax.proofs.typed.number_of.Goals as goal

pub returns-in_err-number : goal.returns-in_err-number
returns-in_err-number c =
    let digits = c.args.digits.now in
    let i = c.loop-digit.digit-index in
    let n = c.loop-digit.number in
    let more = 10 * n + (get_or digits i 0 - 48) in
    rw c.from_residual.ensures (digits_large digits more (drop (i + 1) digits) (is_refused more c.in_err-number.ensures)
    (sym (digits_next digits i n 0 c.loop-digit-test.true) ∙ c.loop-digit.invariant.so_far))
