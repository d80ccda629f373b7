use Rattle.std.{proofs.Common.{◌≡◌, ◌∷◌, ◌++◌, [], inl, length, ap, arith}, proofs.KnownBytes.{Consumes-trans}, proofs.lemmas.Result.{err_from_is_err_and}}
use Rattle.stack_shelf.proofs.LineLaws.{over_limit}
use Rattle.stack_shelf.proofs.line_reading.line_from.Goals as goal

pub returns-in_err-byte-clause-reads : goal.returns-in_err-byte-clause-reads
returns-in_err-byte-clause-reads g c =
    let p = err_from_is_err_and c.from_residual.result c.from_residual.ensures.1 in
    rw (p.1, p.2, c.in_err-byte.ensures.failed) tt

pub returns-then-len-limit-clause-reads : goal.returns-then-len-limit-clause-reads
returns-then-len-limit-clause-reads g c =
    let full : length c.loop.line.items ≡ c.args.limit = omega (arith, c.len.ensures, c.if-len-limit.true) in
    over_limit _ _ _ c.loop.line.items c.in-Some.byte c.args.limit c.loop.invariant.given (rw c.in-Some.is at c.in_ok-byte.ensures.reads)
    full c.loop.invariant.others

pub returns-then-byte-eq10-clause-reads : goal.returns-then-byte-eq10-clause-reads
returns-then-byte-eq10-clause-reads g c =
    let line = c.loop.line.items in
    let given = Consumes-trans _ _ _ line (c.in-Some.byte ∷ []) c.loop.invariant.given (rw c.in-Some.is at c.in_ok-byte.ensures.reads) in
    rw c.in_ok-push.ensures.items (given, inl (line, ap (λ b. line ++ b ∷ []) c.if-byte-eq10.true))
