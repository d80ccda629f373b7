use Rattle.std.proofs.Common.{◌≡◌, length, arith}
use Rattle.stack_build.proofs.ListingLaws.{first_number, frame_listed}
use Rattle.stack_build.proofs.tables.variables.Goals as goal

pub push_locals-requires-clause-there : goal.push_locals-requires-clause-there
push_locals-requires-clause-there g c =
    let number = first_number _ _ _ _ c.new-variables.ensures.items c.in_ok-push_formals.ensures in
    omega (arith, number, c.deref.ensures.len, c.deref-2.ensures.len, c.len.ensures, c.len-2.ensures)

pub returns : goal.returns
returns g c =
    let formals : c.len.result ≡ length c.args.found.now.formals.items = omega (arith, c.args.found.now.formals.ok, c.len.ensures) in
    let locals : c.len-2.result ≡ length c.args.found.now.locals.items = omega (arith, c.args.found.now.locals.ok, c.len-2.ensures) in
    frame_listed c.args.is_main c.args.found.now record { is_main = c.args.is_main; formals = c.len.result; locals = c.len-2.result } _ _ _ _ _
    (λ i. record { is_main = c.args.is_main; formals = formals i; locals = locals i }) c.deref.ensures.value c.deref-2.ensures.value
    c.new-variables.ensures.items c.in_ok-push_formals.ensures c.in_ok-push_locals.ensures
