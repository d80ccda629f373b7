use Rattle.std.{proofs.Common.{◌≡◌, ◌<◌, ◌≤◌, ◌++◌, ◌∙◌, ◌∷◌, [], length, take, take_all, sym, ap, arith, length-append}, proofs.lemmas.Grind.common_steps}
use Rattle.device_logs.{specs.Logged.log_limit, proofs.PrintedLaws.{fits_one, full_already}}
use Rattle.device_logs.proofs.logged_lines.note_count.Goals as goal

pub returns-in_ok-push-clause-noted : goal.returns-in_ok-push-clause-noted
returns-in_ok-push-clause-noted g c =
    let room : length c.args.counts.now.items < log_limit =
    grind (arith, common_steps, c.len.ensures, c.if-len-lt-LOG_LIMIT.true) in
    c.in_ok-push.ensures.items ∙ fits_one log_limit c.args.counts.now.items c.args.count room

pub returns-in_ok-push-clause-within : goal.returns-in_ok-push-clause-within
returns-in_ok-push-clause-within g c =
    let room : length c.args.counts.now.items < log_limit =
    grind (arith, common_steps, c.len.ensures, c.if-len-lt-LOG_LIMIT.true) in
    omega (arith, ap length c.in_ok-push.ensures.items, length-append c.args.counts.now.items (c.args.count ∷ []), room)

pub returns-else-len-lt-LOG_LIMIT-clause-noted : goal.returns-else-len-lt-LOG_LIMIT-clause-noted
returns-else-len-lt-LOG_LIMIT-clause-noted g c =
    let full : log_limit ≤ length c.args.counts.now.items =
    grind (arith, common_steps, c.len.ensures, c.if-len-lt-LOG_LIMIT.false) in
    full_already log_limit c.args.counts.now.items c.args.count full c.requires
