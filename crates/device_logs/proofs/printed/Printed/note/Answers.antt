use Rattle.std.{proofs.Common.{◌≡◌, ◌-◌, ◌++◌, ◌∙◌, length, take, sym, ap, arith}, proofs.lemmas.Grind.common_steps}
use Rattle.device_logs.{specs.Logged.{log_limit, offered_text}, proofs.PrintedLaws.{none_there, noted_own, noted_offered}}
use Rattle.device_logs.proofs.printed.Printed.note.Goals as goal

pub returns-then-goes_on : goal.returns-then-goes_on
returns-then-goes_on g c =
    let text = offered_text c.self.inside.text in
    let was : take c.self.inside.count text ++ c.self.inside.own.items ≡ c.args.self.now = c.self.view_is in
    let nothing : length c.self.inside.own.items ≡ 0 = grind (arith, common_steps, c.is_empty.ensures, c.if-is_empty.true, c.self.inside.own.ok) in
    let none = none_there c.self.inside.own.items nothing in
    noted_offered log_limit _ c.self.inside.count text c.self.inside.own.items c.first-bytes.result.now c.args.bytes.now none
    (rw c.offered_text.ensures at (c.goes_on.ensures.same c.if-goes_on.true)) c.first-bytes.ensures.value
    (ap (λ n. log_limit - n) (c.len.ensures.value ∙ ap length (sym was)))
    (omega (arith, c.len.ensures.value, c.len.ensures.most, ap length was))
    ∙ ap (λ l. take log_limit (l ++ c.args.bytes.now)) was

pub returns : goal.returns
returns g c =
    let front = take c.self.inside.count (offered_text c.self.inside.text) in
    let was : front ++ c.self.inside.own.items ≡ c.args.self.now = c.self.view_is in
    noted_own log_limit _ front c.self.inside.own.items c.append.new.own.items c.first-bytes.result.now c.args.bytes.now c.in_ok-append.ensures.ok
    c.first-bytes.ensures.value (ap (λ n. log_limit - n) (c.len.ensures.value ∙ ap length (sym was)))
    (omega (arith, c.len.ensures.value, c.len.ensures.most, ap length was))
    ∙ ap (λ l. take log_limit (l ++ c.args.bytes.now)) was
