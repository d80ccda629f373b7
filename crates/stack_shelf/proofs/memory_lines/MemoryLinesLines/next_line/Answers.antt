use Rattle.std.{proofs.Common.{rules, ◌≡◌, ◌<◌, ◌+◌, ◌++◌, ◌∙◌, List, ℕ, length, drop, ap, subst, arith, Some}, proofs.lemmas.Grind.{common_steps}}
use Rattle.stack_shelf.proofs.LineLaws.{first_is, line_behind, rest_of}
use Rattle.stack_shelf.proofs.memory_lines.MemoryLinesLines.next_line.Goals as goal

pub returns-then-line-limit-clause-comes : goal.returns-then-line-limit-clause-comes
returns-then-line-limit-clause-comes g c =
    let all = c.self.inside.text.items in
    let place = c.self.inside.place in
    let ahead : drop place all ≡ c.args.self.now.ahead = ap (λ s. s.ahead) c.self.view_is in
    let line = c.first_line.result.0.now in
    let behind = c.first_line.result.1.now in
    let whole : line ++ behind ≡ c.args.self.now.ahead = (rw c.deref-2.ensures.value at c.first_line.ensures.whole) ∙ rest_of all place ∙ ahead in
    let is = first_is line behind c.args.self.now.ahead whole c.first_line.ensures.line in
    subst (λ (l : List ℕ). c.args.limit < length l) is.0 c.if-line-limit.true

pub returns-clause-comes : goal.returns-clause-comes
returns-clause-comes g c =
    let all = c.self.inside.text.items in
    let place = c.self.inside.place in
    let ahead : drop place all ≡ c.args.self.now.ahead = ap (λ s. s.ahead) c.self.view_is in
    let line = c.first_line.result.0.now in
    let behind = c.first_line.result.1.now in
    let whole : line ++ behind ≡ c.args.self.now.ahead = (rw c.deref-2.ensures.value at c.first_line.ensures.whole) ∙ rest_of all place ∙ ahead in
    let copied : c.in_ok-line.line.items ≡ line = search rules in
    let count : c.len.result ≡ length c.in_ok-line.line.items = grind (arith, common_steps, c.len.ensures, c.in_ok-line.line.ok) in
    let is = line_behind all c.args.self.now.ahead line behind c.in_ok-line.line.items place ahead whole c.first_line.ensures.line copied in (
      is.0,
      ap (λ (n : ℕ). Some (drop (place + n) all)) count ∙ ap (λ (l : List ℕ). Some l) is.1,
    )
