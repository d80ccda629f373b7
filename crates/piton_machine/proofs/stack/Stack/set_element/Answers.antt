use Rattle.std.{proofs.Common.{ap, ◌∙◌, ◌≡◌, ◌<◌, ◌-◌, ◌+◌, List, length, reverse, take, arith}, proofs.lemmas.List.{length-reverse, length-take-le}}
use Rattle.piton_words.specs.declared.word.Word.{Word}
use Rattle.piton_semantics.specs.State.{with_element}
use Rattle.piton_machine.{specs.Stacked.Stacked, proofs.ReverseLaws.{reverse_take, reverse_put}}
use Rattle.piton_machine.proofs.stack.Stack.set_element.Goals as goal

pub returns : goal.returns
returns c =
    let xs = c.self.inside.words.items in
    let size : c.len-len.result ≡ length xs = c.len-len.ensures ∙ c.self.inside.words.ok.0 in
    let words : length (reverse xs) ≡ length c.args.self.now.words = ap (λ (s : Stacked). length s.words) c.self.view_is in
    let there : c.args.count + c.args.position < length xs = omega (arith, length-reverse xs, c.requires.there) in
    let m = length xs - c.args.count in
    let ys = take m xs in
    let cut : c.truncate.new.self.items ≡ ys = c.truncate.ensures.items ∙ ap (λ n. take (n - c.args.count) xs) size in
    let within : c.args.position < length ys = omega (arith, length-take-le m xs (omega arith)) in
    let made : List Word → Stacked = λ ws. record { words = ws; room = c.self.inside.room } in
    rw (← c.self.view_is, cut) (ap made (reverse_put ys c.args.position c.args.word within
    ∙ ap (λ zs. with_element zs c.args.position c.args.word) (reverse_take xs c.args.count (omega arith))))
