use Rattle.std.{proofs.Common.{ap, ◌∙◌, ◌≡◌, List, length, reverse, take, arith, ◌≤◌, ◌-◌}, proofs.lemmas.List.length-reverse}
use Rattle.piton_words.specs.declared.word.Word.{Word}
use Rattle.piton_machine.{specs.Stacked.Stacked, proofs.ReverseLaws.reverse_take}
use Rattle.piton_machine.proofs.stack.Stack.drop_top.Goals as goal

pub returns : goal.returns
returns c =
    let xs = c.self.inside.words.items in
    let size : c.len-len.result ≡ length xs = c.len-len.ensures ∙ c.self.inside.words.ok.0 in
    let words : length (reverse xs) ≡ length c.args.self.now.words = ap (λ (s : Stacked). length s.words) c.self.view_is in
    let within : c.args.count ≤ length xs = omega (arith, length-reverse xs, c.requires) in
    let made : List Word → Stacked = λ ws. record { words = ws; room = c.self.inside.room } in
    rw (← c.self.view_is) (ap made (ap reverse (c.truncate.ensures.items ∙ ap (λ n. take (n - c.args.count) xs) size) ∙ reverse_take xs c.args.count within))
