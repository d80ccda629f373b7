use Rattle.std.{proofs.Common.{ap, ◌∙◌, ◌≡◌, ◌≤◌, ◌-◌, ◌+◌, length, reverse, take, drop, arith, sym}, proofs.lemmas.List.{length-reverse, length-take-le}}
use Rattle.std.proofs.lemmas.List.{drop-take}
use Rattle.piton_machine.{specs.Stacked.Stacked, proofs.ReverseLaws.{reverse_take, reverse_last}}
use Rattle.piton_machine.proofs.stack.Stack.formals.Goals as goal

pub returns : goal.returns
returns c =
    let xs = c.self.inside.words.items in
    let f = c.args.formals in
    let size : c.len.result ≡ length xs = c.len.ensures ∙ c.self.inside.words.ok.0 in
    let words : length (reverse xs) ≡ length c.args.self.now.words = ap (λ (s : Stacked). length s.words) c.self.view_is in
    let there : c.args.count + f ≤ length xs = omega (arith, length-reverse xs, c.requires) in
    let end = length xs - c.args.count in
    let ys = take end xs in
    let ys_length : length ys ≡ end = length-take-le end xs (omega arith) in
    let n = c.len.result - c.args.count - f in
    let m = c.len.result - c.args.count - n in
    let n_is : n ≡ length ys - f = omega (arith, ys_length, size) in
    let sum_is : n + m ≡ end = omega (arith, size) in
    let within : f ≤ length ys = omega (arith, ys_length) in
    ap (λ zs. take m (drop n zs)) c.deref.ensures.value
    ∙ sym (drop-take n m xs)
    ∙ ap (λ k. drop n (take k xs)) sum_is
    ∙ ap (λ k. drop k ys) n_is
    ∙ sym (reverse_last ys f within)
    ∙ ap (λ zs. reverse (take f zs)) (reverse_take xs c.args.count (omega arith))
    ∙ ap (λ (s : Stacked). reverse (take f (drop c.args.count s.words))) c.self.view_is
