use Rattle.std.{proofs.Common.{◌≡◌, ◌-◌, ◌∙◌, length, take, take_all, drop, sym, arith, length-drop}, proofs.lemmas.Bool.Decides.Decides-eqb}
use Rattle.std.proofs.lemmas.Slice.Eq.{starts_is}
use Rattle.device_logs.proofs.PrintedLaws.{goes_on}
use Rattle.device_logs.proofs.printed.goes_on.Goals as goal

pub returns-clause-same : goal.returns-clause-same
returns-clause-same c = λ true.
    let text = c.args.text.now in
    let place = c.args.place in
    let rest = take (length text - place) (drop place text) in
    let all : rest ≡ drop place text = take_all (length text - place) (drop place text) (omega (arith, length-drop place text)) in
    let starts = starts_is Decides-eqb rest c.args.bytes.now c.starts_with.result c.starts_with.ensures.value in
    goes_on text c.args.bytes.now _ place (sym all ∙ starts.0 true)
