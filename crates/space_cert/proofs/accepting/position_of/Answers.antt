use Rattle.std.{proofs.Common.{◌≡◌, ap, ◌∙◌, rules}, specs.List.position, specs.Option.unwrap_or, specs.Str.bytes_eq}
use Rattle.gypsy_syntax.specs.declared.proc.Proc.{Proc}
use Rattle.space_cert.proofs.NameLaws.{place_same}
use Rattle.space_cert.proofs.accepting.position_of.Goals as goal

pub returns : goal.returns
returns c =
    let found : c.unwrap_or.result ≡ unwrap_or (position (λ (p : Proc). bytes_eq c.args.name.now p.name.name) c.args.source.now.procs.items) 0 = search rules in
    found ∙ ap (λ o. unwrap_or o 0) (place_same c.args.name.now c.args.source.now.procs.items)
