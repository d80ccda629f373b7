use Rattle.std.proofs.Common.{◌∙◌, ap, sym, List, option_map, ℕ, Bor, Option}
use Rattle.gypsy_syntax.{specs.declared.proc.Proc.Proc, specs.Views.SourceView.proc_of}
use Rattle.gypsy_check.{specs.Tables.procedure_in, proofs.LookupLaws.{procedure_is, option_map_twice}}
use Rattle.gypsy_check.proofs.callees.Callees.named.Goals as goal

pub returns : goal.returns
returns c =
    let self = c.args.self.now in
    option_map_twice (λ (proc : Bor Proc). proc.now) proc_of c.get.result
    ∙ ap (λ (o : Option (Bor Proc)). option_map proc_of (option_map (λ (proc : Bor Proc). proc.now) o)) c.get.ensures
    ∙ ap (λ (text : List ℕ). option_map proc_of (procedure_in self.procs text)) c.bytes.ensures.bytes
    ∙ ap (option_map proc_of) (c.requires c.args.name.now)
    ∙ sym (procedure_is c.args.name.now self.source.now.procs.items)
