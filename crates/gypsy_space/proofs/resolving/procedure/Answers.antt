use Rattle.std.proofs.lemmas.List.Elements.{All-same}
use Rattle.gypsy_syntax.{specs.declared.literal.Local.Local, specs.Views.SourceView.local_of}
use Rattle.gypsy_space.{specs.Resolvable.LocalFits, proofs.AcceptedLaws.each_before}
use Rattle.gypsy_space.proofs.resolving.procedure.Goals as goal

pub locals-requires : goal.locals-requires
locals-requires g c =
    let locals = c.args.proc.now.locals.items in
    All-same (λ (l : Local). LocalFits (local_of l)) c.as_slice-2.result.now locals c.as_slice-2.ensures.value
    (each_before LocalFits local_of locals c.requires.resolvable.locals)
