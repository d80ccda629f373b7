use Rattle.std.proofs.Common.{◌∙◌, ◌+◌, map, min, ap}
use Rattle.gypsy_syntax.{specs.declared.literal.Decl.Decl, specs.declared.literal.Local.Local}
use Rattle.gypsy_check.{specs.Types.words_of_types, proofs.DeclarationLaws.is_over}
use Rattle.gypsy_check.proofs.declarations.is_too_large.Goals as goal

pub returns : goal.returns
returns c =
    let p = c.args.proc.now in
    is_over p c.with_local_words-words.result c.formal_words-formals.result
    (c.with_local_words-words.ensures ∙ ap (λ ls. min (c.formal_words-formals.result + words_of_types (map (λ (x : Local). x.decl.shape) ls)) 65537)
    c.as_slice-2.ensures.value)
    (c.formal_words-formals.ensures.words ∙ ap (λ ds. min (words_of_types (map (λ (d : Decl). d.shape) ds)) 65537) c.as_slice.ensures.value)
