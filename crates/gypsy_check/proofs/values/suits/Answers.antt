use Rattle.std.{proofs.Common.{◌≡◌, ◌∙◌, ◌&&◌, ap, ap₂, sym, length, List, Bool, pos, rules}, specs.List.list_all, specs.Ordering.int_eq}
use Rattle.gypsy_syntax.{specs.declared.literal.Literal.Literal, specs.Resolved.literal_kind, specs.Views.SourceView.literal_of}
use Rattle.gypsy_check.{specs.Types.{is_of_kind, suits}, proofs.DeclarationLaws.list_suits}
use Rattle.gypsy_check.proofs.values.suits.Goals as goal

pub returns-in-List : goal.returns-in-List
returns-in-List c =
    let k = c.args.shape.now.kind in
    let test : List Literal → Bool = λ ls. int_eq c.in-Some.length (pos (length ls)) && list_all (λ l. is_of_kind k (literal_kind (literal_of l))) ls in
    let listed : c.is_list_of.result ≡ test c.as_slice.result.now = search rules in
    listed ∙
    ap test c.as_slice.ensures.value ∙
    sym (list_suits k c.in-Some.length c.in-List.place c.in-List.items) ∙
    ap₂ (λ n l. suits k n (literal_of l)) (sym c.in-Some.is) (sym c.in-List.is)
