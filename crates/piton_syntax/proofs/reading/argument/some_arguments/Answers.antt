use Rattle.std.{proofs.Common.{◌≡◌, [], refl, length, sym, ◌∙◌}, specs.Prelude.true, proofs.lemmas.Bool.{eqb-false, eqb-true}}
use Rattle.stack_text.{specs.Views.TreeView.nodes_of, proofs.TreeListLaws.no_parts}
use Rattle.piton_syntax.{specs.Grammar.are_of_kind, proofs.ArgumentLaws.{all_of_kind, other_kinds, some_kinds}}
use Rattle.piton_syntax.proofs.reading.argument.some_arguments.Goals as goal

pub each_argument-requires : goal.each_argument-requires
each_argument-requires g c = sym (all_of_kind c.args.kind c.args.trees.now) ∙ sym c.are_of_kind.ensures ∙ c.if-not-are_of_kind.false

pub returns-then-is_empty : goal.returns-then-is_empty
returns-then-is_empty g c =
    rw (
      c.into.ensures,
      c.wrong_arguments.ensures,
      no_parts c.args.trees.now
          (eqb-true (length c.args.trees.now) 0 (sym c.is_empty.ensures ∙ c.if-is_empty.true)),
    ) ([], refl)

pub returns-then-not-are_of_kind : goal.returns-then-not-are_of_kind
returns-then-not-are_of_kind g c =
    rw (c.into-then-not-are_of_kind.ensures, c.wrong_arguments-then-not-are_of_kind.ensures) (
      [],
      other_kinds c.args.kind c.args.place c.args.trees.now (eqb-false (length c.args.trees.now) 0 (sym c.is_empty.ensures ∙ c.if-is_empty.false))
          (sym (all_of_kind c.args.kind c.args.trees.now) ∙ sym c.are_of_kind.ensures ∙ c.if-not-are_of_kind.true),
    )

pub returns : goal.returns
returns g c =
    let kinds : are_of_kind c.args.kind (nodes_of c.args.trees.now) ≡ true =
    sym (all_of_kind c.args.kind c.args.trees.now) ∙ sym c.are_of_kind.ensures ∙ c.if-not-are_of_kind.false in
    rw (some_kinds c.args.kind c.args.place c.args.trees.now (eqb-false (length c.args.trees.now) 0 (sym c.is_empty.ensures ∙ c.if-is_empty.false))
    kinds) c.each_argument.ensures
