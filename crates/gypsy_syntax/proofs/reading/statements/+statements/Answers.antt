use Rattle.std.{proofs.Common.{◌≡◌, [], Err, Some, None, length, map, refl, sym, ◌∙◌, arith}, proofs.lemmas.Bool.{eqb-false, eqb-true}}
use Rattle.std.{proofs.lemmas.List.map_push, proofs.lemmas.Result.err_from_is_err_and}
use Rattle.stack_text.{specs.Views.TreeView.{node_of, nodes_of}, proofs.PartLaws.{first_of_2, first_of_3, first_of_value, part_fails, part_read, parts_end}}
use Rattle.stack_text.{proofs.TreeListLaws.{no_parts, not_one, not_three, one_part, three_parts}, proofs.TreeViewLaws.node_of-list}
use Rattle.gypsy_syntax.specs.declared.keyword.Keyword.TheVariants as word
use Rattle.gypsy_syntax.{specs.Grammar.{form_in, named_in, names_in, statement_in}, specs.Sources.loop, specs.Made.{new_begin, new_branch}}
use Rattle.gypsy_syntax.{specs.Views.SourceView.stmt_of, proofs.GrammarLaws.{fault_in_parts, some_parts, statement_by_parts, statements_each}}
use Rattle.gypsy_syntax.proofs.reading.statements.+statements.Goals as goal

pub statements-returns-in_err-part : goal.statements-returns-in_err-part
statements-returns-in_err-part g t c =
    let p = err_from_is_err_and c.from_residual.result c.from_residual.ensures.1 in
    rw (p.1, p.2, statements_each (nodes_of c.args.trees.now))
    (part_fails statement_in (map stmt_of c.loop-tree.parts.items) c.loop-tree.tree-index c.args.trees.now c.loop-tree.invariant
    (g.H.Heap.may_refuse c.args.heap) c.in_err-part.field-0.0 c.tree-item.result c.loop-tree-test.true c.tree-item.is
    c.in_err-part.ensures)

pub statements-returns : goal.statements-returns
statements-returns g t c =
    statements_each (nodes_of c.args.trees.now)
    ∙ parts_end statement_in (map stmt_of c.loop-tree.parts.items) c.loop-tree.tree-index c.args.trees.now c.loop-tree.invariant
    (omega (arith, c.loop-tree-test.false))

pub statements-loop-tree-preserved : goal.statements-loop-tree-preserved
statements-loop-tree-preserved g t c =
    rw (c.in_ok-push.ensures.items, map_push stmt_of c.loop-tree.parts.items c.in_ok-part.part)
    (part_read statement_in (map stmt_of c.loop-tree.parts.items) c.loop-tree.tree-index c.args.trees.now c.loop-tree.invariant c.tree-item.result
    (stmt_of c.in_ok-part.part) c.loop-tree-test.true c.tree-item.is
    c.in_ok-part.ensures)

pub sequence-returns-then-is_empty : goal.sequence-returns-then-is_empty
sequence-returns-then-is_empty g t c =
    rw (
      c.into.ensures,
      c.wrong_items.ensures,
      no_parts c.args.parts.now
          (eqb-true (length c.args.parts.now) 0 (sym c.is_empty.ensures ∙ c.if-is_empty.true)),
    ) ([], refl)

pub sequence-returns-in_err-parts : goal.sequence-returns-in_err-parts
sequence-returns-in_err-parts g t c =
    let p = err_from_is_err_and c.from_residual.result c.from_residual.ensures.1 in
    rw (p.1, p.2)
    (fault_in_parts (g.H.Heap.may_refuse c.args.heap) c.in_err-parts.field-0.0 c.args.place c.args.parts.now
    (eqb-false (length c.args.parts.now) 0 (sym c.is_empty.ensures ∙ c.if-is_empty.false)) c.in_err-parts.ensures)

pub sequence-returns : goal.sequence-returns
sequence-returns g t c =
    some_parts c.args.place c.args.parts.now c.in_ok-parts.parts (eqb-false (length c.args.parts.now) 0 (sym c.is_empty.ensures ∙ c.if-is_empty.false))
    c.in_ok-parts.ensures

pub repetition-returns-then-parts-ne1 : goal.repetition-returns-then-parts-ne1
repetition-returns-then-parts-ne1 g t c =
    rw (c.into.ensures, c.wrong_items.ensures) (
      [],
      not_one (λ ts. form_in (Some word.Loop) c.args.place ts ≡ Err (record { place = c.args.place; rule = 10 }, [])) refl (λ t u ts. refl)
          c.args.parts.now c.if-parts-ne1.true,
    )

pub repetition-returns-in_err-body : goal.repetition-returns-in_err-body
repetition-returns-in_err-body g t c =
    let p = err_from_is_err_and c.from_residual.result c.from_residual.ensures.1 in
    rw (p.1, p.2, one_part c.args.parts.now c.index-parts-0.result c.if-parts-ne1.false c.index-parts-0.is)
    (first_of_value (g.H.Heap.may_refuse c.args.heap) c.in_err-body.field-0.0 (loop c.args.place) (statement_in (node_of c.index-parts-0.result))
    c.in_err-body.ensures)

pub repetition-returns : goal.repetition-returns
repetition-returns g t c =
    rw (one_part c.args.parts.now c.index-parts-0.result c.if-parts-ne1.false c.index-parts-0.is, c.in_ok-body.ensures) refl

pub branch-returns-then-parts-ne3 : goal.branch-returns-then-parts-ne3
branch-returns-then-parts-ne3 g t c =
    rw (c.into.ensures, c.wrong_items.ensures) (
      [],
      not_three (λ ts. form_in (Some word.If) c.args.place ts ≡ Err (record { place = c.args.place; rule = 10 }, [])) refl (λ t. refl) (λ t u. refl)
          (λ t u v w ts. refl) c.args.parts.now c.if-parts-ne3.true,
    )

pub branch-returns-in_err-test : goal.branch-returns-in_err-test
branch-returns-in_err-test g t c =
    let p = err_from_is_err_and c.from_residual.result c.from_residual.ensures.1 in
    rw (
      p.1,
      p.2,
      three_parts c.args.parts.now c.index-parts-0.result c.index-parts-1.result c.index-parts-2.result c.if-parts-ne3.false
          c.index-parts-0.is c.index-parts-1.is c.index-parts-2.is,
    )
    (first_of_3 (g.H.Heap.may_refuse c.args.heap) c.in_err-test.field-0.0 (new_branch c.args.place) (named_in (node_of c.index-parts-0.result))
    (statement_in (node_of c.index-parts-1.result)) (statement_in (node_of c.index-parts-2.result)) c.in_err-test.ensures)

pub branch-returns-in_err-yes : goal.branch-returns-in_err-yes
branch-returns-in_err-yes g t c =
    let p = err_from_is_err_and c.from_residual-in_err-yes.result c.from_residual-in_err-yes.ensures.1 in
    rw (
      p.1,
      p.2,
      three_parts c.args.parts.now c.index-parts-0.result c.index-parts-1.result c.index-parts-2.result c.if-parts-ne3.false
          c.index-parts-0.is c.index-parts-1.is c.index-parts-2.is,
      c.in_ok-test.ensures,
    )
    (first_of_2 (g.H.Heap.may_refuse c.args.heap) c.in_err-yes.field-0.0 (new_branch c.args.place c.in_ok-test.test)
    (statement_in (node_of c.index-parts-1.result)) (statement_in (node_of c.index-parts-2.result)) c.in_err-yes.ensures)

pub branch-returns-in_err-no : goal.branch-returns-in_err-no
branch-returns-in_err-no g t c =
    let p = err_from_is_err_and c.from_residual-in_err-no.result c.from_residual-in_err-no.ensures.1 in
    rw (
      p.1,
      p.2,
      three_parts c.args.parts.now c.index-parts-0.result c.index-parts-1.result c.index-parts-2.result c.if-parts-ne3.false
          c.index-parts-0.is c.index-parts-1.is c.index-parts-2.is,
      c.in_ok-test.ensures,
      c.in_ok-yes.ensures,
    )
    (first_of_value (g.H.Heap.may_refuse c.args.heap) c.in_err-no.field-0.0 (new_branch c.args.place c.in_ok-test.test (stmt_of c.in_ok-yes.yes.value))
    (statement_in (node_of c.index-parts-2.result)) c.in_err-no.ensures)

pub branch-returns : goal.branch-returns
branch-returns g t c =
    rw (
      three_parts c.args.parts.now c.index-parts-0.result c.index-parts-1.result c.index-parts-2.result c.if-parts-ne3.false c.index-parts-0.is
          c.index-parts-1.is c.index-parts-2.is,
      c.in_ok-test.ensures,
      c.in_ok-yes.ensures,
      c.in_ok-no.ensures,
    ) refl

pub guarded-returns-then-parts-ne3 : goal.guarded-returns-then-parts-ne3
guarded-returns-then-parts-ne3 g t c =
    rw (c.into.ensures, c.wrong_items.ensures) (
      [],
      not_three (λ ts. form_in (Some word.Begin) c.args.place ts ≡ Err (record { place = c.args.place; rule = 10 }, [])) refl (λ t. refl)
          (λ t u. refl) (λ t u v w ts. refl) c.args.parts.now c.if-parts-ne3.true,
    )

pub guarded-returns-then-is_empty_list : goal.guarded-returns-then-is_empty_list
guarded-returns-then-is_empty_list g t c =
    rw (
      c.into-then-is_empty_list.ensures,
      c.wrong_items-then-is_empty_list.ensures,
      three_parts c.args.parts.now c.index-parts-0.result c.index-parts-1.result c.index-parts-2.result c.if-parts-ne3.false c.index-parts-0.is
          c.index-parts-1.is c.index-parts-2.is,
      sym c.is_empty_list.ensures ∙ c.if-is_empty_list.true,
    )
    ([], refl)

pub guarded-returns-in_err-body : goal.guarded-returns-in_err-body
guarded-returns-in_err-body g t c =
    let p = err_from_is_err_and c.from_residual.result c.from_residual.ensures.1 in
    rw (
      p.1,
      p.2,
      three_parts c.args.parts.now c.index-parts-0.result c.index-parts-1.result c.index-parts-2.result c.if-parts-ne3.false
          c.index-parts-0.is c.index-parts-1.is c.index-parts-2.is,
      sym c.is_empty_list.ensures ∙ c.if-is_empty_list.false,
    )
    (first_of_3 (g.H.Heap.may_refuse c.args.heap) c.in_err-body.field-0.0 (new_begin c.args.place) (statement_in (node_of c.index-parts-0.result))
    (names_in (node_of c.index-parts-1.result)) (statement_in (node_of c.index-parts-2.result)) c.in_err-body.ensures)

pub guarded-returns-in_err-conds : goal.guarded-returns-in_err-conds
guarded-returns-in_err-conds g t c =
    let p = err_from_is_err_and c.from_residual-in_err-conds.result c.from_residual-in_err-conds.ensures.1 in
    rw (
      p.1,
      p.2,
      three_parts c.args.parts.now c.index-parts-0.result c.index-parts-1.result c.index-parts-2.result c.if-parts-ne3.false
          c.index-parts-0.is c.index-parts-1.is c.index-parts-2.is,
      sym c.is_empty_list.ensures ∙ c.if-is_empty_list.false,
      c.in_ok-body.ensures,
    )
    (first_of_2 (g.H.Heap.may_refuse c.args.heap) c.in_err-conds.field-0.0 (new_begin c.args.place (stmt_of c.in_ok-body.body.value))
    (names_in (node_of c.index-parts-1.result)) (statement_in (node_of c.index-parts-2.result)) c.in_err-conds.ensures)

pub guarded-returns-in_err-arm : goal.guarded-returns-in_err-arm
guarded-returns-in_err-arm g t c =
    let p = err_from_is_err_and c.from_residual-in_err-arm.result c.from_residual-in_err-arm.ensures.1 in
    rw (
      p.1,
      p.2,
      three_parts c.args.parts.now c.index-parts-0.result c.index-parts-1.result c.index-parts-2.result c.if-parts-ne3.false
          c.index-parts-0.is c.index-parts-1.is c.index-parts-2.is,
      sym c.is_empty_list.ensures ∙ c.if-is_empty_list.false,
      c.in_ok-body.ensures,
      c.in_ok-conds.ensures,
    )
    (first_of_value (g.H.Heap.may_refuse c.args.heap) c.in_err-arm.field-0.0
    (new_begin c.args.place (stmt_of c.in_ok-body.body.value) c.in_ok-conds.conds.items) (statement_in (node_of c.index-parts-2.result))
    c.in_err-arm.ensures)

pub guarded-returns : goal.guarded-returns
guarded-returns g t c =
    rw (
      three_parts c.args.parts.now c.index-parts-0.result c.index-parts-1.result c.index-parts-2.result c.if-parts-ne3.false c.index-parts-0.is
          c.index-parts-1.is c.index-parts-2.is,
      sym c.is_empty_list.ensures ∙ c.if-is_empty_list.false,
      c.in_ok-body.ensures,
      c.in_ok-conds.ensures,
      c.in_ok-arm.ensures,
    ) refl

pub statement-returns-in-None : goal.statement-returns-in-None
statement-returns-in-None g t c =
    rw (
      c.into-in-None.ensures,
      c.in-List.is,
      node_of-list c.in-List.place c.in-List.items,
      sym c.as_slice.ensures.value,
      statement_by_parts c.in-List.place c.as_slice.result.now c.first-item.result c.in-Atom-first.place c.in-Atom-first.text None
          c.in-len1-up.len_at_least c.first-item.is c.in-Atom-first.is
          (sym c.keyword_named.ensures ∙ c.in-None.is),
      c.no_statement-in-None.ensures,
    )
    ([], refl)

pub statement-returns-in-Some : goal.statement-returns-in-Some
statement-returns-in-Some g t c =
    rw (
      c.in-List.is,
      node_of-list c.in-List.place c.in-List.items,
      sym c.as_slice.ensures.value,
      statement_by_parts c.in-List.place c.as_slice.result.now c.first-item.result c.in-Atom-first.place c.in-Atom-first.text (Some c.in-Some.keyword)
          c.in-len1-up.len_at_least c.first-item.is c.in-Atom-first.is
          (sym c.keyword_named.ensures ∙ c.in-Some.is),
    )
    c.form.ensures
