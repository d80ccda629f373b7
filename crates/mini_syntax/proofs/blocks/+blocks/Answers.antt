use Rattle.std.proofs.Common.{[], ◌∷◌, List, Some, refl, sym, ap, ◌∙◌, arith}
use Rattle.mini_syntax.{specs.declared.expected.Expected.Expected, specs.Expected.{a_block, expression}, specs.Internal.Lexemes.{left_of, token_seen}}
use Rattle.mini_syntax.{specs.Internal.Phrases.statement_kind, specs.Tokens.mark_at, proofs.AwaitLaws.{statement_begins, no_statement}}
use Rattle.mini_syntax.{proofs.LevelLaws.read_shrinks, proofs.ReadingLaws.{all_read, block_read, block_shrinks, form_shrinks, if_read, none_yet, one_less}}
use Rattle.mini_syntax.{proofs.ReadingLaws.{one_more, shrinks, so_far_shrinks, while_read}, proofs.StepLaws.{after_kind, block_first, block_passed, else_is}}
use Rattle.mini_syntax.proofs.StepLaws.{else_passed, expression_first, expression_passed, first_awaited, form_passed, forms_passed, kind_next, mark_passed}
use Rattle.mini_syntax.{proofs.StepLaws.token_left, proofs.ViewLaws.{statement_in-if, statement_in-while}}
use Rattle.mini_syntax.specs.declared.blocks.StatementKind.TheVariants as a_statement
use Rattle.mini_syntax.specs.declared.expected.Expected.TheVariants as wants
use Rattle.mini_syntax.specs.declared.lexer.TokenKind.TheVariants as kind
use Rattle.mini_syntax.specs.declared.mark.Mark.TheVariants as mark
use Rattle.mini_syntax.specs.declared.word.Word.TheVariants as word
use Rattle.mini_syntax.proofs.blocks.+blocks.Goals as goal

abbrev more : List Expected
more = wants.MoreStatements ∷ []

-- ---- `while`

pub while_statement-expression-requires-clause-awaits : goal.while_statement-expression-requires-clause-awaits
while_statement-expression-requires-clause-awaits g t c =
    let l = c.next-place.result in
    let k = kind_next l (kind.Word word.While) c.next-place.ensures (statement_begins a_statement.While _ c.requires.begun) in
    expression_first (a_block more) (after_kind more (expression (a_block more)) l (kind.Word word.While) c.requires.awaits c.next-place.ensures k
    (λ rest. refl))

pub while_statement-block-requires : goal.while_statement-block-requires
while_statement-block-requires g t c =
    let l = c.next-place.result in
    let k = kind_next l (kind.Word word.While) c.next-place.ensures (statement_begins a_statement.While _ c.requires.begun) in
    let begun = after_kind more (expression (a_block more)) l (kind.Word word.While) c.requires.awaits c.next-place.ensures k (λ rest. refl) in
    let less = one_less (token_seen l) (left_of c.args.cursor.now) (left_of c.next-place.new.self) c.next-place.ensures in
    let no_more = read_shrinks c.in_ok-test.ensures in
    λ κs lives. (omega (arith, less, no_more), (lives, (c.requires.scope, block_first more (expression_passed (a_block more) begun c.in_ok-test.ensures))))

pub while_statement-returns : goal.while_statement-returns
while_statement-returns g t c =
    let l = c.next-place.result in
    let k = kind_next l (kind.Word word.While) c.next-place.ensures (statement_begins a_statement.While _ c.requires.begun) in
    while_read c.args.scope.now.declared.items l (left_of c.args.cursor.now) (left_of c.next-place.new.self) (left_of c.expression.new.cursor)
    (left_of c.block.new.cursor) c.args.best.now c.expression.new.best c.note_test.new.best c.block.new.best c.in_ok-test.test c.in_ok-body.body.items _
    c.next-place.ensures k c.in_ok-test.ensures c.note_test.ensures c.in_ok-body.ensures (statement_in-while c.in_ok-test.test.exp c.in_ok-body.body)

-- ---- `if`

pub if_statement-expression-requires-clause-awaits : goal.if_statement-expression-requires-clause-awaits
if_statement-expression-requires-clause-awaits g t c =
    let l = c.next-place.result in
    let k = kind_next l (kind.Word word.If) c.next-place.ensures (statement_begins a_statement.If _ c.requires.begun) in
    let rest = wants.Else ∷ a_block more in
    expression_first (a_block rest) (after_kind more (expression (a_block rest)) l (kind.Word word.If) c.requires.awaits c.next-place.ensures k (λ st. refl))

pub if_statement-block-requires : goal.if_statement-block-requires
if_statement-block-requires g t c =
    let l = c.next-place.result in
    let k = kind_next l (kind.Word word.If) c.next-place.ensures (statement_begins a_statement.If _ c.requires.begun) in
    let rest = wants.Else ∷ a_block more in
    let begun = after_kind more (expression (a_block rest)) l (kind.Word word.If) c.requires.awaits c.next-place.ensures k (λ st. refl) in
    let less = one_less (token_seen l) (left_of c.args.cursor.now) (left_of c.next-place.new.self) c.next-place.ensures in
    let no_more = read_shrinks c.in_ok-test.ensures in
    λ κs lives. (omega (arith, less, no_more), (lives, (c.requires.scope, block_first rest (expression_passed (a_block rest) begun c.in_ok-test.ensures))))

pub if_statement-next-requires : goal.if_statement-next-requires
if_statement-next-requires g t c =
    let l = c.next-place.result in
    let k = kind_next l (kind.Word word.If) c.next-place.ensures (statement_begins a_statement.If _ c.requires.begun) in
    let rest = wants.Else ∷ a_block more in
    let begun = after_kind more (expression (a_block rest)) l (kind.Word word.If) c.requires.awaits c.next-place.ensures k (λ st. refl) in
    token_left (block_passed rest (expression_passed (a_block rest) begun c.in_ok-test.ensures) c.in_ok-then.ensures) refl

pub if_statement-block-requires-2 : goal.if_statement-block-requires-2
if_statement-block-requires-2 g t c =
    let l = c.next-place.result in
    let k = kind_next l (kind.Word word.If) c.next-place.ensures (statement_begins a_statement.If _ c.requires.begun) in
    let rest = wants.Else ∷ a_block more in
    let begun = after_kind more (expression (a_block rest)) l (kind.Word word.If) c.requires.awaits c.next-place.ensures k (λ st. refl) in
    let less = one_less (token_seen l) (left_of c.args.cursor.now) (left_of c.next-place.new.self) c.next-place.ensures in
    let no_more = read_shrinks c.in_ok-test.ensures in
    let none_more = block_shrinks c.in_ok-then.ensures in
    let fewer = one_less (token_seen c.next.result) (left_of c.block.new.cursor) (left_of c.next.new.self) c.next.ensures in
    let other = block_passed rest (expression_passed (a_block rest) begun c.in_ok-test.ensures) c.in_ok-then.ensures in
    let awaited = block_first more (else_passed (a_block more) c.next.result other c.next.ensures) in
    λ κs lives. (omega (arith, less, no_more, none_more, fewer), (lives, (c.requires.scope, awaited)))

pub if_statement-returns : goal.if_statement-returns
if_statement-returns g t c =
    let l = c.next-place.result in
    let k = kind_next l (kind.Word word.If) c.next-place.ensures (statement_begins a_statement.If _ c.requires.begun) in
    let rest = wants.Else ∷ a_block more in
    let begun = after_kind more (expression (a_block rest)) l (kind.Word word.If) c.requires.awaits c.next-place.ensures k (λ st. refl) in
    let other = block_passed rest (expression_passed (a_block rest) begun c.in_ok-test.ensures) c.in_ok-then.ensures in
    if_read c.args.scope.now.declared.items l _ (left_of c.args.cursor.now) (left_of c.next-place.new.self) (left_of c.expression.new.cursor)
    (left_of c.block.new.cursor) (left_of c.next.new.self)
    (left_of c.block-2.new.cursor) c.args.best.now c.expression.new.best c.note_test.new.best c.block.new.best c.block-2.new.best c.in_ok-test.test
    c.in_ok-then.then.items c.in_ok-otherwise.otherwise.items _
    c.next-place.ensures k c.in_ok-test.ensures c.note_test.ensures c.in_ok-then.ensures (else_is c.next.result other c.next.ensures) c.in_ok-otherwise.ensures
    (statement_in-if c.in_ok-test.test.exp c.in_ok-then.then c.in_ok-otherwise.otherwise)

-- ---- a statement

pub statement-assignment-requires-clause-begun : goal.statement-assignment-requires-clause-begun
statement-assignment-requires-clause-begun g t c = sym (ap Some c.in-Assignment.is) ∙ c.requires.begun

pub statement-while_statement-requires : goal.statement-while_statement-requires
statement-while_statement-requires g t c = λ κs lives.
    (omega arith, (lives, (c.requires.scope, (c.requires.awaits, sym (ap Some c.in-While.is) ∙ c.requires.begun))))

pub statement-if_statement-requires : goal.statement-if_statement-requires
statement-if_statement-requires g t c = λ κs lives.
    (omega arith, (lives, (c.requires.scope, (c.requires.awaits, sym (ap Some c.in-If.is) ∙ c.requires.begun))))

-- ---- blocks

abbrev after_open : List Expected
after_open = wants.MoreStatements ∷ wants.Mark mark.CloseBlock ∷ []

pub block-mark-requires : goal.block-mark-requires
block-mark-requires g t c = first_awaited (wants.Mark mark.OpenBlock) after_open c.requires.awaits

pub block-statements-requires : goal.block-statements-requires
block-statements-requires g t c =
    let opened = mark_passed mark.OpenBlock c.mark.result after_open c.requires.awaits c.mark.ensures in
    let less = shrinks (left_of c.args.cursor.now) (mark_at c.mark.result mark.OpenBlock ∷ []) (left_of c.mark.new.self) c.mark.ensures in
    λ κs lives. (omega (arith, less), (lives, (c.requires.scope, first_awaited wants.MoreStatements (wants.Mark mark.CloseBlock ∷ []) opened)))

pub block-mark-requires-2 : goal.block-mark-requires-2
block-mark-requires-2 g t c =
    let opened = mark_passed mark.OpenBlock c.mark.result after_open c.requires.awaits c.mark.ensures in
    forms_passed (wants.Mark mark.CloseBlock ∷ []) opened c.in_ok-body.ensures

pub block-returns : goal.block-returns
block-returns g t c =
    block_read c.args.scope.now.declared.items c.mark.result c.mark-2.result (left_of c.args.cursor.now) (left_of c.mark.new.self)
    (left_of c.statements.new.cursor) (left_of c.mark-2.new.self)
    c.args.best.now c.statements.new.best c.in_ok-body.body.items c.mark.ensures c.in_ok-body.ensures c.mark-2.ensures

-- ---- statements in turn

pub statements-loop-kind-init : goal.statements-loop-kind-init
statements-loop-kind-init g t c = record {
  awaits = c.requires.awaits;
  read = none_yet c.args.scope.now.declared.items (left_of c.args.cursor.now) c.args.best.now c.new-statements.result.items c.new-statements.ensures.items;
}

pub statements-statement-requires : goal.statements-statement-requires
statements-statement-requires g t c =
    let before = so_far_shrinks c.loop-kind.invariant.read in
    λ κs lives. (omega (arith, before), (lives, (c.requires.scope, (c.loop-kind.invariant.awaits, c.in-Some.ensures ∙ ap statement_kind c.kind.ensures))))

pub statements-loop-kind-preserved : goal.statements-loop-kind-preserved
statements-loop-kind-preserved g t c = record {
  awaits = form_passed c.loop-kind.invariant.awaits c.in_ok-made.ensures;
  read = one_more c.args.scope.now.declared.items (left_of c.args.cursor.now) (left_of c.loop-kind.cursor) (left_of c.statement.new.cursor)
      c.args.best.now c.loop-kind.best c.statement.new.best
      c.loop-kind.statements.items c.push.new.items.items c.in_ok-made.made c.loop-kind.invariant.read c.in_ok-made.ensures c.in_ok-push.ensures.items;
}

pub statements-loop-kind-smaller : goal.statements-loop-kind-smaller
statements-loop-kind-smaller g t c = form_shrinks c.in_ok-made.ensures

pub statements-returns : goal.statements-returns
statements-returns g t c =
    all_read c.args.scope.now.declared.items (left_of c.args.cursor.now) (left_of c.loop-kind.cursor) c.args.best.now c.loop-kind.best
    c.loop-kind.statements.items c.loop-kind.invariant.read
    (λ st k. no_statement st (left_of c.loop-kind.cursor) (c.in_default.ensures ∙ ap statement_kind c.kind.ensures) k)
