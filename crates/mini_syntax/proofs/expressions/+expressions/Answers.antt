use Rattle.std.proofs.Common.{ℕ, [], ◌∷◌, refl, ap, subst, ◌∙◌, arith}
use Rattle.stack_heap.proofs.UnlessLaws.{if_ok_unless_weaker}
use Rattle.mini_syntax.{specs.Internal.Combined.IsPrefix, specs.Expected.expression, specs.Internal.Lexemes.{left_of, token_seen}, specs.Internal.Phrases.Reads}
use Rattle.mini_syntax.{specs.Internal.Phrases.infix_within, proofs.AwaitLaws.{factor_begins, prefix_goes_on, prefix_kind}, proofs.LevelLaws.{begun, done}}
use Rattle.mini_syntax.{proofs.LevelLaws.{expression_operand, first_operand, going_shrinks, grown, read_shrinks, right_awaited}, proofs.ReadingLaws.leaf}
use Rattle.mini_syntax.{proofs.ReadingLaws.one_less, proofs.StepLaws.{after_kind, expression_first, expression_passed, group_read, operand_is, prefix_read}}
use Rattle.mini_syntax.specs.declared.expected.Expected.TheVariants as wants
use Rattle.mini_syntax.specs.declared.expressions.FactorKind.TheVariants as a_factor
use Rattle.mini_syntax.specs.declared.lexer.TokenKind.TheVariants as kind
use Rattle.mini_syntax.specs.declared.mark.Mark.TheVariants as mark
use Rattle.mini_syntax.specs.declared.word.Word.TheVariants as word
use Rattle.mini_syntax.specs.Grammar as grammar
use Rattle.mini_syntax.proofs.expressions.+expressions.Goals as goal

-- ---- factors

pub factor-returns-in-Some-Variable : goal.factor-returns-in-Some-Variable
factor-returns-in-Some-Variable g t c =
    let l = c.next-token.result in
    let k = factor_begins a_factor.Variable l.kind (rw c.in-Some-Variable.field-0-is at c.in-Some-Variable.ensures) in
    leaf c.args.scope.now.declared.items l kind.Name (grammar.variable l.place l.bytes.now) (left_of c.args.cursor.now) (left_of c.next-token.new.self)
    c.args.best.now c.variable.new.best c.variable.result c.next-token.ensures k (omega arith) refl refl c.variable.ensures

pub factor-returns-in-Some-Number : goal.factor-returns-in-Some-Number
factor-returns-in-Some-Number g t c =
    let l = c.next-token.result in
    let k = factor_begins a_factor.Number l.kind (rw c.in-Some-Number.field-0-is at c.in-Some-Number.ensures) in
    leaf c.args.scope.now.declared.items l kind.Number (grammar.number l.place l.bytes.now) (left_of c.args.cursor.now) (left_of c.next-token.new.self)
    c.args.best.now c.number.new.best c.number.result c.next-token.ensures k (omega arith) refl refl (c.number.ensures c.args.scope.now.declared.items)

pub factor-returns-in-Some-Truth : goal.factor-returns-in-Some-Truth
factor-returns-in-Some-Truth g t c =
    let l = c.next-token.result in
    let b = c.in-Some-Truth.value in
    let k = factor_begins (a_factor.Truth b) l.kind (rw c.in-Some-Truth.field-0-is at c.in-Some-Truth.ensures) in
    leaf c.args.scope.now.declared.items l (kind.Word (word.Truth b)) (grammar.truth l.place b)
    (left_of c.args.cursor.now) (left_of c.next-token.new.self) c.args.best.now c.args.best.now c.truth.result
    c.next-token.ensures k (omega arith) refl refl (c.truth.ensures c.args.scope.now.declared.items l.place c.args.best.now)

pub factor-factor-requires : goal.factor-factor-requires
factor-factor-requires g t c =
    let l = c.next-token.result in
    let op = c.in-Some-Operator.op in
    let k = factor_begins (a_factor.Operator op) l.kind (rw c.in-Some-Operator.field-0-is at c.in-Some-Operator.ensures) in
    let less = one_less (token_seen l) (left_of c.args.cursor.now) (left_of c.next-token.new.self) c.next-token.ensures in λ κs lives. (
      omega (arith, less),
      (
        lives,
        (
          c.requires.scope,
          after_kind (wants.Operand ∷ []) (wants.Operand ∷ []) l (prefix_kind op) c.requires.awaits c.next-token.ensures k (λ rest. prefix_goes_on op rest),
        ),
      ),
    )

pub factor-returns-in_ok-operand-in-Some-Operator : goal.factor-returns-in_ok-operand-in-Some-Operator
factor-returns-in_ok-operand-in-Some-Operator g t c =
    let l = c.next-token.result in
    let op = c.in-Some-Operator.op in
    let k = factor_begins (a_factor.Operator op) l.kind (rw c.in-Some-Operator.field-0-is at c.in-Some-Operator.ensures) in
    if_ok_unless_weaker (g.H.Heap.may_refuse c.args.heap) c.with_prefix.result
    (IsPrefix l.place op c.in_ok-operand-in-Some-Operator.operand c.factor.new.best c.with_prefix.new.best)
    (Reads 0 c.args.scope.now.declared.items (left_of c.args.cursor.now) (left_of c.factor.new.cursor) c.args.best.now c.with_prefix.new.best)
    (λ typed made. prefix_read op l c.next-token.ensures k c.in_ok-operand-in-Some-Operator.ensures made) c.with_prefix.ensures

pub factor-expression-requires : goal.factor-expression-requires
factor-expression-requires g t c =
    let l = c.next-token.result in
    let k = factor_begins a_factor.Bracket l.kind (rw c.in-Some-Bracket.field-0-is at c.in-Some-Bracket.ensures) in
    let less = one_less (token_seen l) (left_of c.args.cursor.now) (left_of c.next-token.new.self) c.next-token.ensures in
    let opened = after_kind (wants.Operand ∷ []) (expression (wants.Mark mark.Close ∷ [])) l (kind.Mark mark.Open) c.requires.awaits
    c.next-token.ensures k (λ rest. refl) in
    λ κs lives. (omega (arith, less), (lives, (c.requires.scope, expression_first (wants.Mark mark.Close ∷ []) opened)))

pub factor-mark-requires : goal.factor-mark-requires
factor-mark-requires g t c =
    let l = c.next-token.result in
    let k = factor_begins a_factor.Bracket l.kind (rw c.in-Some-Bracket.field-0-is at c.in-Some-Bracket.ensures) in
    let opened = after_kind (wants.Operand ∷ []) (expression (wants.Mark mark.Close ∷ [])) l (kind.Mark mark.Open) c.requires.awaits
    c.next-token.ensures k (λ rest. refl) in
    expression_passed (wants.Mark mark.Close ∷ []) opened c.in_ok-inner-in-Some-Bracket.ensures

pub factor-returns-in_ok-inner-in-Some-Bracket : goal.factor-returns-in_ok-inner-in-Some-Bracket
factor-returns-in_ok-inner-in-Some-Bracket g t c =
    let l = c.next-token.result in
    let k = factor_begins a_factor.Bracket l.kind (rw c.in-Some-Bracket.field-0-is at c.in-Some-Bracket.ensures) in
    group_read l c.mark.result c.next-token.ensures k c.in_ok-inner-in-Some-Bracket.ensures c.mark.ensures

pub factor-unreachable-requires : goal.factor-unreachable-requires
factor-unreachable-requires g t c = operand_is c.next-token.result c.requires.awaits c.next-token.ensures c.in-None.ensures

-- ---- an operand, and operators with their right operands

pub expression_within-factor-requires : goal.expression_within-factor-requires
expression_within-factor-requires g t c = λ κs lives. (omega arith, (lives, (c.requires.scope, first_operand c.requires.awaits)))

pub expression_within-loop-op-init : goal.expression_within-loop-op-init
expression_within-loop-op-init g t c = begun c.requires.awaits c.in_ok-left.ensures

pub expression_within-expression_within-requires : goal.expression_within-expression_within-requires
expression_within-expression_within-requires g t c =
    let l = c.next-place.result in
    let less = one_less (token_seen l) (left_of c.loop-op.cursor) (left_of c.next-place.new.self) c.next-place.ensures in
    let before = going_shrinks c.loop-op.invariant in
    let comes = c.in-Some.ensures ∙ ap (infix_within c.args.level) c.kind.ensures in
    λ κs lives. (omega (arith, less, before), (lives, (c.requires.scope, right_awaited c.loop-op.invariant l c.next-place.ensures comes)))

pub expression_within-loop-op-preserved : goal.expression_within-loop-op-preserved
expression_within-loop-op-preserved g t c =
    let comes = c.in-Some.ensures ∙ ap (infix_within c.args.level) c.kind.ensures in
    let right =
    subst (λ (level : ℕ). Reads level c.args.scope.now.declared.items (left_of c.next-place.new.self)
    (left_of c.expression_within.new.cursor) c.loop-op.best c.expression_within.new.best c.in_ok-right.right)
    c.right_level.ensures c.in_ok-right.ensures in
    grown c.loop-op.invariant c.next-place.result c.next-place.ensures comes right c.in_ok-left-2.ensures

pub expression_within-loop-op-smaller : goal.expression_within-loop-op-smaller
expression_within-loop-op-smaller g t c =
    let less = one_less (token_seen c.next-place.result) (left_of c.loop-op.cursor) (left_of c.next-place.new.self) c.next-place.ensures in
    let more = read_shrinks c.in_ok-right.ensures in
    omega (arith, less, more)

pub expression_within-returns : goal.expression_within-returns
expression_within-returns g t c = done c.loop-op.invariant (c.in_default.ensures ∙ ap (infix_within c.args.level) c.kind.ensures)

-- ---- a whole expression

pub expression-expression_within-requires : goal.expression-expression_within-requires
expression-expression_within-requires g t c = λ κs lives. (omega arith, (lives, (c.requires.scope, expression_operand c.requires.awaits)))
