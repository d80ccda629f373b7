use Rattle.std.proofs.Common.{Bool, [], ◌∷◌, List, refl, ap, ◌∙◌}
use Rattle.stack_text.specs.Breaches.{least, lesser_of, when}
use Rattle.mini_syntax.{specs.declared.expected.Expected.Expected, specs.Expected.expression, specs.Internal.Lexemes.left_of, proofs.AwaitLaws.statement_begins}
use Rattle.mini_syntax.{proofs.ReadingLaws.{assignment_read, none_told}, proofs.StepLaws.{after_kind, expression_first, expression_passed, first_awaited}}
use Rattle.mini_syntax.proofs.StepLaws.{kind_next, mark_passed}
use Rattle.mini_syntax.specs.declared.blocks.StatementKind.TheVariants as a_statement
use Rattle.mini_syntax.specs.declared.expected.Expected.TheVariants as wants
use Rattle.mini_syntax.specs.declared.lexer.TokenKind.TheVariants as kind
use Rattle.mini_syntax.specs.declared.mark.Mark.TheVariants as mark
use Rattle.mini_syntax.proofs.blocks.assignment.Goals as goal

-- `;` and more statements, after the value
abbrev ending : List Expected
ending = wants.Mark mark.Semicolon ∷ wants.MoreStatements ∷ []

pub mark-becomes-requires : goal.mark-becomes-requires
mark-becomes-requires g c =
    let l = c.next-name.result in
    let k = kind_next l kind.Name c.next-name.ensures (statement_begins a_statement.Assignment _ c.requires.begun) in
    first_awaited (wants.Mark mark.Becomes) (expression ending)
    (after_kind (wants.MoreStatements ∷ []) (wants.Mark mark.Becomes ∷ expression ending) l kind.Name c.requires.awaits c.next-name.ensures k (λ rest. refl))

pub expression-requires-clause-awaits : goal.expression-requires-clause-awaits
expression-requires-clause-awaits g c =
    let l = c.next-name.result in
    let k = kind_next l kind.Name c.next-name.ensures (statement_begins a_statement.Assignment _ c.requires.begun) in
    let named = after_kind (wants.MoreStatements ∷ []) (wants.Mark mark.Becomes ∷ expression ending) l kind.Name c.requires.awaits c.next-name.ensures k
    (λ rest. refl) in
    expression_first ending (mark_passed mark.Becomes c.mark-becomes.result (expression ending) named c.mark-becomes.ensures)

pub mark-requires : goal.mark-requires
mark-requires g c =
    let l = c.next-name.result in
    let k = kind_next l kind.Name c.next-name.ensures (statement_begins a_statement.Assignment _ c.requires.begun) in
    let named = after_kind (wants.MoreStatements ∷ []) (wants.Mark mark.Becomes ∷ expression ending) l kind.Name c.requires.awaits c.next-name.ensures k
    (λ rest. refl) in
    first_awaited (wants.Mark mark.Semicolon) (wants.MoreStatements ∷ [])
    (expression_passed ending (mark_passed mark.Becomes c.mark-becomes.result (expression ending) named c.mark-becomes.ensures) c.in_ok-value.ensures)

pub returns : goal.returns
returns g c =
    let l = c.next-name.result in
    let k = kind_next l kind.Name c.next-name.ensures (statement_begins a_statement.Assignment _ c.requires.begun) in
    assignment_read c.args.scope.now.declared.items l c.mark-becomes.result c.mark.result
    (left_of c.args.cursor.now) (left_of c.next-name.new.self) (left_of c.mark-becomes.new.self) (left_of c.expression.new.cursor) (left_of c.mark.new.self)
    c.args.best.now c.note_if.new.best c.expression.new.best c.note_assignment.new.best c.named-found.result c.index_of.result c.sort_of.result
    c.in_ok-value.value _ c.next-name.ensures k c.mark-becomes.ensures c.in_ok-value.ensures c.mark.ensures
    c.named-found.ensures (c.note_if.ensures ∙ ap (λ (b : Bool). lesser_of c.args.best.now (least (when b l.place 6)))
    (none_told c.named-found.result c.is_none.result c.is_none.ensures)) c.sort_of.ensures c.index_of.ensures c.note_assignment.ensures refl
