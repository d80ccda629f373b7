use Rattle.std.proofs.Common.{[], ◌∷◌, false}
use Rattle.mini_syntax.specs.declared.mark.Mark.TheVariants as mark
use Rattle.mini_syntax.specs.declared.expected.Expected.TheVariants as wants
use Rattle.mini_syntax.proofs.MachineLaws.{stack_more}
use Rattle.mini_syntax.proofs.expected.expect.Goals as goal

pub returns-in_ok-extend_from_slice-in-Operand : goal.returns-in_ok-extend_from_slice-in-Operand
returns-in_ok-extend_from_slice-in-Operand g c = rw c.in-Operand.is
    (stack_more c.args.stack.now.items c.extend_from_slice.new.items.items (wants.Operand ∷ []) c.in_ok-extend_from_slice-in-Operand.ensures.items)

pub returns-in_ok-extend_from_slice-in-Bracket : goal.returns-in_ok-extend_from_slice-in-Bracket
returns-in_ok-extend_from_slice-in-Bracket g c = rw c.in-Bracket.is (stack_more c.args.stack.now.items c.extend_from_slice-in-Bracket.new.items.items
    (wants.Mark mark.Close ∷ wants.MoreExpression false ∷ wants.Operand ∷ []) c.in_ok-extend_from_slice-in-Bracket.ensures.items)

pub returns-in_ok-extend_from_slice-in-OperandAndMore : goal.returns-in_ok-extend_from_slice-in-OperandAndMore
returns-in_ok-extend_from_slice-in-OperandAndMore g c = rw c.in-OperandAndMore.is
    (stack_more c.args.stack.now.items c.extend_from_slice-in-OperandAndMore.new.items.items
    (wants.MoreExpression c.in-OperandAndMore.compared ∷ wants.Operand ∷ []) c.in_ok-extend_from_slice-in-OperandAndMore.ensures.items)

pub returns-in_ok-extend_from_slice-in-Declaration : goal.returns-in_ok-extend_from_slice-in-Declaration
returns-in_ok-extend_from_slice-in-Declaration g c = rw c.in-Declaration.is
    (stack_more c.args.stack.now.items c.extend_from_slice-in-Declaration.new.items.items
    (wants.MoreDeclarations ∷ wants.Mark mark.Semicolon ∷ wants.Name ∷ []) c.in_ok-extend_from_slice-in-Declaration.ensures.items)

pub returns-in_ok-extend_from_slice-in-Assignment : goal.returns-in_ok-extend_from_slice-in-Assignment
returns-in_ok-extend_from_slice-in-Assignment g c = rw c.in-Assignment.is
    (stack_more c.args.stack.now.items c.extend_from_slice-in-Assignment.new.items.items
    (wants.MoreStatements ∷ wants.Mark mark.Semicolon ∷ wants.MoreExpression false ∷ wants.Operand ∷ wants.Mark mark.Becomes ∷ [])
    c.in_ok-extend_from_slice-in-Assignment.ensures.items)

pub returns-in_ok-extend_from_slice-in-Loop : goal.returns-in_ok-extend_from_slice-in-Loop
returns-in_ok-extend_from_slice-in-Loop g c = rw c.in-Loop.is (stack_more c.args.stack.now.items c.extend_from_slice-in-Loop.new.items.items
    (wants.MoreStatements ∷ wants.Mark mark.CloseBlock ∷ wants.MoreStatements ∷ wants.Mark mark.OpenBlock ∷ wants.MoreExpression false ∷ wants.Operand ∷
    []) c.in_ok-extend_from_slice-in-Loop.ensures.items)

pub returns-in_ok-extend_from_slice-in-Branch : goal.returns-in_ok-extend_from_slice-in-Branch
returns-in_ok-extend_from_slice-in-Branch g c = rw c.in-Branch.is (stack_more c.args.stack.now.items c.extend_from_slice-in-Branch.new.items.items
    (wants.MoreStatements ∷ wants.Mark mark.CloseBlock ∷ wants.MoreStatements ∷ wants.Mark mark.OpenBlock ∷ wants.Else ∷ wants.Mark mark.CloseBlock ∷
    wants.MoreStatements ∷ wants.Mark mark.OpenBlock ∷ wants.MoreExpression false ∷ wants.Operand ∷ []) c.in_ok-extend_from_slice-in-Branch.ensures.items)
