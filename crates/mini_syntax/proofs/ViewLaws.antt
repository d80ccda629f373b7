-- What clauses see of statements with blocks.
use Rattle.std.proofs.Common.{◌≡◌, refl, ap, ap₂, ◌∙◌}
use Rattle.mini_syntax.{specs.declared.program.Exp.Exp, specs.declared.program.Statement.{Row_of-Statement, end_of-Statement, more_of-Statement}}
use Rattle.mini_syntax.specs.declared.program.Statement.{items-the_row-Statement, items_hidden-the_row-Statement-0}
use Rattle.mini_syntax.{specs.declared.program.Statement.TheBlock.hidden-the_row-Statement-0, specs.declared.program.Statement.TheVariants.While as MadeWhile}
use Rattle.mini_syntax.{specs.declared.program.Statement.TheVariants.If as MadeIf, specs.Language.{Then, While, If}, specs.ProgramView.{block_in, exp_of}}
use Rattle.mini_syntax.specs.ProgramView.{row_in, statement_in}

row_listed : (n : _) (k : Row_of-Statement n) → row_in k ≡ block_in (items-the_row-Statement n k)
row_listed n end_of-Statement = refl
row_listed n (more_of-Statement s rest) = ap (Then (statement_in s)) (row_listed _ rest)

pub statement_in-while : (test : Exp) (body : _) → statement_in (MadeWhile test body) ≡ While (exp_of test) (block_in body.items)
statement_in-while test body = ap (While (exp_of test)) (row_listed _ (hidden-the_row-Statement-0 body) ∙ ap block_in (items_hidden-the_row-Statement-0 body))

pub statement_in-if : (test : Exp) (then otherwise : _) → statement_in (MadeIf test then otherwise)
    ≡ If (exp_of test) (block_in then.items) (block_in otherwise.items)
statement_in-if test then otherwise =
    ap₂ (If (exp_of test)) (row_listed _ (hidden-the_row-Statement-0 then) ∙ ap block_in (items_hidden-the_row-Statement-0 then))
    (row_listed _ (hidden-the_row-Statement-0 otherwise) ∙ ap block_in (items_hidden-the_row-Statement-0 otherwise))
