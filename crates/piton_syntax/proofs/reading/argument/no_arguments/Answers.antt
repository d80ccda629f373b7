use Rattle.std.{proofs.Common.{◌≡◌, [], Err, length, refl, sym, ◌∙◌}, proofs.lemmas.Bool.eqb-false}
use Rattle.piton_syntax.specs.Grammar.{arguments_of}
use Rattle.piton_syntax.specs.declared.argument.Arguments.TheVariants as row
use Rattle.stack_text.proofs.TreeListLaws.{not_none}
use Rattle.piton_syntax.proofs.reading.argument.no_arguments.Goals as goal

pub returns-else-is_empty : goal.returns-else-is_empty
returns-else-is_empty g c =
    rw c.wrong_arguments.ensures (
      [],
      not_none (λ ts. arguments_of row.Zero c.args.place ts ≡ Err (record { place = c.args.place; rule = 7 }, []))
          (λ t ts. refl) c.args.trees.now (eqb-false (length c.args.trees.now) 0 (sym c.is_empty.ensures ∙ c.if-is_empty.false)),
    )
