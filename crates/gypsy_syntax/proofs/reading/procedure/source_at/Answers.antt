use Rattle.std.proofs.Common.{[], refl, sym, ◌∙◌, arith}
use Rattle.gypsy_syntax.proofs.GrammarLaws.{few_procedures, many_procedures, short_source, source_by_parts}
use Rattle.stack_text.proofs.TreeListLaws.{rest}
use Rattle.gypsy_syntax.proofs.reading.procedure.source_at.Goals as goal

pub returns-then-items-lt3 : goal.returns-then-items-lt3
returns-then-items-lt3 g c = rw (c.into.ensures, c.no_source.ensures) ([], short_source c.args.place c.args.items.now c.if-items-lt3.true)

pub returns-then-procs-gt-MOST_PROCEDURES : goal.returns-then-procs-gt-MOST_PROCEDURES
returns-then-procs-gt-MOST_PROCEDURES g c =
    rw (
      c.into-then-procs-gt-MOST_PROCEDURES.ensures,
      c.too_large.ensures,
      source_by_parts c.args.place c.args.items.now c.index-items-0.result
          c.index-items-1.result (omega arith) c.index-items-0.is c.index-items-1.is,
      sym c.is_program_word.ensures ∙ c.if-not-is_program_word.false,
      many_procedures (rest 2 c.args.items.now) c.if-procs-gt-MOST_PROCEDURES.true,
    )
    ([], refl)

pub returns : goal.returns
returns g c =
    rw (
      source_by_parts c.args.place c.args.items.now c.index-items-0.result c.index-items-1.result (omega arith) c.index-items-0.is c.index-items-1.is,
      sym c.is_program_word.ensures ∙ c.if-not-is_program_word.false,
      few_procedures (rest 2 c.args.items.now)
          (omega (arith, c.if-procs-gt-MOST_PROCEDURES.false)),
    )
    c.source_parts.ensures
