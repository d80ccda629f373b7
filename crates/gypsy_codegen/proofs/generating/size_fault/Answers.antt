use Rattle.std.proofs.Common.{◌≡◌, ◌∙◌, true, rules, arith}
use Rattle.gypsy_space.{specs.Needs.stack_sizes, specs.Nodes.seen_program}
use Rattle.gypsy_codegen.{specs.Generation.are_sizes, proofs.AnswerLaws.{together_is, words_fault, no_fault}}
use Rattle.gypsy_codegen.proofs.generating.size_fault.Goals as goal

pub returns-then-count-gt-MOST_WORDS : goal.returns-then-count-gt-MOST_WORDS
returns-then-count-gt-MOST_WORDS c =
    let q = seen_program c.args.program.now in
    let sizes = stack_sizes c.args.ctrl c.args.temp in
    let counted = c.words_together-count.ensures in
    let all : are_sizes sizes ≡ true = search rules in
    words_fault q sizes c.words_together-count.result all
    (omega (arith, c.control_need-need.ensures, c.if-ctrl-need.false)) (omega (arith, c.temporary_need-need.ensures, c.if-temp-need.false))
    ((rw c.as_slice.ensures.value at counted) ∙ together_is q c.args.needs.now.procedures.items c.requires.needs) c.if-count-gt-MOST_WORDS.true

pub returns : goal.returns
returns c =
    let q = seen_program c.args.program.now in
    let sizes = stack_sizes c.args.ctrl c.args.temp in
    let counted = c.words_together-count.ensures in
    let all : are_sizes sizes ≡ true = search rules in
    no_fault q sizes c.words_together-count.result all
    (omega (arith, c.control_need-need.ensures, c.if-ctrl-need.false)) (omega (arith, c.temporary_need-need.ensures, c.if-temp-need.false))
    ((rw c.as_slice.ensures.value at counted) ∙ together_is q c.args.needs.now.procedures.items c.requires.needs) c.if-count-gt-MOST_WORDS.false
