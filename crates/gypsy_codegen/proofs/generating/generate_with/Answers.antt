use Rattle.std.proofs.Common.{◌≡◌, ◌≤◌, ◌^◌, ◌∙◌, sym, ap, subst}
use Rattle.piton_syntax.specs.PitonReading.{KeepsForm}
use Rattle.piton_check.specs.Violations.{violations}
use Rattle.gypsy_syntax.{specs.declared.proc.Source.Source, specs.Programs.Program, specs.Resolved.program_of, specs.Views.SourceView.source_of}
use Rattle.gypsy_space.{specs.Needs.stack_sizes, specs.Nodes.seen_program}
use Rattle.gypsy_codegen.{specs.Acceptable.total_words, specs.Generation.size_fault, specs.Text.generated, proofs.AnswerLaws.{are_few, are_modest, none_of}}
use Rattle.gypsy_codegen.proofs.AnswerLaws.{limits_fit, limit_fails, generation_is, implements, takes_code_words}
use Rattle.gypsy_codegen.proofs.generating.generate_with.Goals as goal

pub size_fault-requires-clause-few : goal.size_fault-requires-clause-few
size_fault-requires-clause-few g c = are_few (source_of c.args.accepted.now) c.requires.accepted c.args.needs.now.procedures.items c.requires.needs

pub size_fault-requires-clause-modest : goal.size_fault-requires-clause-modest
size_fault-requires-clause-modest g c = are_modest (source_of c.args.accepted.now) c.requires.accepted c.args.needs.now.procedures.items c.requires.needs

pub system-requires-clause-few : goal.system-requires-clause-few
system-requires-clause-few g c =
    let s = source_of c.args.accepted.now in
    let sizes = stack_sizes c.args.ctrl c.args.temp in
    let none = none_of (seen_program c.args.program.now) (program_of s) sizes c.size_fault.result c.requires.program c.size_fault.ensures
    c.in_default.not-Some in
    let limits = limits_fit (program_of s) sizes c.args.base c.requires.base none in
    subst (λ (t : Source). total_words (program_of (source_of t)) ≤ 2 ^ 20) (sym c.source.ensures.value) limits.few_words

pub checked-requires-clause-form : goal.checked-requires-clause-form
checked-requires-clause-form g c =
    let s = source_of c.args.accepted.now in
    let sizes = stack_sizes c.args.ctrl c.args.temp in
    let none = none_of (seen_program c.args.program.now) (program_of s) sizes c.size_fault.result c.requires.program c.size_fault.ensures
    c.in_default.not-Some in
    let limits = limits_fit (program_of s) sizes c.args.base c.requires.base none in
    let made : c.in_ok-system.system ≡ generated s sizes c.args.base =
    c.in_ok-system.ensures ∙ ap (λ (t : Source). generated (source_of t) sizes c.args.base) c.source.ensures.value in
    subst KeepsForm (sym made) (c.generated_is_acceptable.ensures s sizes c.args.base c.requires.accepted limits).form

pub checked-requires-clause-rules : goal.checked-requires-clause-rules
checked-requires-clause-rules g c =
    let s = source_of c.args.accepted.now in
    let sizes = stack_sizes c.args.ctrl c.args.temp in
    let none = none_of (seen_program c.args.program.now) (program_of s) sizes c.size_fault.result c.requires.program c.size_fault.ensures
    c.in_default.not-Some in
    let limits = limits_fit (program_of s) sizes c.args.base c.requires.base none in
    let made : c.in_ok-system.system ≡ generated s sizes c.args.base =
    c.in_ok-system.ensures ∙ ap (λ (t : Source). generated (source_of t) sizes c.args.base) c.source.ensures.value in
    ap violations made ∙ (c.generated_is_acceptable.ensures s sizes c.args.base c.requires.accepted limits).rules

pub returns-in-Some-clause-value : goal.returns-in-Some-clause-value
returns-in-Some-clause-value g c =
    let s = source_of c.args.accepted.now in
    let sizes = stack_sizes c.args.ctrl c.args.temp in
    let passed = ap (λ (q : Program). size_fault q sizes) (sym c.requires.program) ∙ sym c.size_fault.ensures ∙ c.in-Some.is in
    limit_fails (g.H.Heap.may_refuse c.args.heap) s sizes c.args.base c.in-Some.fault passed

pub returns-clause-value : goal.returns-clause-value
returns-clause-value g c =
    let s = source_of c.args.accepted.now in
    let sizes = stack_sizes c.args.ctrl c.args.temp in
    let none = none_of (seen_program c.args.program.now) (program_of s) sizes c.size_fault.result c.requires.program c.size_fault.ensures
    c.in_default.not-Some in
    let made : c.in_ok-system.system ≡ generated s sizes c.args.base =
    c.in_ok-system.ensures ∙ ap (λ (t : Source). generated (source_of t) sizes c.args.base) c.source.ensures.value in
    generation_is s sizes c.args.base c.in_ok-made.made c.in_ok-system.system none made c.in_ok-made.ensures.kept

pub returns-clause-runs : goal.returns-clause-runs
returns-clause-runs g c =
    let s = source_of c.args.accepted.now in
    let sizes = stack_sizes c.args.ctrl c.args.temp in
    let none = none_of (seen_program c.args.program.now) (program_of s) sizes c.size_fault.result c.requires.program c.size_fault.ensures
    c.in_default.not-Some in
    let limits = limits_fit (program_of s) sizes c.args.base c.requires.base none in
    let made : c.in_ok-system.system ≡ generated s sizes c.args.base =
    c.in_ok-system.ensures ∙ ap (λ (t : Source). generated (source_of t) sizes c.args.base) c.source.ensures.value in
    implements c.generated_is_acceptable.ensures c.source_runs.ensures c.moments_are_reached.ensures s sizes c.args.base c.in_ok-made.made
    c.requires.accepted limits
    c.in_ok-made.ensures.known (c.in_ok-made.ensures.kept ∙ made)

pub returns-clause-words : goal.returns-clause-words
returns-clause-words g c =
    let s = source_of c.args.accepted.now in
    let sizes = stack_sizes c.args.ctrl c.args.temp in
    let none = none_of (seen_program c.args.program.now) (program_of s) sizes c.size_fault.result c.requires.program c.size_fault.ensures
    c.in_default.not-Some in
    let limits = limits_fit (program_of s) sizes c.args.base c.requires.base none in
    let made : c.in_ok-system.system ≡ generated s sizes c.args.base =
    c.in_ok-system.ensures ∙ ap (λ (t : Source). generated (source_of t) sizes c.args.base) c.source.ensures.value in
    let meant = implements c.generated_is_acceptable.ensures c.source_runs.ensures c.moments_are_reached.ensures s sizes c.args.base c.in_ok-made.made
    c.requires.accepted limits
    c.in_ok-made.ensures.known (c.in_ok-made.ensures.kept ∙ made) in
    takes_code_words c.procedures_take_words.ensures s sizes c.args.base c.in_ok-made.made c.requires.accepted meant.view
