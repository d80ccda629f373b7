use Rattle.std.proofs.Common.{◌≡◌, ◌+◌, ◌≤◌, ap, ◌∙◌, arith}
use Rattle.gypsy_syntax.specs.Programs.{proc_at, words_of}
use Rattle.gypsy_space.{specs.Nodes.seen_program, specs.Events.IsSmall, specs.declared.need.Need.Need}
use Rattle.gypsy_semantics.proofs.NeedLaws.{formals_small, temporary_is}
use Rattle.gypsy_semantics.proofs.room.temporary_need.Goals as goal

pub formal_words-words-requires : goal.formal_words-words-requires
formal_words-words-requires c =
    let q = seen_program c.args.program.now in
    rw c.main_formals.ensures (formals_small q c.requires.fits)

pub overflow_add-result : goal.overflow_add-result
overflow_add-result c =
    let q = seen_program c.args.program.now in
    let words : c.formal_words-words.result ≡ words_of (proc_at q q.main).formals = c.formal_words-words.ensures ∙ ap words_of c.main_formals.ensures in
    let few : words_of (proc_at q q.main).formals ≤ 65536 = formals_small q c.requires.fits in
    let small : IsSmall c.need_of-need.result = rw c.need_of-need.ensures (c.requires.small q.main) in
    omega (arith, words, few, small.locals_words)

pub overflow_add-result-2 : goal.overflow_add-result-2
overflow_add-result-2 c =
    let q = seen_program c.args.program.now in
    let words : c.formal_words-words.result ≡ words_of (proc_at q q.main).formals = c.formal_words-words.ensures ∙ ap words_of c.main_formals.ensures in
    let few : words_of (proc_at q q.main).formals ≤ 65536 = formals_small q c.requires.fits in
    let small : IsSmall c.need_of-need.result = rw c.need_of-need.ensures (c.requires.small q.main) in
    omega (arith, words, few, small.locals_words, small.temp)

pub returns : goal.returns
returns c =
    let q = seen_program c.args.program.now in
    let words : c.formal_words-words.result ≡ words_of (proc_at q q.main).formals = c.formal_words-words.ensures ∙ ap words_of c.main_formals.ensures in
    ap (λ (k : Need). c.formal_words-words.result + k.locals_words + k.temp) c.need_of-need.ensures
    ∙ temporary_is q c.args.needs.now.procedures.items c.formal_words-words.result c.requires.needs c.requires.fits words
