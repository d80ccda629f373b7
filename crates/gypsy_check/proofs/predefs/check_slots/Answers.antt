use Rattle.std.{proofs.Common.{None, List, map, refl, ap, sym, ◌∙◌, arith}, specs.List.{flat_map, list_any}, proofs.lemmas.List.take_all}
use Rattle.stack_text.{specs.Breaches.lesser_of, proofs.BreachLaws.{notes_more, notes_next, notes_none}}
use Rattle.gypsy_syntax.{specs.declared.statement.Arg.Arg, specs.Views.SourceView.{arg_of, proc_of}}
use Rattle.gypsy_check.{specs.Arguments.is_undeclared, specs.Rules.{argument_breaches, declared_breaches, slots_breaches}, proofs.NoteLaws.{noted, slots_step}}
use Rattle.gypsy_check.proofs.NoteLaws.{slots_done, any_next, lacking, all_declared_here}
use Rattle.gypsy_check.proofs.predefs.check_slots.Goals as goal

pub loop-index-preserved : goal.loop-index-preserved
loop-index-preserved c =
    let p = proc_of c.args.scope.now in
    let args = c.args.args.now in
    let slots = c.args.slots.now in
    let i = c.loop-index.index in
    let lt = c.loop-index-test.true in
    let arg = c.index-args-index.result in
    let arg_is = c.index-args-index.is in
    let so_far = c.loop-index.invariant in
    let judged = c.judge_argument-kind in
    let all = noted None (slots_breaches p None slots (map arg_of args)) in (
      notes_next (λ (a : Arg). argument_breaches p (arg_of a)) args i arg
          c.args.best.now c.loop-index.best judged.new.best lt arg_is so_far.0 judged.ensures.noted,
      slots_step p c.loop-index.unwanted c.note_if.new.best all slots args i c.slot_at-slot.result arg
          c.loop-index.settled c.settled_by-settled.result judged.result.0 c.is_wanted-wanted.result c.arg_place-place.result
          lt (omega (arith, c.requires, lt)) arg_is c.slot_at-slot.ensures judged.ensures.kind c.is_wanted-wanted.ensures
          c.arg_place-place.ensures c.settled_by-settled.ensures so_far.1 c.note_if.ensures,
      any_next (λ (a : Arg). is_undeclared p (arg_of a)) args i arg
          c.loop-index.lacks_declaration judged.result.1 _ lt arg_is so_far.2 judged.ensures.undeclared refl,
    )

pub returns-then-not-lacks_declaration : goal.returns-then-not-lacks_declaration
returns-then-not-lacks_declaration c =
    let p = proc_of c.args.scope.now in
    let args = c.args.args.now in
    let slots = c.args.slots.now in
    let i = c.loop-index.index in
    let alone = λ (xs : List Arg). flat_map (λ (a : Arg). argument_breaches p (arg_of a)) xs in
    let so_far = c.loop-index.invariant in
    let ended = c.loop-index-test.false in
    let all = take_all i args ended in
    let none_lacks = sym so_far.2 ∙ c.if-not-lacks_declaration.true in
    let wanted = noted None (slots_breaches p None slots (map arg_of args)) in
    let unwanted = slots_done p c.loop-index.unwanted wanted slots args i c.loop-index.settled ended so_far.1 in
    let lacks = ap (list_any (λ (a : Arg). is_undeclared p (arg_of a))) all in
    let declared = all_declared_here p slots args (sym lacks ∙ none_lacks) in
    notes_more c.args.best.now c.loop-index.best c.note_found.new.best (alone args) (declared_breaches p slots (map arg_of args))
    (so_far.0 ∙ ap (λ xs. noted c.args.best.now (alone xs)) all)
    (c.note_found.ensures ∙ ap (lesser_of c.loop-index.best) unwanted ∙ ap (noted c.loop-index.best) (sym declared))

pub returns-else-not-lacks_declaration : goal.returns-else-not-lacks_declaration
returns-else-not-lacks_declaration c =
    let p = proc_of c.args.scope.now in
    let args = c.args.args.now in
    let slots = c.args.slots.now in
    let alone = λ (xs : List Arg). flat_map (λ (a : Arg). argument_breaches p (arg_of a)) xs in
    let so_far = c.loop-index.invariant in
    let all = take_all c.loop-index.index args c.loop-index-test.false in
    let lacks = sym (ap (list_any (λ (a : Arg). is_undeclared p (arg_of a))) all) ∙ sym so_far.2 ∙ c.if-not-lacks_declaration.false in
    notes_more c.args.best.now c.loop-index.best c.loop-index.best (alone args) (declared_breaches p slots (map arg_of args))
    (so_far.0 ∙ ap (λ xs. noted c.args.best.now (alone xs)) all)
    (notes_none c.loop-index.best ∙ ap (noted c.loop-index.best) (sym (lacking p slots args lacks)))
