use Rattle.std.proofs.Common.{◌+◌, [], ◌∷◌, map, pos, None, Some}
use Rattle.piton_syntax.specs.declared.argument.ArgText.TheVariants as arg
use Rattle.piton_syntax.specs.declared.op.PitonOp.TheVariants as op
use Rattle.gypsy_syntax.specs.Programs.{Routine, Space, proc_at}
use Rattle.gypsy_space.{specs.Needs.local_words, specs.Nodes.{seen_program, seen_cond}}
use Rattle.gypsy_predef.specs.Texts.{instruction, of_name, condition_area, number}
use Rattle.gypsy_codegen.{specs.WordsOf.number_of, specs.Lines.{label_to, marked_raises, raise_labels}, specs.Internal.Views.{env, names_of, raise_text}}
use Rattle.gypsy_codegen.{specs.Written.label_arg, proofs.CodeLaws.after_is}
use Rattle.gypsy_codegen.proofs.calls.after_call.Goals as goal

pub returns : goal.returns
returns g c =
    let context = c.args.context.now in
    let q = seen_program context.program.now in
    let scopes = env c.args.scopes.now in
    let l = c.args.first in
    let conds = map seen_cond c.args.site.now.conds.items in
    let popped = c.in_ok-of_number.ensures in
    let jumped = c.in_ok-jump_by_condition.ensures in
    let others = c.in_ok-raises.ensures in
    after_is (names_of context) (marked_raises q context.procedure scopes (l + 3) conds) (l + 1)
    c.args.emitter.now c.of_number.new.self c.area.new.self c.jump_by_condition.new.emitter c.raise.new.emitter
    c.raise-2.new.emitter c.raises.new.emitter c.plain.new.self
    (instruction None op.PopStar (arg.Number (number (pos (local_words (proc_at q c.args.site.now.callee)))) ∷ [])) (of_name op.PushGlobal condition_area)
    (instruction None op.JumpCase (map label_arg (l ∷ l ∷ (l + 1) ∷ (l + 2) ∷ raise_labels (l + 3) conds)))
    (raise_text (Some l) (number_of Routine) (label_to q context.procedure scopes Routine))
    (raise_text (Some (l + 2)) (number_of Space) (label_to q context.procedure scopes Space))
    (rw c.callee_words-words.ensures at popped) c.in_ok-area.ensures (rw c.as_slice.ensures.value at jumped) c.in_ok-raise.ensures c.in_ok-raise-2.ensures
    (rw c.as_slice-2.ensures.value at others) c.in_ok-plain.ensures
