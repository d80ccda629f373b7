use Rattle.std.proofs.Common.{◌≡◌, sym, ◌∙◌}
use Rattle.gypsy_syntax.specs.Views.SourceView.{source_of}
use Rattle.gypsy_meaning.{specs.Views.Running.seen, proofs.StepLaws.{any_err, does_belongs, does_step, not_over, over_stays, ready, unchanged_belongs}}
use Rattle.gypsy_meaning.proofs.StepLaws.{unchanged_seen}
use Rattle.gypsy_meaning.proofs.running.Meaning.step.Goals as goal

pub returns-then-ended-clause-answer : goal.returns-then-ended-clause-answer
returns-then-ended-clause-answer g c = (over_stays c.args.self.now (sym c.ended.ensures ∙ c.if-ended.true)).answer_is

pub returns-then-ended-clause-left : goal.returns-then-ended-clause-left
returns-then-ended-clause-left g c = (over_stays c.args.self.now (sym c.ended.ensures ∙ c.if-ended.true)).left

pub move_on-requires : goal.move_on-requires
move_on-requires g c =
    ready (source_of c.args.accepted.now) c.args.needs.now.procedures.items c.args.self.now c.requires
    (not_over c.args.self.now (sym c.ended.ensures ∙ c.if-ended.false))

pub returns-in_err-moved-clause-unchanged : goal.returns-in_err-moved-clause-unchanged
returns-in_err-moved-clause-unchanged g c =
    any_err c.from_residual.result (seen c.move_on.new.self ≡ seen c.args.self.now)
    (unchanged_seen c.args.self.now c.move_on.new.self c.in_err-moved.ensures.unchanged)

pub returns-in_err-moved-clause-belongs : goal.returns-in_err-moved-clause-belongs
returns-in_err-moved-clause-belongs g c =
    unchanged_belongs (source_of c.args.accepted.now) c.args.needs.now.procedures.items c.args.self.now c.requires c.move_on.new.self
    c.in_err-moved.ensures.unchanged

pub returns-clause-answer : goal.returns-clause-answer
returns-clause-answer g c =
    (does_step (source_of c.args.accepted.now) c.args.needs.now.procedures.items c.args.self.now c.requires
    (not_over c.args.self.now (sym c.ended.ensures ∙ c.if-ended.false)) c.move_on.new.self c.in_ok-moved.moved c.in_ok-moved.ensures.done).answer_is

pub returns-clause-left : goal.returns-clause-left
returns-clause-left g c =
    (does_step (source_of c.args.accepted.now) c.args.needs.now.procedures.items c.args.self.now c.requires
    (not_over c.args.self.now (sym c.ended.ensures ∙ c.if-ended.false)) c.move_on.new.self c.in_ok-moved.moved c.in_ok-moved.ensures.done).left

pub returns-clause-belongs : goal.returns-clause-belongs
returns-clause-belongs g c =
    does_belongs (source_of c.args.accepted.now) c.args.needs.now.procedures.items c.args.self.now c.requires
    (not_over c.args.self.now (sym c.ended.ensures ∙ c.if-ended.false)) c.move_on.new.self c.in_ok-moved.moved c.in_ok-moved.ensures.done
