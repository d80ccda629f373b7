use Rattle.std.proofs.Common.{arith, sym, ◌∙◌}
use Rattle.level_debuggers.{specs.Levels.stands_at, specs.Views.Belonging.level_seen, proofs.ArrivalLaws.{at_none, at_this, passed_by}}
use Rattle.level_debuggers.proofs.level.Level.stands_at_one.Goals as goal

pub returns-then-stands_at : goal.returns-then-stands_at
returns-then-stands_at c =
    at_this (λ there. stands_at there (level_seen c.args.self.now)) c.args.places.now c.loop-place.place-index c.place-item.result _
    c.loop-place-test.true c.place-item.is c.loop-place.invariant (sym c.stands_at.ensures ∙ c.if-stands_at.true)

pub loop-place-preserved : goal.loop-place-preserved
loop-place-preserved c =
    passed_by (λ there. stands_at there (level_seen c.args.self.now)) c.args.places.now c.loop-place.place-index c.place-item.result _
    c.loop-place-test.true c.place-item.is c.loop-place.invariant (sym c.stands_at.ensures ∙ c.if-stands_at.false)

pub returns : goal.returns
returns c =
    at_none (λ there. stands_at there (level_seen c.args.self.now)) c.args.places.now c.loop-place.place-index _ (omega arith) c.loop-place.invariant
