use Rattle.std.{proofs.Common.sym, proofs.lemmas.Option.slice_get-get_or}
use Rattle.level_debuggers.{specs.PitonLevels.local_names, proofs.LocalLaws.{next_local, no_name, no_word}}
use Rattle.level_debuggers.proofs.piton_listing.push_locals.Goals as goal

pub loop-place-preserved : goal.loop-place-preserved
loop-place-preserved g c =
    next_local c.args.system.now (local_names c.args.program.now) c.args.words.now c.loop-place.place c.loop-place.out.items _ c.loop-place.invariant
    c.push_local.new.out.items c.in-Some.name.now _ (sym c.in-Some.ensures) (slice_get-get_or _ _ _ c.loop-place-test.true) c.in_ok-push_local-in-Some.ensures

pub returns : goal.returns
returns g c =
    no_word c.args.system.now (local_names c.args.program.now) c.args.words.now c.loop-place.place c.loop-place.out.items _ c.loop-place.invariant
    c.loop-place-test.false

pub returns-in-None : goal.returns-in-None
returns-in-None g c =
    no_name c.args.system.now (local_names c.args.program.now) c.args.words.now c.loop-place.place c.loop-place.out.items _ c.loop-place.invariant
    (sym c.in-None.ensures)
