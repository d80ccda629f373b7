use Rattle.std.proofs.Common.{Option, map, ap, sym, ◌∙◌}
use Rattle.gypsy_space.{specs.Costs.start_tally, specs.Nodes.seen_program}
use Rattle.gypsy_meaning.{specs.Views.Running.{frames_in, seen, stage_by}, specs.declared.running.Ending.Ending}
use Rattle.gypsy_semantics.specs.Views.RunView.{place_at}
use Rattle.gypsy_meaning.proofs.running.Meaning.place.Goals as goal

pub returns-in-None : goal.returns-in-None
unfolding seen
returns-in-None c =
    let m = c.args.self.now in
    c.work_place.ensures (map (λ v. v.1) m.variables.items) (frames_in m) start_tally
    ∙ ap (λ (o : Option Ending). place_at (seen_program m.program) (stage_by o m)) (sym c.in-None.is)
