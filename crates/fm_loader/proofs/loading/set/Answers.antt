use Rattle.std.proofs.Common.{ap}
use Rattle.fm_machine.specs.State.{MachineOf}
use Rattle.fm_loader.proofs.StoreLaws.{is_set, on_err}
use Rattle.fm_loader.proofs.loading.set.Goals as goal

pub returns : goal.returns
returns c =
    is_set c.args.machine.now.state c.poke.new.self.state c.args.base c.args.address c.args.word c.poke.result c.requires.base c.requires.above
    c.poke.ensures.ok (on_err c.poke.result c.poke.ensures.unchanged (ap (λ (m : MachineOf). m.state))) c.poke.ensures.err
