use Rattle.gypsy_meaning.proofs.ReadyLaws.{call_lent, call_sized}
use Rattle.gypsy_meaning.proofs.running.Meaning.call.Goals as goal

pub make_call-requires-clause-sized : goal.make_call-requires-clause-sized
make_call-requires-clause-sized g c =
    call_sized c.args.needs.now.procedures.items c.args.self.now c.args.site.value c.requires.turn.0 c.requires.ready c.requires.turn.1

pub make_call-requires-clause-lent : goal.make_call-requires-clause-lent
make_call-requires-clause-lent g c =
    call_lent c.args.needs.now.procedures.items c.args.self.now c.args.site.value c.requires.turn.0 c.requires.ready c.requires.turn.1
