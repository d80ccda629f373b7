use Rattle.std.proofs.Common.{◌-◌, refl, arith}
use Rattle.quick_generate.proofs.RoomLaws.{call_fits, used_then}
use Rattle.quick_generate.proofs.calls.Calls.activation.Goals as goal

pub overflow_add-result-2 : goal.overflow_add-result-2
overflow_add-result-2 c =
    let h = call_fits c.args.self.now c.args.callee c.requires.table c.requires.there c.args.from c.need_of-need.result c.need_of-need.ensures
    c.requires.room in
    omega (arith, h.1)

pub overflow_add-result-3 : goal.overflow_add-result-3
overflow_add-result-3 c =
    let h = call_fits c.args.self.now c.args.callee c.requires.table c.requires.there c.args.from c.need_of-need.result c.need_of-need.ensures
    c.requires.room in
    omega (arith, h.0)

pub returns-clause-used : goal.returns-clause-used
returns-clause-used c =
    used_then c.args.self.now c.args.callee c.requires.table c.requires.there c.args.from _ _ (c.args.from.calls - 1)
    c.need_of-need.result c.need_of-need.ensures refl refl
