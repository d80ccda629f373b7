use Rattle.std.proofs.Common.{◌∙◌, sym, subst}
use Rattle.piton_semantics.specs.Fits.{system_in}
use Rattle.piton_linker.specs.Layouts.{IsFaultUnless}
use Rattle.stack_commands.proofs.LinkedLaws.{small_stored, large_stored, large_reply}
use Rattle.stack_commands.proofs.pbuild.link_system.Goals as goal

pub returns-in-Err-Large-clause-stored : goal.returns-in-Err-Large-clause-stored
returns-in-Err-Large-clause-stored g c =
    let system = system_in c.args.checked.now in
    let fault = subst (IsFaultUnless (g.H.Heap.may_refuse c.args.heap) system) c.in-Err-Large.field-0-is c.in-Err-Large.ensures.fault in
    c.verdict_alone.ensures.stored ∙ sym (large_stored system c.in-Err-Large.need fault)

pub returns-in-Err-Large-clause-reply : goal.returns-in-Err-Large-clause-reply
returns-in-Err-Large-clause-reply g c =
    let system = system_in c.args.checked.now in
    let fault = subst (IsFaultUnless (g.H.Heap.may_refuse c.args.heap) system) c.in-Err-Large.field-0-is c.in-Err-Large.ensures.fault in
    c.verdict_alone.ensures.reply ∙ sym (large_reply system c.in-Err-Large.need fault)

pub returns-in-Ok-clause-stored : goal.returns-in-Ok-clause-stored
returns-in-Ok-clause-stored g c =
    rw (small_stored (system_in c.args.checked.now) c.in-Ok.ensures.small, ← c.in-Ok.ensures.image) c.holds_image.ensures.stored

pub returns-in-Err-Memory-clause-stored : goal.returns-in-Err-Memory-clause-stored
returns-in-Err-Memory-clause-stored g c = rw c.in-Err-Memory.field-0-is at c.in-Err-Memory.ensures.fault
