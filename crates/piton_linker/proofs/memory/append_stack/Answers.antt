use Rattle.std.proofs.Common.{◌≡◌, ◌++◌, reverse, ap, ◌∙◌}
use Rattle.piton_check.{specs.Resolved.ResolvedOf, specs.Instruction.system_view}
use Rattle.piton_semantics.{specs.Addresses.numbers, specs.Placed.addresses_of}
use Rattle.piton_linker.proofs.memory.append_stack.Goals as goal

pub returns : goal.returns
returns g c =
    let r = c.resolved-resolved.result.now in
    let old = c.args.words.now.items in
    let stack : c.as_slice.result.now ≡ r.stack = c.as_slice.ensures.value ∙ ap (λ (u : ResolvedOf). u.stack) c.resolved.view_is in
    c.in_ok-append_reversed.ensures
    ∙ ap (λ ws. old ++ numbers (addresses_of (system_view r)) (reverse ws)) stack
    ∙ ap (λ (u : ResolvedOf). old ++ numbers (addresses_of (system_view u)) (reverse u.stack)) c.resolved-resolved.ensures.value
