use Rattle.std.proofs.Common.{◌≡◌, ◌++◌, ◌∷◌, [], ap, ◌∙◌, append_assoc}
use Rattle.piton_check.{specs.Resolved.ResolvedOf, specs.Instruction.system_view}
use Rattle.piton_semantics.{specs.Fits.system_in, specs.State.program_of, specs.Addresses.numbers, specs.Placed.addresses_of}
use Rattle.piton_linker.proofs.memory.append_frame.Goals as goal

pub returns : goal.returns
returns g c =
    let s = system_in c.args.checked.now in
    let old = c.args.words.now.items in
    let f = c.args.final_pc in
    let ts = numbers (addresses_of s) (program_of s s.main).temporaries in
    let first : c.append_words.new.words.items ≡ old ++ ts =
    c.in_ok-append_words.ensures
    ∙ ap (λ (u : ResolvedOf). old ++ numbers (addresses_of (system_view u)) c.main_temporaries.result.now) c.resolved.ensures.value
    ∙ ap (λ ws. old ++ numbers (addresses_of s) ws) c.main_temporaries.ensures in
    c.in_ok-push-2.ensures.items
    ∙ ap (λ ws. ws ++ f ∷ []) (c.in_ok-push.ensures.items ∙ ap (λ ws. ws ++ 0 ∷ []) first)
    ∙ append_assoc (old ++ ts) (0 ∷ []) (f ∷ [])
    ∙ append_assoc old ts (0 ∷ f ∷ [])
    ∙ ap (λ n. old ++ (ts ++ 0 ∷ n ∷ [])) c.requires.final_pc
