use Rattle.std.{proofs.Common.{◌≡◌, ◌-◌, ◌++◌, ◌∷◌, [], ℕ, reverse, ap, ◌∙◌, arith}, specs.Prelude.replicate}
use Rattle.fm_code.specs.InstructionWords.{halt_word}
use Rattle.piton_semantics.{specs.Fits.system_in, specs.Addresses.numbers, specs.Placed.{first_frame, first_frame_at, first_top, ctrl_start, temp_start}}
use Rattle.piton_semantics.{specs.Placed.addresses_of, specs.Templates.programs_words}
use Rattle.piton_linker.{specs.Tables.areas_words, proofs.DataLaws.assembled}
use Rattle.piton_linker.proofs.memory.memory.Goals as goal

pub returns : goal.returns
returns g c =
    let s = system_in c.args.checked.now in
    let code = programs_words (addresses_of s) 0 s.programs in
    let areas = areas_words s s.areas in
    let gap = replicate {A = ℕ} (first_frame_at s - ctrl_start s) 0 in
    let frame = first_frame s in
    let free = replicate {A = ℕ} (first_top s - temp_start s) 0 in
    let stack = numbers (addresses_of s) (reverse s.stack) in
    let below : c.ctrl_gap.result ≡ first_frame_at s - ctrl_start s = omega (arith, c.ctrl_gap.ensures) in
    let empty : c.temp_gap.result ≡ first_top s - temp_start s = omega (arith, c.temp_gap.ensures) in
    let one : c.push.new.items.items ≡ code ++ halt_word ∷ [] =
    c.in_ok-push.ensures.items ∙ ap (λ ws. ws ++ halt_word ∷ []) c.requires.code in
    let two : c.append_data.new.words.items ≡ (code ++ halt_word ∷ []) ++ areas = c.in_ok-append_data.ensures ∙ ap (λ ws. ws ++ areas) one in
    let three : c.append_zeros.new.words.items ≡ ((code ++ halt_word ∷ []) ++ areas) ++ gap =
    c.in_ok-append_zeros.ensures ∙ (λ t. two t ++ replicate (below t) 0) in
    let four : c.append_frame.new.words.items ≡ (((code ++ halt_word ∷ []) ++ areas) ++ gap) ++ frame =
    c.in_ok-append_frame.ensures ∙ ap (λ ws. ws ++ frame) three in
    let five : c.append_zeros-2.new.words.items ≡ ((((code ++ halt_word ∷ []) ++ areas) ++ gap) ++ frame) ++ free =
    c.in_ok-append_zeros-2.ensures ∙ (λ t. four t ++ replicate (empty t) 0) in
    c.in_ok-append_stack.ensures ∙ ap (λ ws. ws ++ stack) five ∙ assembled code areas gap frame free stack halt_word
