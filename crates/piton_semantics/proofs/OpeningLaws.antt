-- The machine with the placed words stands for the opening state.
use Rattle.std.proofs.Common.{◌≡◌, ℕ, ◌+◌, ◌-◌, ◌≤◌, Some, None, List, [], ◌∷◌, ◌++◌, length, map, reverse, refl, ap, ◌∙◌, subst, arith, length-append}
use Rattle.std.{specs.Prelude.{if◌then◌else◌, slice_get, replicate}, proofs.lemmas.Bool.le-ltb, proofs.lemmas.List.{append_assoc, append-nil, length-replicate}}
use Rattle.std.proofs.lemmas.List.{length-reverse}
use Rattle.fm_machine.specs.State.{word_at}
use Rattle.fm_code.{specs.Areas.joined, specs.Execution.Holds, specs.InstructionWords.halt_word}
use Rattle.piton_words.specs.declared.word.Word.{Word}
use Rattle.piton_check.specs.Instruction.{SystemView}
use Rattle.piton_semantics.{specs.State.program_of, specs.Fits.IsWellFormed, specs.StateView.started, specs.Addresses.numbers, specs.Placed.final_pc_of}
use Rattle.piton_semantics.specs.Placed.{areas_start, ctrl_start, temp_start, addresses_of, code_of, first_frame, first_frame_at, first_top, words_with, loaded}
use Rattle.piton_semantics.{specs.Stands.Stands, proofs.SizeLaws.{length-numbers, length-programs_words, length-areas}}

got : (front : List ℕ) (w : ℕ) (back : List ℕ) → slice_get (front ++ w ∷ back) (length front) ≡ Some w
got [] w back = refl
got (x ∷ front) w back = got front w back

word_there : (base : ℕ) (memory : List ℕ) (a k w : ℕ) → a ≡ base + k → slice_get memory k ≡ Some w → word_at base memory a ≡ Some w
unfolding word_at
word_there base memory a k w e h =
    let above : base ≤ a = omega arith in
    let at : a - base ≡ k = omega arith in
    ap (λ b. if b then None else slice_get memory (a - base)) (le-ltb a base above) ∙ ap (slice_get memory) at ∙ h

-- words that stand in a memory behind others
holds_of : (base : ℕ) (front ws back : List ℕ) (a : ℕ) → a ≡ base + length front → Holds base (front ++ (ws ++ back)) a ws
holds_of base front [] back a e = tt
holds_of base front (w ∷ ws) back a e =
    let next : a + 1 ≡ base + length (front ++ w ∷ []) = omega (arith, length-append front (w ∷ [])) in (
      word_there base (front ++ w ∷ (ws ++ back)) a (length front) w e (got front w (ws ++ back)),
      subst (λ m. Holds base m (a + 1) ws) (append_assoc front (w ∷ []) (ws ++ back)) (holds_of base (front ++ w ∷ []) ws back (a + 1) next),
    )

holds_in : (base : ℕ) (memory front ws back : List ℕ) (a : ℕ) → a ≡ base + length front → front ++ (ws ++ back) ≡ memory → Holds base memory a ws
holds_in base memory front ws back a e same = subst (λ m. Holds base m a ws) same (holds_of base front ws back a e)

pub opening_stands : (s : SystemView) (stack : List Word) → IsWellFormed s → length stack ≡ length s.stack → Stands s (loaded s stack) (started s stack)
opening_stands s stack sound same =
    let A = addresses_of s in
    let code = code_of s in
    let areas = joined (map (numbers A) s.areas) in
    let gap = replicate {A = ℕ} (first_frame_at s - ctrl_start s) 0 in
    let frame = first_frame s in
    let gap' = replicate {A = ℕ} (first_top s - temp_start s) 0 in
    let top = numbers A (reverse stack) in
    let temporaries = (program_of s s.main).temporaries in
    let front1 = code ++ halt_word ∷ [] in
    let front2 = front1 ++ areas in
    let front3 = front2 ++ gap in
    let front4 = front3 ++ frame in
    let front5 = front4 ++ gap' in
    let whole = words_with s stack in
    let is1 : front1 ++ (areas ++ (gap ++ (frame ++ (gap' ++ top)))) ≡ whole =
    append_assoc code (halt_word ∷ []) (areas ++ (gap ++ (frame ++ (gap' ++ top)))) in
    let is2 : front2 ++ (gap ++ (frame ++ (gap' ++ top))) ≡ whole = append_assoc front1 areas (gap ++ (frame ++ (gap' ++ top))) ∙ is1 in
    let is3 : front3 ++ (frame ++ (gap' ++ top)) ≡ whole = append_assoc front2 gap (frame ++ (gap' ++ top)) ∙ is2 in
    let is4 : front4 ++ (gap' ++ top) ≡ whole = append_assoc front3 frame (gap' ++ top) ∙ is3 in
    let is5 : front5 ++ top ≡ whole = append_assoc front4 gap' top ∙ is4 in
    let is6 : front5 ++ (top ++ []) ≡ whole = ap (λ ws. front5 ++ ws) (append-nil top) ∙ is5 in
    let code_size = length-programs_words A 0 s.programs in
    let areas_size = length-areas A s.areas in
    let gap_size = length-replicate {A = ℕ} (first_frame_at s - ctrl_start s) 0 in
    let gap_size' = length-replicate {A = ℕ} (first_top s - temp_start s) 0 in
    let locals_size = length-numbers A temporaries in
    let frame_size = length-append (numbers A temporaries) (0 ∷ final_pc_of s ∷ []) in
    let top_size = length-numbers A (reverse stack) ∙ length-reverse stack in
    let size1 = length-append code (halt_word ∷ []) in
    let size2 = length-append front1 areas in
    let size3 = length-append front2 gap in
    let size4 = length-append front3 frame in
    let size5 = length-append front4 gap' in
    let size6 = length-append front5 top in
    let main_fits = sound.main_fits in
    let stack_fits = sound.stack_fits in
    record {
      is = record {
        base_is = refl;
        sixteen = refl;
        r0_is = omega arith;
        r15_is = refl;
        laid = record {
          size = omega (arith, ap length is5);
          code = holds_in s.base whole [] front1 (areas ++ (gap ++ (frame ++ (gap' ++ top)))) s.base (omega arith) is1;
          areas_at = holds_in s.base whole front1 areas (gap ++ (frame ++ (gap' ++ top))) (areas_start s) (omega arith) is1;
          ctrl_at = holds_in s.base whole front3 frame (gap' ++ top) (first_frame_at s) (omega arith) is3;
          temp_at = holds_in s.base whole front5 top [] (first_top s) (omega arith) is6;
          areas_fit = omega arith;
          ctrl_fits = omega arith;
          ctrl_end = omega arith;
          temp_fits = omega arith;
          temp_end = omega arith;
        };
      };
    }
