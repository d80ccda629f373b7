-- The machine that is loaded with the image of a placed system and with values is the placed one with the values on its stack.
use Rattle.std.proofs.Common.{◌≡◌, ◌+◌, ◌-◌, ◌≤◌, ℕ, List, [], ◌∷◌, ◌++◌, length, map, sym, ap, ◌∙◌, arith, append_assoc, length-append}
use Rattle.std.{specs.Prelude.replicate, proofs.Math.ListN.length-reverse_aux}
use mathlib.Core.List.{reverse_aux}
use Rattle.stack_text.specs.Values.{ValueOf}
use Rattle.fm_words.specs.Code.{no_flags}
use Rattle.fm_code.{specs.Areas.joined, specs.InstructionWords.halt_word}
use Rattle.fm_loader.specs.Loaded.{with_values}
use Rattle.fm_loader.specs.Loaded as loader
use Rattle.piton_words.specs.declared.word.Word.{Word}
use Rattle.fm_image.specs.Limits.{Tables}
use Rattle.piton_check.specs.Instruction.{SystemView}
use Rattle.piton_semantics.{specs.Fits.IsWellFormed, specs.Addresses.{word_number, numbers}, specs.Placed.{code_of, addresses_of, first_frame, first_frame_at}}
use Rattle.piton_semantics.{specs.Placed.{first_top, ctrl_start, temp_start, end_of, words_with, placed, loaded}, proofs.SizeLaws.length-placed}
use Rattle.gypsy_syntax.{specs.declared.literal.Decl.Decl, specs.ProgramFits.Each, specs.ValuesFit.{ValueFits, VarsFit}}
use Rattle.gypsy_codegen.{specs.WordsOf.words_of_values, proofs.CopyLaws.each_both}
use Rattle.stack_build.{specs.Image.{slots_from, image_with}, proofs.Laying.{reversed_append, map-reversed}, proofs.Storing.{items_words, split, values_stored}}
use Rattle.stack_build.{specs.Internal.Showing.shapes_in, proofs.Numbers.{values_numbers, each_fits, words_both}, proofs.Windows.all_stand}

-- the words below the stack
abbrev fixed_words : SystemView → List ℕ
fixed_words s =
    code_of s ++ (halt_word ∷ (joined (map (numbers (addresses_of s)) s.areas)
    ++ (replicate (first_frame_at s - ctrl_start s) 0
    ++ (first_frame s
    ++ replicate (first_top s - temp_start s) 0))))

regroup : (a : List ℕ) (h : ℕ) (b c d e n : List ℕ) → a ++ (h ∷ (b ++ (c ++ (d ++ (e ++ n))))) ≡ (a ++ (h ∷ (b ++ (c ++ (d ++ e))))) ++ n
regroup a h b c d e n =
    ap (λ (l : List ℕ). a ++ (h ∷ (b ++ (c ++ l)))) (sym (append_assoc d e n))
    ∙ ap (λ (l : List ℕ). a ++ (h ∷ (b ++ l))) (sym (append_assoc c (d ++ e) n))
    ∙ ap (λ (l : List ℕ). a ++ (h ∷ l)) (sym (append_assoc b (c ++ (d ++ e)) n))
    ∙ sym (append_assoc a (h ∷ (b ++ (c ++ (d ++ e)))) n)

words_split : (s : SystemView) (stack : List Word) → words_with s stack ≡ fixed_words s ++ reverse_aux (numbers (addresses_of s) stack) []
words_split s stack =
    let A = addresses_of s in
    ap
    (λ (n : List ℕ). code_of s ++ (halt_word
    ∷ (joined (map (numbers A) s.areas) ++ (replicate (first_frame_at s - ctrl_start s) 0
    ++ (first_frame s ++ (replicate (first_top s - temp_start s) 0 ++ n))))))
    (map-reversed (word_number A) stack [])
    ∙ regroup (code_of s) halt_word (joined (map (numbers A) s.areas)) (replicate (first_frame_at s - ctrl_start s) 0) (first_frame s)
    (replicate (first_top s - temp_start s) 0) (reverse_aux (numbers A stack) [])

-- a system whose stack has words of these values at its bottom, and values of the same shapes
module _ (s : SystemView) (known : IsWellFormed s) (ds : List Decl) (old new locals : List ValueOf)
    (f : VarsFit (shapes_in ds) old) (g : VarsFit (shapes_in ds) new) (l : Each ValueFits locals) (is : s.stack ≡ words_of_values (old ++ locals)) where
  stack_numbers : (x : List ValueOf) → VarsFit (shapes_in ds) x → numbers (addresses_of s) (words_of_values (x ++ locals)) ≡ items_words x ++ items_words locals
  stack_numbers x h =
      values_numbers (addresses_of s) (x ++ locals) (each_both ValueFits x locals (each_fits (shapes_in ds) x h) l) ∙ words_both x locals

  laid : (x : List ValueOf) → VarsFit (shapes_in ds) x → words_with s (words_of_values (x ++ locals))
      ≡ (fixed_words s ++ reverse_aux (items_words locals) []) ++ reverse_aux (items_words x) []
  laid x h =
      words_split s (words_of_values (x ++ locals))
      ∙ ap (λ (ws : List ℕ). fixed_words s ++ reverse_aux ws []) (stack_numbers x h)
      ∙ ap (λ (ws : List ℕ). fixed_words s ++ ws) (reversed_append (items_words x) (items_words locals) [])
      ∙ split (fixed_words s) (items_words locals) (reverse_aux (items_words x) [])

  memory_is : with_values s.base (slots_from (end_of s - 1) ds) new (words_with s s.stack) ≡ words_with s (words_of_values (new ++ locals))
  memory_is =
      let front : List ℕ = fixed_words s ++ reverse_aux (items_words locals) [] in
      let begin : words_with s s.stack ≡ front ++ reverse_aux (items_words old) [] = ap (words_with s) is ∙ laid old f in
      let long : length (words_with s s.stack) ≡ end_of s - s.base = length-placed s known in
      let parts : length (front ++ reverse_aux (items_words old) []) ≡ length front + length (items_words old) =
      length-append front (reverse_aux (items_words old) []) ∙ omega (arith, length-reverse_aux (items_words old) []) in
      let all : length front + length (items_words old) ≡ end_of s - s.base = sym parts ∙ ap length (sym begin) ∙ long in
      let from_base : s.base ≤ end_of s = omega arith in
      ap (with_values s.base (slots_from (end_of s - 1) ds) new) begin
      ∙ values_stored s.base (end_of s - 1) ds old new front [] f g (address s.base (end_of s) (length front) (length (items_words old)) all from_base)
      ∙ sym (laid new g)
    where
      address : (base end a b : ℕ) → a + b ≡ end - base → base ≤ end → end - 1 ≡ base + a + b - 1
      address base end a b e le = omega arith

  pub image_loaded : (conditions : List (List ℕ)) (tables : Tables) → loader.loaded (image_with ds conditions tables s) new
      ≡ loaded s (words_of_values (new ++ locals))
  image_loaded conditions tables =
      let all = all_stand s.base (placed s).size (placed s).words (length-placed s known) in
      ap (λ (memory : List ℕ). record { base = s.base; registers = (placed s).registers; flags = no_flags; memory = memory })
      (ap (with_values s.base (slots_from (end_of s - 1) ds) new) all ∙ memory_is)
