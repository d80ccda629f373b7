-- The examples, computed.
use Rattle.std.{proofs.Common.{◌≡◌, ◌+◌, ℕ, List, [], ◌∷◌, Option, Some, None, refl, ap, ◌∙◌}, specs.Prelude.{pos, nat_le, if◌then◌else◌}}
use Rattle.stack_text.specs.Values.{ValueOf}
use Rattle.fm_image.specs.Image.{ImageOf}
use Rattle.gypsy_syntax.{specs.Effects.integer_value, specs.Predefined.{predef_effect, effect_by}, specs.Programs.{Proc, Program}, specs.Resolved.program_of}
use Rattle.gypsy_syntax.specs.Sources.{SourceOf}
use Rattle.gypsy_semantics.specs.Calls.{values_of, target_of}
use Rattle.gypsy_space.specs.Needs.{call_need, has_room, main_used, with_call}
use Rattle.quick_gypsy.specs.InLine.{callee_context, lined_main, main_context}
use Rattle.quick_build.{specs.QuickExamples.{hundred, swap, upto, upto_main}, specs.QuickImage.most_nested, specs.QuickImplements.program_cost}
use Rattle.quick_generate.{specs.Choice.{chosen_of, heaviest}, specs.Example.{SwapIsQuickened, UptoIsQuickened}, specs.Lining.{main_size, most_lined}}
use Rattle.quick_generate.{specs.QuickOf.{image_found, main_found, quick_of, small_image, whole_image, window_end}, specs.Quickened.{counted_by, image_or}}
use Rattle.quick_generate.specs.Quickened.{quick_count, quickened}

-- main in line, by the program
abbrev line_of : Program → Proc
line_of q = lined_main q hundred most_nested

abbrev found_of : Program → Option Proc
found_of q = if nat_le (main_size q hundred) most_lined then Some (line_of q) else None

-- what is stored, and what it takes
abbrev stored_of : SourceOf → ImageOf → Program → ImageOf
stored_of s plain q = image_or plain (image_found s plain.base (found_of q))

stored_is : (s : SourceOf) (plain : ImageOf) → quickened s hundred plain ≡ stored_of s plain (program_of s)
unfolding quickened quick_of main_found
stored_is s plain = refl

abbrev count_of : Program → List ValueOf → ℕ → Option ℕ
count_of q v n = Some (program_cost (chosen_of (line_of q)) q hundred (window_end (chosen_of (line_of q)) (line_of q) 0) v n)

counts : (s : SourceOf) (q : Program) (image : ImageOf) (v : List ValueOf) (n : ℕ) → program_of s ≡ q → image_found s 0 (found_of q) ≡ Some image
    → quick_count s hundred 0 v n ≡ count_of q v n
unfolding quick_count quick_of main_found
counts s q image v n is there =
    ap (counted_by s hundred 0 v n) (ap (λ (p : Program). image_found s 0 (found_of p)) is ∙ there) ∙ ap (λ (p : Program). count_of p v n) is

-- counting/upto
upto_stored : (s : SourceOf) (plain : ImageOf)
    → stored_of s plain upto ≡ whole_image (chosen_of upto_main) s upto_main plain.base (plain.base + 38)
unfolding chosen_of heaviest small_image main_context main_used
upto_stored s plain = refl

upto_there : (s : SourceOf) → image_found s 0 (found_of upto) ≡ Some (whole_image (chosen_of upto_main) s upto_main 0 38)
unfolding chosen_of heaviest small_image main_context main_used
upto_there s = refl

upto_counted : count_of upto (integer_value (pos 5) ∷ integer_value (pos 0) ∷ []) 7 ≡ Some 63
unfolding predef_effect effect_by values_of target_of main_context main_used chosen_of heaviest
upto_counted = refl

pub upto_is_quickened : UptoIsQuickened
unfolding chosen_of heaviest
upto_is_quickened = record {
  chosen = refl;
  stored = λ s plain is. stored_is s plain ∙ ap (stored_of s plain) is ∙ upto_stored s plain;
  counted = λ s is. counts s upto _ _ 7 is (upto_there s) ∙ upto_counted;
}

-- calls/swap
swap_stored : (s : SourceOf) (plain : ImageOf)
    → stored_of s plain swap ≡ whole_image (2 ∷ 0 ∷ 1 ∷ []) s (line_of swap) plain.base (plain.base + 22)
unfolding chosen_of heaviest small_image main_context main_used has_room with_call call_need callee_context
swap_stored s plain = refl

swap_there : (s : SourceOf) → image_found s 0 (found_of swap) ≡ Some (whole_image (2 ∷ 0 ∷ 1 ∷ []) s (line_of swap) 0 22)
unfolding chosen_of heaviest small_image main_context main_used has_room with_call call_need callee_context
swap_there s = refl

swap_counted : count_of swap (integer_value (pos 3) ∷ integer_value (pos 4) ∷ []) 3 ≡ Some 4
unfolding predef_effect effect_by values_of target_of main_context main_used chosen_of heaviest has_room with_call call_need callee_context
swap_counted = refl

pub swap_is_quickened : SwapIsQuickened
swap_is_quickened = record {
  stored = λ s plain is. stored_is s plain ∙ ap (stored_of s plain) is ∙ swap_stored s plain;
  counted = λ s is. counts s swap _ _ 3 is (swap_there s) ∙ swap_counted;
}
