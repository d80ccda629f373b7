-- The quick image of a source in the smallest window that has room for it, if there is one.
use Rattle.std.specs.Prelude.{◌≡◌, ℕ, ◌+◌, ◌-◌, ◌*◌, ◌^◌, ◌<◌, nat_le, length, if◌then◌else◌, List, [], ◌∷◌, ◌++◌, take, get_or, Option}
use Rattle.std.specs.Prelude.{Some, None}
use Rattle.stack_text.specs.declared.shape.Shape.{Shape}
use Rattle.fm_words.specs.WindowLimit.{most_window}
use Rattle.fm_image.specs.Image.{ImageOf}
use Rattle.gypsy_syntax.specs.{Programs.{Proc, Stmt, proc_at, shapes_of, words_of}, ProgramFits.{Each}, Resolved.{program_of}}
use Rattle.gypsy_syntax.specs.{Sources.{SourceOf}, ValuesFit.{ValueFits}}
use Rattle.gypsy_space.specs.Needs.{StackSizes}
use Rattle.stack_build.specs.Formals.{shown_formals, shown_conditions}
use Rattle.quick_gypsy.specs.{Layout.{Layout}, Quick.{IsPlain, size, quick}}
use Rattle.quick_build.specs.QuickImage.{exit_numbers, exit_place, exits_code, layout_in, quick_image_with, quick_main}
use Rattle.quick_generate.specs.{Choice.{chosen_of}, Lining.{is_lined}}

-- 1. Parts, by what the code has at hand.

-- the registers, if the chosen variables are of these shapes and the code begins at start
abbrev pub registers_by : List ℕ → List Shape → ℕ → ℕ → List ℕ
registers_by vs shapes end start =
    let top = end - words_of shapes in
    let at : ℕ → ℕ = λ j. end - 1 - words_of (take (get_or vs j 0) shapes) in
    0 ∷ top ∷ top ∷ 0 ∷ 0 ∷ at 0 ∷ at 1 ∷ at 2 ∷ at 3 ∷ at 4 ∷ at 5 ∷ at 6 ∷ at 7 ∷ at 8 ∷ at 9 ∷ start ∷ []

-- where main's body begins, and the place behind it, if there are exits for so many formal conditions
abbrev pub start_by : ℕ → ℕ → ℕ
start_by base conds = base + 6 * (2 + conds)

abbrev pub final_by : Layout → ℕ → ℕ → Stmt → ℕ
final_by L base conds s = start_by base conds + size L s

-- the exits and the body, if the condition's word stands behind the word that ends the code
abbrev pub words_by : Layout → ℕ → ℕ → Stmt → List ℕ
words_by L base conds s =
    let final = final_by L base conds s in
    exits_code (final + 1) final (exit_numbers conds) ++ quick L (exit_place base conds) (start_by base conds) s

-- 2. The smallest window.

-- the code, the word that ends it, the condition's word, and the variables; how long the code is doesn't depend on where the window ends
abbrev pub image_size : List ℕ → Proc → ℕ
image_size vs p = 6 * (2 + p.conds) + size (layout_in vs p 0) p.body + (2 + words_of (shapes_of p))

abbrev pub window_end : List ℕ → Proc → ℕ → ℕ
window_end vs p base = base + image_size vs p

-- 3. What there is of a source.

abbrev pub main_proc : SourceOf → Proc
main_proc s = proc_at (program_of s) (program_of s).main

-- a procedure that can stand for main in an image: it has main's formals and conditions, and calls nothing
pub record StandsForMain (s : SourceOf) (p : Proc) : Type 0 where
  pub formals : p.formals ≡ (main_proc s).formals
  pub conds : p.conds ≡ (main_proc s).conds
  pub locals : Each ValueFits p.locals
  pub plain : IsPlain (shapes_of p) p.body
  pub few : length (shapes_of p) < 2 ^ 31
  pub words : words_of (shapes_of p) < 2 ^ 31

-- its image, if registers hold the addresses of these variables
abbrev pub whole_image : List ℕ → SourceOf → Proc → ℕ → ℕ → ImageOf
whole_image vs s p base end = quick_image_with vs (shown_formals s) (shown_conditions s) p base end

-- in the smallest window from base on, if that has at most 2^20 words
unfoldable pub small_image : List ℕ → SourceOf → Proc → ℕ → Option ImageOf
small_image vs s p base =
    if nat_le (image_size vs p) most_window then Some (whole_image vs s p base (window_end vs p base)) else None

-- main with its calls in line, if that isn't too much
unfoldable pub main_found : SourceOf → StackSizes → Option Proc
main_found s sizes = if is_lined s sizes then Some (quick_main s sizes) else None

-- the image of what is found, in which the variables have registers that are named most
abbrev pub image_found : SourceOf → ℕ → Option Proc → Option ImageOf
image_found s base None = None
image_found s base (Some p) = small_image (chosen_of p) s p base

unfoldable pub quick_of : SourceOf → StackSizes → ℕ → Option ImageOf
quick_of s sizes base = image_found s base (main_found s sizes)
