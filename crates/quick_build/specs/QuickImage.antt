-- The quick image of a source, with its calls in line.
use Rattle.std.specs.Prelude.{ℕ, zero, suc, ◌+◌, ◌-◌, ◌*◌, ◌==◌, nat_lt, if◌then◌else◌, List, [], ◌∷◌, ◌++◌, map, replicate, reverse, take}
use Rattle.std.specs.Prelude.{get_or, Some}
use Rattle.stack_text.specs.Values.{ValueOf}
use Rattle.fm_code.specs.{Execution.{Parts}, InstructionWords.{halt_word}, Templates.{jump_code}}
use Rattle.fm_image.specs.{Bare.{bare_image}, Image.{ImageOf}}
use Rattle.piton_linker.specs.Layouts.{trimmed}
use Rattle.gypsy_syntax.specs.{Programs.{ConditionOf, Leave, Routine, Space, Declared, Proc, shapes_of, words_of}, Resolved.{program_of}}
use Rattle.gypsy_syntax.specs.{Sources.{SourceOf}, declared.literal.Decl.{Decl}}
use Rattle.gypsy_space.specs.Needs.{StackSizes}
use Rattle.gypsy_codegen.specs.WordsOf.{zero_value}
use Rattle.stack_build.specs.{Formals.{shown_formals, shown_conditions}, Image.{slots_from}}
use Rattle.quick_code.specs.{Access.{Access, Held, Known}, Pieces.{set_area_code}}
use Rattle.quick_gypsy.specs.{Numbers.{numbers_of}, Layout.{Layout}, Quick.{size, quick}, InLine.{lined_main}}

-- 1. Variables. Those of main lie at the window's end, the first word of the first one at the last address. The addresses of the chosen
-- ones, at most ten, are in the registers from 5 on, and stay there.

abbrev pub variable_address : Proc → ℕ → ℕ → ℕ
variable_address p end b = end - 1 - words_of (take b (shapes_of p))

abbrev pub register_table : List ℕ → Proc → ℕ → ℕ → ℕ
register_table vs p end k = variable_address p end (get_or vs (k - 5) 0)

-- by the register from k on that has its address, or by its address
abbrev pub access_from : ℕ → List ℕ → ℕ → ℕ → Access
access_from k [] b address = Known address
access_from k (v ∷ vs) b address = if v == b then Held k else access_from (suc k) vs b address

abbrev pub access_to : List ℕ → Proc → ℕ → ℕ → Access
access_to vs p end b = access_from 5 vs b (variable_address p end b)

abbrev pub layout_in : List ℕ → Proc → ℕ → Layout
layout_in vs p end = record { end = end; shapes = shapes_of p; access = access_to vs p end }

-- the address of the word that tells the condition, below the variables
abbrev pub condition_cell : Proc → ℕ → ℕ
condition_cell p end = end - words_of (shapes_of p) - 1

-- 2. Code: first an exit for each condition that main may end with, and then main's body, whose end is the image's final program counter.

abbrev pub declared_numbers : ℕ → ℕ → List ℕ
declared_numbers from zero = []
declared_numbers from (suc n) = from ∷ declared_numbers (suc from) n

-- routineerror, spaceerror, and the formal conditions
abbrev pub exit_numbers : ℕ → List ℕ
exit_numbers conds = 1 ∷ 3 ∷ declared_numbers 4 conds

-- the number is stored, and a jump to the end
abbrev pub exit_code : ℕ → ℕ → ℕ → List ℕ
exit_code cc final n = set_area_code cc n ++ jump_code final

abbrev pub exits_code : ℕ → ℕ → List ℕ → List ℕ
exits_code cc final [] = []
exits_code cc final (n ∷ ns) = exit_code cc final n ++ exits_code cc final ns

-- which exit a condition takes
abbrev pub exit_of : ℕ → ConditionOf → ℕ
exit_of conds Leave = 0
exit_of conds Routine = 0
exit_of conds Space = 1
exit_of conds (Declared i) = if nat_lt i conds then 2 + i else 0

abbrev pub exit_place : ℕ → ℕ → ConditionOf → ℕ
exit_place base conds c = base + 6 * exit_of conds c

abbrev pub start_of : Proc → ℕ → ℕ
start_of p base = base + 6 * (2 + p.conds)

abbrev pub final_of : List ℕ → Proc → ℕ → ℕ → ℕ
final_of vs p base end = start_of p base + size (layout_in vs p end) p.body

abbrev pub quick_words : List ℕ → Proc → ℕ → ℕ → List ℕ
quick_words vs p base end =
    exits_code (condition_cell p end) (final_of vs p base end) (exit_numbers p.conds) ++
    quick (layout_in vs p end) (exit_place base p.conds) (start_of p base) p.body

-- 3. The image: the code, the word where it ends, room, the condition's word, and the variables from the last one down.

abbrev pub front_words : List ℕ → Proc → ℕ → ℕ → List ℕ
front_words vs p base end =
    quick_words vs p base end ++ (halt_word ∷ (replicate (condition_cell p end - (final_of vs p base end + 1)) 0 ++ 2 ∷ []))

abbrev pub first_values : Proc → List ValueOf
first_values p = map zero_value p.formals ++ p.locals

abbrev pub quick_window : List ℕ → Proc → ℕ → ℕ → List ℕ
quick_window vs p base end = front_words vs p base end ++ reverse (numbers_of (first_values p))

abbrev pub quick_registers : List ℕ → Proc → ℕ → ℕ → List ℕ
quick_registers vs p base end =
    let top = end - words_of (shapes_of p) in
    let at : ℕ → ℕ = λ j. variable_address p end (get_or vs j 0) in
    0 ∷ top ∷ top ∷ 0 ∷ 0 ∷ at 0 ∷ at 1 ∷ at 2 ∷ at 3 ∷ at 4 ∷ at 5 ∷ at 6 ∷ at 7 ∷ at 8 ∷ at 9 ∷ start_of p base ∷ []

-- the image of main procedure p, with slots for these formals and names for these conditions, whose window is from base to end
abbrev pub quick_image_with : List ℕ → List Decl → List (List ℕ) → Proc → ℕ → ℕ → ImageOf
quick_image_with vs ds conditions p base end =
    record (bare_image base (end - base) (final_of vs p base end) (quick_registers vs p base end) (trimmed (quick_window vs p base end))) {
      condition_address = Some (condition_cell p end);
      conditions = conditions;
      slots = slots_from (end - 1) ds;
    }

-- so deep may calls nest in a quick image
abbrev pub most_nested : ℕ
most_nested = 16

-- main with its calls in line
abbrev pub quick_main : SourceOf → StackSizes → Proc
quick_main s sizes = lined_main (program_of s) sizes most_nested

abbrev pub quick_image : List ℕ → SourceOf → StackSizes → ℕ → ℕ → ImageOf
quick_image vs s sizes base end = quick_image_with vs (shown_formals s) (shown_conditions s) (quick_main s sizes) base end

-- its parts, in memory
abbrev pub quick_parts : List ℕ → Proc → ℕ → ℕ → Parts
quick_parts vs p base end = record {
  base = base;
  code = quick_words vs p base end;
  areas_at = condition_cell p end;
  ctrl_at = end - words_of (shapes_of p);
  temp_at = end - words_of (shapes_of p);
  end = end;
}
