-- All breaches of the static rules S1 to S24 in a source.
use Rattle.std.specs.Prelude.{ℕ, List, [], ◌∷◌, ◌++◌, map, length, Option, Some, None, is_none, codes, Bool, true, false, not, ◌==◌, ◌&&◌}
use Rattle.std.specs.{Prelude.{◌||◌, nat_lt, if◌then◌else◌}, List.{list_any, flat_map}, Str.{bytes_eq}}
use Rattle.stack_text.specs.{SharedLimits.{most_stack}, declared.breach.Breach.{Breach}, declared.name.Named.{Named}}
use Rattle.stack_text.specs.{declared.shape.Kind.{Kind}, declared.shape.Kind.TheVariants.{Integer, Character}, Breaches.{when}}
use Rattle.gypsy_syntax.specs.{declared.literal.TypeText.{TypeText}, declared.slot.Slot.{Slot}, Ranges.{is_in_range}, Predefined.{slots_of}}
use Rattle.gypsy_syntax.specs.Resolved.{variable_types, is_leave_name, is_routine_name, is_space_name, procedure_named}
use Rattle.gypsy_syntax.specs.Sources.{LiteralOf, LiteralsOf, integer, truth, character, array, no_items, item, literal_place, ArgOf}
use Rattle.gypsy_syntax.specs.Sources.{variable, constant, arg_place, LocalOf, ProcOf, SourceOf, StmtOf, StmtsOf, no_op, signal, seq, loop}
use Rattle.gypsy_syntax.specs.Sources.{branch, begin, call, predef, no_parts, part}
use Rattle.gypsy_check.specs.{Arguments.{kind_of, is_wanted, settled_by, is_undeclared}, Declarations.{type_of, is_condition}}
use Rattle.gypsy_check.specs.{Declarations.{is_predefined, variables_of, conditions_of, repeats}, Types.{same_type, is_boolean, has_length}}
use Rattle.gypsy_check.specs.Types.{suits, words_of_types}

-- S9: a number is out of the range of its kind
abbrev mutual
  pub literal_breaches : LiteralOf → List Breach
  literal_breaches (integer place number) = when (not (is_in_range Integer number)) place 9
  literal_breaches (truth place b) = []
  literal_breaches (character place code) = when (not (is_in_range Character code)) place 9
  literal_breaches (array place items) = items_breaches items

  pub items_breaches : LiteralsOf → List Breach
  items_breaches no_items = []
  items_breaches (item l ls) = literal_breaches l ++ items_breaches ls

-- S10: a condition that is signalled or given isn't declared; S11: it is `leave`, with no loop round it
abbrev pub raised_breaches : ProcOf → Bool → Named → List Breach
raised_breaches p in_loop c =
    when (not (is_leave_name c.name || is_routine_name c.name || is_condition p c.name)) c.place 10 ++
    when (is_leave_name c.name && not in_loop) c.place 11

-- S12: a condition that is handled is neither raised by the language nor declared
abbrev pub handled_breaches : ProcOf → Named → List Breach
handled_breaches p c = when (not (is_routine_name c.name || is_space_name c.name || is_condition p c.name)) c.place 12

-- S12, and S13: a condition stands earlier in the same list
abbrev pub handlers_breaches : ProcOf → List Named → List Breach
handlers_breaches p conds = flat_map (handled_breaches p) conds ++ repeats 13 [] conds

-- S14: a variable isn't declared
abbrev pub undeclared : ProcOf → Named → List Breach
undeclared p n = when (is_none (type_of p n.name)) n.place 14

-- a variable that isn't declared passes
abbrev pub is_of_type : (TypeText → Bool) → Option TypeText → Bool
is_of_type test None = true
is_of_type test (Some t) = test t

-- S14, and S15: the variable of an `if` is no simple Boolean
abbrev pub test_breaches : ProcOf → Named → List Breach
test_breaches p n = undeclared p n ++ when (not (is_of_type is_boolean (type_of p n.name))) n.place 15

-- S21: a data actual has another type than its formal; there are as many of both
abbrev pub actuals_breaches : ProcOf → List TypeText → List Named → List Breach
actuals_breaches p (t ∷ ts) (n ∷ ns) =
    when (not (is_of_type (same_type t) (type_of p n.name))) n.place 21 ++ actuals_breaches p ts ns
actuals_breaches p _ _ = []

-- S18 where the numbers differ, and else S21
abbrev pub data_breaches : ProcOf → ProcOf → ℕ → List Named → List Breach
data_breaches p callee place actuals =
    if length actuals == length callee.formals
    then actuals_breaches p (map (λ d. d.shape) callee.formals) actuals
    else when true place 18

-- S18, S21 and S19, where there is a callee
abbrev pub callee_breaches : ProcOf → Option ProcOf → ℕ → List Named → ℕ → List Named → List Breach
callee_breaches p None actuals_place actuals conds_place conds = []
callee_breaches p (Some callee) actuals_place actuals conds_place conds =
    data_breaches p callee actuals_place actuals ++ when (not (length conds == length callee.conds)) conds_place 19

-- S16: there is no callee; S17: it is the main procedure
abbrev pub callee_name_breaches : SourceOf → Named → List Breach
callee_name_breaches s callee =
    when (is_none (procedure_named s callee.name)) callee.place 16 ++ when (bytes_eq callee.name s.main.name) callee.place 17

-- S14, and S20: a data actual stands earlier in the same list
abbrev pub actual_name_breaches : ProcOf → List Named → List Breach
actual_name_breaches p actuals = flat_map (undeclared p) actuals ++ repeats 20 [] actuals

abbrev pub call_breaches : SourceOf → ProcOf → Bool → Named → ℕ → List Named → ℕ → List Named → List Breach
call_breaches s p in_loop callee actuals_place actuals conds_place conds =
    callee_name_breaches s callee ++ actual_name_breaches p actuals ++ flat_map (raised_breaches p in_loop) conds ++
    callee_breaches p (procedure_named s callee.name) actuals_place actuals conds_place conds

-- S23, from the first argument to the last: an argument isn't what its slot wants
abbrev pub slots_breaches : ProcOf → Option Kind → List Slot → List ArgOf → List Breach
slots_breaches p settled (slot ∷ slots) (a ∷ args) =
    when (not (is_wanted settled slot.kind (kind_of p slot.form a))) (arg_place a) 23 ++
    slots_breaches p (settled_by settled slot.kind (kind_of p slot.form a)) slots args
slots_breaches p settled _ _ = []

-- S14 or S9 of an argument by itself
abbrev pub argument_breaches : ProcOf → ArgOf → List Breach
argument_breaches p (variable n) = undeclared p n
argument_breaches p (constant l) = literal_breaches l

-- S23 where each name among the arguments is declared
abbrev pub declared_breaches : ProcOf → List Slot → List ArgOf → List Breach
declared_breaches p slots args = if list_any (is_undeclared p) args then [] else slots_breaches p None slots args

-- S22 where the number of arguments is wrong, and else S23
abbrev pub number_breaches : ProcOf → ℕ → List Slot → List ArgOf → List Breach
number_breaches p place slots args = if length args == length slots then declared_breaches p slots args else when true place 22

abbrev pub predef_breaches : ProcOf → ℕ → List Slot → List ArgOf → List Breach
predef_breaches p place slots args = flat_map (argument_breaches p) args ++ number_breaches p place slots args

-- a statement, inside a loop or not
abbrev mutual
  pub statement_breaches : SourceOf → ProcOf → Bool → StmtOf → List Breach
  statement_breaches s p in_loop (no_op place) = []
  statement_breaches s p in_loop (signal place c) = raised_breaches p in_loop c
  statement_breaches s p in_loop (seq place parts) = parts_breaches s p in_loop parts
  statement_breaches s p in_loop (loop place body) = statement_breaches s p true body
  statement_breaches s p in_loop (branch place test b c) =
      test_breaches p test ++ statement_breaches s p in_loop b ++ statement_breaches s p in_loop c
  statement_breaches s p in_loop (begin place body conds arm) =
      statement_breaches s p in_loop body ++ handlers_breaches p conds ++ statement_breaches s p in_loop arm
  statement_breaches s p in_loop (call place callee actuals_place actuals conds_place conds) =
      call_breaches s p in_loop callee actuals_place actuals conds_place conds
  statement_breaches s p in_loop (predef place which args) = predef_breaches p place (slots_of which) args

  pub parts_breaches : SourceOf → ProcOf → Bool → StmtsOf → List Breach
  parts_breaches s p in_loop no_parts = []
  parts_breaches s p in_loop (part b rest) = statement_breaches s p in_loop b ++ parts_breaches s p in_loop rest

-- S6: a declared condition has a name with a meaning of its own
abbrev pub is_reserved : List ℕ → Bool
is_reserved name =
    is_leave_name name || is_routine_name name || bytes_eq name (codes "normal") || is_space_name name

abbrev pub condition_breaches : Named → List Breach
condition_breaches n = when (is_reserved n.name) n.place 6

-- S7: an array's length is out of range
abbrev pub type_breaches : TypeText → List Breach
type_breaches t = when (not (has_length t.length)) t.place 7

-- S8: an initial value doesn't suit its type; S9
abbrev pub local_breaches : LocalOf → List Breach
local_breaches l =
    when (not (suits l.decl.shape.kind l.decl.shape.length l.value)) (literal_place l.value) 8 ++ literal_breaches l.value

-- S4 and S7 to S9 of the variables, S5 and S6 of the conditions
abbrev pub variable_breaches : ProcOf → List Breach
variable_breaches p =
    repeats 4 [] (variables_of p) ++ flat_map type_breaches (variable_types p) ++ flat_map local_breaches p.locals

abbrev pub condition_name_breaches : ProcOf → List Breach
condition_name_breaches p = repeats 5 [] (conditions_of p) ++ flat_map condition_breaches (conditions_of p)

-- S24: the variables take too many words
abbrev pub size_breaches : ProcOf → List Breach
size_breaches p = when (nat_lt most_stack (words_of_types (variable_types p))) p.place 24

abbrev pub procedure_breaches : SourceOf → ProcOf → List Breach
procedure_breaches s p =
    variable_breaches p ++ condition_name_breaches p ++ size_breaches p ++ statement_breaches s p false p.body

-- S2: a procedure has the name of a predefined one
abbrev pub name_breaches : ProcOf → List Breach
name_breaches p = when (is_predefined p.name.name) p.name.place 2

-- S3: there is no main procedure
abbrev pub main_breaches : SourceOf → List Breach
main_breaches s = when (is_none (procedure_named s s.main.name)) s.main.place 3

-- S1: a procedure's name was used earlier; and the other rules
unfoldable pub violations : SourceOf → List Breach
violations s =
    repeats 1 [] (map (λ p. p.name) s.procs) ++ main_breaches s ++ flat_map name_breaches s.procs ++
    flat_map (procedure_breaches s) s.procs
