-- All breaches of the static rules Q1 to Q14 in a system.
use Rattle.std.specs.Prelude.{ℕ, ◌+◌, ◌-◌, ◌^◌, max, ℤ, pos, negsuc, List, [], ◌++◌, length, Option, Some, None, Bool, true, false, not}
use Rattle.std.specs.{Prelude.{◌&&◌, nat_lt, nat_le, slice_get}, List.{flat_map}, Option.{is_none}}
use Rattle.stack_text.specs.{SharedLimits.{most_stack}, declared.name.Named.{Named}, declared.breach.Breach.{Breach}, Breaches.{when}}
use Rattle.stack_text.specs.Options.{◌>>=◌}
use Rattle.piton_syntax.specs.{declared.argument.ArgKind.{ArgKind}, declared.argument.ArgText.{ArgText}, declared.op.PitonOp.{PitonOp}}
use Rattle.piton_syntax.specs.{declared.word_text.WordText.{WordText}, Operations.{op_arguments}, Systems.{InstrOf, ProgramOf, AreaOf}}
use Rattle.piton_syntax.specs.Systems.{SystemOf}
use Rattle.piton_syntax.specs.declared.argument.ArgKind.TheVariants as kind
use Rattle.piton_syntax.specs.declared.argument.ArgText.TheVariants as text
use Rattle.piton_syntax.specs.declared.op.PitonOp.TheVariants as op
use Rattle.piton_check.specs.{Declarations.{area_names, program_names, local_names, label_names, first_of, repeats}, Meaning.{word_of}}
use Rattle.piton_check.specs.Meaning.{name_kind, name_of, count_of}

-- Q11: a word means nothing
abbrev pub word_breaches : SystemOf → WordText → List Breach
word_breaches s w = when (is_none (word_of s w.item)) w.place 11

abbrev pub temporary_breaches : SystemOf → Named × WordText → List Breach
temporary_breaches s t = word_breaches s t.1

abbrev pub area_breaches : SystemOf → AreaOf → List Breach
area_breaches s a = flat_map (word_breaches s) a.words

-- Q7 of a label, Q8 of a program, Q9 of a formal or temporary, Q10 of an area
abbrev pub name_rule : ArgKind → ℕ
name_rule kind.Label = 7
name_rule kind.Program = 8
name_rule kind.Area = 10
name_rule _ = 9

-- a name that means nothing, Q13 of a count, or Q11 of a word
abbrev pub argument_breaches : SystemOf → ProgramOf → ArgKind → ArgText → List Breach
argument_breaches s p k (text.Name n) = when (is_none (name_of s p k n.name)) n.place (name_rule k)
argument_breaches s p k (text.Number n) = when (is_none (count_of n.number)) n.place 13
argument_breaches s p k (text.Word w) = word_breaches s w
argument_breaches s p k (text.Test t) = []

abbrev pub instruction_breaches : SystemOf → ProgramOf → InstrOf → List Breach
instruction_breaches s p i = flat_map (argument_breaches s p (name_kind (op_arguments i.op))) i.args

-- an operation after which the next instruction is not reached
abbrev pub is_end : PitonOp → Bool
is_end op.Ret = true
is_end op.Jump = true
is_end op.JumpCase = true
is_end op.Popj = true
is_end _ = false

-- Q12: the last instruction is no end
abbrev pub end_breaches : Option InstrOf → List Breach
end_breaches None = []
end_breaches (Some i) = when (not (is_end i.op)) i.place 12

-- Q5 of formals and temporaries, Q6 of labels, and the rules of the parts
abbrev pub program_breaches : SystemOf → ProgramOf → List Breach
program_breaches s p =
    repeats 5 [] (local_names p) ++ repeats 6 [] (label_names p) ++ flat_map (temporary_breaches s) p.temporaries
    ++ flat_map (instruction_breaches s p) p.instrs ++ end_breaches (slice_get p.instrs (length p.instrs - 1))

-- the program that is run
abbrev pub main_of : SystemOf → Option ProgramOf
main_of s = first_of (program_names s) s.main.name >>= λ main. slice_get s.programs main

-- Q3: there is no such program; Q4: it has formals
abbrev pub main_breaches : SystemOf → Option ProgramOf → List Breach
main_breaches s None = when true s.main.place 3
main_breaches s (Some p) = when (nat_lt 0 (length p.formals)) p.formals_place 4

abbrev pub is_within : ℕ → ℕ → ℤ → Bool
is_within low high (pos n) = nat_le low n && nat_le n high
is_within low high (negsuc n) = false

-- the words that the first frame takes
abbrev pub first_frame : Option ProgramOf → ℕ
first_frame None = 1
first_frame (Some p) = 2 + length p.temporaries

-- Q14: the control stack has no room for the first frame, the temporary stack none for the words at the start, either is
-- empty or over 65,536 words, or the base is over 2^31
abbrev pub size_breaches : SystemOf → List Breach
size_breaches s =
    when (not (is_within (first_frame (main_of s)) most_stack s.ctrl.number)) s.ctrl.place 14
    ++ when (not (is_within (max (length s.stack) 1) most_stack s.temp.number)) s.temp.place 14
    ++ when (not (is_within 0 (2 ^ 31) s.base.number)) s.base.place 14

-- Q2 of areas, Q1 of programs
abbrev pub name_breaches : SystemOf → List Breach
name_breaches s = repeats 2 [] (area_names s) ++ repeats 1 [] (program_names s)

-- the other rules
abbrev pub part_breaches : SystemOf → List Breach
part_breaches s =
    main_breaches s (main_of s) ++ size_breaches s
    ++ flat_map (area_breaches s) s.areas ++ flat_map (word_breaches s) s.stack ++ flat_map (program_breaches s) s.programs

abbrev pub violations : SystemOf → List Breach
violations s = name_breaches s ++ part_breaches s
