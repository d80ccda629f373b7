-- The generated system, as a text has it.
use Rattle.std.specs.Prelude.{ℕ, suc, ◌==◌, pos, List, [], ◌∷◌, ◌++◌, map, if◌then◌else◌, None}
use Rattle.stack_text.specs.{declared.name.Named.{Named}, Grammar.Printed.{unplaced}}
use Rattle.piton_words.specs.{declared.word.Word.{Word}, declared.word.Word.TheVariants.{Nat}}
use Rattle.piton_syntax.specs.{declared.word_text.WordText.{WordText}, Systems.{ProgramOf, AreaOf, SystemOf, new_program, new_area}}
use Rattle.piton_syntax.specs.Systems.{new_system}
use Rattle.gypsy_syntax.specs.{Sources.{ProcOf, SourceOf}, Programs.{Program, proc_at, shapes_of}, Predefined.{predefs, predef_name}}
use Rattle.gypsy_syntax.specs.Resolved.{variable_names, procedure_names, program_of}
use Rattle.gypsy_space.specs.Needs.{StackSizes}
use Rattle.gypsy_predef.specs.Texts.{condition_area, body_texts, number}
use Rattle.gypsy_codegen.specs.{WordsOf.{starts, number_of_way}, Generated.{opening_words}, Written.{Names, written_word, written}}
use Rattle.gypsy_codegen.specs.Lines.{lines_of}

-- the names of the programs, and of the one area
abbrev pub program_texts : SourceOf → List (List ℕ)
program_texts s = procedure_names s ++ map predef_name predefs

abbrev pub area_texts : List (List ℕ)
area_texts = condition_area ∷ []

-- the words of a frame by name: main's variables in order, else the locals and behind them the formals
abbrev pub frame_texts : Program → ℕ → ProcOf → List (List ℕ)
frame_texts q p proc =
    if p == q.main then variable_names proc
    else map (λ l. l.decl.name.name) proc.locals ++ map (λ d. d.name.name) proc.formals

-- the names that code is written with, where the programs have the first ones, and the words of the frame the others
abbrev pub names_by : List (List ℕ) → List (List ℕ) → Names
names_by programs locals = record { areas = area_texts; programs = programs; locals = locals }

-- the names of a procedure, whose words of a frame have these
abbrev pub names_with : SourceOf → List (List ℕ) → Names
names_with s locals = names_by (program_texts s) locals

-- temporaries of these names that hold these words
abbrev pub temporaries_of : Names → List (List ℕ) → List Word → List (Named × WordText)
temporaries_of n (name ∷ names) (w ∷ ws) = (unplaced name, written_word n w) ∷ temporaries_of n names ws
temporaries_of n _ _ = []

-- the program of procedure p, where the programs have these names
abbrev pub procedure_with : Program → List (List ℕ) → ℕ → ProcOf → ProgramOf
procedure_with q programs p proc =
    let frame = frame_texts q p proc in
    let n = names_by programs frame in
    new_program 0 0 (unplaced proc.name.name) (if p == q.main then [] else map unplaced frame)
    (if p == q.main then temporaries_of n frame (map (λ at. Nat at) (starts 0 (shapes_of (proc_at q p)))) else [])
    (map (written n) (lines_of q p))

-- the programs of procedures, from procedure p on
abbrev pub procedures_with : Program → List (List ℕ) → ℕ → List ProcOf → List ProgramOf
procedures_with q programs p [] = []
procedures_with q programs p (proc ∷ procs) = procedure_with q programs p proc ∷ procedures_with q programs (suc p) procs

abbrev pub written_procedure : SourceOf → ℕ → ProcOf → ProgramOf
written_procedure s p proc = procedure_with (program_of s) (program_texts s) p proc

abbrev pub written_procedures : SourceOf → ℕ → List ProcOf → List ProgramOf
written_procedures s p procs = procedures_with (program_of s) (program_texts s) p procs

-- the one area, of one word: the number of the normal condition
abbrev pub written_area : SourceOf → AreaOf
written_area s = new_area 0 (unplaced condition_area) (written_word (names_with s []) (Nat (number_of_way None)) ∷ [])

-- the system of a source, with these sizes of the stacks and this base
abbrev pub generated : SourceOf → StackSizes → ℕ → SystemOf
generated s sizes base =
    new_system 0 (unplaced s.main.name) (number (pos sizes.ctrl)) (number (pos sizes.temp)) (number (pos base))
    (written_area s ∷ []) (map (written_word (names_with s [])) (opening_words (program_of s)))
    (written_procedures s 0 s.procs ++ body_texts)
