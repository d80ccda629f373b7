-- What a system declares, in order, and where a name was declared first.
use Rattle.std.specs.{Prelude.{ℕ, List, [], ◌∷◌, ◌++◌, map, Option, Some, None, Bool, false, position, is_some}, Str.{bytes_eq}}
use Rattle.stack_text.specs.{declared.name.Named.{Named}, declared.breach.Breach.{Breach}, Breaches.{when}}
use Rattle.piton_syntax.specs.{declared.word_text.WordText.{WordText}, Systems.{InstrOf, ProgramOf, AreaOf, SystemOf}}

-- a name with the place of its breach if it repeats another; an instruction without a label declares none
abbrev pub Declaration : Type 0
Declaration = Option Named

-- what a part declares that has a name
abbrev pub declaration : {X : Type 0} → (X → Named) → X → Declaration
declaration named x = Some (named x)

abbrev pub area_name : AreaOf → Declaration
area_name a = Some (record { place = a.place; name = a.name.name })

abbrev pub program_name : ProgramOf → Declaration
program_name p = Some (record { place = p.place; name = p.name.name })

abbrev pub formal_name : Named → Declaration
formal_name n = Some n

abbrev pub temporary_name : Named × WordText → Declaration
temporary_name t = Some t.0

abbrev pub label_name : InstrOf → Declaration
label_name i = i.label

abbrev pub area_names : SystemOf → List Declaration
area_names s = map area_name s.areas

abbrev pub program_names : SystemOf → List Declaration
program_names s = map program_name s.programs

-- the formals, and after them the temporaries, as they lie in a frame
abbrev pub local_names : ProgramOf → List Declaration
local_names p = map formal_name p.formals ++ map temporary_name p.temporaries

abbrev pub label_names : ProgramOf → List Declaration
label_names p = map label_name p.instrs

abbrev pub is_named : List ℕ → Declaration → Bool
is_named name None = false
is_named name (Some n) = bytes_eq name n.name

-- the position of the first declaration of a name
abbrev pub first_of : List Declaration → List ℕ → Option ℕ
first_of declared name = position (is_named name) declared

-- a name that was declared earlier
abbrev pub repeat_of : ℕ → List Declaration → Declaration → List Breach
repeat_of rule earlier None = []
repeat_of rule earlier (Some n) = when (is_some (first_of earlier n.name)) n.place rule

abbrev pub repeats : ℕ → List Declaration → List Declaration → List Breach
repeats rule earlier [] = []
repeats rule earlier (d ∷ ds) = repeat_of rule earlier d ++ repeats rule (earlier ++ d ∷ []) ds
