-- What is known of the texts of the bodies: they keep the form and the rules, mean the programs, and do their rows.
use Rattle.std.specs.Prelude.{◌≡◌, ℕ, ◌+◌, List, [], ◌++◌, length, slice_get, Some}
use Rattle.stack_text.specs.declared.shape.Kind.{Kind}
use Rattle.piton_words.specs.declared.word.Word.{Word}
use Rattle.piton_syntax.specs.{Systems.{ProgramOf, SystemOf}, Fits.{FitsProgram}}
use Rattle.piton_check.specs.{Declarations.{area_names, first_of}, Violations.{program_breaches}, Resolved.{resolved, resolved_program}}
use Rattle.piton_check.specs.Instruction.{program_view, system_view}
use Rattle.piton_semantics.specs.{State.{Frame, PitonState}, Law.{Steps}}
use Rattle.gypsy_syntax.specs.{declared.predef.Predef.{Predef}, Predefined.{slots_of, predef_effect, predef_cost, predef_number}}
use Rattle.gypsy_predef.specs.{Bodies.{body_of}, Calls.{IsAtCode, after_code, predef_code}, Runs.{Argument, ArgumentsFit, IsAtCall, Runs}}
use Rattle.gypsy_predef.specs.{Runs.{values_of}, Texts.{body_text, body_texts, condition_area}}

-- in a system whose first area is `c-c`, the texts mean the programs
abbrev pub BodiesResolve : Type 0
BodiesResolve = (s : SystemOf) (r : Predef) → first_of (area_names s) condition_area ≡ Some 0 →
    program_view (resolved_program s (body_text r)) ≡ body_of r

-- the texts at the end of such a system's programs: its programs by position
abbrev pub BodiesStandResolved : Type 0
BodiesStandResolved = (s : SystemOf) (programs : List ProgramOf) (r : Predef) → s.programs ≡ programs ++ body_texts →
    first_of (area_names s) condition_area ≡ Some 0 →
    slice_get (system_view (resolved s)).programs (length programs + predef_number r) ≡ Some (body_of r)

-- in a system whose first area is `c-c`, the texts break no rule
abbrev pub BodiesKeepRules : Type 0
BodiesKeepRules =
    (s : SystemOf) (r : Predef) → first_of (area_names s) condition_area ≡ Some 0 → program_breaches s (body_text r) ≡ []

-- In a system whose last programs are these texts, and whose first area is `c-c`, the call of each row's program has the row's
-- effect, in the steps and at the cost of the table.
abbrev pub DoTheirRows : List ProgramOf → Type 0
DoTheirRows texts = (s : SystemOf) (programs : List ProgramOf) (r : Predef) (k : Kind) (args : List Argument) (stack : List Word)
    (f : Frame) (fs : List Frame) (p : PitonState) →
    s.programs ≡ programs ++ texts → first_of (area_names s) condition_area ≡ Some 0 →
    let system = system_view (resolved s) in
    IsAtCall system (length programs + predef_number r) r args stack f fs p → ArgumentsFit stack k (slots_of r) args →
    Runs system r args stack p (predef_effect r (values_of args))

-- The same from the code of a statement on: the arguments pushed, the call, and the test for a fault.
abbrev pub DoTheirCalls : List ProgramOf → Type 0
DoTheirCalls texts = (s : SystemOf) (programs : List ProgramOf) (target : ℕ) (r : Predef) (k : Kind) (args : List Argument)
    (f : Frame) (fs : List Frame) (p : PitonState) →
    s.programs ≡ programs ++ texts → first_of (area_names s) condition_area ≡ Some 0 →
    let system = system_view (resolved s) in
    let program = length programs + predef_number r in
    IsAtCode system program target r k args f fs p →
    let e = predef_effect r (values_of args) in
    Steps system (predef_cost r e).1 (predef_cost r e).0 p
    (after_code p target (length (predef_code r program target args)) args e)

-- each text keeps the form of a program
abbrev pub BodiesFit : Type 0
BodiesFit = (r : Predef) → FitsProgram (body_text r)
