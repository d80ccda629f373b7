-- Runs of Piton's machine.
use Rattle.std.specs.{Str.{bytes_eq}, Prelude.{ℕ, ◌==◌, ◌&&◌, not, nat_le, Bool, List, [], ◌∷◌, ◌++◌, length, map, reverse, slice_get}}
use Rattle.std.specs.{Prelude.{Option, Some, None, Result, Ok, Err, codes, if◌then◌else◌}, Fmt.{decimal}}
use Rattle.fm_image.specs.Image.{ImageOf}
use Rattle.stack_text.specs.Lines.{line}
use Rattle.piton_words.specs.declared.word.Word.{Word}
use Rattle.piton_syntax.specs.Systems.{ProgramOf, SystemOf}
use Rattle.piton_check.specs.{NamedWords.{program_name_at, word_text, words_line}, PitonChecking.{CheckedOf}}
use Rattle.piton_semantics.specs.{declared.error_kind.ErrorKind.{ErrorKind}, State.{Frame, PitonState, locals_of}, Step.{step_cost}}
use Rattle.piton_semantics.specs.{Fits.{system_in}, StateView.{Seen, seen_step}}
use Rattle.level_debuggers.specs.{declared.watch.Event.{Event}, Steps.{Next, Over, Stops, Makes}}
use Rattle.level_debuggers.specs.declared.advance.Stop.TheVariants as stop

-- a system, its image, and a state of a run of the system
pub record PitonLevelOf : Type 0 where
  pub checked : CheckedOf
  pub image : ImageOf
  pub seen : Seen

-- the next step, as watches are told it
abbrev pub piton_event : PitonLevelOf → Event
piton_event level =
    let state = level.seen.state in
    record { place = state.place; depth = length state.frames; cost = step_cost (system_in level.checked) state }

abbrev pub piton_over : PitonLevelOf → Bool
piton_over level = length level.seen.state.frames == 0

abbrev pub piton_after : PitonLevelOf → Result Seen ErrorKind → Next PitonLevelOf
piton_after level (Ok seen) = Makes (piton_event level) (record level { seen = seen })
piton_after level (Err kind) = Stops (stop.Error kind level.seen.state.program level.seen.state.place)

-- over where no frame is left; or else the instruction at the state's place
abbrev pub piton_from : PitonLevelOf → List Frame → Next PitonLevelOf
piton_from level [] = Over
piton_from level (f ∷ fs) = piton_after level (seen_step (system_in level.checked) level.seen)

abbrev pub piton_next : PitonLevelOf → Next PitonLevelOf
piton_next level = piton_from level level.seen.state.frames

-- a frame is left, and this is the next instruction of the program of that name
abbrev pub piton_stands : PitonLevelOf → List ℕ → ℕ → Bool
piton_stands level program number =
    let state = level.seen.state in
    not (piton_over level) && bytes_eq (program_name_at level.checked.system state.program) program && state.place == number

-- a frame is left, and at most so many are
abbrev pub piton_within : PitonLevelOf → ℕ → Bool
piton_within level most = not (piton_over level) && nat_le (length level.seen.state.frames) most

-- ---- what is shown

-- the names of a program's formals and temporaries, in the order of the locals
abbrev pub local_names : ProgramOf → List (List ℕ)
local_names program = map (λ n. n.name) program.formals ++ map (λ t. t.0.name) program.temporaries

abbrev pub names_of : Option ProgramOf → List (List ℕ)
names_of None = []
names_of (Some program) = local_names program

-- `n = (int 7)`
abbrev pub local_line : SystemOf → List ℕ → Word → List ℕ
local_line system name word = line (name ++ codes " = " ++ word_text system word)

-- the line of each local
unfoldable pub local_lines : SystemOf → List (List ℕ) → List Word → List ℕ
local_lines system [] words = []
local_lines system (name ∷ names) [] = []
local_lines system (name ∷ names) (word ∷ words) = local_line system name word ++ local_lines system names words

-- `at main 3 frames 1`, or `halted`
abbrev pub place_line : SystemOf → PitonState → List ℕ
place_line system state =
    if length state.frames == 0 then codes "halted\n"
    else line (codes "at " ++ program_name_at system state.program ++ codes " " ++ decimal state.place
    ++ codes " frames " ++ decimal (length state.frames))

-- the place, the locals of the newest frame, and the stack from the bottom up
abbrev pub piton_listing : SystemOf → PitonState → List ℕ
piton_listing system state =
    place_line system state
    ++ local_lines system (names_of (slice_get system.programs state.program)) (locals_of state.frames)
    ++ words_line system (codes "stack") (reverse state.stack)

-- a frame that waits: the place at which it goes on, as in `in main 4`, and its locals
abbrev pub frame_lines : SystemOf → ℕ → ℕ → List Word → List ℕ
frame_lines system program place locals =
    line (codes "in " ++ program_name_at system program ++ codes " " ++ decimal place)
    ++ local_lines system (names_of (slice_get system.programs program)) locals

-- those that wait, the newest first: each goes on at the place to which the next newer one returns
unfoldable pub waiting_frames : SystemOf → List Frame → List ℕ
waiting_frames system [] = []
waiting_frames system (newest ∷ []) = []
waiting_frames system (newer ∷ older ∷ frames) =
    frame_lines system newer.program newer.place older.locals ++ waiting_frames system (older ∷ frames)

-- the same as for the newest frame, and all that wait
abbrev pub piton_listing_all : SystemOf → PitonState → List ℕ
piton_listing_all system state = piton_listing system state ++ waiting_frames system state.frames
