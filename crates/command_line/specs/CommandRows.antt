-- The words of each command.
use Rattle.std.specs.{Prelude.{ℕ, List, [], ◌∷◌, Option, Some, None, codes, if◌then◌else◌}, Str.{bytes_eq}}
use Rattle.command_line.specs.{declared.command.Command.{Command}, declared.command.Command.TheVariants.{Check, Mean, Pit, Build, Pcheck}}
use Rattle.command_line.specs.declared.command.Command.TheVariants.{Prun, Pbuild, Run, Go, Show, Migrate, Asm, Unasm, Need, Cert, Debug}
use Rattle.command_line.specs.{declared.command.Command.TheVariants.{Pdebug, Idebug, Turns, Big, Mini, Quick}, CommandWords.{CommandWords}}
use Rattle.command_line.specs.CommandWords.{Reader, file, size, limit, seed, procedures, debug_level, turn_length, tasks, end}

-- what is read goes on to what reads the words after it
abbrev pub read_on : {A B : Type 0} → Option (A × CommandWords) → (A → CommandWords → Option B) → Option B
read_on None next = None
read_on (Some found) next = next found.0 found.1

infixl 10 ◌>>=◌
abbrev pub ◌>>=◌ : {A B : Type 0} → Reader A → (A → CommandWords → Option B) → CommandWords → Option B
read >>= next = λ words. read_on (read words) next

-- a command whose words are all read
abbrev pub whole_of : Option (Unit {0}) → Command → Option Command
whole_of None command = None
whole_of (Some _) command = Some command

abbrev pub at_end : Command → CommandWords → Option Command
at_end command words = whole_of (end words) command

-- `check SRC`
unfoldable pub check_row : CommandWords → Option Command
check_row = do
  source ← file
  at_end (Check source)

-- `mean SRC VALS CTRL TEMP LIMIT`
unfoldable pub mean_row : CommandWords → Option Command
mean_row = do
  source ← file
  values ← file
  control ← size
  temporary ← size
  steps ← limit
  at_end (Mean source values control temporary steps)

-- `pit SRC CTRL TEMP OUT`
unfoldable pub pit_row : CommandWords → Option Command
pit_row = do
  source ← file
  control ← size
  temporary ← size
  piton ← file
  at_end (Pit source control temporary piton)

-- `build SRC CTRL TEMP IMG`
unfoldable pub build_row : CommandWords → Option Command
build_row = do
  source ← file
  control ← size
  temporary ← size
  image ← file
  at_end (Build source control temporary image)

-- `pcheck PIT`
unfoldable pub pcheck_row : CommandWords → Option Command
pcheck_row = do
  piton ← file
  at_end (Pcheck piton)

-- `prun PIT LIMIT`
unfoldable pub prun_row : CommandWords → Option Command
prun_row = do
  piton ← file
  steps ← limit
  at_end (Prun piton steps)

-- `pbuild PIT IMG`
unfoldable pub pbuild_row : CommandWords → Option Command
pbuild_row = do
  piton ← file
  image ← file
  at_end (Pbuild piton image)

-- `run IMG VALS BUDGET`
unfoldable pub run_row : CommandWords → Option Command
run_row = do
  image ← file
  values ← file
  budget ← limit
  at_end (Run image values budget)

-- `go SRC VALS CTRL TEMP BUDGET IMG`
unfoldable pub go_row : CommandWords → Option Command
go_row = do
  source ← file
  values ← file
  control ← size
  temporary ← size
  budget ← limit
  image ← file
  at_end (Go source values control temporary budget image)

-- `show IMG`
unfoldable pub show_row : CommandWords → Option Command
show_row = do
  image ← file
  at_end (Show image)

-- `migrate IMG OUT`
unfoldable pub migrate_row : CommandWords → Option Command
migrate_row = do
  image ← file
  output ← file
  at_end (Migrate image output)

-- `asm TEXT IMG`
unfoldable pub asm_row : CommandWords → Option Command
asm_row = do
  assembly ← file
  image ← file
  at_end (Asm assembly image)

-- `unasm IMG OUT`
unfoldable pub unasm_row : CommandWords → Option Command
unasm_row = do
  image ← file
  assembly ← file
  at_end (Unasm image assembly)

-- `need SRC CERT`
unfoldable pub need_row : CommandWords → Option Command
need_row = do
  source ← file
  certificate ← file
  at_end (Need source certificate)

-- `cert SRC CERT CTRL TEMP`
unfoldable pub cert_row : CommandWords → Option Command
cert_row = do
  source ← file
  certificate ← file
  control ← size
  temporary ← size
  at_end (Cert source certificate control temporary)

-- `debug LEVEL SRC VALS CTRL TEMP SCRIPT`
unfoldable pub debug_row : CommandWords → Option Command
debug_row = do
  level ← debug_level
  source ← file
  values ← file
  control ← size
  temporary ← size
  script ← file
  at_end (Debug level source values control temporary script)

-- `pdebug PIT SCRIPT`
unfoldable pub pdebug_row : CommandWords → Option Command
pdebug_row = do
  piton ← file
  script ← file
  at_end (Pdebug piton script)

-- `idebug IMG VALS SCRIPT`
unfoldable pub idebug_row : CommandWords → Option Command
idebug_row = do
  image ← file
  values ← file
  script ← file
  at_end (Idebug image values script)

-- `turns Q BUDGET CTRL TEMP SRC VALS ..`
unfoldable pub turns_row : CommandWords → Option Command
turns_row = do
  turn ← turn_length
  budget ← limit
  control ← size
  temporary ← size
  files ← tasks
  at_end (Turns turn budget control temporary files)

-- `big NUMBER SIZE`
unfoldable pub big_row : CommandWords → Option Command
big_row = do
  number ← seed
  count ← procedures
  at_end (Big number count)

-- `mini SRC OUT`
unfoldable pub mini_row : CommandWords → Option Command
mini_row = do
  program ← file
  source ← file
  at_end (Mini program source)

-- `quick SRC CTRL TEMP IMG`
unfoldable pub quick_row : CommandWords → Option Command
quick_row = do
  source ← file
  control ← size
  temporary ← size
  image ← file
  at_end (Quick source control temporary image)

-- the name of each command, and its row
unfoldable pub rows : List (List ℕ × (CommandWords → Option Command))
rows =
    (codes "check", check_row)
    ∷ (codes "mean", mean_row)
    ∷ (codes "pit", pit_row)
    ∷ (codes "build", build_row)
    ∷ (codes "pcheck", pcheck_row)
    ∷ (codes "prun", prun_row)
    ∷ (codes "pbuild", pbuild_row)
    ∷ (codes "run", run_row)
    ∷ (codes "go", go_row)
    ∷ (codes "show", show_row)
    ∷ (codes "migrate", migrate_row)
    ∷ (codes "asm", asm_row)
    ∷ (codes "unasm", unasm_row)
    ∷ (codes "need", need_row)
    ∷ (codes "cert", cert_row)
    ∷ (codes "debug", debug_row)
    ∷ (codes "pdebug", pdebug_row)
    ∷ (codes "idebug", idebug_row)
    ∷ (codes "turns", turns_row)
    ∷ (codes "big", big_row)
    ∷ (codes "mini", mini_row)
    ∷ (codes "quick", quick_row)
    ∷ []

-- the first row of this name, of these words
unfoldable pub row_with : List ℕ → List (List ℕ × (CommandWords → Option Command)) → CommandWords → Option Command
row_with word [] words = None
row_with word (row ∷ rest) words = if bytes_eq word row.0 then row.1 words else row_with word rest words

-- the row that the first word names, of the words after it
unfoldable pub row_of : List ℕ → CommandWords → Option Command
row_of word words = row_with word rows words

-- the command that the words ask for, if they do
unfoldable pub command_of : CommandWords → Option Command
command_of [] = None
command_of (word ∷ words) = row_of word words
