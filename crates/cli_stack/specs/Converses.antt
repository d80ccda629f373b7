-- What the program does with its devices if it is asked for a session line by line: `debug LEVEL SRC VALS CTRL TEMP -`, `pdebug PIT -` and
-- `idebug IMG VALS -`.
use Rattle.std.specs.Prelude.{◌≡◌, ◌⊎◌, ℕ, List, [], ◌∷◌, codes, Option, Some, None, IfSome, Result, Ok, Err, if◌then◌else◌}
use Rattle.std.specs.Str.{bytes_eq}
use Rattle.fm_machine.specs.State.{MachineOf}
use Rattle.stack_shelf.specs.{Files.{Files}, Causes.{Counts, Rose}}
use Rattle.gypsy_space.specs.Needs.{stack_sizes}
use Rattle.level_debuggers.specs.{Levels.{LevelOf}, Tallies.{Watching}, Walks.{SessionOf}}
use Rattle.command_line.specs.{declared.command.Command.{Command}, declared.command.Command.TheVariants.{Debug, Pdebug, Idebug}}
use Rattle.command_line.specs.{declared.status.Status.{Status}, declared.early_end.EarlyEnd.{EarlyEnd}, declared.role.Role.{Role}}
use Rattle.command_line.specs.{CommandFiles.{names_of}, Devices.{EndsAtOne, GivesOrEndsEarly, gave_each}, Gathered.{AreShort, Texts}}
use Rattle.command_line.specs.Gathered.{gathered, roles_of, text_of}
use Rattle.command_line.specs.declared.early_end.EarlyEnd.TheVariants as early
use Rattle.command_line.specs.declared.role.Role.TheVariants as role
use Rattle.command_line.specs.declared.status.Status.TheVariants as exit
use Rattle.command_replies.specs.{declared.reply.Reply.{Reply}, declared.reply.Verdict.{Verdict}, Replies.{reply_of, verdict_alone}}
use Rattle.stack_commands.specs.{Commands.Debug.{run_in, session_on}, Commands.Pdebug.{piton_run_in}, Commands.Idebug.{image_run_in}}
use Rattle.stack_commands.specs.Conversed.{Conversed, LineActs, PartlyConversed}
use Rattle.cli_stack.specs.{declared.conversing.Talk.{Talk}, declared.conversing.Talk.TheVariants.{Source, Piton, Image}}
use Rattle.cli_stack.specs.{Driver.{Concludes, conclusion_of}, RepliesTo.{TookLines}, World.{out_of}}

-- 1. Which words these are: a script named `-` stands for the lines of standard input.

abbrev pub if_lines : List ℕ → Talk → Option Talk
if_lines script talk = if bytes_eq script (codes "-") then Some talk else None

abbrev pub talk_of_command : Command → Option Talk
talk_of_command (Debug level source values control temporary script) = if_lines script (Source level source values control temporary)
talk_of_command (Pdebug piton script) = if_lines script (Piton piton)
talk_of_command (Idebug image values script) = if_lines script (Image image values)
talk_of_command other = None

abbrev pub talk_in : Option Command → Option Talk
talk_in None = None
talk_in (Some command) = talk_of_command command

-- 2. The run that a session begins with.

-- the files that it reads, in order; the lines are no file
abbrev pub talk_inputs : Talk → List (Role × List ℕ)
talk_inputs (Source level source values control temporary) = (role.Source, source) ∷ (role.Values, values) ∷ []
talk_inputs (Piton piton) = (role.Piton, piton) ∷ []
talk_inputs (Image image values) = (role.SessionImage, image) ∷ (role.Values, values) ∷ []

-- of these texts, or the verdict if there is none
abbrev pub talk_run : Talk → Texts → Result LevelOf Verdict
talk_run (Source level source values control temporary) texts =
    run_in level (text_of role.Source texts) (stack_sizes control temporary) (text_of role.Values texts)
talk_run (Piton piton) texts = piton_run_in (text_of role.Piton texts)
talk_run (Image image values) texts = image_run_in (text_of role.SessionImage texts) (text_of role.Values texts)

-- 3. Devices.

-- a shelf, lines and a sink, before a call or after it
pub record TalkWorld (S L K : Type 0) : Type 0 where
  pub shelf : S
  pub lines : L
  pub out : K

abbrev pub talk_world : {S L K : Type 0} → S → L → K → TalkWorld S L K
talk_world shelf lines out = record { shelf = shelf; lines = lines; out = out }

-- what is known of a shelf, and what it is after a fetch that goes well
pub record ShelfActs (S : Type 0) : Type 0 where
  pub files : S → Option Files
  pub counts : S → Counts
  pub gave : S → List ℕ → List ℕ → S

abbrev pub shelf_acts : {S : Type 0} → (S → Option Files) → (S → Counts) → (S → List ℕ → List ℕ → S) → ShelfActs S
shelf_acts files counts gave = record { files = files; counts = counts; gave = gave }

-- the same of lines and of a sink
pub record TalkActs (L K : Type 0) : Type 0 where
  pub acts : LineActs L K
  pub line_faults : L → ℕ
  pub overruns : L → ℕ
  pub took : K → List ℕ → K
  pub taken : K → Option (List ℕ)
  pub faults : K → ℕ

abbrev pub talk_acts : {L K : Type 0} → LineActs L K → (L → ℕ) → (L → ℕ) → (K → List ℕ → K) → (K → Option (List ℕ)) → (K → ℕ)
    → TalkActs L K
talk_acts acts line_faults overruns took taken faults = record {
  acts = acts;
  line_faults = line_faults;
  overruns = overruns;
  took = took;
  taken = taken;
  faults = faults;
}

-- 4. What is done.

-- The shelf gave texts for these files, each by a fetch of its own and within the limit of its role, and no other call of it was made.
-- They are those of the files, if these are known. This is the run of these texts, or the verdict if there is none.
pub record FindsRun {S : Type 0} (s : ShelfActs S) (before after : S) (talk : Talk) (found : Result LevelOf Verdict) : Type 0 where
  pub texts : Texts
  pub roles : roles_of texts ≡ roles_of (talk_inputs talk)
  pub short : AreShort texts
  pub known : IfSome (s.files before) (λ files. gathered files (talk_inputs talk) ≡ Ok texts)
  pub is : found ≡ talk_run talk texts
  pub shelf : after ≡ gave_each s.gave before (talk_inputs talk) texts

-- It ended early, at one of these files or for want of memory.
pub record StopsEarly {S : Type 0} (refused : Type 0) (s : ShelfActs S) (before after : S) (talk : Talk) (e : EarlyEnd) : Type 0 where
  pub cause : EndsAtOne refused (s.counts before) (s.counts after) (names_of (talk_inputs talk)) e
  pub known : IfSome (s.files before) (λ files.
      GivesOrEndsEarly {X = Texts} (λ texts. texts) (Err e) (gathered files (talk_inputs talk)))

abbrev pub FindsRunOrEnds : {S : Type 0} → Type 0 → ShelfActs S → S → S → Talk → Result (Result LevelOf Verdict) EarlyEnd → Type 0
FindsRunOrEnds refused s before after talk (Ok found) = FindsRun s before after talk found
FindsRunOrEnds refused s before after talk (Err e) = StopsEarly refused s before after talk e

-- A reply that is at hand was printed, or its printing stopped.
abbrev pub Says : {K : Type 0} → Type 0 → (K → List ℕ → K) → (K → Option (List ℕ)) → (K → ℕ) → K → K → Result Reply EarlyEnd → Status
    → Type 0
Says refused took taken faults before after reply status =
    (kept : Option MachineOf) × Concludes refused (TookLines took before after) (conclusion_of reply) status
    (out_of (taken before) (faults before) None) (out_of (taken after) (faults after) kept)

-- Of what a session says a part was printed.
abbrev pub SaysPart : {L K : Type 0} → TalkActs L K → L → L → K → K → SessionOf → Type 0 → Type 0 → Type 0
SaysPart d lines_before lines_after before after session whole unread =
    PartlyConversed d.acts lines_before lines_after (d.overruns lines_before) (d.overruns lines_after) whole unread
    d.took before (d.taken before) (d.taken after) session

-- A session was asked and answered to its end, each answer before the next line was asked for; or the sink failed, memory ran out, or a
-- line could not be read. In this last case all was printed that is said to the lines before, and then a line as of a file `-` at which
-- the shelf failed.
abbrev pub IsTold : {L K : Type 0} → Type 0 → Type 0 → Type 0 → TalkActs L K → L → L → K → K → SessionOf → Status → Type 0
IsTold {K = K} heap lines sink d lines_before lines_after before after session status =
    Conversed d.acts lines_before lines_after (d.overruns lines_before) (d.overruns lines_after)
    d.took before after (d.taken before) (d.taken after) session status
    ⊎ (((status ≡ exit.SinkFault) × Rose (d.faults before) (d.faults after)
    × SaysPart d lines_before lines_after before after session (Unit {0}) ⊥)
    ⊎ (((status ≡ exit.OutOfMemory) × (heap ⊎ (lines ⊎ sink))
    × SaysPart d lines_before lines_after before after session ⊥ ⊥)
    ⊎ ((mid : K) × Rose (d.line_faults lines_before) (d.line_faults lines_after)
    × SaysPart d lines_before lines_after before mid session ⊥ (Unit {0})
    × Says (heap ⊎ sink) d.took d.taken d.faults mid after (Err (early.ShelfFault (codes "-"))) status)))

-- A verdict instead of a run, and an early end, are told, and no line is asked for.
abbrev pub Tells : {L K : Type 0} → Type 0 → Type 0 → Type 0 → TalkActs L K → Result (Result LevelOf Verdict) EarlyEnd → List Watching
    → L → L → K → K → Status → Type 0
Tells heap lines sink d (Ok (Ok run)) watches lines_before lines_after before after status =
    IsTold heap lines sink d lines_before lines_after before after (session_on run watches) status
Tells heap lines sink d (Ok (Err verdict)) watches lines_before lines_after before after status =
    (lines_after ≡ lines_before) × (reply : Reply) × (reply_of reply ≡ verdict_alone verdict)
    × Says (heap ⊎ sink) d.took d.taken d.faults before after (Ok reply) status
Tells heap lines sink d (Err e) watches lines_before lines_after before after status =
    (lines_after ≡ lines_before) × Says (heap ⊎ sink) d.took d.taken d.faults before after (Err e) status

-- 5. Together: the run is found before a line is asked for, and no file is changed.
pub record Converses {S L K : Type 0} (heap shelf lines sink : Type 0) (s : ShelfActs S) (d : TalkActs L K) (talk : Talk)
    (watches : List Watching) (before after : TalkWorld S L K) (status : Status) : Type 0 where
  pub found : Result (Result LevelOf Verdict) EarlyEnd
  pub finds : FindsRunOrEnds (heap ⊎ shelf) s before.shelf after.shelf talk found
  pub files : s.files after.shelf ≡ s.files before.shelf
  pub tells : Tells heap lines sink d found watches before.lines after.lines before.out after.out status
