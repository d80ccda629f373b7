-- The words of `turns` name one to eight tasks.
use Rattle.std.{proofs.Common.{◌≤◌, ℕ, zero, suc, List, [], ◌∷◌, Bool, true, false, Option, Some, None, IfSome, length, arith}, specs.Prelude.if◌then◌else◌}
use Rattle.std.specs.Str.{bytes_eq}
use Rattle.stack_text.specs.Options.{◌>>=◌}
use Rattle.command_line.{specs.declared.command.Command.Command, specs.declared.command.TaskFiles.TaskFiles, specs.CommandRows.{command_of, row_of, row_with}}
use Rattle.command_line.specs.CommandRows.{rows, whole_of, at_end, read_on, check_row, mean_row, pit_row, build_row, pcheck_row, prun_row, pbuild_row, run_row}
use Rattle.command_line.specs.CommandRows.{go_row, show_row, migrate_row, asm_row, unasm_row, need_row, cert_row, debug_row, pdebug_row, idebug_row, turns_row}
use Rattle.command_line.{specs.CommandRows.{big_row, mini_row, quick_row}, specs.CommandWords.{CommandWords, Reader, task, tasks, tasks_within, unless_ended}}
use Rattle.command_line.specs.CommandWords.{file, size, limit, seed, procedures, debug_level, turn_length, end}
use Rattle.command_line.specs.declared.command.Command.TheVariants as command

-- there are one to eight tasks where there are any
abbrev pub HasFew : Command → Type 0
HasFew (command.Turns turn budget control temporary names) = (1 ≤ length names) × (length names ≤ 8)
HasFew c = Unit {0}

-- 1. The tasks.

abbrev Within : ℕ → List TaskFiles → Type 0
Within n names = (1 ≤ length names) × (length names ≤ n)

within : (n : ℕ) (words : CommandWords) → IfSome (tasks_within n words) (Within n)
unfolding tasks_within
within zero words = tt
within (suc n) words = by_task (task words) (λ ws. within n ws)
  where
    by_others : (names : TaskFiles) (others : Option (List TaskFiles)) → IfSome others (λ ts. length ts ≤ n)
        → IfSome (others >>= λ ts. Some (names ∷ ts)) (Within (suc n))
    by_others names None h = tt
    by_others names (Some ts) h = (omega arith, omega (arith, h))

    none_or : (rest : CommandWords) (o : Option (List TaskFiles)) → IfSome o (Within n) → IfSome (unless_ended rest o) (λ ts. length ts ≤ n)
    none_or [] o h = omega arith
    none_or (word ∷ words) None h = tt
    none_or (word ∷ words) (Some ts) h = h.1

    by_task : (first : Option (TaskFiles × CommandWords)) → ((ws : CommandWords) → IfSome (tasks_within n ws) (Within n))
        → IfSome (first >>= λ f. unless_ended f.1 (tasks_within n f.1) >>= λ others. Some (f.0 ∷ others)) (Within (suc n))
    by_task None less = tt
    by_task (Some f) less = by_others f.0 (unless_ended f.1 (tasks_within n f.1)) (none_or f.1 (tasks_within n f.1) (less f.1))

-- 2. The rows.

record Few (row : CommandWords → Option Command) : Type 0 where
  each : (words : CommandWords) → IfSome (row words) HasFew

then_few : {A : Type 0} (read : Reader A) (next : A → CommandWords → Option Command) → ((x : A) → Few (next x)) → Few (λ words. read_on (read words) next)
then_few {A} read next has = record { each = λ words. by_found (read words) }
  where
    by_found : (o : Option (A × CommandWords)) → IfSome (read_on o next) HasFew
    by_found None = tt
    by_found (Some found) = (has found.0).each found.1

last : (c : Command) → HasFew c → Few (at_end c)
last c has = record { each = λ words. by_end (end words) }
  where
    by_end : (o : Option (Unit {0})) → IfSome (whole_of o c) HasFew
    by_end None = tt
    by_end (Some u) = has

one : (c : List ℕ → Command) → ((a : List ℕ) → HasFew (c a)) → Few (λ words. read_on (file words) (λ a. at_end (c a)))
one c has = then_few file (λ a. at_end (c a)) (λ a. last (c a) (has a))

two : (c : List ℕ → List ℕ → Command) → ((a b : List ℕ) → HasFew (c a b)) → Few
    (λ words. read_on (file words) (λ a words. read_on (file words) (λ b. at_end (c a b))))
two c has = then_few file (λ a words. read_on (file words) (λ b. at_end (c a b))) (λ a. one (c a) (has a))

check_few : Few check_row
unfolding check_row
check_few = one (λ a. command.Check a) (λ a. tt)

mean_few : Few mean_row
unfolding mean_row
mean_few = then_few file _ (λ source. then_few file _
    (λ values. then_few size _ (λ control. then_few size _
    (λ temporary. then_few limit _ (λ steps. last (command.Mean source values control temporary steps) tt)))))

pit_few : Few pit_row
unfolding pit_row
pit_few = then_few file _ (λ source. then_few size _
    (λ control. then_few size _ (λ temporary. then_few file _ (λ piton. last (command.Pit source control temporary piton) tt))))

build_few : Few build_row
unfolding build_row
build_few = then_few file _ (λ source. then_few size _
    (λ control. then_few size _ (λ temporary. then_few file _ (λ image. last (command.Build source control temporary image) tt))))

pcheck_few : Few pcheck_row
unfolding pcheck_row
pcheck_few = one (λ a. command.Pcheck a) (λ a. tt)

prun_few : Few prun_row
unfolding prun_row
prun_few = then_few file _ (λ piton. then_few limit _ (λ steps. last (command.Prun piton steps) tt))

pbuild_few : Few pbuild_row
unfolding pbuild_row
pbuild_few = two (λ a b. command.Pbuild a b) (λ a b. tt)

run_few : Few run_row
unfolding run_row
run_few = then_few file _ (λ image. then_few file _ (λ values. then_few limit _ (λ budget. last (command.Run image values budget) tt)))

go_few : Few go_row
unfolding go_row
go_few = then_few file _ (λ source. then_few file _
    (λ values. then_few size _ (λ control. then_few size _
    (λ temporary. then_few limit _ (λ budget. then_few file _ (λ image. last (command.Go source values control temporary budget image) tt))))))

show_few : Few show_row
unfolding show_row
show_few = one (λ a. command.Show a) (λ a. tt)

migrate_few : Few migrate_row
unfolding migrate_row
migrate_few = two (λ a b. command.Migrate a b) (λ a b. tt)

asm_few : Few asm_row
unfolding asm_row
asm_few = two (λ a b. command.Asm a b) (λ a b. tt)

unasm_few : Few unasm_row
unfolding unasm_row
unasm_few = two (λ a b. command.Unasm a b) (λ a b. tt)

need_few : Few need_row
unfolding need_row
need_few = two (λ a b. command.Need a b) (λ a b. tt)

cert_few : Few cert_row
unfolding cert_row
cert_few = then_few file _ (λ source. then_few file _
    (λ certificate. then_few size _ (λ control. then_few size _ (λ temporary. last (command.Cert source certificate control temporary) tt))))

debug_few : Few debug_row
unfolding debug_row
debug_few = then_few debug_level _ (λ level. then_few file _
    (λ source. then_few file _ (λ values. then_few size _
    (λ control. then_few size _ (λ temporary. then_few file _
    (λ script. last (command.Debug level source values control temporary script) tt))))))

pdebug_few : Few pdebug_row
unfolding pdebug_row
pdebug_few = two (λ a b. command.Pdebug a b) (λ a b. tt)

idebug_few : Few idebug_row
unfolding idebug_row
idebug_few = then_few file _ (λ image. two (λ a b. command.Idebug image a b) (λ a b. tt))

big_few : Few big_row
unfolding big_row
big_few = then_few seed _ (λ number. then_few procedures _ (λ count. last (command.Big number count) tt))

mini_few : Few mini_row
unfolding mini_row
mini_few = two (λ a b. command.Mini a b) (λ a b. tt)

quick_few : Few quick_row
unfolding quick_row
quick_few = then_few file _ (λ source. then_few size _
    (λ control. then_few size _ (λ temporary. then_few file _ (λ image. last (command.Quick source control temporary image) tt))))

-- the tasks of a row of `turns`
last_tasks : (turn budget control temporary : ℕ) → Few (λ words. read_on (tasks words) (λ names. at_end (command.Turns turn budget control temporary names)))
unfolding tasks
last_tasks turn budget control temporary = record { each = λ words. by_read (tasks_within 8 words) (within 8 words) }
  where
    by_read : (o : Option (List TaskFiles)) → IfSome o (Within 8) → IfSome
        (read_on (o >>= λ read. Some (read, [])) (λ names. at_end (command.Turns turn budget control temporary names))) HasFew
    by_read None h = tt
    by_read (Some names) h = (last (command.Turns turn budget control temporary names) h).each []

turns_few : Few turns_row
unfolding turns_row
turns_few = then_few turn_length _ (λ turn. then_few limit _
    (λ budget. then_few size _ (λ control. then_few size _ (λ temporary. last_tasks turn budget control temporary))))

-- 3. All rows.

if_few : (b : Bool) (o p : Option Command) → IfSome o HasFew → IfSome p HasFew → IfSome (if b then o else p) HasFew
if_few true o p first other = first
if_few false o p first other = other

-- each row of a table
abbrev EachFew : List (List ℕ × (CommandWords → Option Command)) → Type 0
EachFew [] = Unit {0}
EachFew (row ∷ others) = Few row.1 × EachFew others

infixr 10 ◌beside◌
abbrev ◌beside◌ : {A B : Type 0} → A → B → A × B
a beside b = (a, b)

each_few : EachFew rows
unfolding rows
each_few =
    check_few beside mean_few beside pit_few beside build_few beside pcheck_few beside prun_few beside
    pbuild_few beside run_few beside go_few beside show_few beside migrate_few beside asm_few beside
    unasm_few beside need_few beside cert_few beside debug_few beside pdebug_few beside idebug_few beside
    turns_few beside big_few beside mini_few beside quick_few beside tt

named_few : (word : List ℕ) (table : List (List ℕ × (CommandWords → Option Command))) (words : CommandWords) → EachFew table
    → IfSome (row_with word table words) HasFew
unfolding row_with
named_few word [] words few = tt
named_few word (row ∷ others) words few =
    if_few (bytes_eq word row.0) (row.1 words) (row_with word others words) (few.0.each words) (named_few word others words few.1)

row_few : (word : List ℕ) (words : CommandWords) → IfSome (row_of word words) HasFew
unfolding row_of
row_few word words = named_few word rows words each_few

-- so it is of the command of any words
pub words_few : (words : CommandWords) → IfSome (command_of words) HasFew
unfolding command_of
words_few [] = tt
words_few (word ∷ words) = row_few word words
