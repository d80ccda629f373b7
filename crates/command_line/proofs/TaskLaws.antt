-- The texts of a role are those of the files of that role, in order; so each task has a source and values.
use Rattle.std.{proofs.Common.{◌≡◌, ◌≤◌, ◌∷◌, [], ℕ, List, Bool, true, false, Result, Ok, Err, length, map, refl, ap, subst}, specs.Prelude.if◌then◌else◌}
use Rattle.stack_text.specs.Results.{◌>>=◌}
use Rattle.stack_shelf.{specs.Files.Files, specs.Shelf.fetched}
use Rattle.command_line.{specs.declared.command.TaskFiles.TaskFiles, specs.declared.early_end.EarlyEnd.EarlyEnd, specs.declared.role.Role.Role}
use Rattle.command_line.specs.declared.role.Role.TheVariants.{Source, Piton, Image, Values, Script, Assembly, Certificate, Infix, TaskSource, TaskValues}
use Rattle.command_line.{specs.declared.role.Role.TheVariants.{QuickImage, SessionImage}, specs.Roles.{limit_of, is_role}, specs.Gathered.{Texts, texts_of}}
use Rattle.command_line.{specs.Gathered.{AreRead, text_or_end, gathered}, specs.CommandFiles.{task_inputs, names_in}, proofs.FileLaws.was_short}

pub same_role : (a b : Role) → is_role a b ≡ true → a ≡ b
same_role Source Source h = refl
same_role Piton Piton h = refl
same_role Image Image h = refl
same_role Values Values h = refl
same_role Script Script h = refl
same_role Assembly Assembly h = refl
same_role Certificate Certificate h = refl
same_role Infix Infix h = refl
same_role TaskSource TaskSource h = refl
same_role TaskValues TaskValues h = refl
same_role QuickImage QuickImage h = refl
same_role SessionImage SessionImage h = refl
same_role a b h = absurd cc

-- one more file, which is of the role or not
one_file : (role : Role) (files : Files) (input : Role × List ℕ) (text : List ℕ) (names texts : List (List ℕ))
    → text_or_end input (fetched files input.1 (limit_of input.0)) ≡ Ok text → AreRead files role names texts
    → (b : Bool) → is_role input.0 role ≡ b → AreRead files role (if b then input.1 ∷ names else names) (if b then text ∷ texts else texts)
one_file role files input text names texts read others false other = others
one_file role files input text names texts read others true same =
    let file = was_short files input text read in
    (file.0, subst (λ (r : Role). length text ≤ limit_of r) (same_role input.0 role same) file.1, others)

-- the texts of a role, of files that were gathered
pub texts_read : (role : Role) (files : Files) (inputs : List (Role × List ℕ)) (texts : Texts) → gathered files inputs ≡ Ok texts
    → AreRead files role (names_in role inputs) (texts_of role texts)
texts_read role files [] texts got = let none : [] ≡ texts = cc in subst (λ (t : Texts). AreRead files role [] (texts_of role t)) none tt
texts_read role files (input ∷ inputs) texts got = by_text _ refl (λ rest. texts_read role files inputs rest) got
  where
    by_rest : (text : List ℕ) (rest : Result Texts EarlyEnd) → text_or_end input (fetched files input.1 (limit_of input.0)) ≡ Ok text
        → ((others : Texts) → rest ≡ Ok others → AreRead files role (names_in role inputs) (texts_of role others))
        → (rest >>= λ others. Ok ((input.0, text) ∷ others)) ≡ Ok texts → AreRead files role (names_in role (input ∷ inputs)) (texts_of role texts)
    by_rest text (Err early) read known h = absurd cc
    by_rest text (Ok others) read known h =
        let whole : (input.0, text) ∷ others ≡ texts = cc in
        subst (λ (t : Texts). AreRead files role (names_in role (input ∷ inputs)) (texts_of role t)) whole
        (one_file role files input text (names_in role inputs) (texts_of role others) read (known others refl) (is_role input.0 role) refl)

    by_text : (first : Result (List ℕ) EarlyEnd) → text_or_end input (fetched files input.1 (limit_of input.0)) ≡ first
        → ((others : Texts) → gathered files inputs ≡ Ok others → AreRead files role (names_in role inputs) (texts_of role others))
        → (first >>= λ text. gathered files inputs >>= λ others. Ok ((input.0, text) ∷ others)) ≡ Ok texts
        → AreRead files role (names_in role (input ∷ inputs)) (texts_of role texts)
    by_text (Err early) read known h = absurd cc
    by_text (Ok text) read known h = by_rest text (gathered files inputs) read known h

-- the names of the tasks' sources, and of their values
source_names : (tasks : List TaskFiles) → names_in TaskSource (task_inputs tasks) ≡ map (λ task. task.source) tasks
source_names [] = refl
source_names (task ∷ tasks) = ap (λ names. task.source ∷ names) (source_names tasks)

values_names : (tasks : List TaskFiles) → names_in TaskValues (task_inputs tasks) ≡ map (λ task. task.values) tasks
values_names [] = refl
values_names (task ∷ tasks) = ap (λ names. task.values ∷ names) (values_names tasks)

-- where the files of tasks are gathered, each task has a source and values
pub sources_read : (files : Files) (tasks : List TaskFiles) (texts : Texts) → gathered files (task_inputs tasks) ≡ Ok texts
    → AreRead files TaskSource (map (λ task. task.source) tasks) (texts_of TaskSource texts)
sources_read files tasks texts got = subst (λ names. AreRead files TaskSource names (texts_of TaskSource texts)) (source_names tasks)
    (texts_read TaskSource files (task_inputs tasks) texts got)

pub values_read : (files : Files) (tasks : List TaskFiles) (texts : Texts) → gathered files (task_inputs tasks) ≡ Ok texts
    → AreRead files TaskValues (map (λ task. task.values) tasks) (texts_of TaskValues texts)
values_read files tasks texts got = subst (λ names. AreRead files TaskValues names (texts_of TaskValues texts)) (values_names tasks)
    (texts_read TaskValues files (task_inputs tasks) texts got)
