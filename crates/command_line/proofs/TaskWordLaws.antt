-- Tasks that are read one after the other.
use Rattle.std.proofs.Common.{◌≡◌, ◌≤◌, ◌<◌, ◌+◌, ◌-◌, ◌++◌, ◌∷◌, [], ◌∙◌, ◌==◌, ℕ, suc, List, true, false, Option, Some, None, Err, length, refl, sym, ap}
use Rattle.std.{proofs.Common.{subst, arith, append_assoc}, specs.Prelude.String, specs.Global.Global, proofs.lemmas.Bool.eqb-true}
use Rattle.stack_text.specs.Options.{◌>>=◌}
use Rattle.command_line.{specs.declared.command.TaskFiles.TaskFiles, specs.declared.words.reader.WordsFault.WordsFault}
use Rattle.command_line.{specs.declared.words.reader.WordsFault.TheVariants.{Usage, Memory}, specs.CommandWords.{CommandWords, ReadsWordsUnless, spelled, task}}
use Rattle.command_line.specs.CommandWords.{unless_ended, tasks_within}

-- with these tasks before the others
abbrev pub with_tasks : List TaskFiles → Option (List TaskFiles) → Option (List TaskFiles)
with_tasks front None = None
with_tasks front (Some tasks) = Some (front ++ tasks)

-- of at most so many tasks some are read, fewer than all of them
module _ (front : List TaskFiles) (most done : ℕ) (words : CommandWords) (all : Option (List TaskFiles)) (lt : done < most)
    (so_far : with_tasks front (tasks_within (most - done) words) ≡ all) where
  abbrev behind : Option (TaskFiles × CommandWords) → Option (List TaskFiles)
  behind first = first >>= λ f. unless_ended f.1 (tasks_within (most - (done + 1)) f.1) >>= λ others. Some (f.0 ∷ others)

  opened : with_tasks front (behind (task words)) ≡ all
  unfolding tasks_within
  opened =
      let one_less : most - done ≡ suc (most - (done + 1)) = omega (arith, lt) in
      subst (λ n. with_tasks front (tasks_within n words) ≡ all) one_less so_far

  pub task_fails : (refused : Type 0) (fault : WordsFault) → ReadsWordsUnless {X = TaskFiles × CommandWords} refused (λ found. found) (Err fault) (task words)
      → ReadsWordsUnless {X = List TaskFiles} refused (λ tasks. tasks) (Err fault) all
  task_fails refused Usage none = sym (subst (λ first. with_tasks front (behind first) ≡ all) none opened)
  task_fails refused Memory refuses = refuses

  module _ (read : TaskFiles) (after : List (String Global)) (is : task words ≡ Some (read, spelled after)) where
    read_on : with_tasks front (behind (Some (read, spelled after))) ≡ all
    read_on = subst (λ first. with_tasks front (behind first) ≡ all) is opened

    by_last : (ws : List (String Global)) → with_tasks front
        (unless_ended (spelled ws) (tasks_within (most - (done + 1)) (spelled ws)) >>= λ others. Some (read ∷ others)) ≡ all
        → (length ws == 0) ≡ true → all ≡ Some (front ++ read ∷ [])
    by_last [] h none = sym h
    by_last (w ∷ ws) h none = absurd (omega (arith, eqb-true (length (w ∷ ws)) 0 none))

    by_next : (ws : List (String Global)) → with_tasks front
        (unless_ended (spelled ws) (tasks_within (most - (done + 1)) (spelled ws)) >>= λ others. Some (read ∷ others)) ≡ all
        → (length ws == 0) ≡ false → with_tasks (front ++ read ∷ []) (tasks_within (most - (done + 1)) (spelled ws)) ≡ all
    by_next [] h some = absurd (let e : true ≡ false = some in cc)
    by_next (w ∷ ws) h some = one_more (tasks_within (most - (done + 1)) (spelled (w ∷ ws))) ∙ h
      where
        one_more : (others : Option (List TaskFiles)) → with_tasks (front ++ read ∷ []) others ≡ with_tasks front (others >>= λ tasks. Some (read ∷ tasks))
        one_more None = refl
        one_more (Some others) = ap (λ (tasks : List TaskFiles). Some tasks) (append_assoc front (read ∷ []) others)

    -- it is the last one
    pub last_task : (length after == 0) ≡ true → all ≡ Some (front ++ read ∷ [])
    last_task none = by_last after read_on none

    -- others follow
    pub next_task : (length after == 0) ≡ false → with_tasks (front ++ read ∷ []) (tasks_within (most - (done + 1)) (spelled after)) ≡ all
    next_task some = by_next after read_on some

-- no more are allowed
pub none_left : (front : List TaskFiles) (most done : ℕ) (words : CommandWords) (all : Option (List TaskFiles)) → most ≤ done
    → with_tasks front (tasks_within (most - done) words) ≡ all → all ≡ None
unfolding tasks_within
none_left front most done words all le so_far =
    let nothing : most - done ≡ 0 = omega (arith, le) in sym (subst (λ n. with_tasks front (tasks_within n words) ≡ all) nothing so_far)
