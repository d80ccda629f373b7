-- A run of an image that does a source quickly tells what the source means.
use Rattle.std.{proofs.Common.{◌≡◌, ◌≤◌, ◌<◌, inl, inr, ⊎_elim, ℕ, List, Option, Result, Ok, refl, sym, ap, ◌∙◌, subst, arith}, proofs.lemmas.Bool.cases_lt}
use Rattle.stack_text.specs.Values.{ValueOf}
use Rattle.fm_machine.{specs.Outcome.{IsOutcome, RunOutcome, outcome}, specs.declared.processor.Run.Run, proofs.RunLaws.{outcome_is, outcome_only}}
use Rattle.fm_machine.specs.declared.processor.Run.TheVariants as run
use Rattle.fm_image.{specs.Image.ImageOf, proofs.ImageLaws.spelled_reads}
use Rattle.fm_loader.{specs.Loaded.loaded, specs.Values.values_in}
use Rattle.display_maps.specs.Reading.{ReadingOf}
use Rattle.stack_shelf.specs.Files.{Files}
use Rattle.level_debuggers.specs.Tallies.{Watching}
use Rattle.gypsy_syntax.specs.Sources.{SourceOf}
use Rattle.gypsy_space.specs.Needs.{StackSizes}
use Rattle.gypsy_semantics.specs.Calls.{CurrentCondition}
use Rattle.stack_build.{specs.ComesTo.ComesTo, specs.Implements.{FitsFormals, Finishes, meaning_shown}, proofs.MomentLaws.run_up_to}
use Rattle.quick_generate.specs.DoesQuickly.{DoesQuickly}
use Rattle.command_line.{specs.declared.command.Command.Command, specs.declared.early_end.EarlyEnd.EarlyEnd, specs.declared.role.Role.TheVariants.Values}
use Rattle.command_line.{specs.declared.role.Role.TheVariants.Image, specs.CommandFiles.inputs_of, specs.Gathered.Texts}
use Rattle.command_line.specs.declared.command.Command.TheVariants as command
use Rattle.command_replies.{specs.Replies.ReplyOf, specs.Commands.Run.{run_reply, image_file_reply}}
use Rattle.stack_commands.specs.Prepared.{reply_by}
use Rattle.cli_stack.{specs.Answer.{answer_with, answer_on, answer_to}, specs.FilesAndSizes.IsReadable, specs.QuickRuns.{IsQuickRead, IsDoneQuickly}}
use Rattle.cli_stack.{specs.QuickRuns.{TellsQuickly, RunsQuickly}, proofs.DecidesLaws.spent_told, proofs.TellsLaws.{both_there, end_tells}}

-- 1. A run.

-- with a budget below the instructions of a run, it is used up
spent_before : (image : ImageOf) (values : List ValueOf) (steps budget : ℕ) (read : ReadingOf) → ComesTo image values steps read → budget < steps
    → (outcome budget image.final_pc (loaded image values)).run ≡ run.Spent
spent_before image values steps budget read end below =
    let m = loaded image values in
    let made = run_up_to budget steps m end.state (omega (arith, below)) end.first.reached in
    let is : IsOutcome m image.final_pc budget run.Spent made.0 = (made.1, λ i u lt. end.first.before i u (omega (arith, lt, below))) in
    ap (λ (o : RunOutcome). o.run) (outcome_only m image.final_pc budget run.Spent made.0 is)

module _ (image : ImageOf) (source : SourceOf) (sizes : StackSizes) (does : DoesQuickly image source sizes) (values : List ValueOf)
    (fits : FitsFormals source values) (budget : ℕ) (output : Option (List ℕ × List ℕ)) where
  -- where it comes to its end, it tells a meaning
  ended_tells : (steps : ℕ) → steps ≤ budget → (outcome budget image.final_pc (loaded image values)).run ≡ run.Ended steps → (reply : ReplyOf)
      → reply ≡ run_reply image values budget → IsDoneQuickly source sizes image values budget (answer_with output reply)
  ended_tells steps within ended reply is =
      let o : RunOutcome = outcome budget image.final_pc (loaded image values) in
      let first : IsOutcome (loaded image values) image.final_pc budget (run.Ended steps) o.state =
      subst (λ (r : Run). IsOutcome (loaded image values) image.final_pc budget r o.state) ended (outcome_is (loaded image values) image.final_pc budget) in
      let m = does.ends values steps o.state fits first.1 in
      let comes : ComesTo image values steps (meaning_shown source m.finals m.way) = record { state = o.state; first = first.1; reads = m.reads } in
      record {
        finals = m.finals;
        way = m.way;
        count = m.count;
        meant = m.finishes;
        steps = steps;
        fewer = m.few;
        within = within;
        tells = end_tells image source values m.finals m.way steps budget output reply comes within is;
      }

  -- where the budget is used up, the meaning isn't done within it
  beyond : (outcome budget image.final_pc (loaded image values)).run ≡ run.Spent → (finals : List ValueOf) (way : CurrentCondition) (count : ℕ)
      → Finishes source sizes values finals way count → budget < count
  beyond spent finals way count fin =
      let c = does.comes values finals way count fits fin in
      ⊎_elim (λ below. omega (arith, below, c.few)) (λ within.
      let is : IsOutcome (loaded image values) image.final_pc budget (run.Ended c.steps) c.comes.state = (within, c.comes.first) in
      let ended : (outcome budget image.final_pc (loaded image values)).run ≡ run.Ended c.steps =
      ap (λ (o : RunOutcome). o.run) (outcome_only (loaded image values) image.final_pc budget (run.Ended c.steps) c.comes.state is) in
      let both : run.Spent ≡ run.Ended c.steps = sym spent ∙ ended in
      absurd cc) (cases_lt budget c.steps)

  pub reply_tells_quickly : (reply : ReplyOf) → reply ≡ run_reply image values budget → TellsQuickly source sizes image values budget (answer_with output reply)
  reply_tells_quickly reply is = record {
    told = λ finals way count fin.
        let c = does.comes values finals way count fits fin in
        record {
          steps = c.steps;
          fewer = c.few;
          enough = λ within. end_tells image source values finals way c.steps budget output reply c.comes within is;
          scarce = λ below. spent_told image values budget output reply is
              (spent_before image values c.steps budget (meaning_shown source finals way) c.comes below);
        };
    either = ⊎_elim (λ ended. inl (ended_tells ended.0 ended.1 ended.2 reply is))
        (λ spent. inr (record { beyond = beyond spent; tells = spent_told image values budget output reply is spent }))
        (does.inside values budget fits);
    endless = λ never. spent_told image values budget output reply is (does.unfinished values budget fits never);
  }

-- 2. The files lead to it.

read_tells_quickly : (watches : List Watching) (files : Files) (image_name values_name : List ℕ) (budget : ℕ) (sizes : StackSizes) (source : SourceOf)
    (image : ImageOf) (values_text : List ℕ) (values : List ValueOf) → IsQuickRead files image_name sizes source image values
    → IsReadable files Values values_name values_text → values_in image.slots values_text ≡ Ok values
    → TellsQuickly source sizes image values budget (answer_to (command.Run image_name values_name budget) watches files)
unfolding inputs_of reply_by
read_tells_quickly watches files image_name values_name budget sizes source image values_text values found there gives =
    let replies : image_file_reply found.bytes values_text budget ≡ run_reply image values budget =
    rw (spelled_reads found.bytes image found.spells, gives) refl in
    subst (λ (r : Result Texts EarlyEnd). TellsQuickly source sizes image values budget (answer_on (command.Run image_name values_name budget) watches r))
    (sym (both_there files (Image, image_name) (Values, values_name) found.bytes values_text found.readable there))
    (reply_tells_quickly image source sizes found.does values found.fit budget _ (image_file_reply found.bytes values_text budget) replies)

pub runs_quickly : (c : Command) (watches : List Watching) (files : Files) → RunsQuickly c files (answer_to c watches files)
runs_quickly (command.Run image_name values_name budget) watches files = λ sizes source image values_text values found there gives.
    read_tells_quickly watches files image_name values_name budget sizes source image values_text values found there gives
runs_quickly c watches files = tt
