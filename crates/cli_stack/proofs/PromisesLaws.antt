-- The promises of the program, from what its two halves say: how the command was performed, and how it was concluded.
use Rattle.std.proofs.Common.{◌≡◌, ◌⊎◌, inl, inr, ⊎_elim, ℕ, List, Bool, true, false, Option, Some, None, IfSome, IfErr, IfOk, Result, Ok, Err, refl, sym, ap}
use Rattle.std.{proofs.Common.{◌∙◌, subst}, specs.Prelude.◌≢◌, specs.Option.option_map}
use Rattle.fm_machine.specs.State.{Fm, MachineOf}
use Rattle.stack_shelf.{specs.Files.Files, specs.Causes.Rose, specs.Shelf.{appended, PrefixAppended}}
use Rattle.level_debuggers.specs.Tallies.{Watching}
use Rattle.command_line.{specs.declared.command.Command.Command, specs.declared.early_end.EarlyEnd.EarlyEnd, specs.declared.status.Status.Status}
use Rattle.command_line.{specs.declared.status.Status.TheVariants.{Missing, ShelfFault, SinkFault, Size, OutOfMemory, NoWords}, specs.Ends.end_status}
use Rattle.command_line.{specs.Ends.end_line, specs.CommandFiles.{input_names, file_names}, proofs.PrintLaws.nothing_printed}
use Rattle.command_line.specs.declared.early_end.EarlyEnd.TheVariants as early
use Rattle.cli_stack.{specs.declared.driver.conclude.Conclusion.Conclusion, specs.Answer.{Answer, early_answer, files_after, answer_by, answer_to}}
use Rattle.cli_stack.{specs.World.World, specs.Promises.{KeepsWithFiles, IsTooLong, KeepsPromises}, specs.Kept.{RunsImage, IsRunEnd}, specs.Remains.HoldsPart}
use Rattle.cli_stack.{specs.Remains.{LeavesFiles, PrintsPrefix}, specs.Causes.RoseAt, specs.Agrees.{HoldsMachine, Agrees}, specs.Tells.TellsMeanings}
use Rattle.cli_stack.{specs.RepliesTo.{Devices, IsReplyTo, Replies, TookLines}, specs.Driver.{HasReason, LeavesAs, Leaves, machine_kept, conclusion_of}}
use Rattle.cli_stack.{specs.Driver.{replied, Stopped, NotBegun, Concludes}, proofs.CompletesLaws.completes, proofs.MachineLaws.{RepliesToSome, only_runs}}
use Rattle.cli_stack.proofs.SizeLaws.{has_sizes}
use Rattle.stack_commands.{specs.declared.work.Ending.Ending, specs.Works.ending_reply}
use Rattle.command_replies.{specs.declared.reply.Reply.Reply, specs.declared.reply.Verdict.Verdict, specs.Replies.{ReplyOf, status_of, reply_of}}
use Rattle.command_replies.specs.declared.reply.Verdict.TheVariants as verdict

-- 1. Statuses.

-- not brought about by a device's failure or by memory alone
abbrev is_plain : Status → Bool
is_plain ShelfFault = false
is_plain SinkFault = false
is_plain OutOfMemory = false
is_plain status = true

-- one that a command ends with by itself
abbrev is_own : Status → Bool
is_own Missing = false
is_own ShelfFault = false
is_own SinkFault = false
is_own OutOfMemory = false
is_own status = true

apart : (test : Status → Bool) (s t : Status) → test s ≡ true → test t ≡ false → s ≡ t → ⊥
apart test s t passes fails e = let same : test s ≡ test t = ap test e in cc

plain_verdict : (v : Verdict) → is_plain (status_of v) ≡ true
plain_verdict verdict.Done = refl
plain_verdict v = refl

own_verdict : (v : Verdict) → is_own (status_of v) ≡ true
own_verdict verdict.Done = refl
own_verdict v = refl

-- one that memory sufficed for
abbrev has_memory : Status → Bool
has_memory OutOfMemory = false
has_memory status = true

verdict_has_memory : (v : Verdict) → has_memory (status_of v) ≡ true
verdict_has_memory verdict.Done = refl
verdict_has_memory v = refl

-- one that a call which has its words ends with
abbrev is_after_words : Status → Bool
is_after_words NoWords = false
is_after_words status = true

verdict_after_words : (v : Verdict) → is_after_words (status_of v) ≡ true
verdict_after_words verdict.Done = refl
verdict_after_words v = refl

end_after_words : (e : EarlyEnd) → is_after_words (end_status e) ≡ true
end_after_words early.OutOfMemory = refl
end_after_words e = refl

-- 2. Where the files are known.

record Known (answer : Answer) (names : List (List ℕ)) (files : Files) (before after : World) (status : Status) : Type 0 where
  pub answers : status ≢ ShelfFault → status ≢ SinkFault → status ≢ OutOfMemory → Agrees answer files before after status
  pub files_at_10 : status ≡ ShelfFault → HoldsPart (Some files) after.shelf.files answer.output
  pub files_at_11 : status ≡ SinkFault → LeavesFiles files answer.output names before after
  pub files_at_14 : status ≡ OutOfMemory → (after.shelf.files ≡ Some files) ⊎ LeavesFiles files answer.output names before after
  pub text : (status ≡ SinkFault) ⊎ (status ≡ OutOfMemory) → PrintsPrefix answer.text names before after

holds_machine : (before after machine : Option MachineOf) (state : Option Fm) → after ≡ machine_kept before machine
    → state ≡ option_map (λ (m : MachineOf). m.state) machine → HoldsMachine before after state
holds_machine before after None None kept is = kept
holds_machine before after None (Some s) kept is = cc
holds_machine before after (Some m) None kept is = cc
holds_machine before after (Some m) (Some s) kept is = let same : s ≡ m.state = cc in rw kept (sym same)

-- the command concludes as it is to answer, and has set its file
agreeing : (refused : Type 0) (Took : List ℕ → Type 0) (answer : Answer) (names : List (List ℕ)) (files : Files) (before after : World)
    (c : Conclusion) (status : Status)
    → answer.status ≡ c.status → answer.text ≡ c.text → answer.machine ≡ option_map (λ (m : MachineOf). m.state) c.machine
    → after.shelf.files ≡ Some (files_after answer.output files) → is_plain c.status ≡ true
    → Concludes refused Took (Some c) status before.out after.out → Known answer names files before after status
agreeing refused Took answer names files before after c status ends says runs left plain (inl n) = record {
  answers = λ h1 h2 h3. absurd (h3 n.ends);
  files_at_10 = λ h. absurd (let e : ShelfFault ≡ OutOfMemory = sym h ∙ n.ends in cc);
  files_at_11 = λ h. inl left;
  files_at_14 = λ h. inr (inl left);
  text = λ h. inl (nothing_printed before.out.taken after.out.taken answer.text n.text);
}
agreeing refused Took answer names files before after c status ends says runs left plain (inr (inl p)) = record {
  answers = λ h1 h2 h3. record {
    ends = p.ends ∙ sym ends;
    files_left = left;
    text = p.text ∙ ap (appended before.out.taken) (sym says);
    machine = holds_machine before.out.kept after.out.kept c.machine answer.machine p.machine runs;
  };
  files_at_10 = λ h. absurd (apart is_plain c.status ShelfFault plain refl (sym p.ends ∙ h));
  files_at_11 = λ h. inl left;
  files_at_14 = λ h. inr (inl left);
  text = λ h. absurd (⊎_elim (λ (e : status ≡ SinkFault). apart is_plain c.status SinkFault plain refl (sym p.ends ∙ e))
      (λ e. apart is_plain c.status OutOfMemory plain refl (sym p.ends ∙ e)) h);
}
agreeing refused Took answer names files before after c status ends says runs left plain (inr (inr s)) = record {
  answers = λ h1 h2 h3. absurd (⊎_elim (λ failed. h2 failed.0) (λ memory. h3 memory.0) s.cause);
  files_at_10 = λ h. absurd (⊎_elim (λ failed. let e : ShelfFault ≡ SinkFault = sym h ∙ failed.0 in cc)
      (λ memory. let e : ShelfFault ≡ OutOfMemory = sym h ∙ memory.0 in cc) s.cause);
  files_at_11 = λ h. inl left;
  files_at_14 = λ h. inr (inl left);
  text = λ h. inl (subst (PrefixAppended before.out.taken after.out.taken) (sym says) s.text);
}

-- an early end that isn't a failure leaves the files, and sets none
early_left : (answer : Answer) (end : EarlyEnd) (files : Files) (left : Option Files) → answer ≡ early_answer end → left ≡ Some files
    → left ≡ Some (files_after answer.output files)
early_left answer end files left is same = same ∙ ap (λ (a : Answer). Some (files_after a.output files)) (sym is)

known : (may_refuse refused : Type 0) (Took : List ℕ → Type 0) (command : Option Command) (answer : Answer) (files : Files) (before after : World)
    (ran : Result Reply EarlyEnd) (status : Status)
    → LeavesAs answer (file_names command) files before.shelf after.shelf ran
    → IfErr ran (HasReason may_refuse before.shelf.counts after.shelf.counts command)
    → Concludes refused Took (conclusion_of ran) status before.out after.out → Known answer (file_names command) files before after status
known may_refuse refused Took command answer files before after (Ok reply) status l reason ends =
    agreeing refused Took answer (file_names command) files before after _ status (ap (λ (a : Answer). a.status) l.0) (ap (λ (a : Answer). a.text) l.0)
    (ap (λ (a : Answer). a.machine) l.0) l.1 (plain_verdict reply.verdict) ends
known may_refuse refused Took command answer files before after (Err (early.Missing name)) status l reason ends =
    agreeing refused Took answer (file_names command) files before after _ status (ap (λ (a : Answer). a.status) l.0) (ap (λ (a : Answer). a.text) l.0)
    (ap (λ (a : Answer). a.machine) l.0) (early_left answer (early.Missing name) files after.shelf.files l.0 l.1) refl ends
known may_refuse refused Took command answer files before after (Err (early.TooLong limit)) status l reason ends =
    agreeing refused Took answer (file_names command) files before after _ status (ap (λ (a : Answer). a.status) l.0) (ap (λ (a : Answer). a.text) l.0)
    (ap (λ (a : Answer). a.machine) l.0) (early_left answer (early.TooLong limit) files after.shelf.files l.0 l.1) refl ends
known may_refuse refused Took command answer files before after (Err (early.ShelfFault name)) status l reason (inl n) = record {
  answers = λ h1 h2 h3. absurd (h3 n.ends);
  files_at_10 = λ h. l;
  files_at_11 = λ h. absurd (let e : SinkFault ≡ OutOfMemory = sym h ∙ n.ends in cc);
  files_at_14 = λ h. inr (inr (l, (reason.0, reason.1, reason.2.1, tt)));
  text = λ h. inl (nothing_printed before.out.taken after.out.taken answer.text n.text);
}
known may_refuse refused Took command answer files before after (Err (early.ShelfFault name)) status l reason (inr (inl p)) = record {
  answers = λ h1 h2 h3. absurd (h1 p.ends);
  files_at_10 = λ h. l;
  files_at_11 = λ h. absurd (let e : SinkFault ≡ ShelfFault = sym h ∙ p.ends in cc);
  files_at_14 = λ h. absurd (let e : OutOfMemory ≡ ShelfFault = sym h ∙ p.ends in cc);
  text = λ h. absurd (⊎_elim (λ (e : status ≡ SinkFault). let f : SinkFault ≡ ShelfFault = sym e ∙ p.ends in cc)
      (λ e. let f : OutOfMemory ≡ ShelfFault = sym e ∙ p.ends in cc) h);
}
known may_refuse refused Took command answer files before after (Err (early.ShelfFault name)) status l reason (inr (inr s)) = record {
  answers = λ h1 h2 h3. absurd (⊎_elim (λ failed. h2 failed.0) (λ memory. h3 memory.0) s.cause);
  files_at_10 = λ h. l;
  files_at_11 = λ h. inr (l, (reason.0, reason.1, reason.2.1, tt));
  files_at_14 = λ h. inr (inr (l, (reason.0, reason.1, reason.2.1, tt)));
  text = λ h. inr (
    reason.0,
    reason.1,
    reason.2.1,
    subst
        (λ (n : List ℕ). PrefixAppended before.out.taken after.out.taken (end_line (early.ShelfFault n))) reason.2.0 s.text,
  );
}
known may_refuse refused Took command answer files before after (Err early.OutOfMemory) status l reason (inl n) = record {
  answers = λ h1 h2 h3. absurd (h3 n.ends);
  files_at_10 = λ h. absurd (let e : ShelfFault ≡ OutOfMemory = sym h ∙ n.ends in cc);
  files_at_11 = λ h. absurd (let e : SinkFault ≡ OutOfMemory = sym h ∙ n.ends in cc);
  files_at_14 = λ h. l;
  text = λ h. inl (nothing_printed before.out.taken after.out.taken answer.text n.text);
}
known may_refuse refused Took command answer files before after (Err early.OutOfMemory) status l reason (inr none) = absurd none

-- 3. Causes.

record Caused {S K : Type 0} (devices : Devices S K) (command : Option Command) (watches : List Watching) (before after : World)
    (status : Status) : Type 0 where
  pub missing : status ≡ Missing → RoseAt (λ c. c.absences) (input_names command) before.shelf after.shelf
      (λ name. after.out.taken ≡ appended before.out.taken (end_line (early.Missing name)))
  pub shelf_fault : status ≡ ShelfFault → RoseAt (λ c. c.faults) (file_names command) before.shelf after.shelf
      (λ name. after.out.taken ≡ appended before.out.taken (end_line (early.ShelfFault name)))
  pub sink_fault : status ≡ SinkFault → Rose before.out.faults after.out.faults
  pub replies : status ≢ Missing → status ≢ ShelfFault → status ≢ SinkFault → status ≢ OutOfMemory → IsTooLong command before after status
      ⊎ Replies devices command watches before after status
  pub kept : ¬ (RunsImage command × IsRunEnd status) → after.out.kept ≡ before.out.kept

not_begun : {S K : Type 0} (refused : Type 0) (devices : Devices S K) (command : Option Command) (watches : List Watching) (before after : World)
    (status : Status) → NotBegun refused status before.out after.out → Caused devices command watches before after status
not_begun refused devices command watches before after status n = record {
  missing = λ h. absurd (let e : Missing ≡ OutOfMemory = sym h ∙ n.ends in cc);
  shelf_fault = λ h. absurd (let e : ShelfFault ≡ OutOfMemory = sym h ∙ n.ends in cc);
  sink_fault = λ h. absurd (let e : SinkFault ≡ OutOfMemory = sym h ∙ n.ends in cc);
  replies = λ h1 h2 h3 h4. absurd (h4 n.ends);
  kept = λ h. n.machine;
}

stopped : {S K : Type 0} (refused : Type 0) (devices : Devices S K) (command : Option Command) (watches : List Watching) (before after : World)
    (c : Conclusion) (status : Status) → Stopped refused c status before.out after.out → Caused devices command watches before after status
stopped refused devices command watches before after c status s = record {
  missing = λ h. absurd (other Missing refl h);
  shelf_fault = λ h. absurd (⊎_elim (λ failed. let e : ShelfFault ≡ SinkFault = sym h ∙ failed.0 in cc)
      (λ memory. let e : ShelfFault ≡ OutOfMemory = sym h ∙ memory.0 in cc) s.cause);
  sink_fault = λ h. ⊎_elim (λ failed. failed.1) (λ memory. absurd (let e : SinkFault ≡ OutOfMemory = sym h ∙ memory.0 in cc)) s.cause;
  replies = λ h1 h2 h3 h4. absurd (⊎_elim (λ failed. h3 failed.0) (λ memory. h4 memory.0) s.cause);
  kept = λ h. s.machine;
}
  where
    other : (t : Status) → is_plain t ≡ true → status ≡ t → ⊥
    other t plain h = ⊎_elim (λ (failed : (status ≡ SinkFault) × Rose before.out.faults after.out.faults). apart is_plain t SinkFault plain refl
        (sym h ∙ failed.0)) (λ memory. apart is_plain t OutOfMemory plain refl (sym h ∙ memory.0)) s.cause

-- the reply is one to some texts
to_some : {S K : Type 0} (devices : Devices S K) (command : Option Command) (watches : List Watching) (reply : ReplyOf)
    → IsReplyTo devices.gave devices.got devices.shelf_before devices.shelf_after command watches reply → RepliesToSome command watches reply
to_some devices None watches reply to = to.0
to_some devices (Some c) watches reply to = (to.texts, to.is)

caused : {S K : Type 0} (may_refuse refused : Type 0) (devices : Devices S K) (command : Option Command) (watches : List Watching) (before after : World)
    (ran : Result Reply EarlyEnd) (status : Status)
    → IfErr ran (HasReason may_refuse before.shelf.counts after.shelf.counts command) → IfOk ran
    (λ reply. IsReplyTo devices.gave devices.got devices.shelf_before devices.shelf_after command watches (reply_of reply))
    → Concludes refused (TookLines devices.took devices.out_before devices.out_after) (conclusion_of ran) status before.out after.out
    → Caused devices command watches before after status
caused may_refuse refused devices command watches before after ran status reason to (inl n) =
    not_begun (refused ⊎ (conclusion_of ran ≡ None)) devices command watches before after status n
caused may_refuse refused devices command watches before after (Ok reply) status reason to (inr (inr s)) =
    stopped refused devices command watches before after _ status s
caused may_refuse refused devices command watches before after (Ok reply) status reason to (inr (inl p)) = record {
  missing = λ h. absurd (apart is_own (status_of reply.verdict) Missing (own_verdict reply.verdict) refl (sym p.ends ∙ h));
  shelf_fault = λ h. absurd (apart is_own (status_of reply.verdict) ShelfFault (own_verdict reply.verdict) refl (sym p.ends ∙ h));
  sink_fault = λ h. absurd (apart is_own (status_of reply.verdict) SinkFault (own_verdict reply.verdict) refl (sym p.ends ∙ h));
  replies = λ h1 h2 h3 h4. inr (record {
    reply = reply_of reply;
    is = to;
    ends = p.ends;
    printed = p.text;
    lines = p.took;
    machine = holds_machine before.out.kept after.out.kept reply.machine (option_map (λ (m : MachineOf). m.state) reply.machine) p.machine refl;
    sized = λ h. has_sizes command watches reply (to_some devices command watches (reply_of reply) to) (sym p.ends ∙ h);
  });
  kept = λ none. unchanged reply.machine p.machine
      (only_runs command watches reply (to_some devices command watches (reply_of reply) to) (λ run. none (run.0, subst IsRunEnd (sym p.ends) run.1)));
}
  where
    unchanged : (machine : Option MachineOf) → after.out.kept ≡ machine_kept before.out.kept machine
        → option_map (λ (m : MachineOf). m.state) machine ≡ None → after.out.kept ≡ before.out.kept
    unchanged None kept none = kept
    unchanged (Some m) kept none = absurd cc
caused may_refuse refused devices command watches before after (Err (early.Missing name)) status reason to (inr (inr s)) =
    stopped refused devices command watches before after _ status s
caused may_refuse refused devices command watches before after (Err (early.Missing name)) status reason to (inr (inl p)) = record {
  missing = λ h. (reason.0, reason.1, reason.2.1, p.text ∙ ap (λ (n : List ℕ). appended before.out.taken (end_line (early.Missing n))) reason.2.0);
  shelf_fault = λ h. absurd (let e : ShelfFault ≡ Missing = sym h ∙ p.ends in cc);
  sink_fault = λ h. absurd (let e : SinkFault ≡ Missing = sym h ∙ p.ends in cc);
  replies = λ h1 h2 h3 h4. absurd (h1 p.ends);
  kept = λ h. p.machine;
}
caused may_refuse refused devices command watches before after (Err (early.TooLong limit)) status reason to (inr (inr s)) =
    stopped refused devices command watches before after _ status s
caused may_refuse refused devices command watches before after (Err (early.TooLong limit)) status reason to (inr (inl p)) = record {
  missing = λ h. absurd (let e : Missing ≡ Size = sym h ∙ p.ends in cc);
  shelf_fault = λ h. absurd (let e : ShelfFault ≡ Size = sym h ∙ p.ends in cc);
  sink_fault = λ h. absurd (let e : SinkFault ≡ Size = sym h ∙ p.ends in cc);
  replies = λ h1 h2 h3 h4. inl (p.ends, (reason.0, reason.1, reason.2, tt));
  kept = λ h. p.machine;
}
caused may_refuse refused devices command watches before after (Err (early.ShelfFault name)) status reason to (inr (inr s)) =
    stopped refused devices command watches before after _ status s
caused may_refuse refused devices command watches before after (Err (early.ShelfFault name)) status reason to (inr (inl p)) = record {
  missing = λ h. absurd (let e : Missing ≡ ShelfFault = sym h ∙ p.ends in cc);
  shelf_fault = λ h. (reason.0, reason.1, reason.2.1, p.text ∙ ap (λ (n : List ℕ). appended before.out.taken (end_line (early.ShelfFault n))) reason.2.0);
  sink_fault = λ h. absurd (let e : SinkFault ≡ ShelfFault = sym h ∙ p.ends in cc);
  replies = λ h1 h2 h3 h4. absurd (h2 p.ends);
  kept = λ h. p.machine;
}
caused may_refuse refused devices command watches before after (Err early.OutOfMemory) status reason to (inr none) = absurd none

-- 4. The words were read.

ends_after_words : (refused : Type 0) (Took : List ℕ → Type 0) (c : Conclusion) (status : Status) (before after : World)
    → is_after_words c.status ≡ true → Concludes refused Took (Some c) status before.out after.out → status ≢ NoWords
ends_after_words refused Took c status before after own (inl n) = λ h. apart is_after_words OutOfMemory NoWords refl refl (sym n.ends ∙ h)
ends_after_words refused Took c status before after own (inr (inl p)) = λ h. apart is_after_words c.status NoWords own refl (sym p.ends ∙ h)
ends_after_words refused Took c status before after own (inr (inr s)) = λ h.
    ⊎_elim (λ (failed : (status ≡ SinkFault) × Rose before.out.faults after.out.faults). apart is_after_words SinkFault NoWords refl refl
    (sym failed.0 ∙ h)) (λ memory. apart is_after_words OutOfMemory NoWords refl refl (sym memory.0 ∙ h)) s.cause

words_read : (refused : Type 0) (Took : List ℕ → Type 0) (ran : Result Reply EarlyEnd) (status : Status) (before after : World)
    → Concludes refused Took (conclusion_of ran) status before.out after.out → status ≢ NoWords
words_read refused Took (Ok reply) status before after ends = ends_after_words refused Took _ status before after (verdict_after_words reply.verdict) ends
words_read refused Took (Err early.OutOfMemory) status before after (inl n) = λ h. apart is_after_words OutOfMemory NoWords refl refl (sym n.ends ∙ h)
words_read refused Took (Err early.OutOfMemory) status before after (inr none) = absurd none
words_read refused Took (Err e) status before after ends = ends_after_words refused Took _ status before after (end_after_words e) ends

-- 5. Memory.

-- what can be concluded ends for want of memory only where that may be refused
ran_out : (refused : Type 0) (Took : List ℕ → Type 0) (c : Conclusion) (status : Status) (before after : World) → has_memory c.status ≡ true
    → Concludes refused Took (Some c) status before.out after.out → status ≡ OutOfMemory → refused
ran_out refused Took c status before after own (inl n) is = ⊎_elim (λ (r : refused). r) (λ none. absurd cc) n.refused
ran_out refused Took c status before after own (inr (inl p)) is = absurd (apart has_memory c.status OutOfMemory own refl (sym p.ends ∙ is))
ran_out refused Took c status before after own (inr (inr s)) is =
    ⊎_elim (λ failed. absurd (let e : SinkFault ≡ OutOfMemory = sym failed.0 ∙ is in cc)) (λ memory. memory.1) s.cause

memory_refused : (heap shelf sink : Type 0) (Took : List ℕ → Type 0) (command : Option Command) (ran : Result Reply EarlyEnd) (status : Status)
    (before after : World) → IfErr ran (HasReason (heap ⊎ shelf) before.shelf.counts after.shelf.counts command)
    → Concludes (heap ⊎ sink) Took (conclusion_of ran) status before.out after.out → status ≡ OutOfMemory → heap ⊎ (shelf ⊎ sink)
memory_refused heap shelf sink Took command (Ok reply) status before after reason ends is =
    ⊎_elim (λ h. inl h) (λ s. inr (inr s)) (ran_out _ Took _ status before after (verdict_has_memory reply.verdict) ends is)
memory_refused heap shelf sink Took command (Err early.OutOfMemory) status before after reason ends is =
    ⊎_elim (λ h. inl h) (λ s. inr (inl s)) reason
memory_refused heap shelf sink Took command (Err e) status before after reason ends is =
    ⊎_elim (λ h. inl h) (λ s. inr (inr s)) (ran_out _ Took _ status before after refl ends is)

-- 6. Together.

-- where the files are known
if_known : (o : Option Files) (P Q : Files → Type 0) → ((files : Files) → P files → Q files) → IfSome o P → IfSome o Q
if_known None P Q go p = tt
if_known (Some files) P Q go p = go files p

promises_of : {S K : Type 0} (heap shelf sink : Type 0) (devices : Devices S K) (command : Option Command) (watches : List Watching) (before after : World)
    (ran : Result Reply EarlyEnd) (status : Status)
    → IfSome before.shelf.files (λ files. Leaves command watches files before.shelf after.shelf ran)
    → IfErr ran (HasReason (heap ⊎ shelf) before.shelf.counts after.shelf.counts command) → IfOk ran
    (λ reply. IsReplyTo devices.gave devices.got devices.shelf_before devices.shelf_after command watches (reply_of reply))
    → Concludes (heap ⊎ sink) (TookLines devices.took devices.out_before devices.out_after) (conclusion_of ran) status before.out after.out
    → ((files : Files) → IfSome command (λ c. TellsMeanings c files (answer_to c watches files)))
    → KeepsPromises (heap ⊎ (shelf ⊎ sink)) devices command watches before after status
promises_of heap shelf sink devices command watches before after ran status leaves reason to ends tells =
    let causes = caused (heap ⊎ shelf) (heap ⊎ sink) devices command watches before after ran status reason to ends in
    record {
      known = if_known before.shelf.files (λ files. Leaves command watches files before.shelf after.shelf ran)
          (λ files. KeepsWithFiles command (answer_by command watches files) files before after status)
          (λ files l.
          let k = known (heap ⊎ shelf) (heap ⊎ sink) (TookLines devices.took devices.out_before devices.out_after) command
          (answer_by command watches files) files before after ran status l reason ends in
          record {
            answers = k.answers;
            completes = λ lasts. completes watches before after status command files (λ h1 h2. k.answers h1 h2 lasts) causes.shelf_fault
                causes.sink_fault (tells files);
            files_at_10 = k.files_at_10;
            files_at_11 = k.files_at_11;
            files_at_14 = k.files_at_14;
            text = k.text;
          }) leaves;
      replies = causes.replies;
      words_read = words_read (heap ⊎ sink) (TookLines devices.took devices.out_before devices.out_after) ran status before after ends;
      missing = causes.missing;
      shelf_fault = causes.shelf_fault;
      sink_fault = causes.sink_fault;
      out_of_memory = memory_refused heap shelf sink (TookLines devices.took devices.out_before devices.out_after) command ran status before after
          reason ends;
      kept = causes.kept;
    }

-- of a command that may end with a session, whatever watches this has
pub promises : {S K : Type 0} (heap shelf sink : Type 0) (devices : Devices S K) (command : Option Command) (watches : List Watching) (before after : World)
    (ran : Result Ending EarlyEnd) (status : Status)
    → IfSome before.shelf.files (λ files. Leaves command watches files before.shelf after.shelf (replied watches ran))
    → IfErr ran (HasReason (heap ⊎ shelf) before.shelf.counts after.shelf.counts command)
    → IfOk ran (λ ending. (watches : List Watching)
    → IsReplyTo devices.gave devices.got devices.shelf_before devices.shelf_after command watches (reply_of (ending_reply watches ending)))
    → Concludes (heap ⊎ sink) (TookLines devices.took devices.out_before devices.out_after) (conclusion_of (replied watches ran)) status
    before.out after.out
    → ((files : Files) → IfSome command (λ c. TellsMeanings c files (answer_to c watches files)))
    → KeepsPromises (heap ⊎ (shelf ⊎ sink)) devices command watches before after status
promises heap shelf sink devices command watches before after (Ok ending) status leaves reason to ends tells =
    promises_of heap shelf sink devices command watches before after (Ok (ending_reply watches ending)) status leaves tt (to watches) ends tells
promises heap shelf sink devices command watches before after (Err end) status leaves reason to ends tells =
    promises_of heap shelf sink devices command watches before after (Err end) status leaves reason tt ends tells
