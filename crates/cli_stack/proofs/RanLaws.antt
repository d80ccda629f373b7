-- What the logs of a run tell.
use Rattle.std.proofs.Common.{◌≡◌, ◌⊎◌, inl, inr, ⊎_elim, ◌∷◌, [], ◌++◌, take, ℕ, zero, suc, ◌==◌, Bool, true, false, if◌then◌else◌, List, Option, Some, None}
use Rattle.std.proofs.Common.{IfSome, Result, Ok, Err, length, IfOk, ◌≤◌, refl, sym, ap, subst, ◌∙◌, arith, append-nil, append_assoc, length-append}
use Rattle.std.{specs.Prelude.◌≢◌, proofs.lemmas.List.Elements.All-head}
use Rattle.stack_shelf.specs.Files.{Files}
use Rattle.level_debuggers.specs.Tallies.{Watching}
use Rattle.device_logs.specs.Logged.{LoggedShelfOf, LoggedSinkOf, logged_gave, logged_got, logged_took, log_limit}
use Rattle.gypsy_space.specs.Needs.{StackSizes, stack_sizes}
use Rattle.stack_text.specs.Values.{ValueOf}
use Rattle.fm_loader.specs.Values.{values_in}
use Rattle.stack_build.{specs.declared.fault.BuildFault.BuildFault, specs.Build.{BuiltOf, BuildsText, built}, specs.Implements.FitsFormals}
use Rattle.stack_build.{specs.Joined.{BuiltImplements, BuiltTakesValues}, specs.Meant.KeptMeansOnly}
use Rattle.command_line.{specs.declared.command.Command.Command, specs.declared.role.Role.Role, specs.declared.role.Role.TheVariants.{Source, Values, Image}}
use Rattle.command_line.{specs.declared.role.Role.TheVariants.Piton, specs.declared.status.Status.Status, specs.declared.status.Status.TheVariants.Done}
use Rattle.command_line.{specs.declared.status.Status.TheVariants.{Unfinished, Missing, ShelfFault, SinkFault, Size, OutOfMemory}, specs.CommandFiles.inputs_of}
use Rattle.command_line.{specs.CommandFiles.output_of, specs.Devices.{gave_each, took_each, lines_of, onto_first}, specs.Gathered.{Texts, AreShort, roles_of}}
use Rattle.command_line.{specs.Gathered.text_of, specs.Roles.limit_of}
use Rattle.command_line.specs.declared.command.Command.TheVariants as command
use Rattle.command_replies.{specs.Commands.Run.{run_reply, values_reply}, specs.Replies.{ReplyOf, reply_text, status_of}}
use Rattle.stack_commands.{specs.Prepared.{reply_by, stored_by}, specs.Commands.Build.image_stored, specs.Commands.Go.go_reply}
use Rattle.cli_stack.{specs.Answer.{Answer, answer_with, set_file}, specs.Decides.{Decided, IsDone, IsNotDone}, specs.AnswerMeans.CommandMeans}
use Rattle.cli_stack.{specs.Promises.{KeepsPromises, IsTooLong}, specs.RepliesTo.{Devices, devices_of, got_file, Replies}, specs.World.World, specs.Ran.Logs}
use Rattle.cli_stack.specs.Ran.{WasPrinted, logs_of, files_with, file_list, RepliedTo, ToldUsage, Replied, Went, WentBy, RunDid, UnreadIsRefused}
use Rattle.cli_stack.{proofs.DecidesLaws.reply_decided, proofs.GoLaws.build_done}

-- 1. What is in a log after calls.

module _ {S : Type 0} (gave got : S → List ℕ → List ℕ → S) where
  pub gave_logs : (s : LoggedShelfOf S) (files : List (Role × List ℕ)) (texts : Texts)
      → ((gave_each (logged_gave gave) s files texts).fetched ≡ s.fetched ++ files_with files texts)
      × ((gave_each (logged_gave gave) s files texts).stored ≡ s.stored)
  gave_logs s [] texts = (sym (append-nil s.fetched), refl)
  gave_logs s (file ∷ files) [] = (sym (append-nil s.fetched), refl)
  gave_logs s (file ∷ files) (text ∷ texts) =
      let later = gave_logs (logged_gave gave s file.1 text.1) files texts in
      (later.0 ∙ append_assoc s.fetched ((file.1, text.1) ∷ []) (files_with files texts), later.1)

  got_logs : (s : LoggedShelfOf S) (output : Option (List ℕ × List ℕ))
      → ((got_file (logged_got got) s output).fetched ≡ s.fetched) × ((got_file (logged_got got) s output).stored ≡ s.stored ++ file_list output)
  got_logs s None = (refl, sym (append-nil s.stored))
  got_logs s (Some file) = (refl, refl)

-- the pieces of a text, one after another
abbrev pub joined : List (List ℕ) → List ℕ
joined [] = []
joined (piece ∷ pieces) = piece ++ joined pieces

pub take_again : (n : ℕ) (xs ys : List ℕ) → take n (take n xs ++ ys) ≡ take n (xs ++ ys)
take_again zero xs ys = refl
take_again (suc n) [] ys = refl
take_again (suc n) (x ∷ xs) ys = ap (λ (l : List ℕ). x ∷ l) (take_again n xs ys)

took_log : {K : Type 0} (took : K → List ℕ → K) (s : LoggedSinkOf K) (pieces : List (List ℕ))
    → take log_limit (took_each (logged_took took) s pieces).printed ≡ take log_limit (s.printed ++ joined pieces)
took_log took s [] = ap (λ (l : List ℕ). take log_limit l) (sym (append-nil s.printed))
took_log took s (piece ∷ pieces) =
    took_log took (logged_took took s piece) pieces ∙ take_again log_limit (s.printed ++ piece) (joined pieces)
    ∙ ap (λ (l : List ℕ). take log_limit l) (append_assoc s.printed piece (joined pieces))

-- the lines of a text are the text
lines_by : (b : Bool) (byte : ℕ) (lines : List (List ℕ))
    → joined (if b then (byte ∷ []) ∷ lines else onto_first byte lines) ≡ byte ∷ joined lines
lines_by true byte lines = refl
lines_by false byte [] = refl
lines_by false byte (line ∷ lines) = refl

pub joined_lines : (text : List ℕ) → joined (lines_of text) ≡ text
joined_lines [] = refl
joined_lines (byte ∷ text) = lines_by (byte == 10) byte (lines_of text) ∙ ap (λ (xs : List ℕ). byte ∷ xs) (joined_lines text)

pub took_text : {K : Type 0} (took : K → List ℕ → K) (s : LoggedSinkOf K) (text : List ℕ)
    → take log_limit (took_each (logged_took took) s (lines_of text)).printed ≡ take log_limit (s.printed ++ text)
took_text took s text = took_log took s (lines_of text) ∙ ap (λ (xs : List ℕ). take log_limit (s.printed ++ xs)) (joined_lines text)

-- 2. What the promises say of them.

module _ {S K : Type 0} (gave got : S → List ℕ → List ℕ → S) (took : K → List ℕ → K) (shelf_before shelf_after : LoggedShelfOf S)
    (out_before out_after : LoggedSinkOf K) (watches : List Watching) (before after : World) where
  abbrev devices : Devices (LoggedShelfOf S) (LoggedSinkOf K)
  devices = devices_of (logged_gave gave) (logged_got got) (logged_took took) shelf_before shelf_after out_before out_after

  abbrev old : Logs
  old = logs_of shelf_before out_before

  abbrev new : Logs
  new = logs_of shelf_after out_after

  replied_to : (c : Command) (status : Status) → CommandMeans c watches → Replies devices (Some c) watches before after status
      → RepliedTo c watches old new status
  replied_to c status means replies =
      let is = replies.is in
      let output : Option (List ℕ × List ℕ) = set_file (output_of c) (stored_by c is.texts) in
      let given = gave_logs gave got shelf_before (inputs_of c) is.texts in
      let stored = got_logs gave got (gave_each (logged_gave gave) shelf_before (inputs_of c) is.texts) output in
      record {
        texts = is.texts;
        are = is.are;
        fetched = ap (λ (s : LoggedShelfOf S). s.fetched) is.shelf ∙ stored.0 ∙ given.0;
        stored = ap (λ (s : LoggedShelfOf S). s.stored) is.shelf ∙ stored.1 ∙ ap (λ (fs : Files). fs ++ file_list output) given.1;
        implements = means.stores is.texts is.are;
        quickens = means.quickens is.texts is.are;
        printed = ap (λ (k : LoggedSinkOf K). take log_limit k.printed) replies.lines ∙ took_text took out_before (reply_text replies.reply)
            ∙ ap (λ (r : ReplyOf). take log_limit (out_before.printed ++ reply_text r)) is.is;
        ends = replies.ends ∙ ap (λ (r : ReplyOf). status_of r.verdict) is.is;
      }

  told_usage : (status : Status) → Replies devices None watches before after status → ToldUsage old new
  told_usage status replies = record {
    fetched = ap (λ (s : LoggedShelfOf S). s.fetched) replies.is.1;
    stored = ap (λ (s : LoggedShelfOf S). s.stored) replies.is.1;
    printed = ap (λ (k : LoggedSinkOf K). take log_limit k.printed) replies.lines ∙ took_text took out_before (reply_text replies.reply)
        ∙ ap (λ (r : ReplyOf). take log_limit (out_before.printed ++ reply_text r)) replies.is.0;
  }

  replied : (o : Option Command) (status : Status) → IfSome o (λ c. CommandMeans c watches) → Replies devices o watches before after status
      → Replied o watches old new status
  replied None status means replies = told_usage status replies
  replied (Some c) status means replies = replied_to c status means replies

-- 3. `go`.

done_unfinished : Done ≡ Unfinished → ⊥
done_unfinished e = cc

abbrev head_role : List Role → Role
head_role [] = Piton
head_role (role ∷ roles) = role

abbrev tail_roles : List Role → List Role
tail_roles [] = []
tail_roles (role ∷ roles) = roles

no_roles : (r : Role) (rs : List Role) → [] ≡ r ∷ rs → ⊥
no_roles r rs e = cc

more_roles : (r : Role) (rs : List Role) → r ∷ rs ≡ [] → ⊥
more_roles r rs e = cc

-- a text of a source, and one of values
two_texts : (texts : Texts) → roles_of texts ≡ Source ∷ Values ∷ []
    → (text : List ℕ) × (values_text : List ℕ) × (texts ≡ (Source, text) ∷ (Values, values_text) ∷ [])
two_texts [] e = absurd (no_roles Source (Values ∷ []) e)
two_texts ((r, text) ∷ []) e = absurd (no_roles Values [] (ap tail_roles e))
two_texts ((r, text) ∷ (q, values_text) ∷ []) e =
    let first : r ≡ Source = ap head_role e in
    let second : q ≡ Values = ap (λ rs. head_role (tail_roles rs)) e in
    (text, values_text, λ i. (first i, text) ∷ (second i, values_text) ∷ [])
two_texts ((r, text) ∷ (q, values_text) ∷ (p, more) ∷ texts) e = absurd (more_roles p (roles_of texts) (ap (λ rs. tail_roles (tail_roles rs)) e))

abbrev go_of : List ℕ → List ℕ → List ℕ → StackSizes → ℕ → Command
go_of source values image sizes budget = command.Go source values sizes.ctrl sizes.temp budget image

-- what is printed of a reply
abbrev answer_of : ReplyOf → Answer
answer_of reply = answer_with None reply

module _ (implement : BuiltImplements) (takes : BuiltTakesValues) (meant : KeptMeansOnly) (source values image : List ℕ) (sizes : StackSizes) (budget : ℕ)
    (before after : Logs) (text values_text : List ℕ) (few : length text ≤ 1048576)
    (fetched : after.fetched ≡ before.fetched ++ ((source, text) ∷ (values, values_text) ∷ [])) where
  abbrev Goes : Result BuiltOf BuildFault → Type 0
  Goes found =
      after.stored ≡ before.stored ++ file_list (set_file (Some (Image, image)) (image_stored found))
      → WasPrinted (reply_text (go_reply found values_text budget)) before after
      → status_of (go_reply found values_text budget).verdict ≡ Done
      → Went source values image sizes budget before after

  with_values : (b : BuiltOf) → built text sizes.ctrl sizes.temp 0 ≡ Ok b → (builds : BuildsText text sizes.ctrl sizes.temp b)
      → after.stored ≡ before.stored ++ (image, b.bytes) ∷ []
      → (found : Result (List ValueOf) (ℕ × ℕ)) → values_in b.image.slots values_text ≡ found
      → WasPrinted (reply_text (values_reply b.image budget found)) before after
      → status_of (values_reply b.image budget found).verdict ≡ Done
      → Went source values image sizes budget before after
  with_values b made builds stored (Err f) gives printed done = absurd cc
  with_values b made builds stored (Ok given) gives printed done =
      let fits : FitsFormals builds.source given =
      takes text sizes.ctrl sizes.temp 0 builds.source b values_text given (omega (arith, few)) (omega arith) builds.read made gives in
      let decided : Decided builds.source sizes b.image given budget (answer_of (run_reply b.image given budget)) =
      reply_decided meant b.image builds.source sizes builds.builds.implements builds.builds.moments given fits budget None
      (run_reply b.image given budget) refl in
      let is_done : IsDone builds.source sizes b.image given budget (answer_of (run_reply b.image given budget)) =
      ⊎_elim (λ (d : IsDone builds.source sizes b.image given budget (answer_of (run_reply b.image given budget))). d)
      (λ (d : IsNotDone builds.source sizes given budget (answer_of (run_reply b.image given budget))).
      absurd (done_unfinished (sym done ∙ d.tells.status))) decided.either in
      record {
        text = text;
        values_text = values_text;
        bytes = b.bytes;
        fetched = fetched;
        stored = stored;
        is = record {
          source = builds.source;
          read = builds.read;
          image = b.image;
          short = builds.short few;
          spells = builds.builds.spells;
          implements = builds.builds.implements;
          unfinished = builds.builds.unfinished;
        };
        given = given;
        gives = gives;
        finals = is_done.finals;
        way = is_done.way;
        count = is_done.count;
        meant = is_done.meant;
        within = is_done.within;
        printed = printed ∙ ap (λ (xs : List ℕ). take log_limit (before.printed ++ xs)) is_done.tells.text;
      }

  goes : (found : Result BuiltOf BuildFault) → built text sizes.ctrl sizes.temp 0 ≡ found → IfOk found (BuildsText text sizes.ctrl sizes.temp) → Goes found
  goes (Err f) made builds stored printed done = absurd (build_done f done)
  goes (Ok b) made builds stored printed done = with_values b made builds stored (values_in b.image.slots values_text) refl printed done

module _ (implement : BuiltImplements) (takes : BuiltTakesValues) (meant : KeptMeansOnly) (source values image : List ℕ) (sizes : StackSizes) (budget : ℕ)
    (watches : List Watching) (before after : Logs) where
  abbrev go : Command
  go = go_of source values image sizes budget

  went_with : (text values_text : List ℕ) → length text ≤ 1048576 → (texts : Texts) → texts ≡ (Source, text) ∷ (Values, values_text) ∷ []
      → after.fetched ≡ before.fetched ++ files_with (inputs_of go) texts
      → after.stored ≡ before.stored ++ file_list (set_file (output_of go) (stored_by go texts))
      → WasPrinted (reply_text (reply_by go watches texts)) before after
      → Done ≡ status_of (reply_by go watches texts).verdict
      → Went source values image sizes budget before after
  unfolding inputs_of output_of stored_by reply_by
  went_with text values_text few texts is fetched stored printed ends =
      goes implement takes meant source values image sizes budget before after text values_text few
      (fetched ∙ ap (λ (ts : Texts). before.fetched ++ files_with ((Source, source) ∷ (Values, values) ∷ []) ts) is)
      (built text sizes.ctrl sizes.temp 0) refl (implement text sizes.ctrl sizes.temp 0 (omega (arith, few)) (omega arith))
      (stored ∙ ap (λ (ts : Texts). before.stored
      ++ file_list (set_file (Some (Image, image)) (image_stored (built (text_of Source ts) sizes.ctrl sizes.temp 0)))) is)
      (printed ∙ ap (λ (ts : Texts). take log_limit (before.printed
      ++ reply_text (go_reply (built (text_of Source ts) sizes.ctrl sizes.temp 0) (text_of Values ts) budget))) is)
      (sym (ends ∙ ap (λ (ts : Texts). status_of (go_reply (built (text_of Source ts) sizes.ctrl sizes.temp 0) (text_of Values ts) budget).verdict) is))

  -- the text of the source is short
  first_short : (text values_text : List ℕ) → (texts : Texts) → texts ≡ (Source, text) ∷ (Values, values_text) ∷ [] → AreShort texts
      → length text ≤ 1048576
  first_short text values_text texts is short =
      All-head (λ (t : Role × List ℕ). length t.1 ≤ limit_of t.0) (Source, text) ((Values, values_text) ∷ []) (subst AreShort is short)

  went_of : RepliedTo go watches before after Done → Went source values image sizes budget before after
  unfolding inputs_of
  went_of did =
      let two = two_texts did.texts did.are.roles in
      went_with two.0 two.1 (first_short two.0 two.1 did.texts two.2 did.are.short) did.texts two.2 did.fetched did.stored did.printed did.ends

module _ (implement : BuiltImplements) (takes : BuiltTakesValues) (meant : KeptMeansOnly) where
  went_by : (c : Command) (watches : List Watching) (before after : Logs) → RepliedTo c watches before after Done → WentBy c before after
  went_by (command.Go source values control temporary budget image) watches before after did =
      went_of implement takes meant source values image (stack_sizes control temporary) budget watches before after did
  went_by c watches before after did = tt

  went : (o : Option Command) (watches : List Watching) (before after : Logs) → Replied o watches before after Done
      → IfSome o (λ c. WentBy c before after)
  went None watches before after did = tt
  went (Some c) watches before after did = went_by c watches before after did

-- 4. The whole.

done_missing : Done ≢ Missing
done_missing e = cc

done_shelf : Done ≢ ShelfFault
done_shelf e = cc

done_sink : Done ≢ SinkFault
done_sink e = cc

done_memory : Done ≢ OutOfMemory
done_memory e = cc

done_size : Done ≢ Size
done_size e = cc

pub ran : {S K : Type 0} → BuiltImplements → BuiltTakesValues → KeptMeansOnly → (may_refuse : Type 0) (gave got : S → List ℕ → List ℕ → S)
    (took : K → List ℕ → K)
    (shelf_before shelf_after : LoggedShelfOf S) (out_before out_after : LoggedSinkOf K) (watches : List Watching) (before after : World)
    (o : Option Command) (status : Status)
    → KeepsPromises may_refuse (devices_of (logged_gave gave) (logged_got got) (logged_took took) shelf_before shelf_after out_before out_after)
    o watches before after status
    → IfSome o (λ c. CommandMeans c watches)
    → RunDid o watches before.shelf after.shelf (logs_of shelf_before out_before) (logs_of shelf_after out_after) status
ran implement takes meant may_refuse gave got took shelf_before shelf_after out_before out_after watches before after o status keeps means = record {
  replied = all;
  went = λ done. by_done status done all;
}
  where
    all : status ≢ Missing → status ≢ ShelfFault → status ≢ SinkFault → status ≢ OutOfMemory
        → IsTooLong o before after status ⊎ Replied o watches (logs_of shelf_before out_before) (logs_of shelf_after out_after) status
    all a b c d = ⊎_elim inl
        (λ replies. inr (replied gave got took shelf_before shelf_after out_before out_after watches before after o status means replies))
        (keeps.replies a b c d)

    by_done : (s : Status) → s ≡ Done
        → (s ≢ Missing → s ≢ ShelfFault → s ≢ SinkFault → s ≢ OutOfMemory
        → IsTooLong o before after s ⊎ Replied o watches (logs_of shelf_before out_before) (logs_of shelf_after out_after) s)
        → IfSome o (λ c. WentBy c (logs_of shelf_before out_before) (logs_of shelf_after out_after))
    by_done s done tells =
        let at_done : (Done ≢ Missing → Done ≢ ShelfFault → Done ≢ SinkFault → Done ≢ OutOfMemory
        → IsTooLong o before after Done ⊎ Replied o watches (logs_of shelf_before out_before) (logs_of shelf_after out_after) Done) =
        subst (λ t. (t ≢ Missing → t ≢ ShelfFault → t ≢ SinkFault → t ≢ OutOfMemory
        → IsTooLong o before after t ⊎ Replied o watches (logs_of shelf_before out_before) (logs_of shelf_after out_after) t)) done tells in
        ⊎_elim (λ long. absurd (done_size long.0))
        (λ did. went implement takes meant o watches (logs_of shelf_before out_before) (logs_of shelf_after out_after) did)
        (at_done done_missing done_shelf done_sink done_memory)

-- 5. Who fetches nothing.

some_length : (xs : Files) (name : List ℕ) (text : List ℕ) → xs ≡ xs ++ (name, text) ∷ [] → ⊥
some_length xs name text e =
    let more : length xs ≡ length (xs ++ (name, text) ∷ []) = ap length e in
    let sum = length-append xs ((name, text) ∷ []) in
    omega (arith, more, sum)

checks_one : (source : List ℕ) (texts : Texts) (logs : Files) → roles_of texts ≡ Source ∷ []
    → logs ≡ logs ++ files_with (inputs_of (command.Check source)) texts → ⊥
unfolding inputs_of
checks_one source [] logs e fetched = no_roles Source [] e
checks_one source ((r, text) ∷ texts) logs e fetched = some_length logs source text fetched

refused_by : (source : List ℕ) (watches : List Watching) (logs : Logs) (status : Status) → RepliedTo (command.Check source) watches logs logs status → ⊥
unfolding inputs_of
refused_by source watches logs status did = checks_one source did.texts logs.fetched did.are.roles did.fetched

pub unread_is_refused : UnreadIsRefused
unread_is_refused source watches shelf_before shelf_after logs status a b c d size ran =
    ⊎_elim (λ long. size long.0) (λ did. refused_by source watches logs status did) (ran.replied a b c d)
