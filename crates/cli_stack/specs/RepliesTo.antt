-- What the program replies, and what its shelf and its sink get, whatever these are.
use Rattle.std.specs.Prelude.{◌≡◌, ℕ, List, Option, Some, None, IsSomeAnd}
use Rattle.stack_shelf.specs.Shelf.{appended}
use Rattle.level_debuggers.specs.Tallies.{Watching}
use Rattle.command_line.specs.{declared.command.Command.{Command}, declared.status.Status.{Status}}
use Rattle.command_line.specs.{declared.status.Status.TheVariants.{Size}, CommandFiles.{inputs_of, output_of}, Devices.{gave_each}}
use Rattle.command_line.specs.{Devices.{lines_of, took_each}, Gathered.{Texts, AreShort, roles_of}}
use Rattle.command_replies.specs.{declared.reply.Verdict.TheVariants.{Usage}, Replies.{ReplyOf, reply_text, status_of, verdict_alone}}
use Rattle.stack_commands.specs.Prepared.{reply_by, stored_by}
use Rattle.cli_stack.specs.{Answer.{set_file}, Agrees.{HoldsMachine}, Causes.{HasSizes}, World.{World}}

-- 1. Devices.

-- A shelf and a sink before the program's call and after it, with what they are after each call of theirs that goes well: a fetch that
-- gave bytes under a name, a store that got bytes under a name, and a put that took bytes.
pub record Devices (S K : Type 0) : Type 0 where
  pub gave : S → List ℕ → List ℕ → S
  pub got : S → List ℕ → List ℕ → S
  pub took : K → List ℕ → K
  pub shelf_before : S
  pub shelf_after : S
  pub out_before : K
  pub out_after : K

abbrev pub devices_of : {S K : Type 0} → (S → List ℕ → List ℕ → S) → (S → List ℕ → List ℕ → S) → (K → List ℕ → K) → S → S → K → K
    → Devices S K
devices_of gave got took shelf_before shelf_after out_before out_after = record {
  gave = gave;
  got = got;
  took = took;
  shelf_before = shelf_before;
  shelf_after = shelf_after;
  out_before = out_before;
  out_after = out_after;
}

-- what a shelf is after it got a file, where there is one
abbrev pub got_file : {S : Type 0} → (S → List ℕ → List ℕ → S) → S → Option (List ℕ × List ℕ) → S
got_file got shelf None = shelf
got_file got shelf (Some file) = got shelf file.0 file.1

-- a sink took a text, each of its lines by a put of its own
abbrev pub TookLines : {K : Type 0} → (K → List ℕ → K) → K → K → List ℕ → Type 0
TookLines took before after text = after ≡ took_each took before (lines_of text)

-- 2. Replies.

-- a text for each file that the command reads, within the limit of its role
pub record AreTexts (command : Command) (texts : Texts) : Type 0 where
  pub roles : roles_of texts ≡ roles_of (inputs_of command)
  pub short : AreShort texts

-- The reply is the command's to such texts. The shelf gave them, each by a fetch of its own, and then got what the command stores of
-- them; and no other call of it was made.
pub record IsReply {S : Type 0} (gave got : S → List ℕ → List ℕ → S) (before after : S) (command : Command) (watches : List Watching)
    (reply : ReplyOf) : Type 0 where
  pub texts : Texts
  pub are : AreTexts command texts
  pub is : reply ≡ reply_by command watches texts
  pub shelf : after
      ≡ got_file got (gave_each gave before (inputs_of command) texts) (set_file (output_of command) (stored_by command texts))

-- words that are no command have `usage`, without a call of the shelf
abbrev pub IsReplyTo : {S : Type 0} → (S → List ℕ → List ℕ → S) → (S → List ℕ → List ℕ → S) → S → S → Option Command → List Watching
    → ReplyOf → Type 0
IsReplyTo gave got before after None watches reply = (reply ≡ verdict_alone Usage) × (after ≡ before)
IsReplyTo gave got before after (Some command) watches reply = IsReply gave got before after command watches reply

-- The status is that of such a reply, all of its text was printed line by line, and the place holds the machine that it ran. A size is
-- refused of a command that has sizes.
pub record Replies {S K : Type 0} (devices : Devices S K) (command : Option Command) (watches : List Watching) (before after : World)
    (status : Status) : Type 0 where
  pub reply : ReplyOf
  pub is : IsReplyTo devices.gave devices.got devices.shelf_before devices.shelf_after command watches reply
  pub ends : status ≡ status_of reply.verdict
  pub printed : after.out.taken ≡ appended before.out.taken (reply_text reply)
  pub lines : TookLines devices.took devices.out_before devices.out_after (reply_text reply)
  pub machine : HoldsMachine before.out.kept after.out.kept reply.state
  pub sized : status ≡ Size → IsSomeAnd command HasSizes
