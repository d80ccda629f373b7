-- What was said to lines that came and a sink has taken.
use Rattle.std.specs.Prelude.{◌≡◌, ℕ, List, Option}
use Rattle.stack_shelf.specs.{Shelf.{appended, PrefixAppended}, declared.fault.PutFault.{PutFault}}
use Rattle.command_line.specs.Devices.{lines_of, took_each}
use Rattle.level_debuggers.specs.{Walks.{SessionOf}, WholeLines.{AreLines}}
use Rattle.stack_commands.specs.{Commands.Talk.{Talked, talked}, declared.talking.TalkEnd.{TalkEnd}, Conversed.{Ceased, LeavesLines}}
use Rattle.stack_commands.specs.{Conversed.{LineActs, OnlyLastEnds, asked}, declared.talking.TalkFault.{TalkFault}}
use Rattle.stack_commands.specs.declared.talking.TalkFault.TheVariants as fault
use Rattle.stack_shelf.specs.declared.fault.PutFault.TheVariants as put

abbrev pub put_fault : PutFault → TalkFault
put_fault put.Failed = fault.Sink
put_fault put.Memory = fault.Memory

-- all that was said to a line was printed, each of its lines by a put of its own; this is how it ended, and the session that is left
pub record Answered {K : Type 0} (put : K → List ℕ → K) (before after : K) (taken_before taken_after : Option (List ℕ)) (made : Talked)
    (e : Option TalkEnd) (session : SessionOf) : Type 0 where
  pub ends : made.end ≡ e
  pub leaves : made.session ≡ session
  pub are : AreLines made.text
  pub text : taken_after ≡ appended taken_before made.text
  pub took : after ≡ took_each put before (lines_of made.text)

-- These lines came, each when all that is said to those before it had been printed; all that was said to them was printed, each of its
-- lines by a put of its own; this is how it ended, and the session that is left.
pub record AllTalked {L K : Type 0} (acts : LineActs L K) (lines_before lines_after : L)
    (overruns_before overruns_after : ℕ) (put : K → List ℕ → K) (before after : K) (taken_before taken_after : Option (List ℕ))
    (first session : SessionOf) (e : TalkEnd) : Type 0 where
  pub lines : List (List ℕ)
  pub goes : OnlyLastEnds lines first
  pub ceased :
      Ceased acts (asked acts.came put 0 record { lines = lines_before; out = before } first lines) lines_after
      overruns_before overruns_after lines (talked 0 lines first).end e
  pub leaves : (talked 0 lines first).session ≡ session
  pub are : AreLines (talked 0 lines first).text
  pub text : taken_after ≡ appended taken_before (talked 0 lines first).text
  pub took : after ≡ took_each put before (lines_of (talked 0 lines first).text)

-- Printing stopped, or a line could not be read: of what is said to some lines a prefix was printed. If the sink failed (`whole`), these
-- lines came; if the next one could not be read (`unread`), the call for it came behind them, and all was printed.
pub record PartlyTalked {L K : Type 0} (acts : LineActs L K) (lines_before lines_after : L) (whole unread : Type 0)
    (put : K → List ℕ → K) (before : K) (taken_before taken_after : Option (List ℕ)) (first : SessionOf) : Type 0 where
  pub lines : List (List ℕ)
  pub goes : OnlyLastEnds lines first
  pub left :
      LeavesLines acts (asked acts.came put 0 record { lines = lines_before; out = before } first lines) lines_after whole unread
  pub all : unread → taken_after ≡ appended taken_before (talked 0 lines first).text
  pub text : PrefixAppended taken_before taken_after (talked 0 lines first).text
