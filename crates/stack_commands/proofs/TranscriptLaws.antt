-- What a session says to a script, printed line by line.
use Rattle.std.proofs.Common.{◌≡◌, ◌<◌, ◌≤◌, inl, ℕ, ◌+◌, List, [], ◌++◌, length, drop, get_or, Option, Some, None, refl, sym, ap, subst, ◌∙◌, append-nil}
use Rattle.stack_shelf.specs.Shelf.{appended, PrefixAppended}
use Rattle.command_line.{specs.Devices.{lines_of, took_each}, proofs.PrintLaws.{appended-appended, last_prefix, early_prefix, took_lines_of_both, whole_prefix}}
use Rattle.command_line.specs.declared.status.Status.{Status}
use Rattle.debug_script.specs.declared.reading.Line.{Line}
use Rattle.level_debuggers.{specs.declared.script_end.ScriptEnd.ScriptEnd, specs.ScriptSteps.TextStays, specs.Transcripts.{Followed, IsSaid, followed, said_to}}
use Rattle.level_debuggers.{specs.Walks.SessionOf, specs.Levels.LevelOf, specs.Tallies.Watching, specs.WholeLines.{AnswersAreLines, AreLines}}
use Rattle.level_debuggers.{specs.WholeLines.TranscriptsAreLines, proofs.FollowLaws.{last_line, next_line, no_line}, proofs.LineLaws.both}
use Rattle.level_debuggers.specs.declared.script_end.ScriptEnd.TheVariants as end
use Rattle.stack_commands.{specs.Commands.Debug.{end_verdict, followed_reply, lines_reply, session_on}, specs.Internal.Transcript.AllPrinted}
use Rattle.command_replies.specs.Replies.{ReplyOf, reply_text, status_of, verdict_line}

-- What was said and printed so far; these lines are left, for the session that is left, and all together is what a whole script says.
pub record SoFar {K : Type 0} (put : K → List ℕ → K) (before now : K) (taken_before taken_now : Option (List ℕ)) (whole : Followed) (lines : List Line)
    (s : SessionOf) : Type 0 where
  pub said : List ℕ
  pub are : AreLines said
  pub still : followed said lines s ≡ whole
  pub text : taken_now ≡ appended taken_before said
  pub took : now ≡ took_each put before (lines_of said)

pub nothing_more : (taken : Option (List ℕ)) → taken ≡ appended taken []
nothing_more None = refl
nothing_more (Some t) = ap (λ (l : List ℕ). Some l) (sym (append-nil t))

pub nothing_yet : {K : Type 0} (put : K → List ℕ → K) (before : K) (taken : Option (List ℕ)) (lines : List Line) (s : SessionOf)
    → SoFar put before before taken taken (followed [] lines s) lines s
nothing_yet put before taken lines s = record { said = []; are = inl refl; still = refl; text = nothing_more taken; took = refl }

-- a prefix of what was said is one of what the whole script says
of_whole : (old new : Option (List ℕ)) (said : List ℕ) (whole : Followed) → (more : List ℕ) × (whole.text ≡ said ++ more)
    → ((more : List ℕ) → PrefixAppended old new (said ++ more)) → PrefixAppended old new whole.text
of_whole old new said whole stays prefix = subst (λ (t : List ℕ). PrefixAppended old new t) (sym stays.1) (prefix stays.0)

module _ {K : Type 0} (stays : TextStays) (put : K → List ℕ → K) (before now : K) (taken_before taken_now : Option (List ℕ)) (whole : Followed)
    (lines : List Line) (k : ℕ) (s : SessionOf) (so_far : SoFar put before now taken_before taken_now whole (drop k lines) s) where
  said_stays : (more : List ℕ) × (whole.text ≡ so_far.said ++ more)
  said_stays =
      let rest = stays so_far.said (drop k lines) s in
      (rest.0, ap (λ (f : Followed). f.text) (sym so_far.still) ∙ rest.1)

  -- it stopped before the next line
  pub stopped : PrefixAppended taken_before taken_now whole.text
  stopped = of_whole taken_before taken_now so_far.said whole said_stays (λ more. whole_prefix taken_before taken_now so_far.said more so_far.text)

  -- all lines were carried out
  pub all_said : length lines ≤ k → AllPrinted put before now taken_before taken_now whole end.Done s
  all_said past =
      let is : whole ≡ record { text = so_far.said; end = end.Done; session = s } = no_line lines k so_far.said s whole past so_far.still in
      record {
        ends = ap (λ (f : Followed). f.end) is;
        leaves = ap (λ (f : Followed). f.session) is;
        text = so_far.text ∙ ap (λ (f : Followed). appended taken_before f.text) (sym is);
        took = so_far.took ∙ ap (λ (f : Followed). took_each put before (lines_of f.text)) (sym is);
      }

  -- what is said to the next line
  module _ (answers : AnswersAreLines) (old new answer : List ℕ) (none : old ≡ []) (same : answer ≡ new) (t : SessionOf) (asked : Line)
      (lt : k < length lines) (at : asked ≡ get_or lines k asked) where
    is_answer : (e : Option ScriptEnd) → IsSaid (said_to asked s) old new e t → answer ≡ (said_to asked s).text
    is_answer e said = same ∙ said.0 ∙ ap (λ (l : List ℕ). l ++ (said_to asked s).text) none

    said_behind : (e : Option ScriptEnd) → IsSaid (said_to asked s) old new e t → IsSaid (said_to asked s) so_far.said (so_far.said ++ answer) e t
    said_behind e said = (ap (λ (l : List ℕ). so_far.said ++ l) (is_answer e said), said.1, said.2)

    goes_on : IsSaid (said_to asked s) old new None t → followed (so_far.said ++ answer) (drop (k + 1) lines) t ≡ whole
    goes_on said = next_line lines k so_far.said s whole (so_far.said ++ answer) t asked lt at (said_behind None said) so_far.still

    ends_here : (e : ScriptEnd) → IsSaid (said_to asked s) old new (Some e) t
        → whole ≡ record { text = so_far.said ++ answer; end = e; session = t }
    ends_here e said =
        last_line lines k so_far.said s whole (so_far.said ++ answer) t e asked lt at (said_behind (Some e) said) so_far.still

    answer_stays : (e : Option ScriptEnd) → IsSaid (said_to asked s) old new e t → (more : List ℕ) × (whole.text ≡ (so_far.said ++ answer) ++ more)
    answer_stays None said =
        let rest = stays (so_far.said ++ answer) (drop (k + 1) lines) t in
        (rest.0, ap (λ (f : Followed). f.text) (sym (goes_on said)) ∙ rest.1)
    answer_stays (Some e) said = ([], ap (λ (f : Followed). f.text) (ends_here e said) ∙ sym (append-nil (so_far.said ++ answer)))

    -- a part of it was printed
    pub partly_printed : (e : Option ScriptEnd) (taken_after : Option (List ℕ)) → IsSaid (said_to asked s) old new e t
        → PrefixAppended taken_now taken_after answer → PrefixAppended taken_before taken_after whole.text
    partly_printed e taken_after said prefix =
        of_whole taken_before taken_after (so_far.said ++ answer) whole (answer_stays e said)
        (λ more. early_prefix taken_before taken_after (so_far.said ++ answer) more
        (last_prefix taken_before taken_now taken_after so_far.said answer so_far.text prefix))

    -- all of it was printed
    module _ (after : K) (taken_after : Option (List ℕ)) (text : taken_after ≡ appended taken_now answer)
        (took : after ≡ took_each put now (lines_of answer)) where
      text_behind : taken_after ≡ appended taken_before (so_far.said ++ answer)
      text_behind = text ∙ ap (λ (o : Option (List ℕ)). appended o answer) so_far.text ∙ appended-appended taken_before so_far.said answer

      took_behind : after ≡ took_each put before (lines_of (so_far.said ++ answer))
      took_behind =
          took ∙ ap (λ (sink : K). took_each put sink (lines_of answer)) so_far.took ∙ took_lines_of_both put before so_far.said answer so_far.are

      pub next : (e : Option ScriptEnd) → IsSaid (said_to asked s) old new e t → e ≡ None
          → SoFar put before after taken_before taken_after whole (drop (k + 1) lines) t
      next e said none = record {
        said = so_far.said ++ answer;
        are = both so_far.said answer so_far.are (subst (λ (l : List ℕ). AreLines l) (sym (is_answer e said)) (answers asked s));
        still = goes_on (said.0, sym none ∙ said.1, said.2);
        text = text_behind;
        took = took_behind;
      }

      pub ended : (o : Option ScriptEnd) (e : ScriptEnd) → IsSaid (said_to asked s) old new o t → o ≡ Some e
          → AllPrinted put before after taken_before taken_after whole e t
      ended o e said some =
          let is : whole ≡ record { text = so_far.said ++ answer; end = e; session = t } =
          ends_here e (said.0, sym some ∙ said.1, said.2) in
          record {
            ends = ap (λ (f : Followed). f.end) is;
            leaves = ap (λ (f : Followed). f.session) is;
            text = text_behind ∙ ap (λ (f : Followed). appended taken_before f.text) (sym is);
            took = took_behind ∙ ap (λ (f : Followed). took_each put before (lines_of f.text)) (sym is);
          }

-- A session's reply: what its script says, and the last line.

-- it is the command's reply, where the session has made no step
pub replies_as : (P : ReplyOf → Type 0) (run : LevelOf) (watches : List Watching) (lines : List Line) (s : SessionOf)
    → s ≡ session_on run watches → P (followed_reply (followed [] lines s)) → P (lines_reply run watches lines)
unfolding lines_reply
replies_as P run watches lines s begins is = subst (λ (z : SessionOf). P (followed_reply (followed [] lines z))) begins is

-- what the script says is the beginning of the reply
pub reply_begins : (old new : Option (List ℕ)) (lines : List Line) (s : SessionOf) → PrefixAppended old new (followed [] lines s).text
    → PrefixAppended old new (reply_text (followed_reply (followed [] lines s)))
reply_begins old new lines s prefix =
    let made : Followed = followed [] lines s in
    early_prefix old new made.text (verdict_line (end_verdict made.session.level made.end)) prefix

module _ {K : Type 0} (put : K → List ℕ → K) (before mid : K) (taken_before taken_mid : Option (List ℕ)) (lines : List Line)
    (first s : SessionOf) (e : ScriptEnd) (all : AllPrinted put before mid taken_before taken_mid (followed [] lines first) e s) where
  abbrev said : List ℕ
  said = (followed [] lines first).text

  abbrev last : List ℕ
  last = verdict_line (end_verdict s.level e)

  abbrev reply : ReplyOf
  reply = followed_reply (followed [] lines first)

  reply_is : reply ≡ record { said = said; verdict = end_verdict s.level e; state = None }
  reply_is = let left = all.leaves in let end = all.ends in λ i. record { said = said; verdict = end_verdict (left i).level (end i); state = None }

  text_is : said ++ last ≡ reply_text reply
  text_is = ap reply_text (sym reply_is)

  pub reply_ends : (status : Status) → status ≡ status_of (end_verdict s.level e) → status ≡ status_of reply.verdict
  reply_ends status is = is ∙ ap (λ (r : ReplyOf). status_of r.verdict) (sym reply_is)

  pub reply_printed : (taken_after : Option (List ℕ)) → taken_after ≡ appended taken_mid last → taken_after ≡ appended taken_before (reply_text reply)
  reply_printed taken_after is =
      is ∙ ap (λ (o : Option (List ℕ)). appended o last) all.text ∙ appended-appended taken_before said last
      ∙ ap (λ (l : List ℕ). appended taken_before l) text_is

  pub reply_took : (after : K) → TranscriptsAreLines → after ≡ took_each put mid (lines_of last)
      → after ≡ took_each put before (lines_of (reply_text reply))
  reply_took after transcripts is =
      is ∙ ap (λ (sink : K). took_each put sink (lines_of last)) all.took
      ∙ took_lines_of_both put before said last (transcripts lines [] first (inl refl))
      ∙ ap (λ (l : List ℕ). took_each put before (lines_of l)) text_is

  pub reply_cut : (taken_after : Option (List ℕ)) → PrefixAppended taken_mid taken_after last → PrefixAppended taken_before taken_after (reply_text reply)
  reply_cut taken_after prefix =
      subst (λ (l : List ℕ). PrefixAppended taken_before taken_after l) text_is
      (last_prefix taken_before taken_mid taken_after said last all.text prefix)
