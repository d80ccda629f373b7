-- How a session ends that is asked line by line: the last line, behind all that was said.
use Rattle.std.proofs.Common.{◌≡◌, ◌<◌, arith, inl, inr, ℕ, List, [], ◌++◌, Option, refl, sym, ap, subst, ◌∙◌}
use Rattle.stack_shelf.specs.Shelf.{appended, PrefixAppended}
use Rattle.command_line.{specs.declared.status.Status.Status, specs.Devices.{lines_of, took_each}, proofs.PrintLaws.{appended-appended, last_prefix}}
use Rattle.command_line.proofs.PrintLaws.{nothing_printed, took_lines_of_both}
use Rattle.command_replies.specs.Replies.{reply_text, status_of, verdict_line}
use Rattle.level_debuggers.specs.Walks.{SessionOf}
use Rattle.stack_commands.{proofs.TranscriptLaws.nothing_more, specs.Commands.Talk.{Talked, talk_reply, talk_verdict, talked}, specs.Conversed.Conversed}
use Rattle.stack_commands.{specs.Conversed.{LineActs, PartlyConversed}, specs.Internal.Talking.{AllTalked, PartlyTalked}}
use Rattle.stack_commands.specs.declared.talking.TalkEnd.{TalkEnd}

module _ {L K : Type 0} (acts : LineActs L K) (lines_before lines_after : L) (overruns_before overruns_after : ℕ)
    (put : K → List ℕ → K) (before mid : K) (taken_before taken_mid : Option (List ℕ)) (first s : SessionOf) (x : TalkEnd)
    (all : AllTalked acts lines_before lines_after overruns_before overruns_after put before mid taken_before taken_mid first s x) where
  abbrev made : Talked
  made = talked 0 all.lines first

  abbrev last : List ℕ
  last = verdict_line (talk_verdict s.level x)

  told_is : made.text ++ last ≡ reply_text (talk_reply made x)
  told_is = ap (λ (z : SessionOf). made.text ++ verdict_line (talk_verdict z.level x)) (sym all.leaves)

  -- the last line was printed
  pub closes : (after : K) (taken_after : Option (List ℕ)) (status : Status) → status ≡ status_of (talk_verdict s.level x)
      → taken_after ≡ appended taken_mid (verdict_line (talk_verdict s.level x))
      → after ≡ took_each put mid (lines_of (verdict_line (talk_verdict s.level x)))
      → Conversed acts lines_before lines_after overruns_before overruns_after put before after taken_before taken_after first status
  closes after taken_after status ends text took = record {
    lines = all.lines;
    goes = all.goes;
    stop = x;
    ceased = all.ceased;
    ends = ends ∙ ap (λ (z : SessionOf). status_of (talk_verdict z.level x)) (sym all.leaves);
    text =
        text ∙ ap (λ (o : Option (List ℕ)). appended o last) all.text ∙ appended-appended taken_before made.text last
        ∙ ap (λ (l : List ℕ). appended taken_before l) told_is;
    took =
        took ∙ ap (λ (sink : K). took_each put sink (lines_of last)) all.took
        ∙ took_lines_of_both put before made.text last all.are
        ∙ ap (λ (l : List ℕ). took_each put before (lines_of l)) told_is;
  }

  -- a prefix of it was
  pub cut : (whole unread : Type 0) (taken_after : Option (List ℕ)) → ¬ unread
      → PrefixAppended taken_mid taken_after (verdict_line (talk_verdict s.level x))
      → PartlyConversed acts lines_before lines_after overruns_before overruns_after whole unread put before taken_before taken_after first
  cut whole unread taken_after other prefix = record {
    lines = all.lines;
    goes = all.goes;
    printed = inr (
      other,
      x,
      all.ceased,
      subst (λ (l : List ℕ). PrefixAppended taken_before taken_after l) told_is
          (last_prefix taken_before taken_mid taken_after made.text last all.text prefix),
    );
  }

-- it stopped among the lines
pub cut_within : {L K : Type 0} (acts : LineActs L K) (lines_before lines_after : L) (overruns_before overruns_after : ℕ)
    (whole unread : Type 0) (put : K → List ℕ → K) (before : K) (taken_before taken_after : Option (List ℕ)) (first : SessionOf)
    → PartlyTalked acts lines_before lines_after whole unread put before taken_before taken_after first
    → PartlyConversed acts lines_before lines_after overruns_before overruns_after whole unread put before taken_before taken_after first
cut_within acts lines_before lines_after overruns_before overruns_after whole unread put before taken_before taken_after first part =
    record { lines = part.lines; goes = part.goes; printed = inl (part.left, part.all, part.text) }

none : (k : ℕ) → k < 0 → ⊥
none k lt = omega (arith, lt)

-- no line was asked for
pub not_begun : {L K : Type 0} (acts : LineActs L K) (lines : L) (overruns : ℕ) (whole unread : Type 0)
    (put : K → List ℕ → K) (out : K) (taken : Option (List ℕ)) (first : SessionOf) → ¬ unread
    → PartlyConversed acts lines lines overruns overruns whole unread put out taken taken first
unfolding talked
not_begun acts lines overruns whole unread put out taken first other = record {
  lines = [];
  goes = λ k lt. absurd (none k lt);
  printed = inl (((λ _. refl), (λ u. absurd (other u))), (λ _. nothing_more taken), nothing_printed taken taken [] refl);
}
