-- What a session says to lines as they come.
use Rattle.std.proofs.Common.{◌≡◌, ◌≤◌, ◌+◌, ◌-◌, ◌^◌, inl, inr, ℕ, zero, suc, take, List, [], ◌∷◌, ◌++◌, length, Option, Some, None, Ok, Err, refl, sym, ap}
use Rattle.std.{proofs.Common.{subst, ◌∙◌, append-nil, append_assoc, length-append, arith, zero-add}, proofs.lemmas.List.take-append-le}
use Rattle.stack_shelf.{specs.Causes.Rose, specs.Shelf.{appended, PrefixAppended}, specs.declared.fault.PutFault.PutFault}
use Rattle.stack_text.specs.Gives as common
use Rattle.command_line.{specs.Devices.{lines_of, took_each}, proofs.PrintLaws.{appended-appended, last_prefix, took_lines_of_both, whole_prefix}}
use Rattle.debug_script.{specs.declared.reading.Line.Line, specs.declared.fault.ScriptFault.ScriptFault, specs.Scripts.{fault_of, script_of}}
use Rattle.debug_script.specs.declared.fault.ScriptFault.TheVariants as script
use Rattle.level_debuggers.{specs.declared.script_end.ScriptEnd.ScriptEnd, specs.Transcripts.followed, specs.Walks.SessionOf, specs.WholeLines.AreLines}
use Rattle.level_debuggers.{specs.WholeLines.TranscriptsAreLines, proofs.LineLaws.both}
use Rattle.stack_commands.{specs.Commands.Talk.{Talked, script_said, line_said, end_at, line_number, talk_on, talked}, specs.declared.talking.TalkEnd.TalkEnd}
use Rattle.stack_commands.{specs.Internal.Transcript.AllPrinted, specs.Conversed.{Ceased, Channels, LineActs, OnlyLastEnds, asked, with_answer}}
use Rattle.stack_commands.{specs.Internal.Talking.{AllTalked, Answered, PartlyTalked, put_fault}, specs.declared.talking.TalkFault.TalkFault}
use Rattle.stack_commands.proofs.TranscriptLaws.{nothing_more}
use Rattle.stack_commands.specs.declared.talking.TalkEnd.TheVariants as talk
use Rattle.stack_commands.specs.declared.talking.TalkFault.TheVariants as fault
use Rattle.stack_shelf.specs.declared.fault.PutFault.TheVariants as put
use Rattle.level_debuggers.specs.declared.script_end.ScriptEnd.TheVariants as end

-- 1. One line.

-- a line whose script was followed
pub followed_line : {K : Type 0} (put : K → List ℕ → K) (before after : K) (taken_before taken_after : Option (List ℕ)) (number : ℕ)
    (text : List ℕ) (asked : List Line) (s t : SessionOf) (e : ScriptEnd) → TranscriptsAreLines → script_of text ≡ Ok asked
    → AllPrinted put before after taken_before taken_after (followed [] asked s) e t
    → Answered put before after taken_before taken_after (line_said number text s) (end_at number e) t
followed_line put before after taken_before taken_after number text asked s t e lines is all =
    subst (λ r. Answered put before after taken_before taken_after (script_said number s r) (end_at number e) t) (sym is) (record {
      ends = ap (end_at number) all.ends;
      leaves = all.leaves;
      are = lines asked [] s (inl refl);
      text = all.text;
      took = all.took;
    })

pub followed_part : (old new : Option (List ℕ)) (number : ℕ) (text : List ℕ) (asked : List Line) (s : SessionOf) → script_of text ≡ Ok asked
    → PrefixAppended old new (followed [] asked s).text → PrefixAppended old new (line_said number text s).text
followed_part old new number text asked s is prefix = subst (λ r. PrefixAppended old new (script_said number s r).text) (sym is) prefix

-- a line that breaks a rule
pub refused_line : {K : Type 0} (put : K → List ℕ → K) (sink : K) (taken : Option (List ℕ)) (number : ℕ) (text : List ℕ) (rule line : ℕ)
    (fault : ScriptFault) (s : SessionOf) (refused : Type 0) (told : ℕ) → told ≡ rule → fault ≡ script.Refused rule line
    → common.FailsUnless refused (fault_of fault) (script_of text)
    → Answered put sink sink taken taken (line_said number text s) (Some (talk.Refused told number)) s
refused_line put sink taken number text rule line fault s refused told same named fails =
    let is : script_of text ≡ Err (script.Refused rule line) =
    subst (λ (f : ScriptFault). common.FailsUnless refused (fault_of f) (script_of text)) named fails in
    subst (λ (n : ℕ). Answered put sink sink taken taken (line_said number text s) (Some (talk.Refused n number)) s) (sym same)
    (subst (λ r. Answered put sink sink taken taken (script_said number s r) (Some (talk.Refused rule number)) s) (sym is)
    (record { ends = refl; leaves = refl; are = inl refl; text = nothing_more taken; took = refl }))

-- a put that failed is no line that could not be read
pub put_is_no_read : (e : TalkFault) (f : PutFault) → e ≡ put_fault f → ¬ (e ≡ fault.Lines)
put_is_no_read e put.Failed a b = cc
put_is_no_read e put.Memory a b = cc

-- 2. Lines one after the other.

-- what is said to a line behind others, which did not end it
abbrev pub behind : List ℕ → Talked → Talked
behind said answer = record { text = said ++ answer.text; end = answer.end; session = answer.session }

alone : (number : ℕ) (answer : Talked) (e : Option TalkEnd) → answer.end ≡ e
    → talk_on answer e (talked number [] answer.session) ≡ behind [] answer
unfolding talked
alone number answer None is = λ i. record { text = append-nil answer.text i; end = sym is i; session = answer.session }
alone number answer (Some e) is = refl

some_none : (e : TalkEnd) → Some e ≡ None → ⊥
some_none e h = cc

-- the first line went on
first_went : (first rest : Talked) (e : Option TalkEnd) (said : List ℕ) (s : SessionOf) → first.end ≡ e
    → talk_on first e rest ≡ record { text = said; end = None; session = s }
    → (e ≡ None) × (first.text ++ rest.text ≡ said) × (rest ≡ record { text = rest.text; end = None; session = s })
first_went first rest None said s is h = (
  refl,
  ap (λ (t : Talked). t.text) h,
  (let ends = ap (λ (t : Talked). t.end) h in let leaves = ap (λ (t : Talked). t.session) h in
      λ i. record { text = rest.text; end = ends i; session = leaves i }),
)
first_went first rest (Some e) said s is h = absurd (some_none e (sym is ∙ ap (λ (t : Talked). t.end) h))

no_more : (n : ℕ) → n ≡ n + 0
no_more n = omega arith

pub one_more : (before : ℕ) (lines : List (List ℕ)) (line : List ℕ) (first s : SessionOf) (said : List ℕ)
    → talked before lines first ≡ record { text = said; end = None; session = s }
    → talked before (lines ++ line ∷ []) first ≡ behind said (line_said (line_number (before + length lines)) line s)
unfolding talked
one_more before [] line first s said h =
    let answer : Talked = line_said (line_number before) line first in
    let none : [] ≡ said = ap (λ (t : Talked). t.text) h in
    let same : first ≡ s = ap (λ (t : Talked). t.session) h in
    alone (before + 1) answer answer.end refl
    ∙ ap (λ (l : List ℕ). behind l answer) none
    ∙ ap (λ (z : SessionOf). behind said (line_said (line_number before) line z)) same
    ∙ ap (λ (n : ℕ). behind said (line_said (line_number n) line s)) (no_more before)
one_more before (asked ∷ lines) line first s said h =
    let answer : Talked = line_said (line_number before) asked first in
    let rest : Talked = talked (before + 1) lines answer.session in
    let went = first_went answer rest answer.end said s refl h in
    let later : Talked = talked (before + 1) (lines ++ line ∷ []) answer.session in
    let last : Talked = line_said (line_number (before + length (asked ∷ lines))) line s in
    let count : before + 1 + length lines ≡ before + length (asked ∷ lines) = omega arith in
    let more : later ≡ behind rest.text last =
    one_more (before + 1) lines line answer.session s rest.text went.2
    ∙ ap (λ (n : ℕ). behind rest.text (line_said (line_number n) line s)) count in
    ap (λ (e : Option TalkEnd). talk_on answer e later) went.0
    ∙ ap (λ (t : Talked). behind answer.text t) more
    ∙ ap (λ (l : List ℕ). record { text = l; end = last.end; session = last.session }) (sym (append_assoc answer.text rest.text last.text))
    ∙ ap (λ (l : List ℕ). behind l last) went.1

-- where all lines go on, the first ones do
rest_goes : (first rest : Talked) (e : Option TalkEnd) → first.end ≡ e → (talk_on first e rest).end ≡ None → (e ≡ None) × (rest.end ≡ None)
rest_goes first rest None is h = (refl, h)
rest_goes first rest (Some e) is h = absurd (some_none e (sym is ∙ h))

first_go : (before : ℕ) (lines : List (List ℕ)) (s : SessionOf) → (talked before lines s).end ≡ None
    → (k : ℕ) → (talked before (take k lines) s).end ≡ None
unfolding talked
first_go before [] s h zero = refl
first_go before [] s h (suc k) = refl
first_go before (line ∷ lines) s h zero = refl
first_go before (line ∷ lines) s h (suc k) =
    let answer : Talked = line_said (line_number before) line s in
    let rest : Talked = talked (before + 1) lines answer.session in
    let goes = rest_goes answer rest answer.end refl h in
    ap (λ (e : Option TalkEnd). (talk_on answer e (talked (before + 1) (take k lines) answer.session)).end) goes.0
    ∙ first_go (before + 1) lines answer.session goes.1 k

-- and so one line more that may end it
only_last : (lines : List (List ℕ)) (line : List ℕ) (s : SessionOf) → (talked 0 lines s).end ≡ None → OnlyLastEnds (lines ++ line ∷ []) s
only_last lines line s none k lt =
    ap (λ (l : List (List ℕ)). (talked 0 l s).end) (take-append-le k lines (line ∷ []) (omega (arith, lt, length-append lines (line ∷ []))))
    ∙ first_go 0 lines s none k

asked_more : {L K : Type 0} (came : L → K → List ℕ → L) (put : K → List ℕ → K) (before : ℕ) (d : Channels L K) (lines : List (List ℕ))
    (line : List ℕ) (first s : SessionOf) (said : List ℕ) → talked before lines first ≡ record { text = said; end = None; session = s }
    → asked came put before d first (lines ++ line ∷ [])
    ≡ with_answer came put (asked came put before d first lines) line (line_said (line_number (before + length lines)) line s).text
unfolding talked
asked_more {L} {K} came put before d [] line first s said h =
    ap (λ (z : SessionOf). with_answer came put d line (line_said (line_number before) line z).text) (ap (λ (t : Talked). t.session) h)
    ∙ ap (λ (n : ℕ). with_answer came put d line (line_said (line_number n) line s).text) (no_more before)
asked_more {L} {K} came put before d (one ∷ lines) line first s said h =
    let answer : Talked = line_said (line_number before) one first in
    let rest : Talked = talked (before + 1) lines answer.session in
    let went = first_went answer rest answer.end said s refl h in
    let after : Channels L K = with_answer came put d one answer.text in
    let count : before + 1 + length lines ≡ before + length (one ∷ lines) = omega arith in
    asked_more came put (before + 1) after lines line answer.session s rest.text went.2
    ∙ ap (λ (n : ℕ). with_answer came put (asked came put (before + 1) after answer.session lines) line (line_said (line_number n) line s).text) count

-- 3. What was said and printed so far.
pub record Heard {L K : Type 0} (came : L → K → List ℕ → L) (lines_before lines_now : L) (put : K → List ℕ → K) (before now : K)
    (taken_before taken_now : Option (List ℕ)) (first s : SessionOf) (count : ℕ) : Type 0 where
  pub lines : List (List ℕ)
  pub counted : count ≡ length lines
  pub said : List ℕ
  pub are : AreLines said
  pub gave :
      record { lines = lines_now; out = now } ≡ asked came put 0 record { lines = lines_before; out = before } first lines
  pub made : talked 0 lines first ≡ record { text = said; end = None; session = s }
  pub text : taken_now ≡ appended taken_before said
  pub took : now ≡ took_each put before (lines_of said)

pub nothing_heard : {L K : Type 0} (came : L → K → List ℕ → L) (lines : L) (put : K → List ℕ → K) (out : K) (taken : Option (List ℕ)) (s : SessionOf)
    → Heard came lines lines put out out taken taken s s 0
unfolding talked
nothing_heard came lines put out taken s = record {
  lines = [];
  counted = refl;
  said = [];
  are = inl refl;
  gave = refl;
  made = refl;
  text = nothing_more taken;
  took = refl;
}

module _ {L K : Type 0} (acts : LineActs L K) (lines_before lines_now : L) (put : K → List ℕ → K) (before now : K)
    (taken_before taken_now : Option (List ℕ)) (first s : SessionOf) (count : ℕ)
    (heard : Heard acts.came lines_before lines_now put before now taken_before taken_now first s count) where
  abbrev pub made_of : List (List ℕ) → Talked
  made_of lines = talked 0 lines first

  abbrev pub there_after : List (List ℕ) → Channels L K
  there_after lines = asked acts.came put 0 record { lines = lines_before; out = before } first lines

  -- all that was said is what the lines are answered with
  pub heard_text : taken_now ≡ appended taken_before (made_of heard.lines).text
  heard_text = heard.text ∙ ap (λ (t : Talked). appended taken_before t.text) (sym heard.made)

  pub heard_goes : OnlyLastEnds heard.lines first
  heard_goes k lt = first_go 0 heard.lines first (ap (λ (t : Talked). t.end) heard.made) k

  pub heard_part : (taken_after : Option (List ℕ)) → taken_after ≡ taken_now
      → PrefixAppended taken_before taken_after (made_of heard.lines).text
  heard_part taken_after same =
      subst (λ (l : List ℕ). PrefixAppended taken_before taken_after l) (append-nil (made_of heard.lines).text)
      (whole_prefix taken_before taken_after (made_of heard.lines).text [] (same ∙ heard_text))

  -- it ended behind these lines, for a reason of the lines
  pub ceased_here : (lines_after : L) (overruns_before overruns_after : ℕ) (x : TalkEnd)
      → Ceased acts (there_after heard.lines) lines_after overruns_before overruns_after heard.lines None x
      → AllTalked acts lines_before lines_after overruns_before overruns_after put before now taken_before taken_now first s x
  ceased_here lines_after overruns_before overruns_after x why = record {
    lines = heard.lines;
    goes = heard_goes;
    ceased =
        subst (λ (t : Talked). Ceased acts (there_after heard.lines) lines_after overruns_before overruns_after heard.lines t.end x)
        (sym heard.made) why;
    leaves = ap (λ (t : Talked). t.session) heard.made;
    are = subst (λ (t : Talked). AreLines t.text) (sym heard.made) heard.are;
    text = heard_text;
    took = heard.took ∙ ap (λ (t : Talked). took_each put before (lines_of t.text)) (sym heard.made);
  }

  -- no line is left
  pub ended_here : (lines_after : L) (overruns_before overruns_after : ℕ) → lines_after ≡ acts.ended lines_now now
      → AllTalked acts lines_before lines_after overruns_before overruns_after put before now taken_before taken_now first s
      (talk.Script end.Done)
  ended_here lines_after overruns_before overruns_after is =
      ceased_here lines_after overruns_before overruns_after (talk.Script end.Done)
      (inl (is ∙ ap (λ (d : Channels L K). acts.ended d.lines d.out) heard.gave, refl))

  -- the next line is too long
  pub too_long_here : (lines_after : L) (overruns_before overruns_after number : ℕ) → lines_after ≡ acts.overran lines_now now
      → Rose overruns_before overruns_after → number ≡ line_number count
      → AllTalked acts lines_before lines_after overruns_before overruns_after put before now taken_before taken_now first s
      (talk.Refused 6 number)
  too_long_here lines_after overruns_before overruns_after number left rose is =
      ceased_here lines_after overruns_before overruns_after (talk.Refused 6 number)
      (inr (inl (
        left ∙ ap (λ (d : Channels L K). acts.overran d.lines d.out) heard.gave,
        rose,
        ap (λ (n : ℕ). talk.Refused 6 n) (is ∙ ap line_number heard.counted),
      )))

  -- no number is left for one more
  pub full_here : (overruns_before overruns_after : ℕ) → 2 ^ 64 - 1 ≤ count
      → AllTalked acts lines_before lines_now overruns_before overruns_after put before now taken_before taken_now first s
      (talk.Script end.Done)
  full_here overruns_before overruns_after full =
      ceased_here lines_now overruns_before overruns_after (talk.Script end.Done)
      (inr (inr (subst (λ (n : ℕ). 2 ^ 64 - 1 ≤ n) heard.counted full, ap (λ (d : Channels L K). d.lines) heard.gave, refl)))

  -- memory ran out before the next line was there
  pub unasked_here : (whole unread : Type 0) (lines_after : L) → ¬ whole → ¬ unread
      → PartlyTalked acts lines_before lines_after whole unread put before taken_before taken_now first
  unasked_here whole unread lines_after other no_line = record {
    lines = heard.lines;
    goes = heard_goes;
    left = ((λ w. absurd (other w)), (λ u. absurd (no_line u)));
    all = λ _. heard_text;
    text = heard_part taken_now refl;
  }

  -- the next line could not be read
  pub unread_here : (whole unread : Type 0) (lines_after : L) → ¬ whole → lines_after ≡ acts.broke lines_now now
      → PartlyTalked acts lines_before lines_after whole unread put before taken_before taken_now first
  unread_here whole unread lines_after other is = record {
    lines = heard.lines;
    goes = heard_goes;
    left = ((λ w. absurd (other w)), (λ _. is ∙ ap (λ (d : Channels L K). acts.broke d.lines d.out) heard.gave));
    all = λ _. heard_text;
    text = heard_part taken_now refl;
  }

  -- one more line came, and was answered
  module _ (line : List ℕ) (lines_then : L) (is : lines_then ≡ acts.came lines_now now line) (number : ℕ) (numbered : number ≡ line_number count) where
    abbrev pub answer : Talked
    answer = line_said number line s

    abbrev pub lines_more : List (List ℕ)
    lines_more = heard.lines ++ line ∷ []

    asked_then : there_after lines_more ≡ with_answer acts.came put (there_after heard.lines) line answer.text
    asked_then =
        asked_more acts.came put 0 record { lines = lines_before; out = before } heard.lines line first s heard.said heard.made
        ∙ ap (λ (n : ℕ). with_answer acts.came put (there_after heard.lines) line (line_said (line_number n) line s).text)
        (zero-add (length heard.lines) ∙ sym heard.counted)
        ∙ ap (λ (n : ℕ). with_answer acts.came put (there_after heard.lines) line (line_said n line s).text) (sym numbered)

    came_then : lines_then ≡ (there_after lines_more).lines
    came_then =
        is ∙ ap (λ (d : Channels L K). acts.came d.lines d.out line) heard.gave ∙ sym (ap (λ (d : Channels L K). d.lines) asked_then)

    made_then : made_of lines_more ≡ behind heard.said answer
    made_then =
        one_more 0 heard.lines line first s heard.said heard.made
        ∙ ap (λ (n : ℕ). behind heard.said (line_said (line_number n) line s)) (zero-add (length heard.lines) ∙ sym heard.counted)
        ∙ ap (λ (n : ℕ). behind heard.said (line_said n line s)) (sym numbered)

    pub more_goes : OnlyLastEnds lines_more first
    more_goes = only_last heard.lines line first (ap (λ (t : Talked). t.end) heard.made)

    pub part_heard : (taken_after : Option (List ℕ)) → PrefixAppended taken_now taken_after answer.text
        → PrefixAppended taken_before taken_after (made_of lines_more).text
    part_heard taken_after prefix =
        subst (λ (t : Talked). PrefixAppended taken_before taken_after t.text) (sym made_then)
        (last_prefix taken_before taken_now taken_after heard.said answer.text heard.text prefix)

    pub partly_here : (whole unread : Type 0) (taken_after : Option (List ℕ)) → ¬ unread → PrefixAppended taken_now taken_after answer.text
        → PartlyTalked acts lines_before lines_then whole unread put before taken_before taken_after first
    partly_here whole unread taken_after other prefix = record {
      lines = lines_more;
      goes = more_goes;
      left = ((λ _. came_then), (λ u. absurd (other u)));
      all = λ u. absurd (other u);
      text = part_heard taken_after prefix;
    }

    module _ (after : K) (taken_after : Option (List ℕ)) (e : Option TalkEnd) (t : SessionOf)
        (all : Answered put now after taken_now taken_after answer e t) where
      both_then : record { lines = lines_then; out = after } ≡ there_after lines_more
      both_then =
          (let took = all.took in λ i. record { lines = is i; out = took i })
          ∙ ap (λ (d : Channels L K). with_answer acts.came put d line answer.text) heard.gave
          ∙ sym asked_then

      text_then : taken_after ≡ appended taken_before (heard.said ++ answer.text)
      text_then =
          all.text ∙ ap (λ (o : Option (List ℕ)). appended o answer.text) heard.text ∙ appended-appended taken_before heard.said answer.text

      took_then : after ≡ took_each put before (lines_of (heard.said ++ answer.text))
      took_then =
          all.took ∙ ap (λ (sink : K). took_each put sink (lines_of answer.text)) heard.took
          ∙ took_lines_of_both put before heard.said answer.text heard.are

      are_then : AreLines (heard.said ++ answer.text)
      are_then = both heard.said answer.text heard.are all.are

      pub goes_on : e ≡ None → Heard acts.came lines_before lines_then put before after taken_before taken_after first t (count + 1)
      goes_on none = record {
        lines = lines_more;
        counted = omega (arith, heard.counted, length-append heard.lines (line ∷ []));
        said = heard.said ++ answer.text;
        are = are_then;
        gave = both_then;
        made =
            made_then
            ∙ (let ends = all.ends ∙ none in let leaves = all.leaves in
            λ i. record { text = heard.said ++ answer.text; end = ends i; session = leaves i });
        text = text_then;
        took = took_then;
      }

      pub ends_here : (overruns_before overruns_after : ℕ) (x : TalkEnd) → e ≡ Some x
          → AllTalked acts lines_before lines_then overruns_before overruns_after put before after taken_before taken_after first t x
      ends_here overruns_before overruns_after x some = record {
        lines = lines_more;
        goes = more_goes;
        ceased =
            subst (λ (o : Option TalkEnd). Ceased acts (there_after lines_more) lines_then overruns_before overruns_after lines_more o x)
            (sym (ap (λ (m : Talked). m.end) made_then ∙ all.ends ∙ some)) (came_then, refl);
        leaves = ap (λ (m : Talked). m.session) made_then ∙ all.leaves;
        are = subst (λ (m : Talked). AreLines m.text) (sym made_then) are_then;
        text = text_then ∙ ap (λ (m : Talked). appended taken_before m.text) (sym made_then);
        took = took_then ∙ ap (λ (m : Talked). took_each put before (lines_of m.text)) (sym made_then);
      }
