-- The lines of a text are read, and each statement is due.
use Rattle.std.proofs.Common.{◌≡◌, ℕ, ◌+◌, true, List, [], ◌∷◌, ◌++◌, length, map, Option, Some, None, Result, Ok, Err, refl, sym, ap, ◌∙◌}
use Rattle.std.{specs.Prelude.option_to_list, proofs.lemmas.Bool.cond-true}
use Rattle.stack_text.specs.Results.{◌>>=◌}
use Rattle.fm_image.specs.Limits.{is_size}
use Rattle.fm_asm.{specs.declared.due.Due.Due, specs.Values.{Value, number, label}, specs.Statements.{Statement, base, size, final, start, word, instruction}}
use Rattle.fm_asm.{specs.Lines.{Said, Line}, specs.Sources.{if_in_range, final_due, due_after, due_after_line, line_read, word_count, kept, ended, with_lines}}
use Rattle.fm_asm.{specs.Sources.lines_read, specs.Labels.number_of, specs.Assembly.{IsLine, AreLines, no_line, one_line, statements_of, statement_word}}
use Rattle.fm_asm.proofs.LineLaws.{line_said}
use Rattle.fm_asm.specs.declared.due.Due.TheVariants as due

-- what a line says, and what is due after it
abbrev pub paired : Said → Due → Result (Said × Due) ℕ
paired said next = Ok (said, next)

-- what is due after statements
unfoldable pub dues : Due → List Statement → Result Due ℕ
dues d [] = Ok d
dues d (s ∷ ss) = due_after d s >>= λ e. dues e ss

-- ---- one line

pub statements-kept : (place offset : ℕ) (said : Said) (lines : List Line) → statements_of
    (kept (record { place = place; offset = offset; said = said }) ++ lines) ≡ option_to_list said.statement ++ statements_of lines
statements-kept place offset said lines = by_label said.label said.statement
  where
    by_label : (l : Option (List ℕ)) (s : Option Statement) → statements_of
        (kept (record { place = place; offset = offset; said = record { label = l; statement = s } }) ++ lines) ≡ option_to_list s ++ statements_of lines
    by_label None None = refl
    by_label None (Some s) = refl
    by_label (Some l) None = refl
    by_label (Some l) (Some s) = refl

record GoesOn (d : Due) (s : Option Statement) (rest : List Statement) (last : Due) : Type 0 where
  next : Due
  now : due_after_line d s ≡ Ok next
  later : dues next rest ≡ Ok last

goes_on : (d : Due) (s : Option Statement) (rest : List Statement) (last : Due) → dues d (option_to_list s ++ rest) ≡ Ok last → GoesOn d s rest last
unfolding dues
goes_on d None rest last h = record { next = d; now = refl; later = h }
goes_on d (Some s) rest last h = by_due (due_after d s) refl h
  where
    by_due : (r : Result Due ℕ) → due_after d s ≡ r → (r >>= λ e. dues e rest) ≡ Ok last → GoesOn d (Some s) rest last
    by_due (Ok e) is k = record { next = e; now = is; later = k }
    by_due (Err rule) is k = absurd cc

read_so : (d next : Due) (bytes : List ℕ) (said : Said) → IsLine bytes said → due_after_line d said.statement ≡ Ok next → line_read d bytes ≡ Ok (said, next)
unfolding line_read
read_so d next bytes said h e = rw (line_said bytes said h) (rw e refl)

-- ---- all lines

pub lines_are_read : (end place offset : ℕ) (d : Due) (b n : ℕ) (texts : List (List ℕ)) (lines : List Line) → AreLines place offset texts lines
    → dues d (statements_of lines) ≡ Ok (due.Words b n)
    → lines_read end place offset d texts ≡ Ok (record { base = b; size = n; lines = lines })
unfolding lines_read dues
lines_are_read end _ _ d b n _ _ (no_line place offset) h =
    let same : d ≡ due.Words b n = cc in
    ap (ended end) same
lines_are_read end _ _ d b n _ _ (one_line place offset bytes said rest lines is_line are) h =
    let line : Line = record { place = place; offset = offset; said = said } in
    let g = goes_on d said.statement (statements_of lines) (due.Words b n) (sym (ap (dues d) (statements-kept place offset said lines)) ∙ h) in
    let later = lines_are_read end (place + length bytes + 1) (offset + word_count said.statement) g.next b n rest lines are g.later in
    rw (read_so d g.next bytes said is_line g.now) (ap (with_lines (kept line)) later)

-- ---- the header

valued : (b : ℕ) (known : List ℕ → Option ℕ) (v : Value) (w : ℕ) (next : Due) → number_of b known v ≡ Some w → if_in_range v next ≡ Ok next
unfolding number_of
valued b known (number None) w next h = absurd cc
valued b known (number (Some n)) w next h = refl
valued b known (label name) w next h = refl

-- statements that are words leave words due
words_due : (b n : ℕ) (known : List ℕ → Option ℕ) (ss : List Statement) (ws : List ℕ) → map (statement_word b known) ss ≡ map (λ w. Some w) ws
    → dues (due.Words b n) ss ≡ Ok (due.Words b n)
unfolding dues due_after statement_word
words_due b n known [] ws h = refl
words_due b n known (base x ∷ ss) [] h = absurd cc
words_due b n known (size x ∷ ss) [] h = absurd cc
words_due b n known (final v ∷ ss) [] h = absurd cc
words_due b n known (start v ∷ ss) [] h = absurd cc
words_due b n known (word v ∷ ss) [] h = absurd cc
words_due b n known (instruction w ∷ ss) [] h = absurd cc
words_due b n known (base x ∷ ss) (w ∷ ws) h = absurd cc
words_due b n known (size x ∷ ss) (w ∷ ws) h = absurd cc
words_due b n known (final v ∷ ss) (w ∷ ws) h = absurd cc
words_due b n known (start v ∷ ss) (w ∷ ws) h = absurd cc
words_due b n known (word v ∷ ss) (w ∷ ws) h =
    let first : number_of b known v ≡ Some w = cc in
    let rest : map (statement_word b known) ss ≡ map (λ w. Some w) ws = cc in
    rw (valued b known v w (due.Words b n) first) (words_due b n known ss ws rest)
words_due b n known (instruction None ∷ ss) (w ∷ ws) h = absurd cc
words_due b n known (instruction (Some x) ∷ ss) (w ∷ ws) h =
    let rest : map (statement_word b known) ss ≡ map (λ w. Some w) ws = cc in
    words_due b n known ss ws rest

sized_due : (b n : ℕ) → is_size b n ≡ true → final_due b (Some n) ≡ Ok (due.Final b n)
sized_due b n sized = let yes : Result Due ℕ = Ok (due.Final b n) in let other : Result Due ℕ = Err 3 in cond-true (is_size b n) yes other sized

pub header_due : (b n e x : ℕ) (known : List ℕ → Option ℕ) (f s : Value) (ss : List Statement) (ws : List ℕ) → is_size b n ≡ true
    → number_of b known f ≡ Some e → number_of b known s ≡ Some x
    → map (statement_word b known) ss ≡ map (λ w. Some w) ws → dues due.Base (base (Some b) ∷ size (Some n) ∷ final f ∷ start s ∷ ss) ≡ Ok (due.Words b n)
unfolding dues due_after
header_due b n e x known f s ss ws sized end_is start_is words = rw (sized_due b n sized) (rw (valued b known f e _ end_is)
    (rw (valued b known s x _ start_is) (words_due b n known ss ws words)))
