-- The fault of a text's form is the least of all breaches of rules 1 to 3.
use Rattle.std.proofs.Common.{◌≡◌, ℕ, suc, ◌+◌, ◌<◌, ◌==◌, ◌&&◌, ◌||◌, Bool, true, false, cond, not, List, [], ◌∷◌, length, Option, Some, None, Result, Ok, Err}
use Rattle.std.{proofs.Common.{refl, sym, subst, ◌∙◌, arith, nat_lt}, specs.List.{slice_split, onto_first}, proofs.lemmas.Bool.Decides.nat_tests}
use Rattle.stack_text.{specs.Breaches.{when, lesser_of, least}, specs.Results.◌>>=◌, specs.declared.breach.Breach.Breach, proofs.BreachLaws.least-append}
use Rattle.stack_text.specs.Lines.{is_plain_line}
use Rattle.fm_asm.{specs.declared.due.Due.Due, specs.Cuts.{cut, without_leading_spaces, without_trailing, trimmed}, specs.Values.{Value, number, label}}
use Rattle.fm_asm.{specs.Statements.{Statement, base, size, final, start, word, instruction}, specs.Lines.{Said, Line, text_of, statement_or_none, said_by}}
use Rattle.fm_asm.{specs.Lines.said_in, specs.FormBreaches.{breach_at, said_breaches, form_breaches, due_after_read, end_breaches, lines_breaches}}
use Rattle.fm_asm.{specs.FormBreaches.{text_breaches, fault_in}, specs.Sources.{if_in_range, if_encoded, size_due, final_due, due_after, due_after_line}}
use Rattle.fm_asm.specs.Sources.{at_place, if_of_form, said_of_line, line_read, word_count, kept, SourceOf, window_of, with_lines, lines_read, source_in}
use Rattle.fm_asm.proofs.SourceLaws.{paired}
use Rattle.fm_asm.specs.declared.due.Due.TheVariants as due
use Rattle.fm_image.specs.Limits.{is_size}

-- ---- where a breach is

-- each breach is after a place
IsAfter : ℕ → Option Breach → Type 0
IsAfter p None = Unit {0}
IsAfter p (Some b) = p < b.place

lesser_after : (p : ℕ) (x y : Option Breach) → IsAfter p x → IsAfter p y → IsAfter p (lesser_of x y)
unfolding IsAfter
lesser_after p None y h k = k
lesser_after p (Some b) None h k = h
lesser_after p (Some b) (Some c) h k = by_test (nat_lt c.place b.place || (c.place == b.place && nat_lt c.rule b.rule))
  where
    by_test : (t : Bool) → IsAfter p (Some (cond t c b))
    by_test true = k
    by_test false = h

stays : (b : Breach) (y : Option Breach) → IsAfter b.place y → lesser_of (Some b) y ≡ Some b
unfolding IsAfter
stays b None h = refl
stays b (Some c) h = rw test refl
  where
    test : (nat_lt c.place b.place || (c.place == b.place && nat_lt c.rule b.rule)) ≡ false
    test = grind (arith, nat_tests)

at_after : (p place : ℕ) (r : Result Due ℕ) → p < place → IsAfter p (least (breach_at place r))
unfolding IsAfter
at_after p place (Ok d) h = tt
at_after p place (Err rule) h = h

said_after : (p place : ℕ) (d : Due) (o : Option Said) → p < place → IsAfter p (least (said_breaches d place o))
unfolding IsAfter
said_after p place d None h = h
said_after p place d (Some said) h = at_after p place (due_after_line d said.statement) h

when_after : (p place rule : ℕ) (t : Bool) → p < place → IsAfter p (least (when t place rule))
unfolding IsAfter
when_after p place rule true h = h
when_after p place rule false h = tt

form_after : (p place : ℕ) (d : Due) (bytes : List ℕ) → p < place → IsAfter p (least (form_breaches d place bytes))
unfolding form_breaches
form_after p place d bytes h =
    subst (IsAfter p) (sym (least-append (when (not (is_plain_line bytes)) place 1) (said_breaches d place (said_in (text_of bytes))))) (lesser_after p _ _
    (when_after p place 1 (not (is_plain_line bytes)) h) (said_after p place d (said_in (text_of bytes)) h))

end_after : (p end : ℕ) (o : Option (ℕ × ℕ)) → p < end → IsAfter p (least (end_breaches end o))
unfolding IsAfter
end_after p end None h = h
end_after p end (Some w) h = tt

lines_after : (p end place : ℕ) (d : Due) (texts : List (List ℕ)) → p < place → p < end → IsAfter p (least (lines_breaches end place d texts))
unfolding lines_breaches
lines_after p end place d [] h k = end_after p end (window_of d) k
lines_after p end place d (bytes ∷ rest) h k = subst (IsAfter p) (sym (least-append (form_breaches d place bytes)
    (lines_breaches end (place + length bytes + 1) (due_after_read d (line_read d bytes)) rest))) (lesser_after p _ _ (form_after p place d bytes h)
    (lines_after p end (place + length bytes + 1) (due_after_read d (line_read d bytes)) rest (omega arith) k))

-- the fault of a line is the least of its breaches
abbrev rule_at : ℕ → Result (Said × Due) ℕ → Option Breach
rule_at place (Ok x) = None
rule_at place (Err rule) = Some (record { rule = rule; place = place })

-- ---- the length of a text, by its lines

total : List (List ℕ) → ℕ
total [] = 0
total (bytes ∷ rest) = length bytes + 1 + total rest

total_onto : (b : ℕ) (texts : List (List ℕ)) → 0 < total texts → total (onto_first b texts) ≡ 1 + total texts
unfolding total
total_onto b [] h = absurd (omega arith)
total_onto b (bytes ∷ rest) h = omega arith

total_split : (text : List ℕ) → total (slice_split (λ b. b == 10) text) ≡ length text + 1
unfolding total
total_split [] = refl
total_split (b ∷ text) = by_test (b == 10) (total_split text)
  where
    by_test : (t : Bool) → total (slice_split (λ c. c == 10) text) ≡ length text + 1
        → total (cond t ([] ∷ slice_split (λ c. c == 10) text) (onto_first b (slice_split (λ c. c == 10) text))) ≡ suc (length text) + 1
    by_test true h = omega arith
    by_test false h = let o = total_onto b (slice_split (λ c. c == 10) text) (omega arith) in omega arith

-- ---- the rules of a statement come after rule 1

IsAbove : Result Due ℕ → Type 0
IsAbove (Ok d) = Unit {0}
IsAbove (Err rule) = 1 < rule

valued_above : (v : Value) (next : Due) → IsAbove (if_in_range v next)
unfolding IsAbove
valued_above (number None) next = omega arith
valued_above (number (Some n)) next = tt
valued_above (label name) next = tt

instruction_above : (w : Option ℕ) (next : Due) → IsAbove (if_encoded w next)
unfolding IsAbove
instruction_above None next = omega arith
instruction_above (Some n) next = tt

size_above : (n : Option ℕ) → IsAbove (size_due n)
unfolding IsAbove
size_above None = omega arith
size_above (Some b) = tt

final_above : (b : ℕ) (n : Option ℕ) → IsAbove (final_due b n)
unfolding IsAbove
final_above b None = omega arith
final_above b (Some n) = by_test (is_size b n)
  where
    by_test : (t : Bool) → IsAbove (cond t (Ok (due.Final b n)) (Err 3))
    by_test true = tt
    by_test false = omega arith

due_above : (d : Due) (s : Statement) → IsAbove (due_after d s)
unfolding due_after IsAbove
due_above due.Base (base x) = size_above x
due_above due.Base (size x) = omega arith
due_above due.Base (final x) = omega arith
due_above due.Base (start x) = omega arith
due_above due.Base (word x) = omega arith
due_above due.Base (instruction x) = omega arith
due_above (due.Size b) (base x) = omega arith
due_above (due.Size b) (size x) = final_above b x
due_above (due.Size b) (final x) = omega arith
due_above (due.Size b) (start x) = omega arith
due_above (due.Size b) (word x) = omega arith
due_above (due.Size b) (instruction x) = omega arith
due_above (due.Final b n) (base x) = omega arith
due_above (due.Final b n) (size x) = omega arith
due_above (due.Final b n) (final x) = valued_above x (due.Start b n)
due_above (due.Final b n) (start x) = omega arith
due_above (due.Final b n) (word x) = omega arith
due_above (due.Final b n) (instruction x) = omega arith
due_above (due.Start b n) (base x) = omega arith
due_above (due.Start b n) (size x) = omega arith
due_above (due.Start b n) (final x) = omega arith
due_above (due.Start b n) (start x) = valued_above x (due.Words b n)
due_above (due.Start b n) (word x) = omega arith
due_above (due.Start b n) (instruction x) = omega arith
due_above (due.Words b n) (base x) = omega arith
due_above (due.Words b n) (size x) = omega arith
due_above (due.Words b n) (final x) = omega arith
due_above (due.Words b n) (start x) = omega arith
due_above (due.Words b n) (word x) = valued_above x (due.Words b n)
due_above (due.Words b n) (instruction x) = instruction_above x (due.Words b n)

line_above : (d : Due) (s : Option Statement) → IsAbove (due_after_line d s)
unfolding IsAbove
line_above d None = tt
line_above d (Some s) = due_above d s

-- ---- one line

rule_first : (place : ℕ) (r : Result Due ℕ) → IsAbove r → lesser_of (Some (record { rule = 1; place = place })) (least (breach_at place r))
    ≡ Some (record { rule = 1; place = place })
unfolding IsAbove
rule_first place (Ok d) h = refl
rule_first place (Err rule) h = rw test refl
  where
    test : (nat_lt place place || (place == place && nat_lt rule 1)) ≡ false
    test = grind (arith, nat_tests)

said_first : (place : ℕ) (d : Due) (o : Option Said) → lesser_of (Some (record { rule = 1; place = place })) (least (said_breaches d place o))
    ≡ Some (record { rule = 1; place = place })
unfolding IsAbove
said_first place d None = rule_first place (Err 2) (omega arith)
said_first place d (Some said) = rule_first place (due_after_line d said.statement) (line_above d said.statement)

said_rule : (place : ℕ) (d : Due) (o : Option Said) → least (said_breaches d place o)
    ≡ rule_at place (if_of_form o >>= λ said. due_after_line d said.statement >>= λ next. paired said next)
said_rule place d None = refl
said_rule place d (Some said) = by_due (due_after_line d said.statement)
  where
    by_due : (r : Result Due ℕ) → least (breach_at place r) ≡ rule_at place (r >>= λ next. paired said next)
    by_due (Ok e) = refl
    by_due (Err rule) = refl

line_rule : (place : ℕ) (d : Due) (bytes : List ℕ) → least (form_breaches d place bytes) ≡ rule_at place (line_read d bytes)
unfolding form_breaches line_read said_of_line
line_rule place d bytes = least-append (when (not (is_plain_line bytes)) place 1) _ ∙ by_plain _
  where
    by_plain : (t : Bool) → lesser_of (least (when (not t) place 1)) (least (said_breaches d place (said_in (text_of bytes))))
        ≡ rule_at place (cond t (if_of_form (said_in (text_of bytes))) (Err 1) >>= λ said. due_after_line d said.statement >>= λ next. paired said next)
    by_plain true = said_rule place d (said_in (text_of bytes))
    by_plain false = said_first place d (said_in (text_of bytes))

-- ---- all lines

kept_fault : (lines : List Line) (r : Result SourceOf Breach) → fault_in r ≡ fault_in (with_lines lines r)
kept_fault lines (Ok s) = refl
kept_fault lines (Err b) = refl

no_byte : (d : Due) (bytes : List ℕ) (rule : ℕ) → line_read d bytes ≡ Err rule → 0 < length bytes
unfolding line_read said_of_line is_plain_line text_of said_in said_by statement_or_none cut trimmed without_leading_spaces without_trailing
no_byte d [] rule h = absurd cc
no_byte d (b ∷ bytes) rule h = omega arith

one_line : (end place offset : ℕ) (d : Due) (bytes : List ℕ) (rest : List (List ℕ)) (r : Result (Said × Due) ℕ) → line_read d bytes ≡ r
    → place + (length bytes + 1 + total rest) ≡ end + 1
    → ((o : ℕ) (e : Due) → least (lines_breaches end (place + length bytes + 1) e rest) ≡ fault_in (lines_read end (place + length bytes + 1) o e rest))
    → lesser_of (rule_at place r) (least (lines_breaches end (place + length bytes + 1) (due_after_read d r) rest))
    ≡ fault_in (at_place place r >>= λ next. with_lines (kept (record { place = place; offset = offset; said = next.0 }))
    (lines_read end (place + length bytes + 1) (offset + word_count next.0.statement) next.1 rest))
one_line end place offset d bytes rest (Err rule) is long later =
    let some = no_byte d bytes rule is in
    stays (record { rule = rule; place = place }) (least (lines_breaches end (place + length bytes + 1) d rest))
    (lines_after place end (place + length bytes + 1) d rest (omega arith) (omega arith))
one_line end place offset d bytes rest (Ok x) is long later =
    later (offset + word_count x.0.statement) x.1 ∙ kept_fault (kept (record { place = place; offset = offset; said = x.0 }))
    (lines_read end (place + length bytes + 1) (offset + word_count x.0.statement) x.1 rest)

all_lines : (end place offset : ℕ) (d : Due) (texts : List (List ℕ)) → place + total texts ≡ end + 1
    → least (lines_breaches end place d texts) ≡ fault_in (lines_read end place offset d texts)
unfolding lines_breaches lines_read total
all_lines end place offset due.Base [] long = refl
all_lines end place offset (due.Size b) [] long = refl
all_lines end place offset (due.Final b n) [] long = refl
all_lines end place offset (due.Start b n) [] long = refl
all_lines end place offset (due.Words b n) [] long = refl
all_lines end place offset d (bytes ∷ rest) long = cc (
  least-append (form_breaches d place bytes) (lines_breaches end (place + length bytes + 1)
      (due_after_read d (line_read d bytes)) rest),
  line_rule place d bytes,
  one_line end place offset d bytes rest (line_read d bytes) refl long
      (λ o e. all_lines end (place + length bytes + 1) o e rest (omega arith)),
)

-- the fault of a text's form is the least of them
pub form_least : (text : List ℕ) → least (text_breaches text) ≡ fault_in (source_in text)
unfolding text_breaches source_in
form_least text = let long = total_split text in all_lines (length text) 0 0 due.Base (slice_split (λ b. b == 10) text) (omega arith)
