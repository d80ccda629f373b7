-- What a line says is written so, and the lines of a source that was read are the text's.
use Rattle.std.proofs.Common.{◌≡◌, ℕ, suc, ◌+◌, arith, nat_lt, ◌==◌, Bool, true, false, cond, List, [], ◌∷◌, ◌++◌, length, append-nil, Option, Some, None}
use Rattle.std.{proofs.Common.{Result, Ok, Err, option_map, refl, sym, ap, subst, ◌∙◌, codes, append_assoc}, specs.List.{list_all, slice_split}}
use Rattle.std.{specs.Str.bytes_eq, specs.Result.result_unwrap_or, proofs.lemmas.Bool.{and_parts, and_from}, proofs.lemmas.Bool.Decides.nat_tests}
use Rattle.stack_text.{specs.Names.is_name, specs.Results.◌>>=◌, specs.declared.breach.Breach.Breach, proofs.SharedLaws.bytes_same, specs.Lines.is_plain_line}
use Rattle.fm_asm.{specs.declared.due.Due.Due, specs.declared.statement.Directive.Directive, specs.Cuts.{cut, without_leading_spaces, unless_trailing}}
use Rattle.fm_asm.{specs.Cuts.{without_trailing, trimmed}, specs.Values.{decimal_in, value_in}, specs.Instructions.instruction_in, specs.Statements.Statement}
use Rattle.fm_asm.{specs.Statements.{base, size, final, start, word, instruction, directive_named, directed, by_directive, statement_in}, specs.Lines.Said}
use Rattle.fm_asm.{specs.Lines.{text_of, statement_or_none, is_apart, labelled, said_by, said_in}, specs.Sources.{due_after_line, at_place, if_of_form}}
use Rattle.fm_asm.{specs.Sources.{said_of_line, line_read, word_count, kept, SourceOf, ended, with_lines, lines_read, source_in}, specs.Assembly.{says, is_gap}}
use Rattle.fm_asm.specs.Assembly.{SpellsStatement, says_base, says_size, says_final, says_start, says_word, says_instruction, SpellsSaid, nothing}
use Rattle.fm_asm.{specs.Assembly.{statement_alone, label_alone, label_and_statement, IsLine, AreLines, no_line, one_line}, proofs.CutLaws.split_once_found}
use Rattle.fm_asm.{proofs.CutLaws.{cut_some, last-other}, proofs.SpelledLaws.{by_some, value_spelled, decimal_spelled, mapped, tested, chosen_of, bound}}
use Rattle.fm_asm.{proofs.SpelledLaws.instruction_spelled, proofs.SourceLaws.paired}
use Rattle.fm_asm.specs.declared.due.Due.TheVariants as due
use Rattle.fm_asm.specs.declared.statement.Directive.TheVariants as directive

-- ---- statements

directive_bytes : Directive → List ℕ
directive_bytes directive.Base = codes ".base"
directive_bytes directive.Size = codes ".size"
directive_bytes directive.Final = codes ".final"
directive_bytes directive.Start = codes ".start"
directive_bytes directive.Word = codes ".word"

directive_spelled : (name : List ℕ) (d : Directive) → directive_named name ≡ Some d → name ≡ directive_bytes d
unfolding directive_named directive_bytes
directive_spelled name d h = chosen_of _ directive.Base d _ h (λ e is. bytes_same name (codes ".base") e ∙ ap directive_bytes is)
    (λ h1. chosen_of (bytes_eq name (codes ".size")) directive.Size d _ h1 (λ e is. bytes_same name (codes ".size") e ∙ ap directive_bytes is)
    (λ h2. chosen_of (bytes_eq name (codes ".final")) directive.Final d _ h2 (λ e is. bytes_same name (codes ".final") e ∙ ap directive_bytes is)
    (λ h3. chosen_of (bytes_eq name (codes ".start")) directive.Start d _ h3 (λ e is. bytes_same name (codes ".start") e ∙ ap directive_bytes is)
    (λ h4. let t = tested (bytes_eq name (codes ".word")) (Some directive.Word) d h4 in
    bytes_same name (codes ".word") t.0 ∙ ap directive_bytes (by_some directive.Word d t.1)))))

directed_spelled : (d : Directive) (rest : List ℕ) (s : Statement) → directed d rest ≡ Some s → SpellsStatement (directive_bytes d ++ 32 ∷ rest) s
unfolding directed directive_bytes
directed_spelled directive.Base rest s h =
    let m = mapped base (decimal_in rest) s h in
    let n = decimal_spelled rest m.value m.is in
    subst (SpellsStatement (codes ".base " ++ rest)) (ap base n.1 ∙ m.image) (says_base rest n.0)
directed_spelled directive.Size rest s h =
    let m = mapped size (decimal_in rest) s h in
    let n = decimal_spelled rest m.value m.is in
    subst (SpellsStatement (codes ".size " ++ rest)) (ap size n.1 ∙ m.image) (says_size rest n.0)
directed_spelled directive.Final rest s h =
    let m = mapped final (value_in rest) s h in
    subst (SpellsStatement (codes ".final " ++ rest)) m.image (says_final rest m.value (value_spelled rest m.value m.is))
directed_spelled directive.Start rest s h =
    let m = mapped start (value_in rest) s h in
    subst (SpellsStatement (codes ".start " ++ rest)) m.image (says_start rest m.value (value_spelled rest m.value m.is))
directed_spelled directive.Word rest s h =
    let m = mapped word (value_in rest) s h in
    subst (SpellsStatement (codes ".word " ++ rest)) m.image (says_word rest m.value (value_spelled rest m.value m.is))

parts_spelled : (head rest : List ℕ) (s : Statement) → by_directive (directive_named head) head rest ≡ Some s → SpellsStatement (head ++ 32 ∷ rest) s
unfolding by_directive
parts_spelled head rest s h = by_name (directive_named head) refl h
  where
    by_name : (o : Option Directive) → directive_named head ≡ o → by_directive o head rest ≡ Some s → SpellsStatement (head ++ 32 ∷ rest) s
    by_name (Some d) is k = subst (λ (t : List ℕ). SpellsStatement (t ++ 32 ∷ rest) s) (sym (directive_spelled head d is)) (directed_spelled d rest s k)
    by_name None is k =
        let m = mapped instruction (instruction_in head rest) s k in
        subst (SpellsStatement (head ++ 32 ∷ rest)) m.image (says_instruction (head ++ 32 ∷ rest) m.value (instruction_spelled head rest m.value m.is))

statement_spelled : (text : List ℕ) (s : Statement) → statement_in text ≡ Some s → SpellsStatement text s
unfolding statement_in
statement_spelled text s h =
    let parts = bound _ _ s h in
    subst (λ t. SpellsStatement t s) (sym (split_once_found 32 text parts.value.0 parts.value.1 parts.is)) (parts_spelled _ _ s parts.later)

-- ---- spaces

-- spaces and what stands after them
record HasGap (text : List ℕ) : Type 0 where
  gap : List ℕ
  spaces : list_all (λ b. b == 32) gap ≡ true
  is : text ≡ gap ++ without_leading_spaces text

gap_of : (text : List ℕ) → HasGap text
unfolding without_leading_spaces
gap_of [] = record { gap = []; spaces = refl; is = refl }
gap_of (b ∷ text) = by_space (b == 32) refl (gap_of text)
  where
    by_space : (t : Bool) → (b == 32) ≡ t → HasGap text → HasGap (b ∷ text)
    by_space false e g = record { gap = []; spaces = refl; is = rw e refl }
    by_space true e g = record { gap = b ∷ g.gap; spaces = and_from (b == 32) _ e g.spaces; is = ap (λ (t : List ℕ). b ∷ t) g.is ∙ rw e refl }

spaces_gone : (gap : List ℕ) → list_all (λ b. b == 32) gap ≡ true → without_trailing 32 gap ≡ []
unfolding without_trailing
spaces_gone [] h = refl
spaces_gone (b ∷ gap) h =
    let parts = and_parts (b == 32) (list_all (λ c. c == 32) gap) h in
    let later = spaces_gone gap parts.1 in
    let first = parts.0 in
    ap (unless_trailing 32 b) later ∙ rw first refl

spaces_cut : (front gap : List ℕ) → list_all (λ b. b == 32) gap ≡ true → without_trailing 32 (front ++ gap) ≡ without_trailing 32 front
unfolding without_trailing
spaces_cut [] gap h = spaces_gone gap h
spaces_cut (b ∷ front) gap h = ap (unless_trailing 32 b) (spaces_cut front gap h)

unless-twice : (item x : ℕ) (ys : List ℕ) → without_trailing item ys ≡ ys → without_trailing item (unless_trailing item x ys) ≡ unless_trailing item x ys
unfolding without_trailing
unless-twice item x [] h = by_test (x == item) refl
  where
    by_test : (t : Bool) → (x == item) ≡ t → without_trailing item (cond t [] (x ∷ [])) ≡ cond t [] (x ∷ [])
    by_test true e = refl
    by_test false e = rw e refl
unless-twice item x (y ∷ ys) h = ap (unless_trailing item x) h

without_trailing-twice : (item : ℕ) (xs : List ℕ) → without_trailing item (without_trailing item xs) ≡ without_trailing item xs
unfolding without_trailing
without_trailing-twice item [] = refl
without_trailing-twice item (x ∷ xs) = unless-twice item x (without_trailing item xs) (without_trailing-twice item xs)

-- ---- what a line says

-- nothing, or a statement
unlabelled : (text : List ℕ) (s : Option Statement) → statement_or_none text ≡ Some s → SpellsSaid text (says None s)
unfolding statement_or_none
unlabelled [] s h = subst (λ (o : Option Statement). SpellsSaid [] (says None o)) (by_some None s h) nothing
unlabelled (b ∷ bs) s h =
    let m = mapped (λ (x : Statement). there x) (statement_in (b ∷ bs)) s h in
    subst (λ (o : Option Statement). SpellsSaid (b ∷ bs) (says None o)) m.image (statement_alone (b ∷ bs) m.value (statement_spelled (b ∷ bs) m.value m.is))
  where
    there : Statement → Option Statement
    there x = Some x

none_empty : (text : List ℕ) → statement_or_none text ≡ Some None → text ≡ []
unfolding statement_or_none
none_empty [] h = refl
none_empty (b ∷ bs) h = absurd (by_statement (statement_in (b ∷ bs)) h)
  where
    by_statement : (o : Option Statement) → option_map (λ (x : Statement). let r : Option Statement = Some x in r) o ≡ Some None → ⊥
    by_statement None k = cc
    by_statement (Some s) k = cc

some_spelled : (text : List ℕ) (s : Statement) → statement_or_none text ≡ Some (Some s) → SpellsStatement text s
unfolding statement_or_none
some_spelled [] s h = absurd cc
some_spelled (b ∷ bs) s h = by_statement (statement_in (b ∷ bs)) refl h
  where
    by_statement : (o : Option Statement) → statement_in (b ∷ bs) ≡ o → option_map (λ (x : Statement). let r : Option Statement = Some x in r) o
        ≡ Some (Some s) → SpellsStatement (b ∷ bs) s
    by_statement None is k = absurd cc
    by_statement (Some x) is k =
        let same : x ≡ s = cc in
        statement_spelled (b ∷ bs) s (is ∙ ap (λ (y : Statement). Some y) same)

-- a label with spaces after it that end a text without last spaces
label_ends : (text name gap : List ℕ) → is_name name ≡ true → without_trailing 32 text ≡ text → text ≡ name ++ 58 ∷ gap
    → list_all (λ b. b == 32) gap ≡ true → SpellsSaid text (says (Some name) None)
label_ends text name gap named ended is spaces =
    let grouped : name ++ 58 ∷ gap ≡ (name ++ codes ":") ++ gap = simp append_assoc in
    let short : without_trailing 32 text ≡ name ++ codes ":" = ap (without_trailing 32) (is ∙ grouped) ∙ spaces_cut _ gap spaces ∙ last-other 32 name 58 refl in
    subst (λ (t : List ℕ). SpellsSaid t (says (Some name) None)) (sym short ∙ ended) (label_alone name named)

positive : (n : ℕ) → nat_lt 0 (suc n) ≡ true
positive n = grind (arith, nat_tests)

labelled_spelled : (text name rest : List ℕ) (s : Option Statement) → is_name name ≡ true → without_trailing 32 text ≡ text → text ≡ name ++ 58 ∷ rest
    → is_apart rest ≡ true
    → statement_or_none (without_leading_spaces rest) ≡ Some s → SpellsSaid text (says (Some name) s)
unfolding without_leading_spaces statement_or_none
labelled_spelled text name rest None named short is apart h =
    let g = gap_of rest in
    let empty = none_empty _ h in
    let all : rest ≡ g.gap = g.is ∙ ap (λ (t : List ℕ). g.gap ++ t) empty ∙ append-nil g.gap in
    label_ends text name rest named short is (ap (list_all (λ b. b == 32)) all ∙ g.spaces)
labelled_spelled text name [] (Some s) named short is apart h = absurd (nothing_there h)
  where
    nothing_there : statement_or_none [] ≡ Some (Some s) → ⊥
    nothing_there k = cc
labelled_spelled text name (b ∷ rest) (Some s) named short is apart h =
    let g = gap_of rest in
    let skipped : without_leading_spaces (b ∷ rest) ≡ without_leading_spaces rest = rw apart refl in
    let statement = some_spelled _ s (ap statement_or_none (sym skipped) ∙ h) in
    let spaces : is_gap (b ∷ g.gap) ≡ true = and_from _ _ (positive (length g.gap)) (and_from (b == 32) (list_all (λ c. c == 32) g.gap) apart g.spaces) in
    let grouped : name ++ codes ":" ++ (b ∷ g.gap) ++ without_leading_spaces rest ≡ name ++ 58 ∷ b ∷ (g.gap ++ without_leading_spaces rest) =
    simp append_assoc in
    subst (λ (t : List ℕ). SpellsSaid t (says (Some name) (Some s))) (grouped ∙ ap (λ (t : List ℕ). name ++ 58 ∷ b ∷ t) (sym g.is) ∙ sym is)
    (label_and_statement name (b ∷ g.gap) (without_leading_spaces rest) s named spaces statement)

said_spelled : (text : List ℕ) (said : Said) → without_trailing 32 text ≡ text → said_in text ≡ Some said → SpellsSaid text said
unfolding said_in said_by labelled
said_spelled text said ended h = by_colon (cut 58 text).1 refl h
  where
    by_colon : (o : Option (List ℕ)) → (cut 58 text).1 ≡ o → said_by o (cut 58 text).0 text ≡ Some said → SpellsSaid text said
    by_colon None is k =
        let m = mapped (says None) _ said k in
        subst (SpellsSaid text) m.image (unlabelled text m.value m.is)
    by_colon (Some rest) is k =
        let t = tested _ _ said k in
        let parts = and_parts _ _ t.0 in
        let m = mapped _ _ said t.1 in
        subst (SpellsSaid text) m.image (labelled_spelled text (cut 58 text).0 rest m.value parts.0 ended (cut_some 58 text rest is) parts.1 m.is)

text_ended : (bytes : List ℕ) → without_trailing 32 (text_of bytes) ≡ text_of bytes
unfolding text_of trimmed
text_ended bytes = without_trailing-twice 32 (without_leading_spaces (cut 59 bytes).0)

pub line_spelled : (bytes : List ℕ) (said : Said) → said_of_line bytes ≡ Ok said → IsLine bytes said
unfolding said_of_line
line_spelled bytes said h = by_plain (is_plain_line bytes) refl h
  where
    by_said : (o : Option Said) → said_in (text_of bytes) ≡ o → if_of_form o ≡ Ok said → SpellsSaid (text_of bytes) said
    by_said None is k = absurd cc
    by_said (Some x) is k =
        let same : x ≡ said = ap (λ (r : Result Said ℕ). result_unwrap_or r x) k in
        said_spelled (text_of bytes) said (text_ended bytes) (is ∙ ap (λ (y : Said). Some y) same)

    by_plain : (t : Bool) → is_plain_line bytes ≡ t → cond t (if_of_form (said_in (text_of bytes))) (Err 1) ≡ Ok said → IsLine bytes said
    by_plain false e k = absurd cc
    by_plain true e k = record { plain = e; written = by_said (said_in (text_of bytes)) refl k }

-- ---- all lines

abbrev says_so : Said → Result Said ℕ
says_so said = Ok said

said_of : (d : Due) (bytes : List ℕ) (x : Said × Due) → line_read d bytes ≡ Ok x → said_of_line bytes ≡ Ok x.0
unfolding line_read
said_of d bytes x h = by_said (said_of_line bytes) h
  where
    by_due : (s : Said) (r : Result Due ℕ) → (r >>= λ e. paired s e) ≡ Ok x → says_so s ≡ says_so x.0
    by_due s (Err rule) k = absurd cc
    by_due s (Ok e) k = ap (λ (r : Result (Said × Due) ℕ). says_so (result_unwrap_or r x).0) k

    by_said : (r : Result Said ℕ) → (r >>= λ s. due_after_line d s.statement >>= λ e. paired s e) ≡ Ok x → r ≡ Ok x.0
    by_said (Err rule) k = absurd cc
    by_said (Ok s) k = by_due s (due_after_line d s.statement) k

Spells : ℕ → ℕ → List (List ℕ) → Result SourceOf Breach → Type 0
Spells place offset texts (Ok s) = AreLines place offset texts s.lines
Spells place offset texts (Err fault) = Unit {0}

one_more : (place offset : ℕ) (bytes : List ℕ) (said : Said) (rest : List (List ℕ)) (r : Result SourceOf Breach) → IsLine bytes said
    → Spells (place + length bytes + 1) (offset + word_count said.statement) rest r
    → Spells place offset (bytes ∷ rest) (with_lines (kept (record { place = place; offset = offset; said = said })) r)
unfolding Spells
one_more place offset bytes said rest (Err fault) h k = tt
one_more place offset bytes said rest (Ok s) h k = one_line place offset bytes said rest s.lines h k

on_line : (end place offset : ℕ) (d : Due) (bytes : List ℕ) (rest : List (List ℕ)) (r : Result (Said × Due) ℕ) → line_read d bytes ≡ r
    → ((o : ℕ) (e : Due) → Spells (place + length bytes + 1) o rest (lines_read end (place + length bytes + 1) o e rest))
    → Spells place offset (bytes ∷ rest) (at_place place r >>= λ next. with_lines (kept (record { place = place; offset = offset; said = next.0 }))
    (lines_read end (place + length bytes + 1) (offset + word_count next.0.statement) next.1 rest))
unfolding Spells
on_line end place offset d bytes rest (Err rule) is later = tt
on_line end place offset d bytes rest (Ok x) is later = one_more place offset bytes x.0 rest _
    (line_spelled bytes x.0 (said_of d bytes x is)) (later (offset + word_count x.0.statement) x.1)

all_spelled : (end place offset : ℕ) (d : Due) (texts : List (List ℕ)) → Spells place offset texts (lines_read end place offset d texts)
unfolding lines_read Spells
all_spelled end place offset due.Base [] = tt
all_spelled end place offset (due.Size b) [] = tt
all_spelled end place offset (due.Final b n) [] = tt
all_spelled end place offset (due.Start b n) [] = tt
all_spelled end place offset (due.Words b n) [] = no_line place offset
all_spelled end place offset d (bytes ∷ rest) = on_line end place offset d bytes rest _ refl (λ o e. all_spelled end (place + length bytes + 1) o e rest)

-- the lines of a source that was read are those of its text
pub lines_spelled : (text : List ℕ) (s : SourceOf) → source_in text ≡ Ok s → AreLines 0 0 (slice_split (λ b. b == 10) text) s.lines
unfolding Spells source_in
lines_spelled text s is = subst (Spells 0 0 (slice_split (λ b. b == 10) text)) is (all_spelled (length text) 0 0 due.Base (slice_split (λ b. b == 10) text))
