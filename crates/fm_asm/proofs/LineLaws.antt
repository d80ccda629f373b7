-- Lines are read from what they are written as.
use Rattle.std.proofs.Common.{◌≡◌, ℕ, ◌==◌, true, List, [], ◌∷◌, ◌++◌, length, nat_lt, Option, Some, None, Ok, option_map, refl, sym, ap, ◌∙◌, codes}
use Rattle.std.{proofs.Common.append_assoc, specs.List.list_all, proofs.lemmas.Bool.{and_parts, and_from, cond-true}}
use Rattle.stack_text.{specs.Names.is_name, specs.Lines.is_plain_line}
use Rattle.fm_asm.{specs.Cuts.{cut, without_leading_spaces}, specs.Statements.{Statement, statement_in}, specs.Lines.{Said, text_of, statement_or_none}}
use Rattle.fm_asm.{specs.Lines.{is_apart, labelled, said_by, said_in}, specs.Sources.said_of_line, specs.Assembly.{says, is_gap, SpellsStatement, SpellsSaid}}
use Rattle.fm_asm.{specs.Assembly.{nothing, statement_alone, label_alone, label_and_statement, IsLine}, proofs.CutLaws.{cut-append, cut-lacks}}
use Rattle.fm_asm.{proofs.ValueLaws.name_lacks, proofs.StatementLaws.{statement_read, IsStatementText, statement_text}}

-- a statement that is there
there : (text : List ℕ) (s : Statement) → SpellsStatement text s → statement_or_none text ≡ Some (Some s)
unfolding statement_or_none
there text s h =
    let t = statement_text text s h in
    ap statement_or_none t.begins ∙ ap (option_map (λ (x : Statement). Some x)) (ap statement_in (sym t.begins) ∙ statement_read text s h)

-- ---- spaces after a label

spaces_skipped : (gap text : List ℕ) → list_all (λ b. b == 32) gap ≡ true → without_leading_spaces (gap ++ text) ≡ without_leading_spaces text
unfolding without_leading_spaces
spaces_skipped [] text h = refl
spaces_skipped (b ∷ gap) text h =
    let parts = and_parts (b == 32) (list_all (λ c. c == 32) gap) h in
    cond-true (b == 32) _ _ parts.0 ∙ spaces_skipped gap text parts.1

kept_text : (text : List ℕ) → IsStatementText text → without_leading_spaces text ≡ text
unfolding without_leading_spaces
kept_text text t = ap without_leading_spaces t.begins ∙ rw t.spaceless (sym t.begins)

gap_is_apart : (gap text : List ℕ) → is_gap gap ≡ true → is_apart (gap ++ text) ≡ true
gap_is_apart [] text h = absurd cc
gap_is_apart (b ∷ gap) text h = (and_parts (b == 32) (list_all (λ c. c == 32) gap) (and_parts (nat_lt 0 (length (b ∷ gap))) _ h).1).0

label_read : (name rest : List ℕ) (s : Option Statement) → is_name name ≡ true → is_apart rest ≡ true → statement_or_none (without_leading_spaces rest) ≡ Some s
    → said_in (name ++ 58 ∷ rest) ≡ Some (says (Some name) s)
unfolding said_in said_by labelled
label_read name rest s named apart reads =
    let parts : cut 58 (name ++ 58 ∷ rest) ≡ (name, Some rest) = cut-append 58 name rest (name_lacks 58 name refl named) in
    let chosen : labelled name rest ≡ option_map (λ (x : Option Statement). says (Some name) x) (statement_or_none
    (without_leading_spaces rest)) = cond-true _ _ None (and_from (is_name name) (is_apart rest) named apart) in
    rw parts (chosen ∙ ap (option_map (λ (x : Option Statement). says (Some name) x)) reads)

alone : (text : List ℕ) (s : Statement) → SpellsStatement text s → said_in text ≡ Some (says None (Some s))
unfolding said_in said_by
alone text s h =
    let t = statement_text text s h in
    rw (cut-lacks 58 text t.colonless) (ap (option_map (λ (x : Option Statement). says None x)) (there text s h))

pub said_read : (text : List ℕ) (said : Said) → SpellsSaid text said → said_in text ≡ Some said
unfolding said_in said_by cut statement_or_none without_leading_spaces
said_read _ _ nothing = refl
said_read _ _ (statement_alone text s h) = alone text s h
said_read _ _ (label_alone name h) = label_read name [] None h refl refl
said_read _ _ (label_and_statement name gap text s named spaces h) =
    let t = statement_text text s h in
    let grouped : name ++ codes ":" ++ gap ++ text ≡ name ++ 58 ∷ (gap ++ text) = simp append_assoc in
    let skipped = spaces_skipped gap text (and_parts (nat_lt 0 (length gap)) _ spaces).1 ∙ kept_text text t in
    ap said_in grouped ∙ label_read name (gap ++ text) (Some s) named (gap_is_apart gap text spaces) (ap statement_or_none skipped ∙ there text s h)

pub line_said : (bytes : List ℕ) (said : Said) → IsLine bytes said → said_of_line bytes ≡ Ok said
unfolding said_of_line
line_said bytes said h = cc (cond-true (is_plain_line bytes) _ _ h.plain, said_read (text_of bytes) said h.written)
