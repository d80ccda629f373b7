-- A text that spells an image is assembled to it.
use Rattle.std.proofs.Common.{◌≡◌, ℕ, ◌+◌, ◌-◌, ◌<◌, ◌≤◌, ◌^◌, ◌==◌, true, not, List, [], ◌∷◌, length, map, Option, Some, Result, Ok, is_some, refl, sym, ap}
use Rattle.std.{proofs.Common.{◌∙◌, arith, ltb-true, leb-true}, specs.List.{flat_map, list_all, slice_split}, proofs.lemmas.Bool.{and_parts, and_from}}
use Rattle.stack_text.specs.declared.breach.Breach.{Breach}
use Rattle.fm_image.{specs.Image.ImageOf, specs.Limits.{is_size, is_inside}}
use Rattle.fm_asm.specs.declared.due.Due.TheVariants as due
use Rattle.fm_asm.{specs.Cuts.without_trailing, specs.Statements.{Statement, base, size, final, start, word, instruction}, specs.Sources.source_in}
use Rattle.fm_asm.{specs.Labels.{offset_of, number_of, is_outside, breaches, line_words, final_in, start_in, statement_words}, specs.Printing.plain_image}
use Rattle.fm_asm.{specs.Assembling.{image_of, assembly_of}, specs.Assembly.{statements_of, labels_of, statement_word, IsAssembly}}
use Rattle.fm_asm.{proofs.SourceLaws.{lines_are_read, header_due, dues}, proofs.JudgingLaws.{words-lines, final_by, final-lines, start_by, start-lines}}
use Rattle.fm_asm.proofs.JudgingLaws.{as_word-fits, words-statements, word_total, is_good, good_lines, is_fresh, none_repeats}

-- names are fresh where nothing stands before them
all_fresh : (names : List (List ℕ)) → list_all (is_fresh []) names ≡ true
unfolding is_fresh offset_of
all_fresh [] = refl
all_fresh (name ∷ names) = all_fresh names

-- the statements after the header are good, and each is a word
good_words : (b n : ℕ) (known : List ℕ → Option ℕ) (ss : List Statement) (ws : List ℕ) → map (statement_word b known) ss ≡ map (λ w. Some w) ws
    → (list_all (is_good b n known) ss ≡ true) × (word_total ss ≡ length ws)
unfolding is_good word_total statement_word
good_words b n known [] [] h = (refl, refl)
good_words b n known [] (w ∷ ws) h = absurd cc
good_words b n known (base x ∷ ss) [] h = absurd cc
good_words b n known (size x ∷ ss) [] h = absurd cc
good_words b n known (final v ∷ ss) [] h = absurd cc
good_words b n known (start v ∷ ss) [] h = absurd cc
good_words b n known (word v ∷ ss) [] h = absurd cc
good_words b n known (instruction w ∷ ss) [] h = absurd cc
good_words b n known (base x ∷ ss) (w ∷ ws) h = absurd cc
good_words b n known (size x ∷ ss) (w ∷ ws) h = absurd cc
good_words b n known (final v ∷ ss) (w ∷ ws) h = absurd cc
good_words b n known (start v ∷ ss) (w ∷ ws) h = absurd cc
good_words b n known (word v ∷ ss) (w ∷ ws) h =
    let first : number_of b known v ≡ Some w = cc in
    let there : is_some (number_of b known v) ≡ true = ap (λ (o : Option ℕ). is_some o) first in
    let rest : map (statement_word b known) ss ≡ map (λ w. Some w) ws = cc in
    let later = good_words b n known ss ws rest in
    (and_from _ _ there later.0, omega arith)
good_words b n known (instruction x ∷ ss) (w ∷ ws) h =
    let rest : map (statement_word b known) ss ≡ map (λ w. Some w) ws = cc in
    let later = good_words b n known ss ws rest in
    (later.0, omega arith)

source_is : (text : List ℕ) (image : ImageOf) (a : IsAssembly text image) → source_in text
    ≡ Ok (record { base = image.base; size = image.size; lines = a.lines })
unfolding source_in
source_is text image a = lines_are_read _ 0 0 due.Base image.base image.size _ a.lines a.are_lines
    (ap (dues due.Base) a.in_order ∙ header_due image.base image.size image.final_pc a.start_pc (offset_of a.lines) a.end_value a.start_value
    a.statements a.words a.sized a.end_is a.start_is a.words_are)

no_breach : (text : List ℕ) (image : ImageOf) (a : IsAssembly text image) → breaches (record { base = image.base; size = image.size; lines = a.lines }) ≡ []
unfolding breaches is_good word_total
no_breach text image a =
    let known = offset_of a.lines in
    let words = good_words image.base image.size (offset_of a.lines) a.statements a.words a.words_are in
    let ended : is_some (number_of image.base (offset_of a.lines) a.end_value) ≡ true = ap (λ (o : Option ℕ). is_some o) a.end_is in
    let inside : not (is_outside image.base image.size (number_of image.base (offset_of a.lines) a.end_value)) ≡ true =
    ap (λ (o : Option ℕ). not (is_outside image.base image.size o)) a.end_is ∙ ap (λ t. not (not t)) a.inside in
    let begun : is_some (number_of image.base (offset_of a.lines) a.start_value) ≡ true = ap (λ (o : Option ℕ). is_some o) a.start_is in
    let good : list_all (is_good image.base image.size (offset_of a.lines)) (statements_of a.lines) ≡ true =
    ap (list_all (is_good image.base image.size (offset_of a.lines))) a.in_order ∙ and_from _ _ (and_from _ _ ended inside) (and_from _ _ begun words.0) in
    let total : word_total (statements_of a.lines) ≡ 0 + (0 + (0 + (0 + word_total a.statements))) = ap word_total a.in_order in
    let few : 0 + word_total (statements_of a.lines) ≤ image.size = omega arith in
    rw (none_repeats [] a.lines a.labels_differ (all_fresh (labels_of a.lines)))
    (good_lines image.base image.size (offset_of a.lines) 0 0 (slice_split (λ b. b == 10) text) a.lines a.are_lines good few)

small_end : (b n e : ℕ) → is_size b n ≡ true → is_inside b n e ≡ true → e < 2 ^ 32
small_end b n e sized inside =
    let size = and_parts _ _ sized in
    let limit = leb-true (b + n) (2 ^ 32 - 1) size.1 in
    let within = ltb-true e (b + n) (and_parts _ _ inside).1 in
    omega (arith, limit, within)

image_is_it : (text : List ℕ) (image : ImageOf) (a : IsAssembly text image) → image_of
    (record { base = image.base; size = image.size; lines = a.lines }) ≡ image
unfolding final_by start_by statement_words
image_is_it text image a =
    let fits = and_parts _ _ a.fit in
    let words : flat_map (line_words image.base (offset_of a.lines)) a.lines ≡ a.words =
    words-lines image.base _ a.lines ∙ ap (flat_map (λ s. statement_words image.base (offset_of a.lines) (Some s))) a.in_order
    ∙ words-statements image.base _ a.statements a.words a.words_are fits.1 in
    let ends : final_in image.base (offset_of a.lines) a.lines ≡ image.final_pc = final-lines image.base _ a.lines
    ∙ ap (final_by image.base (offset_of a.lines)) a.in_order
    ∙ as_word-fits _ image.final_pc a.end_is (small_end image.base image.size image.final_pc a.sized a.inside) in
    let begins : start_in image.base (offset_of a.lines) a.lines ≡ a.start_pc = start-lines image.base _ a.lines
    ∙ ap (start_by image.base (offset_of a.lines)) a.in_order
    ∙ as_word-fits _ a.start_pc a.start_is (ltb-true a.start_pc (2 ^ 32) fits.0) in
    ap (λ e. plain_image image.base image.size e (start_in image.base (offset_of a.lines) a.lines)
    (without_trailing 0 (flat_map (line_words image.base (offset_of a.lines)) a.lines))) ends ∙ ap (λ x. plain_image image.base image.size image.final_pc x
    (without_trailing 0 (flat_map (line_words image.base (offset_of a.lines)) a.lines))) begins
    ∙ ap (λ ws. plain_image image.base image.size image.final_pc a.start_pc (without_trailing 0 ws)) words ∙ sym a.image_is

-- a text that spells an image is assembled to it
pub spelled_is_assembled : (text : List ℕ) (image : ImageOf) → IsAssembly text image → assembly_of text ≡ Ok image
unfolding assembly_of
spelled_is_assembled text image a =
    let found : ImageOf → Result ImageOf Breach = λ i. Ok i in
    rw (source_is text image a) (rw (no_breach text image a) (ap found (image_is_it text image a)))
