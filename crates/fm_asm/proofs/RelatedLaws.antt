-- A text spells the image that it is assembled to.
use Rattle.std.proofs.Common.{◌≡◌, ◌↔◌, ℕ, ◌+◌, ◌-◌, ◌%◌, ◌^◌, ◌<◌, ◌≤◌, Bool, true, false, cond, not, List, [], ◌∷◌, ◌++◌, map, Option, Some, None, Result, Ok}
use Rattle.std.{proofs.Common.{Err, is_some, unwrap_or, refl, sym, ap, subst, ◌∙◌, arith, nat_lt, leb-true}, specs.Prelude.{option_to_list, IfOk}}
use Rattle.std.{specs.List.{flat_map, list_all, list_any}, specs.Str.bytes_eq, specs.Result.result_unwrap_or, proofs.lemmas.Bool.{and_parts, and_from}}
use Rattle.std.{proofs.lemmas.Bool.not-true, proofs.lemmas.Bool.Decides.nat_tests}
use Rattle.stack_text.{specs.Breaches.least, specs.Results.◌>>=◌, specs.declared.breach.Breach.Breach, proofs.BreachLaws.none_least}
use Rattle.stack_text.proofs.SharedLaws.{rule_fails, append_none, bytes_apart}
use Rattle.fm_image.{specs.Image.ImageOf, specs.Spelling.are_words}
use Rattle.fm_asm.{specs.declared.fault.AsmFault.AsmFault, specs.Values.{Value, number, label}, specs.Statements.{Statement, base, size, final, start, word}}
use Rattle.fm_asm.{specs.Statements.instruction, specs.Lines.Line, specs.Sources.{due_after, SourceOf, source_in, IsOfText}, specs.Labels.is_labelled}
use Rattle.fm_asm.specs.Labels.{offset_of, repeated, repeats, number_of, breaches, as_word, statement_words, words_of, final_in, start_in}
use Rattle.fm_asm.{specs.Assembling.{GivesAssemblyUnless, image_of, image_unless, assembly_of}, specs.Assembly.{statements_of, labels_of, are_distinct}}
use Rattle.fm_asm.{specs.Assembly.{statement_word, IsAssembly}, proofs.SourceLaws.dues, proofs.JudgingLaws.{words-lines, final_by, final-lines, start_by}}
use Rattle.fm_asm.{proofs.JudgingLaws.{start-lines, as_word-fits, word_total, is_good, is_fresh}, proofs.SoundLaws.{read_is, header_of, lines_good}}
use Rattle.fm_asm.{proofs.SoundLaws.source_fits, proofs.AssemblyLaws.spelled_is_assembled, proofs.FitLaws.{small, number_fits, value_fits, statement_fits}}
use Rattle.fm_asm.{proofs.FitLaws.{lines_fit, valued_fits}, proofs.SpelledLineLaws.lines_spelled}
use Rattle.fm_asm.specs.declared.due.Due.TheVariants as due

-- ---- labels differ where none repeats

fresh-pull : (earlier : List Line) (line : Line) (name : List ℕ) → is_fresh (earlier ++ line ∷ []) name ≡ true → (is_fresh earlier name ≡ true)
    × (is_labelled name line.said.label ≡ false)
unfolding is_fresh offset_of
fresh-pull [] line name h = by_test (is_labelled name line.said.label) h
  where
    by_test : (t : Bool) → not (is_some (cond t (Some line.offset) None)) ≡ true → (true ≡ true) × (t ≡ false)
    by_test true k = absurd cc
    by_test false k = (refl, refl)
fresh-pull (m ∷ earlier) line name h = by_test (is_labelled name m.said.label) h (fresh-pull earlier line name)
  where
    by_test : (t : Bool) → not (is_some (cond t (Some m.offset) (offset_of (earlier ++ line ∷ []) name))) ≡ true
        → (not (is_some (offset_of (earlier ++ line ∷ []) name)) ≡ true → (not (is_some (offset_of earlier name)) ≡ true)
        × (is_labelled name line.said.label ≡ false))
        → (not (is_some (cond t (Some m.offset) (offset_of earlier name))) ≡ true) × (is_labelled name line.said.label ≡ false)
    by_test true k later = absurd cc
    by_test false k later = later k

all_pull : (earlier : List Line) (line : Line) (names : List (List ℕ)) → list_all (is_fresh (earlier ++ line ∷ [])) names ≡ true
    → (list_all (is_fresh earlier) names ≡ true) × (list_all (λ name. not (is_labelled name line.said.label)) names ≡ true)
all_pull earlier line [] h = (refl, refl)
all_pull earlier line (name ∷ names) h =
    let parts = and_parts _ _ h in
    let first = fresh-pull earlier line name parts.0 in
    let later = all_pull earlier line names parts.1 in (and_from _ _ first.0 later.0, and_from _ _ (ap not first.1) later.1)

none_same : (own : List ℕ) (names : List (List ℕ)) → list_all (λ name. not (is_labelled name (Some own))) names ≡ true → list_any (bytes_eq own) names ≡ false
none_same own [] h = refl
none_same own (name ∷ names) h =
    let parts = and_parts (not (bytes_eq name own)) (list_all (λ m. not (is_labelled m (Some own))) names) h in
    let apart = bytes_apart name own (not-true (bytes_eq name own) parts.0) in
    let later = none_same own names parts.1 in
    rw apart later

pub record AreNew (earlier lines : List Line) : Type 0 where
  pub fresh : list_all (is_fresh earlier) (labels_of lines) ≡ true
  pub distinct : are_distinct (labels_of lines) ≡ true

repeats_none : (earlier lines : List Line) → repeats earlier lines ≡ [] → AreNew earlier lines
unfolding repeats are_distinct is_fresh
repeats_none earlier [] h = record { fresh = refl; distinct = refl }
repeats_none earlier (line ∷ lines) h =
    let parts = append_none _ _ h in
    let later = repeats_none (earlier ++ line ∷ []) lines parts.1 in
    let pulled = all_pull earlier line _ later.fresh in
    let both = by_label _ parts.0 pulled.1 (record { fresh = pulled.0; distinct = later.distinct }) in
    record { fresh = both.0; distinct = both.1 }
  where
    by_label : (l : Option (List ℕ)) → repeated (offset_of earlier) line.place l ≡ []
        → list_all (λ name. not (is_labelled name l)) (labels_of lines) ≡ true → AreNew earlier lines
        → (list_all (is_fresh earlier) (option_to_list l ++ labels_of lines) ≡ true) × (are_distinct (option_to_list l ++ labels_of lines) ≡ true)
    by_label None r o later = (later.fresh, later.distinct)
    by_label (Some own) r o later =
        let new : is_some (offset_of earlier own) ≡ false = rule_fails _ line.place 4 r in (
          and_from _ _ (ap not new) later.fresh,
          and_from _ _ (ap not (none_same own (labels_of lines) o)) later.distinct,
        )

-- ---- what is assembled

-- the value of a number that is there and fits is its word
word_there : (o : Option ℕ) → is_some o ≡ true → ((w : ℕ) → o ≡ Some w → w < 2 ^ 32) → o ≡ Some (as_word o)
word_there None h fits = absurd cc
word_there (Some w) h fits = ap (λ (x : ℕ). Some x) (sym (as_word-fits (Some w) w refl (fits w refl)))

word_small : (o : Option ℕ) → small (as_word o) ≡ true
unfolding small
word_small o = below (unwrap_or o 0)
  where
    below : (n : ℕ) → nat_lt (n % 2 ^ 32) (2 ^ 32) ≡ true
    below n = grind (arith, nat_tests)

record AreThere (b : ℕ) (known : List ℕ → Option ℕ) (ss : List Statement) : Type 0 where
  words : map (statement_word b known) ss ≡ map (λ w. Some w) (flat_map (λ s. statement_words b known (Some s)) ss)
  fit : are_words (flat_map (λ s. statement_words b known (Some s)) ss) ≡ true

one_there : {b : ℕ} {known : List ℕ → Option ℕ} (s : Statement) (ss : List Statement) (w : ℕ) → statement_word b known s ≡ Some w
    → statement_words b known (Some s) ≡ w ∷ [] → small w ≡ true
    → AreThere b known ss → AreThere b known (s ∷ ss)
unfolding small
one_there {b} {known} s ss w is words fits later =
    let whole : flat_map (λ t. statement_words b known (Some t)) (s ∷ ss) ≡ w ∷ flat_map (λ t. statement_words b known (Some t)) ss =
    ap (λ (ws : List ℕ). ws ++ flat_map (λ t. statement_words b known (Some t)) ss) words in
    record {
      words = ap (λ o. o ∷ map (statement_word b known) ss) is ∙ ap (λ os. Some w ∷ os) later.words ∙ ap (map _) (sym whole);
      fit = ap are_words whole ∙ and_from _ _ fits later.fit;
    }

-- the statements after the header, where nothing but words is due
words_there : (b n : ℕ) (known : List ℕ → Option ℕ) (ss : List Statement)
    → ((v : Value) (w : ℕ) → value_fits v ≡ true → number_of b known v ≡ Some w → w < 2 ^ 32)
    → dues (due.Words b n) ss ≡ Ok (due.Words b n) → list_all (is_good b n known) ss ≡ true → list_all statement_fits ss ≡ true → AreThere b known ss
unfolding dues due_after is_good statement_fits number_fits statement_word statement_words
words_there b n known [] bound h good fits = record { words = refl; fit = refl }
words_there b n known (base z ∷ ss) bound h good fits = absurd cc
words_there b n known (size z ∷ ss) bound h good fits = absurd cc
words_there b n known (final v ∷ ss) bound h good fits = absurd cc
words_there b n known (start v ∷ ss) bound h good fits = absurd cc
words_there b n known (word (number None) ∷ ss) bound h good fits = absurd cc
words_there b n known (word (number (Some z)) ∷ ss) bound h good fits =
    let g = and_parts _ _ good in
    let f = and_parts _ _ fits in
    one_there _ ss _ (word_there (number_of b known (number (Some z))) g.0 (λ w is. bound (number (Some z)) w f.0 is)) refl
    (word_small (number_of b known (number (Some z)))) (words_there b n known ss bound h g.1 f.1)
words_there b n known (word (label name) ∷ ss) bound h good fits =
    let g = and_parts _ _ good in
    let f = and_parts _ _ fits in
    one_there _ ss _ (word_there (number_of b known (label name)) g.0 (λ w is. bound (label name) w f.0 is)) refl (word_small (number_of b known (label name)))
    (words_there b n known ss bound h g.1 f.1)
words_there b n known (instruction None ∷ ss) bound h good fits = absurd cc
words_there b n known (instruction (Some z) ∷ ss) bound h good fits =
    let f = and_parts _ _ fits in
    one_there _ ss z refl refl f.0 (words_there b n known ss bound h good f.1)

good_source : (text : List ℕ) (s : SourceOf) → source_in text ≡ Ok s → breaches s ≡ [] → IsAssembly text (image_of s)
unfolding breaches is_good statement_fits final_by start_by statement_words small
good_source text s is none =
    let read : IsOfText s = (text, is) in
    let r = read_is s read in
    let fit = source_fits s read none in
    let lines = lines_spelled text s is in
    let h = header_of s.base s.size _ r.in_order in
    let parts = append_none (repeats [] s.lines) _ none in
    let g = lines_good s.base s.size _ 0 s.lines r.offsets parts.1 (omega arith) in
    let few : word_total (statements_of s.lines) ≤ s.size = omega arith in
    let limit : s.base + s.size ≤ 2 ^ 32 - 1 = leb-true _ _ (and_parts _ _ h.sized).1 in
    let good : list_all (is_good s.base s.size (offset_of s.lines))
    (base (Some s.base) ∷ size (Some s.size) ∷ final h.end_value ∷ start h.start_value ∷ h.words) ≡ true =
    ap (list_all (is_good s.base s.size (offset_of s.lines))) (sym h.is) ∙ g.good in
    let fits : list_all statement_fits (base (Some s.base) ∷ size (Some s.size) ∷ final h.end_value ∷ start h.start_value ∷ h.words) ≡ true =
    ap (list_all statement_fits) (sym h.is) ∙ lines_fit 0 0 _ s.lines lines in
    let good_end = and_parts _ _ good in
    let good_start = and_parts _ _ good_end.1 in
    let end_there = and_parts _ _ good_end.0 in
    let fits_end = and_parts _ _ fits in
    let fits_start = and_parts _ _ fits_end.1 in
    let bound : (v : Value) (w : ℕ) → value_fits v ≡ true → number_of s.base (offset_of s.lines) v ≡ Some w → w < 2 ^ 32 =
    λ v w f e. valued_fits s.base s.size s.lines v w r.offsets few limit f e in
    let last : final_in s.base (offset_of s.lines) s.lines ≡ as_word (number_of s.base (offset_of s.lines) h.end_value) =
    final-lines s.base _ s.lines ∙ ap (final_by s.base (offset_of s.lines)) h.is in
    let first : start_in s.base (offset_of s.lines) s.lines ≡ as_word (number_of s.base (offset_of s.lines) h.start_value) =
    start-lines s.base _ s.lines ∙ ap (start_by s.base _) h.is in
    let words : words_of s ≡ flat_map (λ t. statement_words s.base (offset_of s.lines) (Some t)) h.words = words-lines s.base _ s.lines
    ∙ ap (flat_map _) h.is in
    let there = words_there s.base s.size (offset_of s.lines) h.words bound h.words_due good_start.1 fits_start.1 in
    let new = repeats_none [] s.lines parts.0 in
    record {
      lines = s.lines;
      end_value = h.end_value;
      start_value = h.start_value;
      start_pc = start_in s.base (offset_of s.lines) s.lines;
      statements = h.words;
      words = words_of s;
      are_lines = lines;
      in_order = h.is;
      sized = h.sized;
      labels_differ = new.distinct;
      end_is = rw (word_there _ end_there.0 (λ w e. bound h.end_value w fits_end.0 e), last);
      start_is = rw (word_there _ good_start.0 (λ w e. bound h.start_value w fits_start.0 e), first);
      words_are = there.words ∙ ap (map _) (sym words);
      fit = and_from _ _
          (ap (λ (x : ℕ). nat_lt x (2 ^ 32)) first ∙ word_small (number_of s.base (offset_of s.lines) h.start_value)) (ap are_words words ∙ there.fit);
      few = fit.few;
      inside = fit.inside;
      image_is = refl;
    }

-- a text spells the image that it is assembled to
pub assembled_is_spelled : (text : List ℕ) (image : ImageOf) → assembly_of text ≡ Ok image → IsAssembly text image
unfolding assembly_of
assembled_is_spelled text image h = by_source (source_in text) refl h
  where
    by_least : (s : SourceOf) → source_in text ≡ Ok s → (o : Option Breach) → least (breaches s) ≡ o → image_unless s o ≡ Ok image → IsAssembly text image
    by_least s is (Some fault) e k = absurd cc
    by_least s is None e k =
        let same : image_of s ≡ image = ap (λ (r : Result ImageOf Breach). result_unwrap_or r image) k in
        subst (IsAssembly text) same (good_source text s is (none_least (breaches s) e))

    by_source : (r : Result SourceOf Breach) → source_in text ≡ r → (r >>= λ s. image_unless s (least (breaches s))) ≡ Ok image → IsAssembly text image
    by_source (Err fault) is k = absurd cc
    by_source (Ok s) is k = by_least s is (least (breaches s)) refl k

pub spelled_if : (refused : Type 0) (text : List ℕ) (r : Result ImageOf AsmFault) → GivesAssemblyUnless refused (λ image. image) r (assembly_of text)
    → IfOk r (λ image. IsAssembly text image)
spelled_if refused text (Ok image) h = assembled_is_spelled text image h
spelled_if refused text (Err e) h = tt

-- a text spells at most one image
pub one_image : (text : List ℕ) (image other : ImageOf) → IsAssembly text image → IsAssembly text other → image ≡ other
one_image text image other a b = ap (λ r. result_unwrap_or r image) (sym (spelled_is_assembled text image a) ∙ spelled_is_assembled text other b)

-- a text that spells no image has a fault, and no other has one
pub fault_or_image : (text : List ℕ) → ((breach : Breach) × (assembly_of text ≡ Err breach)) ↔ ((image : ImageOf) → IsAssembly text image → ⊥)
fault_or_image text = (λ faulty image a. never faulty.0 image faulty.1 (spelled_is_assembled text image a), λ none. by_result (assembly_of text) refl none)
  where
    never : (breach : Breach) (image : ImageOf) → assembly_of text ≡ Err breach → assembly_of text ≡ Ok image → ⊥
    never breach image e f = cc

    by_result : (r : Result ImageOf Breach) → assembly_of text ≡ r → ((image : ImageOf) → IsAssembly text image → ⊥) → (breach : Breach)
        × (assembly_of text ≡ Err breach)
    by_result (Err breach) is none = (breach, is)
    by_result (Ok image) is none = absurd (none image (assembled_is_spelled text image is))
