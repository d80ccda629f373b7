-- What judging a source gives, from what its parts give.
use Rattle.std.proofs.Common.{◌≡◌, ℕ, suc, ◌≤◌, ◌==◌, Bool, true, false, cond, arith, List, [], ◌∷◌, ◌++◌, length, map, Option, Some, None, Ok, Err, unwrap_or}
use Rattle.std.{proofs.Common.{refl, sym, ap, ◌∙◌}, specs.List.flat_map}
use Rattle.stack_text.{specs.Breaches.{least, Notes}, specs.declared.breach.Breach.Breach, proofs.BreachLaws.{notes_more, none_least}}
use Rattle.fm_image.specs.Image.{ImageOf}
use Rattle.fm_asm.specs.declared.line.Line as declared
use Rattle.fm_asm.{specs.declared.source.Source.Source, specs.Cuts.{unless_trailing, without_trailing}, specs.Lines.{Line, line_of}, specs.Sources.SourceOf}
use Rattle.fm_asm.{specs.Sources.{source_of, IsOfText}, specs.Labels.{offset_of, repeats, line_breaches, breaches, line_words, words_of, final_word}}
use Rattle.fm_asm.{specs.Labels.{start_word, first_value, final_in, start_in}, specs.Printing.plain_image, specs.Assembling.image_unless}
use Rattle.fm_asm.proofs.SoundLaws.{IsFit, source_fits}

flat_map-map : {X Y Z : Type 0} (g : X → Y) (f : Y → List Z) (xs : List X) → flat_map f (map g xs) ≡ flat_map (λ x. f (g x)) xs
flat_map-map g f [] = refl
flat_map-map {X} {Y} {Z} g f (x ∷ xs) = ap (λ (zs : List Z). f (g x) ++ zs) (flat_map-map g f xs)

first_value-map : {X Y : Type 0} (g : X → Y) (f : Y → Option ℕ) (xs : List X) → first_value f (map g xs) ≡ first_value (λ x. f (g x)) xs
unfolding first_value
first_value-map g f [] = refl
first_value-map g f (x ∷ xs) = ap (unwrap_or (f (g x))) (first_value-map g f xs)

-- the source's lines, and a table of their labels
module _ (s : Source) (lines : List declared.Line) (known : List ℕ → Option ℕ) (same : lines ≡ s.lines.items)
    (knows : (name : List ℕ) → known name ≡ offset_of (map line_of lines) name) where
  known_is : known ≡ offset_of (source_of s).lines
  known_is = λ t name. (knows name ∙ ap (λ (ls : List declared.Line). offset_of (map line_of ls) name) same) t

  pub least_is : (noted best : Option Breach) → Notes None (repeats [] (map line_of lines)) noted
      → Notes noted (flat_map (λ (line : declared.Line). line_breaches s.base s.size known (line_of line)) lines) best
      → least (breaches (source_of s)) ≡ best
  unfolding breaches
  least_is noted best h k = ap (λ (bs : List Breach). least (repeats [] (source_of s).lines ++ bs)) (flat_map-map line_of _ s.lines.items)
      ∙ ap (λ f. least (repeats [] (map line_of s.lines.items)
      ++ flat_map (λ (line : declared.Line). line_breaches s.base s.size f (line_of line)) s.lines.items)) (sym known_is) ∙ ap (λ ls. least
      (repeats [] (map line_of ls) ++ flat_map (λ (line : declared.Line). line_breaches s.base s.size known (line_of line)) ls)) (sym same)
      ∙ sym (notes_more None noted best (repeats [] (map line_of lines)) _ h k)

  pub final_is : (f : ℕ) → f ≡ first_value (λ (line : declared.Line). final_word s.base known (line_of line).said.statement) lines
      → f ≡ final_in s.base (offset_of (source_of s).lines) (source_of s).lines
  final_is f h = rw (
    h,
    same,
    known_is,
    first_value-map line_of (λ (line : Line). final_word s.base (offset_of
        (source_of s).lines) line.said.statement) s.lines.items,
  )

  pub start_is : (f : ℕ) → f ≡ first_value (λ (line : declared.Line). start_word s.base known (line_of line).said.statement) lines
      → f ≡ start_in s.base (offset_of (source_of s).lines) (source_of s).lines
  start_is f h = rw (
    h,
    same,
    known_is,
    first_value-map line_of (λ (line : Line). start_word s.base (offset_of
        (source_of s).lines) line.said.statement) s.lines.items,
  )

  pub words_are : (ws : List ℕ) → ws ≡ flat_map (λ (line : declared.Line). line_words s.base known (line_of line)) lines → ws ≡ words_of (source_of s)
  words_are ws h = rw (h, same, known_is, flat_map-map line_of (line_words s.base (offset_of (source_of s).lines)) s.lines.items)

-- the least breach is the fault
pub is_refused : (s : SourceOf) (best : Option Breach) (breach : Breach) → best ≡ Some breach → least (breaches s) ≡ best
    → image_unless s (least (breaches s)) ≡ Err breach
is_refused s best breach is e = ap (image_unless s) (e ∙ is)

-- there is none, and the source is fit for an image
pub is_fit : (s : SourceOf) (best : Option Breach) → IsOfText s → best ≡ None → least (breaches s) ≡ best → IsFit s
is_fit s best read none e = source_fits s read (none_least (breaches s) (e ∙ none))

pub is_built : (s : SourceOf) (best : Option Breach) (f x : ℕ) (ws trimmed : List ℕ) (image : ImageOf) → best ≡ None → least (breaches s) ≡ best
    → f ≡ final_in s.base (offset_of s.lines) s.lines → x ≡ start_in s.base (offset_of s.lines) s.lines → ws ≡ words_of s → trimmed ≡ without_trailing 0 ws
    → image ≡ plain_image s.base s.size f x trimmed → image_unless s (least (breaches s)) ≡ Ok image
is_built s best f x ws trimmed image none e ends begins words short is = cc

one_shorter : (item x : ℕ) (ys : List ℕ) → length (unless_trailing item x ys) ≤ suc (length ys)
one_shorter item x (y ∷ ys) = omega arith
one_shorter item x [] = by_test (x == item)
  where
    by_test : (t : Bool) → length (cond t [] (x ∷ [])) ≤ 1
    by_test true = omega arith
    by_test false = omega arith

pub shorter : (item : ℕ) (xs : List ℕ) → length (without_trailing item xs) ≤ length xs
unfolding without_trailing
shorter item [] = omega arith
shorter item (x ∷ xs) = omega (arith, one_shorter item x (without_trailing item xs), shorter item xs)

pub few_words : (s : SourceOf) (ws trimmed : List ℕ) → IsFit s → ws ≡ words_of s → trimmed ≡ without_trailing 0 ws → length trimmed ≤ s.size
few_words s ws trimmed fit words short =
    let few = fit.few in
    let same : length ws ≡ length (words_of s) = ap length words in
    let cut : length trimmed ≡ length (without_trailing 0 ws) = ap length short in
    omega (arith, shorter)
