-- The assembly text of a plain image spells that image.
use Rattle.std.proofs.Common.{◌≡◌, ℕ, zero, suc, ◌+◌, ◌-◌, ◌^◌, ◌<◌, ◌≤◌, ◌==◌, ◌||◌, Bool, true, false, cond, not, List, [], ◌∷◌, ◌++◌, length, map, take}
use Rattle.std.proofs.Common.{get_or, Option, Some, None, Ok, is_none, refl, sym, ap, subst, ◌∙◌, arith, codes, append_assoc, nat_lt, leb-true, lt-ltb}
use Rattle.std.{proofs.Common.{ltb-true, eqb-true}, specs.Prelude.{pos, replicate, slice_index, slice_get, IsTrue, IsOk, Result, Err, IfOk, OnOk}}
use Rattle.std.{specs.Fmt.decimal, specs.Int.{w32, to_be_bytes}, specs.List.{flat_map, list_all, slice_split}, specs.Char.is_ascii_digit}
use Rattle.std.{proofs.lemmas.Bool.{and_parts, and_from, cond-true}, proofs.lemmas.Bool.Decides.nat_tests, proofs.lemmas.Fmt.length-decimal-le}
use Rattle.std.{proofs.lemmas.List.length-append, proofs.lemmas.List.Sums.list_all-from_AllPass, proofs.lemmas.Nat.from_be_bytes-to_be_bytes_4}
use Rattle.stack_heap.specs.Heaps.{IfOkUnless}
use Rattle.stack_text.{specs.declared.memory.Memory.Memory, specs.Numerals.is_digits, proofs.NumeralTextLaws.value-signed_decimal, specs.Lines.is_plain_line}
use Rattle.hex.{specs.Hex.{decode_sized, is_hex_digit}, proofs.HexLemmas.{decode_sized-encode_lower, decode_sized-ok, IsOk-decode_sized}}
use Rattle.fm_words.{specs.declared.condition.Flags.Flags, specs.Code.{no_flags, decode_of}, specs.Encoding.encode_of, specs.Word.unsigned_32}
use Rattle.fm_image.{specs.Image.ImageOf, specs.Limits.{marked_version, is_size, is_inside, is_image}, proofs.LimitLaws.limits_of, specs.Spelling.are_words}
use Rattle.fm_show.{specs.Digits.hex_digits, specs.Disassembly.disassembly_text}
use Rattle.fm_asm.{specs.Cuts.{cut, without_leading_spaces, without_trailing, unless_trailing, trimmed}, specs.Values.{number, decimal_value}}
use Rattle.fm_asm.{specs.Statements.{Statement, base, size, final, start, word, instruction}, specs.Lines.{Line, text_of}, specs.Sources.word_count}
use Rattle.fm_asm.{specs.Labels.{offset_of, number_of}, specs.Printing.{is_zero, ends_in_zero, is_plain, plain_image, start_of, is_exact, word_text, word_line}}
use Rattle.fm_asm.{specs.Printing.assembly_text, specs.Assembly.{says, SpellsValue, decimal as in_decimal, hexadecimal, SpellsStatement, says_base, says_size}}
use Rattle.fm_asm.specs.Assembly.{says_final, says_start, says_word, says_instruction, SpellsSaid, nothing, statement_alone, IsLine, AreLines, no_line}
use Rattle.fm_asm.{specs.Assembly.{one_line, statements_of, labels_of, are_distinct, statement_word, IsAssembly}, specs.Assembling.assembly_of}
use Rattle.fm_asm.{proofs.CutLaws.lacks, proofs.ValueLaws.lacks_from, proofs.TextLaws.{is_text_byte, all-append, all_weaker, IsTidy, tidy_text, tidy_plain}}
use Rattle.fm_asm.{proofs.TextLaws.{lines_text, split-lines}, proofs.PrintedLaws.{decimal_bytes, decimal_text, instruction_written, instruction_tidy}}
use Rattle.fm_asm.proofs.AssemblyLaws.{spelled_is_assembled}

-- a line that is printed for a statement
record Prints (text : List ℕ) (s : Statement) : Type 0 where
  written : SpellsStatement text s
  tidy : IsTidy text

-- ---- the header

decimal_number : (n : ℕ) → n < 2 ^ 32 → decimal_value (decimal n) ≡ Some n
decimal_number n small = cc (value-signed_decimal (pos n) (grind (arith, nat_tests)), fits)
  where
    fits : unsigned_32 (pos n) ≡ Some n
    fits = let yes : Option ℕ = Some n in cond-true (nat_lt n (2 ^ 32)) yes None (lt-ltb n (2 ^ 32) small)

value_of_decimal : (n : ℕ) → n < 2 ^ 32 → SpellsValue (decimal n) (number (Some n))
value_of_decimal n small = subst (λ o. SpellsValue (decimal n) (number o)) (decimal_number n small) (in_decimal (decimal n) (decimal_bytes n small))

record IsMore (text : List ℕ) : Type 0 where
  first : ℕ
  rest : List ℕ
  is : text ≡ first ∷ rest

some_digits : (ds : List ℕ) → is_digits ds ≡ true → IsMore ds
some_digits [] h = absurd cc
some_digits (d ∷ ds) h = record { first = d; rest = ds; is = refl }

header_tidy : (front : List ℕ) (n : ℕ) → n < 2 ^ 32 → list_all is_text_byte (46 ∷ front) ≡ true → length front ≤ 10 → IsTidy (46 ∷ front ++ decimal n)
header_tidy front n small all few =
    let digits = decimal_bytes n small in
    let more = some_digits (decimal n) digits in
    let short : length (decimal n) ≤ 10 = length-decimal-le 10 n (omega arith) (omega arith) (omega arith) in
    record {
      bytes = all-append is_text_byte (46 ∷ front) (decimal n) all (decimal_text n small);
      short = omega (arith, length-append front (decimal n));
      front = 46 ∷ front;
      first = 46;
      rest = front ++ decimal n;
      back = more.first;
      more = more.rest;
      begins = refl;
      no_space = refl;
      ends = ap (λ (ds : List ℕ). 46 ∷ front ++ ds) more.is;
      spaceless = cc (
        more.is,
        lacks_from is_ascii_digit 32 (decimal n) refl (and_parts (nat_lt 0 (length (decimal n))) (list_all is_ascii_digit
            (decimal n)) digits).1,
      );
    }

prints_base : (n : ℕ) → n < 2 ^ 32 → Prints (codes ".base " ++ decimal n) (base (Some n))
prints_base n small = record {
  written = subst (λ o. SpellsStatement (codes ".base " ++ decimal n) (base o)) (decimal_number n small) (says_base (decimal n) (decimal_bytes n small));
  tidy = header_tidy (codes "base ") n small refl (omega arith);
}

prints_size : (n : ℕ) → n < 2 ^ 32 → Prints (codes ".size " ++ decimal n) (size (Some n))
prints_size n small = record {
  written = subst (λ o. SpellsStatement (codes ".size " ++ decimal n) (size o)) (decimal_number n small) (says_size (decimal n) (decimal_bytes n small));
  tidy = header_tidy (codes "size ") n small refl (omega arith);
}

prints_final : (n : ℕ) → n < 2 ^ 32 → Prints (codes ".final " ++ decimal n) (final (number (Some n)))
prints_final n small = record { written = says_final (decimal n) _ (value_of_decimal n small); tidy = header_tidy (codes "final ") n small refl (omega arith) }

prints_start : (n : ℕ) → n < 2 ^ 32 → Prints (codes ".start " ++ decimal n) (start (number (Some n)))
prints_start n small = record { written = says_start (decimal n) _ (value_of_decimal n small); tidy = header_tidy (codes "start ") n small refl (omega arith) }

-- ---- words

-- the statement that a word is printed as
word_statement : ℕ → Statement
word_statement w = cond (is_exact w) (instruction (Some w)) (word (number (Some w)))

bytes_small : (w i : ℕ) → slice_index (to_be_bytes w32 w) i < 256
bytes_small w zero = omega arith
bytes_small w (suc zero) = omega arith
bytes_small w (suc (suc zero)) = omega arith
bytes_small w (suc (suc (suc zero))) = omega arith
bytes_small w (suc (suc (suc (suc i)))) = omega arith

pub hex_decodes : (w : ℕ) → decode_sized (hex_digits w) 4 ≡ Ok (to_be_bytes w32 w)
unfolding hex_digits
hex_decodes w = decode_sized-encode_lower (to_be_bytes w32 w) 4 refl (bytes_small w)

hex_is_text : (b : ℕ) → is_hex_digit b ≡ true → is_text_byte b ≡ true
hex_is_text b h = grind (arith, nat_tests)

hex_all : (w : ℕ) → list_all is_hex_digit (hex_digits w) ≡ true
hex_all w =
    let is_ok : IsOk (decode_sized (hex_digits w) 4) = rw (hex_decodes w) refl in
    list_all-from_AllPass is_hex_digit (hex_digits w) ((IsOk-decode_sized (hex_digits w) 4).0 is_ok).1

prints_hex : (w : ℕ) → w < 2 ^ 32 → Prints (codes ".word 0x" ++ hex_digits w) (word (number (Some w)))
prints_hex w small = record {
  written = says_word _ _
      (hexadecimal (hex_digits w) w (record { bytes = to_be_bytes w32 w; digits_are = hex_decodes w; number_is = sym (from_be_bytes-to_be_bytes_4 w small) }));
  tidy = record {
    bytes = all-append is_text_byte (codes ".word 0x") (hex_digits w) refl (all_weaker is_hex_digit is_text_byte (hex_digits w) hex_is_text (hex_all w));
    short = omega (arith, decode_sized-ok (hex_digits w) 4 _ (hex_decodes w));
    front = codes ".word ";
    first = 46;
    rest = codes "word 0x" ++ hex_digits w;
    back = 48;
    more = 120 ∷ hex_digits w;
    begins = refl;
    no_space = refl;
    ends = refl;
    spaceless = and_from true _ refl (and_from true _ refl (lacks_from is_hex_digit 32 (hex_digits w) refl (hex_all w)));
  };
}

prints_instruction : (w : ℕ) → is_exact w ≡ true → Prints (disassembly_text w) (instruction (Some w))
prints_instruction w exact = record {
  written = says_instruction _ (Some w) (instruction_written w (eqb-true (encode_of (decode_of w)) w exact));
  tidy = instruction_tidy w;
}

prints_word : (w : ℕ) → w < 2 ^ 32 → Prints (word_text w) (word_statement w)
unfolding word_text word_statement
prints_word w small = by_test (is_exact w) refl
  where
    by_test : (t : Bool) → is_exact w ≡ t → Prints (cond t (disassembly_text w) (codes ".word 0x" ++ hex_digits w))
        (cond t (instruction (Some w)) (word (number (Some w))))
    by_test true e = prints_instruction w e
    by_test false e = prints_hex w small

-- ---- lines

record PrintedLine : Type 0 where
  text : List ℕ
  says_so : Statement

AllPrint : List PrintedLine → Type 0
AllPrint [] = Unit {0}
AllPrint (p ∷ ps) = Prints p.text p.says_so × AllPrint ps

made : ℕ → ℕ → List PrintedLine → List Line
made place offset [] = []
made place offset (p ∷ ps) = record { place = place; offset = offset; said = says None (Some p.says_so) }
    ∷ made (place + length p.text + 1) (offset + word_count (Some p.says_so)) ps

line_is : (text : List ℕ) (s : Statement) → Prints text s → IsLine text (says None (Some s))
line_is text s p = record {
  plain = tidy_plain text p.tidy;
  written = subst (λ (t : List ℕ). SpellsSaid t (says None (Some s))) (sym (tidy_text text p.tidy)) (statement_alone text s p.written);
}

empty_line : IsLine [] (says None None)
unfolding is_plain_line text_of trimmed cut without_leading_spaces without_trailing
empty_line = record { plain = refl; written = nothing }

are_made : (place offset : ℕ) (ps : List PrintedLine) → AllPrint ps → AreLines place offset (map (λ p. p.text) ps ++ [] ∷ []) (made place offset ps)
unfolding AllPrint made
are_made place offset [] all = one_line place offset [] (says None None) [] [] empty_line (no_line (place + 0 + 1) (offset + 0))
are_made place offset (p ∷ ps) all = one_line place offset p.text _ _ _
    (line_is p.text p.says_so all.0) (are_made (place + length p.text + 1) (offset + word_count (Some p.says_so)) ps all.1)

statements-made : (place offset : ℕ) (ps : List PrintedLine) → statements_of (made place offset ps) ≡ map (λ p. p.says_so) ps
unfolding made
statements-made place offset [] = refl
statements-made place offset (p ∷ ps) = ap (λ ss. p.says_so ∷ ss) (statements-made (place + length p.text + 1) (offset + word_count (Some p.says_so)) ps)

labels-made : (place offset : ℕ) (ps : List PrintedLine) → labels_of (made place offset ps) ≡ []
unfolding made
labels-made place offset [] = refl
labels-made place offset (p ∷ ps) = labels-made (place + length p.text + 1) (offset + word_count (Some p.says_so)) ps

print_lacks : (ps : List PrintedLine) → AllPrint ps → list_all (lacks 10) (map (λ p. p.text) ps) ≡ true
unfolding AllPrint
print_lacks [] all = refl
print_lacks (p ∷ ps) all = and_from _ _ (lacks_from is_text_byte 10 p.text refl all.0.tidy.bytes) (print_lacks ps all.1)

-- ---- the lines of an image

word_prints : List ℕ → List PrintedLine
word_prints [] = []
word_prints (w ∷ ws) = record { text = word_text w; says_so = word_statement w } ∷ word_prints ws

all_words_print : (ws : List ℕ) → are_words ws ≡ true → AllPrint (word_prints ws)
unfolding AllPrint word_prints
all_words_print [] h = tt
all_words_print (w ∷ ws) h =
    let parts = and_parts (nat_lt w (2 ^ 32)) (are_words ws) h in (prints_word w (ltb-true w (2 ^ 32) parts.0), all_words_print ws parts.1)

words-printed : (ws : List ℕ) → flat_map word_line ws ≡ lines_text (map (λ p. p.text) (word_prints ws))
unfolding lines_text word_prints
words-printed [] = refl
words-printed (w ∷ ws) = append_assoc (word_text w) (codes "\n") (flat_map word_line ws) ∙ ap (λ (t : List ℕ). word_text w ++ 10 ∷ t) (words-printed ws)

image_prints : ImageOf → List PrintedLine
image_prints image =
    record { text = codes ".base " ++ decimal image.base; says_so = base (Some image.base) }
    ∷ record { text = codes ".size " ++ decimal image.size; says_so = size (Some image.size) }
    ∷ record { text = codes ".final " ++ decimal image.final_pc; says_so = final (number (Some image.final_pc)) }
    ∷ record { text = codes ".start " ++ decimal (start_of image); says_so = start (number (Some (start_of image))) }
    ∷ word_prints image.words

regrouped_header : (a b c d rest : List ℕ) →
    (codes ".base " ++ a ++ codes "\n.size " ++ b ++ codes "\n.final " ++ c ++ codes "\n.start " ++ d ++ codes "\n") ++ rest
    ≡ (codes ".base " ++ a) ++ 10 ∷ ((codes ".size " ++ b) ++ 10 ∷ ((codes ".final " ++ c) ++ 10 ∷ ((codes ".start " ++ d) ++ 10 ∷ rest)))
regrouped_header a b c d rest = simp append_assoc

text_is : (image : ImageOf) → assembly_text image ≡ lines_text (map (λ p. p.text) (image_prints image))
unfolding assembly_text lines_text image_prints
text_is image = cc (
  regrouped_header (decimal image.base) (decimal image.size) (decimal image.final_pc) (decimal (start_of image))
      (flat_map word_line image.words),
  words-printed image.words,
)

-- ---- a plain image

zeros : (n : ℕ) (rs : List ℕ) → length rs ≡ n + 1 → list_all (λ r. r == 0) (take n rs) ≡ true → rs ≡ replicate n 0 ++ get_or rs n 0 ∷ []
zeros n [] h k = absurd (omega (arith, h))
zeros zero (r ∷ []) h k = refl
zeros zero (r ∷ s ∷ rs) h k = absurd (omega (arith, h))
zeros (suc n) (r ∷ rs) h k =
    let parts = and_parts (r == 0) (list_all (λ s. s == 0) (take n rs)) k in
    ap (λ x. x ∷ rs) (eqb-true r 0 parts.0) ∙ ap (λ xs. 0 ∷ xs) (zeros n rs (omega arith) parts.1)

clear : (c v n z : Bool) → not (c || v || n || z) ≡ true → (let f : Flags = record { c = c; v = v; n = n; z = z } in f) ≡ no_flags
clear false false false false h = refl
clear false false false true h = absurd cc
clear false false true z h = absurd cc
clear false true n z h = absurd cc
clear true v n z h = absurd cc

nothing_there : {X : Type 0} (xs : List X) → (length xs == 0) ≡ true → xs ≡ []
nothing_there [] h = refl
nothing_there (x ∷ xs) h = absurd (let e : suc (length xs) ≡ 0 = eqb-true (suc (length xs)) 0 h in omega (arith, e))

none_there : (o : Option ℕ) → is_none o ≡ true → o ≡ None
none_there None h = refl
none_there (Some x) h = absurd cc

kept_words : (ws : List ℕ) → not (ends_in_zero ws) ≡ true → without_trailing 0 ws ≡ ws
unfolding without_trailing
kept_words [] h = refl
kept_words (w ∷ []) h = by_test (w == 0) h
  where
    by_test : (t : Bool) → not t ≡ true → cond t [] (w ∷ []) ≡ w ∷ []
    by_test true k = absurd cc
    by_test false k = refl
kept_words (w ∷ v ∷ ws) h =
    let count : suc (suc (length ws)) - 1 ≡ suc (suc (length ws) - 1) = omega arith in
    let later : not (is_zero (slice_get (v ∷ ws) (suc (length ws) - 1))) ≡ true = subst (λ (k : ℕ). not (is_zero (slice_get (w ∷ v ∷ ws) k)) ≡ true) count h in
    ap (unless_trailing 0 w) (kept_words (v ∷ ws) later)

-- the image is what its text tells of it
plain_is : (image : ImageOf) → IsTrue (is_plain image) → length image.registers ≡ 16
    → image ≡ plain_image image.base image.size image.final_pc (start_of image) (without_trailing 0 image.words)
unfolding is_plain
plain_is image h sixteen =
    let versioned = image.version == marked_version in
    let a = and_parts _ _ h in
    let b = and_parts _ _ a.0 in
    let c = and_parts _ _ b.0 in
    let f = and_parts _ _ c.0 in
    let g = and_parts versioned _ f.0 in
    let t = and_parts (length image.procedures == 0) _ f.1 in
    let d = and_parts _ _ g.1 in
    let e = and_parts (is_none image.condition_address) _ d.0 in
    let registers : image.registers ≡ replicate 15 0 ++ slice_index image.registers 15 ∷ [] = zeros 15 image.registers (omega arith) b.1 in
    let flags : image.flags ≡ no_flags = clear _ _ _ _ c.1 in
    let address = none_there image.condition_address e.0 in
    let conditions = nothing_there image.conditions e.1 in
    let slots = nothing_there image.slots d.1 in
    let words = sym (kept_words image.words a.1) in
    let version : image.version ≡ marked_version = eqb-true image.version marked_version g.0 in
    let procedures = nothing_there image.procedures t.0 in
    let marks = nothing_there image.marks t.1 in
    λ i. record {
      version = version i;
      base = image.base;
      size = image.size;
      final_pc = image.final_pc;
      registers = registers i;
      flags = flags i;
      condition_address = address i;
      conditions = conditions i;
      slots = slots i;
      words = words i;
      procedures = procedures i;
      marks = marks i;
    }

words_stated : (b : ℕ) (known : List ℕ → Option ℕ) (ws : List ℕ) → map (statement_word b known) (map (λ p. p.says_so) (word_prints ws)) ≡ map (λ w. Some w) ws
unfolding word_prints statement_word number_of word_statement
words_stated b known [] = refl
words_stated b known (w ∷ ws) = by_test (is_exact w) (words_stated b known ws)
  where
    by_test : (t : Bool) → map (statement_word b known) (map (λ p. p.says_so) (word_prints ws)) ≡ map (λ v. Some v) ws
        → statement_word b known (cond t (instruction (Some w)) (word (number (Some w))))
        ∷ map (statement_word b known) (map (λ p. p.says_so) (word_prints ws)) ≡ Some w ∷ map (λ v. Some v) ws
    by_test true h = ap (λ (os : List (Option ℕ)). Some w ∷ os) h
    by_test false h = ap (λ (os : List (Option ℕ)). Some w ∷ os) h

-- what a plain image is printed as spells it
pub printed_spells : (image : ImageOf) → IsTrue (is_plain image) → IsTrue (is_image image) → start_of image < 2 ^ 32 → are_words image.words ≡ true
    → IsAssembly (assembly_text image) image
unfolding image_prints AllPrint number_of are_distinct
printed_spells image plain limits small words =
    let l = limits_of image limits in
    let window = and_parts (is_size image.base image.size) (is_inside image.base image.size image.final_pc) l.window in
    let limit = leb-true (image.base + image.size) (2 ^ 32 - 1) (and_parts _ _ window.0).1 in
    let within = ltb-true image.final_pc (image.base + image.size) (and_parts _ _ window.1).1 in
    let all : AllPrint (image_prints image) = (
      prints_base image.base (omega (arith, limit)),
      (
        prints_size image.size (omega (arith, limit)),
        (prints_final image.final_pc (omega (arith, limit, within)), (prints_start (start_of image) small, all_words_print image.words words)),
      ),
    ) in
    let split : slice_split (λ b. b == 10) (assembly_text image) ≡ map (λ p. p.text) (image_prints image) ++ [] ∷ [] =
    ap (slice_split (λ b. b == 10)) (text_is image) ∙ split-lines (map (λ p. p.text) (image_prints image)) (print_lacks (image_prints image) all) in
    record {
      lines = made 0 0 (image_prints image);
      end_value = number (Some image.final_pc);
      start_value = number (Some (start_of image));
      start_pc = start_of image;
      statements = map (λ p. p.says_so) (word_prints image.words);
      words = image.words;
      are_lines = subst (λ (ts : List (List ℕ)). AreLines 0 0 ts (made 0 0 (image_prints image))) (sym split) (are_made 0 0 (image_prints image) all);
      in_order = statements-made 0 0 (image_prints image);
      sized = window.0;
      labels_differ = ap are_distinct (labels-made 0 0 (image_prints image));
      end_is = refl;
      start_is = refl;
      words_are = words_stated image.base (offset_of (made 0 0 (image_prints image))) image.words;
      fit = and_from (nat_lt (start_of image) (2 ^ 32)) (are_words image.words) (lt-ltb (start_of image) (2 ^ 32) small) words;
      few = leb-true (length image.words) image.size l.words;
      inside = window.1;
      image_is = plain_is image plain (eqb-true (length image.registers) 16 l.registers);
    }

-- and so do bytes that are that text
pub spelled_where : {X : Type 0} (refused : Type 0) (items : X → List ℕ) (r : Result X Memory) (image : ImageOf) → IsTrue (is_plain image)
    → OnOk r (IsTrue (is_image image)) → IfOkUnless refused r (λ x. items x ≡ assembly_text image) → OnOk r (start_of image < 2 ^ 32)
    → OnOk r (IsTrue (are_words image.words)) → IfOk r (λ x. IsAssembly (items x) image)
spelled_where refused items (Ok x) image plain limits is small words =
    subst (λ (text : List ℕ). IsAssembly text image) (sym is) (printed_spells image plain limits small words)
spelled_where refused items (Err e) image plain limits is small words = tt

-- and so it is assembled to that image again
pub printed_is_assembled : (image : ImageOf) → IsTrue (is_plain image) → IsTrue (is_image image) → start_of image < 2 ^ 32
    → are_words image.words ≡ true → assembly_of (assembly_text image) ≡ Ok image
printed_is_assembled image plain limits small words = spelled_is_assembled (assembly_text image) image (printed_spells image plain limits small words)
