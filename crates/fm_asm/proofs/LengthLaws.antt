-- The text of an image has at most 2^25 bytes.
use Rattle.std.proofs.Common.{ℕ, ◌+◌, ◌*◌, ◌^◌, ◌-◌, ◌<◌, ◌≤◌, Bool, true, false, cond, List, [], ◌∷◌, ◌++◌, length, arith, codes, leb-true, ltb-true}
use Rattle.std.{specs.Prelude.IsTrue, specs.Fmt.decimal, specs.Int.{w32, to_be_bytes}, specs.List.flat_map, proofs.lemmas.Bool.and_parts}
use Rattle.std.{proofs.lemmas.Fmt.length-decimal-le, proofs.lemmas.List.length-append}
use Rattle.hex.proofs.HexLemmas.{decode_sized-ok}
use Rattle.fm_image.{specs.Image.ImageOf, specs.Limits.{is_size, is_inside, is_image}, proofs.LimitLaws.limits_of}
use Rattle.fm_show.{specs.Digits.hex_digits, specs.Disassembly.disassembly_text}
use Rattle.fm_asm.{specs.Printing.{start_of, header_text, is_exact, word_text, word_line, assembly_text}, proofs.PrintedLaws.instruction_short}
use Rattle.fm_asm.proofs.PrintLaws.{hex_decodes}

word_short : (w : ℕ) → length (word_text w) ≤ 28
unfolding word_text
word_short w = by_test (is_exact w)
  where
    by_test : (t : Bool) → length (cond t (disassembly_text w) (codes ".word 0x" ++ hex_digits w)) ≤ 28
    by_test true = instruction_short w
    by_test false = omega (arith, decode_sized-ok (hex_digits w) 4 (to_be_bytes w32 w) (hex_decodes w))

words_short : (ws : List ℕ) → length (flat_map word_line ws) ≤ 29 * length ws
words_short [] = omega arith
words_short (w ∷ ws) =
    omega (arith, word_short w, words_short ws, length-append (word_line w) (flat_map word_line ws), length-append (word_text w) (codes "\n"))

number_short : (n : ℕ) → n < 2 ^ 32 → length (decimal n) ≤ 10
number_short n small = length-decimal-le 10 n (omega arith) (omega arith) (omega arith)

-- the four numbers of the header, and what stands round them
parts_short : (a b c d : List ℕ) → length a ≤ 10 → length b ≤ 10 → length c ≤ 10 → length d ≤ 10
    → length (codes ".base " ++ a ++ codes "\n.size " ++ b ++ codes "\n.final " ++ c ++ codes "\n.start " ++ d ++ codes "\n") ≤ 70
parts_short a b c d ha hb hc hd =
    let first = codes ".base " ++ a ++ codes "\n.size " in
    let second = first ++ b ++ codes "\n.final " in
    let third = second ++ c ++ codes "\n.start " in
    omega (
      arith,
      length-append (third ++ d) (codes "\n"),
      length-append third d,
      length-append (second ++ c) (codes "\n.start "),
      length-append second c,
      length-append (first ++ b) (codes "\n.final "),
      length-append first b,
      length-append (codes ".base " ++ a) (codes "\n.size "),
    )

pub printed_short : (image : ImageOf) → IsTrue (is_image image) → start_of image < 2 ^ 32 → length (assembly_text image) ≤ 2 ^ 25
unfolding assembly_text
printed_short image limits small =
    let l = limits_of image limits in
    let window = and_parts (is_size image.base image.size) (is_inside image.base image.size image.final_pc) l.window in
    let size = and_parts _ _ window.0 in
    let limit = leb-true (image.base + image.size) (2 ^ 32 - 1) size.1 in
    let few = leb-true image.size (2 ^ 20) (and_parts _ _ size.0).1 in
    let within = ltb-true image.final_pc (image.base + image.size) (and_parts _ _ window.1).1 in
    let count = leb-true (length image.words) image.size l.words in
    let header = parts_short (decimal image.base) (decimal image.size) (decimal image.final_pc) (decimal (start_of image))
    (number_short image.base (omega (arith, limit))) (number_short image.size (omega (arith, few)))
    (number_short image.final_pc (omega (arith, limit, within))) (number_short (start_of image) small) in
    omega (arith, header, words_short image.words, few, count, length-append (header_text image) (flat_map word_line image.words))
