-- A placed system is ready for its states: the addresses are those of its parts, and tell them apart.
use Rattle.std.proofs.Common.{◌≡◌, ℕ, zero, suc, ◌+◌, ◌<◌, ◌≤◌, Bool, true, false, Some, List, [], ◌∷◌, length, map, refl, sym, ap, ◌∙◌, subst, arith}
use Rattle.std.{specs.Prelude.{◌^◌, ◌==◌, ◌&&◌, take, drop, get_or, slice_get, slice_index_or}, proofs.lemmas.Bool.{eqb-true, eqb-false}}
use Rattle.std.proofs.lemmas.List.{length-map}
use Rattle.fm_code.{specs.Execution.{AreParts, CodeAt}, specs.Areas.words_before}
use Rattle.piton_words.{specs.declared.word.Word.Word, specs.declared.word.Word.TheVariants.{Int, Nat, Bitv, Bool as Truth, Addr, Pc, Subr}}
use Rattle.piton_check.{specs.Instruction.{ProgramView, SystemView}, specs.Sound.IsProgram}
use Rattle.piton_semantics.{specs.State.program_of, specs.Fits.{Each, IsPlace, IsWordOf}, specs.Addresses.{Addresses, word_number, numbers}}
use Rattle.piton_semantics.specs.Placed.{program_size, programs_size, areas_size, entry_of, address_of_place, final_pc_of, areas_start, address_of_area, end_of}
use Rattle.piton_semantics.{specs.Placed.{addresses_of, code_of, parts_of, placed}, proofs.EachLaws.each_get, proofs.SizeLaws.code_ends}
use Rattle.piton_semantics.{proofs.AddressLaws.{same_addresses, same_places, same_entries, sum_below, program_there}, proofs.OperationForms.IsWordBy}
use Rattle.piton_semantics.{proofs.OperationForms.TellApart, proofs.ReadyForms.IsReady, proofs.PieceLaws.prelude_is, proofs.PlacingLaws.{prelude_at, first_at}}

-- ---- parts

pub parts_are : (s : SystemView) → end_of s < 2 ^ 32 → AreParts (parts_of s)
parts_are s h =
    let final = code_ends s in
    record { code_below = omega arith; areas_below = omega arith; ctrl_below = omega arith; temp_below = omega arith; fits = h }

pub end_fits : (s : SystemView) → s.base ≤ 2 ^ 31 → (placed s).size ≤ 2 ^ 20 → end_of s < 2 ^ 32
end_fits s low small = omega arith

-- ---- areas

before_is : (A : Addresses) (xss yss : List (List Word)) (a : ℕ) → map length xss ≡ map length yss
    → words_before (map (numbers A) xss) a ≡ areas_size (take a yss)
before_is A xss yss zero e = refl
before_is A [] [] (suc a) e = refl
before_is A [] (ys ∷ yss) (suc a) e = cc
before_is A (xs ∷ xss) [] (suc a) e = cc
before_is A (xs ∷ xss) (ys ∷ yss) (suc a) e =
    let first : length xs ≡ length ys = ap (λ ns. get_or ns 0 0) e in
    let rest : map length xss ≡ map length yss = ap (λ ns. drop 1 ns) e in
    omega (arith, length-map xs (word_number A), first, before_is A xss yss a rest)

pub area_end : (xss : List (List Word)) (a : ℕ) → areas_size (take a xss) + get_or (map length xss) a 0 ≤ areas_size xss
area_end [] zero = omega arith
area_end [] (suc a) = omega arith
area_end (xs ∷ xss) zero = omega arith
area_end (xs ∷ xss) (suc a) = omega (arith, area_end xss a)

-- ---- programs and areas stand where the addresses say

pub ready : (s : SystemView) (areas : List (List Word)) → end_of s < 2 ^ 32 → map length areas ≡ map length s.areas
    → IsReady (addresses_of s) (code_of s) s areas
ready s areas h same =
    record {
      is = parts_are s h;
      temp_is = refl;
      ctrl_is = refl;
      area_is = λ a. ap (λ n. areas_start s + n) (sym (before_is (addresses_of s) areas s.areas a same));
      begins = λ a q some. subst (λ ws. CodeAt (parts_of s) (entry_of s a) ws) (prelude_is (addresses_of s) (entry_of s a) q) (prelude_at s a q some);
      first = λ a q some. first_at s a q some ∙ ap (λ ws. entry_of s a + length ws) (prelude_is (addresses_of s) (entry_of s a) q);
    }

-- ---- addresses tell what they are of

both : (x y a b o q : ℕ) → (x ≡ y → (a ≡ b) × (o ≡ q)) → (a ≡ b → o ≡ q → x ≡ y) → (x == y) ≡ (a == b && o == q)
both x y a b o q f g = by_test (x == y) (a == b) (o == q) refl refl refl
  where
    by_test : (t u v : Bool) → x == y ≡ t → a == b ≡ u → o == q ≡ v → t ≡ (u && v)
    by_test true true true d e h = refl
    by_test false true true d e h = absurd (eqb-false x y d (g (eqb-true a b e) (eqb-true o q h)))
    by_test true false v d e h = absurd (eqb-false a b e (f (eqb-true x y d)).0)
    by_test false false v d e h = refl
    by_test true true false d e h = absurd (eqb-false o q h (f (eqb-true x y d)).1)
    by_test false true false d e h = refl

one : (x y a b : ℕ) → (x ≡ y → a ≡ b) → (a ≡ b → x ≡ y) → (x == y) ≡ (a == b)
one x y a b f g = by_test (x == y) (a == b) refl refl
  where
    by_test : (t u : Bool) → x == y ≡ t → a == b ≡ u → t ≡ u
    by_test true true d e = refl
    by_test false false d e = refl
    by_test true false d e = absurd (eqb-false a b e (f (eqb-true x y d)))
    by_test false true d e = absurd (eqb-false x y d (g (eqb-true a b e)))

pub tell_apart : (s : SystemView) (areas : List (List Word)) → end_of s < 2 ^ 32 → map length areas ≡ map length s.areas
    → TellApart (addresses_of s) (map (λ xs. length xs) areas) (IsPlace s) (IsProgram s)
tell_apart s areas h same =
    record {
      below = λ a o lt. fits a o (in_system a o lt);
      same_addr = λ a o b q lt lt'. both (address_of_area s a + o) (address_of_area s b + q) a b o q
          (λ e. same_addresses (areas_start s) s.areas a b o q (in_system a o lt) (in_system b q lt') e)
          (λ e e'. ap (λ c. address_of_area s c + o) e ∙ ap (λ k. address_of_area s b + k) e');
      same_pc = λ a o b q lt lt'. both (address_of_place s a o) (address_of_place s b q) a b o q
          (λ e. same_places s a b o q lt lt' e)
          (λ e e'. ap (λ c. address_of_place s c o) e ∙ ap (λ k. address_of_place s b k) e');
      same_subr = λ a b lt lt'. one (entry_of s a) (entry_of s b) a b (same_entries s a b lt lt') (λ e. ap (λ c. entry_of s c) e);
    }
  where
    in_system : (a o : ℕ) → o < get_or (map (λ xs. length xs) areas) a 0 → o < get_or (map length s.areas) a 0
    in_system a o lt = subst (λ ns. o < get_or ns a 0) same lt

    fits : (a o : ℕ) → o < get_or (map length s.areas) a 0 → address_of_area s a + o < 2 ^ 32
    fits a o lt = omega (arith, area_end s.areas a)

-- a word of the system is in its range, and what it names exists
pub word_in : (s : SystemView) (areas : List (List Word)) → map length areas ≡ map length s.areas → (w : Word) → IsWordOf s w
    → IsWordBy (map (λ xs. length xs) areas) (IsPlace s) (IsProgram s) w
word_in s areas same (Int z) h = h
word_in s areas same (Nat n) h = h
word_in s areas same (Bitv n) h = h
word_in s areas same (Truth b) h = tt
word_in s areas same (Addr area offset) h = subst (λ ns. offset < get_or ns area 0) (sym same) h
word_in s areas same (Pc program place) h = h
word_in s areas same (Subr program) h = h

pub words_in : (s : SystemView) (areas : List (List Word)) → map length areas ≡ map length s.areas → (ws : List Word) → Each (IsWordOf s) ws
    → (k : ℕ) (w : Word) → slice_get ws k ≡ Some w → IsWordBy (map (λ xs. length xs) areas) (IsPlace s) (IsProgram s) w
words_in s areas same ws all k w h = word_in s areas same w (each_get (IsWordOf s) ws k w all h)

-- ---- the final pc is behind every place

pub programs_end : (ps : List ProgramView) (a : ℕ) (d : ProgramView) → a < length ps
    → programs_size (take a ps) + program_size (slice_index_or ps a d) ≤ programs_size ps
programs_end [] a d h = absurd (omega arith)
programs_end (p ∷ ps) zero d h = omega arith
programs_end (p ∷ ps) (suc a) d h = omega (arith, programs_end ps a d (omega arith))

pub place_below : (s : SystemView) (program place : ℕ) → IsPlace s program place → address_of_place s program place < final_pc_of s
place_below s program place h =
    let p = program_of s program in
    let inside = sum_below p.instructions place h in
    let lt = program_there s.programs program place h in
    let last = programs_end s.programs program record { formals = 0; temporaries = []; instructions = [] } lt in
    omega arith
