-- The words of a source are read again as what they are printed for.
use Rattle.std.proofs.Common.{◌≡◌, ℕ, ◌≤◌, Bool, true, false, cond, List, [], ◌∷◌, length, Option, Some, Ok, refl, sym, ap, subst, ◌∙◌, arith}
use Rattle.std.{specs.Prelude.{ℤ, codes, drop, nat_lt, if◌then◌else◌}, specs.List.list_all, specs.Char.{is_ascii_digit, is_ascii_alphabetic}}
use Rattle.std.{specs.Str.bytes_eq, specs.Fmt.signed_decimal, proofs.Math.Dec.eqb, proofs.lemmas.Bool.{eqb-true, lt-leb, and_parts}}
use Rattle.stack_text.{specs.declared.shape.Kind.Kind, specs.declared.shape.Kind.TheVariants.{Integer, Boolean, Character}, specs.Names.is_name}
use Rattle.stack_text.{specs.Names.is_truth_word, specs.Numerals.{is_digits, is_numeral, numeral_value, fits_128_bits, IsNumber}, specs.Trees.{Node, Nodes}}
use Rattle.stack_text.{specs.Trees.{atom, list, more}, proofs.NumeralLaws.digit_in_range, proofs.AtomLaws.numeral_is_run, specs.Grammar.Judged.{Judged, fault}}
use Rattle.stack_text.{specs.Grammar.Judged.{judged, ◌⊛◌}, specs.Values.kind_name, proofs.NumeralTextLaws.{value-signed_decimal, numeral-signed_decimal}}
use Rattle.stack_text.{proofs.NumeralTextLaws.natural_written, proofs.MadeLaws.{IsRun, ok, ◌◂◌, passes}, proofs.SharedLaws.and_false}
use Rattle.gypsy_syntax.{specs.Fits.FitsSimple, specs.declared.keyword.Keyword.Keyword, specs.Grammar.{number_at, array_type, type_in, is_character, simple_at}}
use Rattle.gypsy_syntax.{specs.Grammar.{arg_in, is_empty_list, statement_in, form_in}, specs.Keywords.{keyword_name, keyword_named, form_named, predef_named}}
use Rattle.gypsy_syntax.{specs.Keywords.kind_named, specs.Made.{new_name, new_array}, specs.Places.{unplaced_literal, unplaced_stmt}, specs.Printed.number_tree}
use Rattle.gypsy_syntax.{specs.Printed.{type_tree_by, literal_tree, keyword_tree, stmt_tree}, specs.Sources.{LiteralOf, integer, truth, character, array}}
use Rattle.gypsy_syntax.specs.Sources.{variable, constant, StmtOf}
use Rattle.gypsy_syntax.specs.declared.keyword.Keyword.TheVariants as word
use Rattle.gypsy_syntax.specs.declared.predef.Predef.TheVariants as row

-- ---- numbers

pub number_run : (z : ℤ) → IsNumber z → IsRun (signed_decimal z)
number_run z h = numeral_is_run (signed_decimal z) (numeral-signed_decimal z h)

number_judged : (v z : ℤ) → v ≡ z → IsNumber z → judged 0 11 (fits_128_bits v) (Ok v) ≡ Ok z
number_judged v z e h = subst (λ (u : ℤ). judged 0 11 (fits_128_bits u) (Ok u) ≡ Ok z) (sym e) (passes 0 11 (fits_128_bits z) _ _ h refl)

pub number_again : (z : ℤ) → IsNumber z → number_at 0 (signed_decimal z) ≡ Ok z
number_again z h = number_judged (numeral_value (signed_decimal z)) z (value-signed_decimal z h) h

-- ---- values

-- a simple value, printed as an atom that is no name
pub record SimpleAgain (l : LiteralOf) : Type 0 where
  pub bytes : List ℕ
  pub tree_is : literal_tree l ≡ atom 0 bytes
  pub run : IsRun bytes
  pub reads : simple_at 0 bytes ≡ Ok (unplaced_literal l)
  pub no_name : is_name bytes ≡ false

small_no_letter : (b : ℕ) → b ≤ 57 → is_ascii_alphabetic b ≡ false
small_no_letter b le = rw (lt-leb 65 b (omega arith), lt-leb 97 b (omega arith)) refl

digits_no_name : (ds : List ℕ) → is_digits ds ≡ true → is_name ds ≡ false
digits_no_name [] h = refl
digits_no_name (d ∷ ds) h =
    let p = and_parts (is_ascii_digit d) (list_all is_ascii_digit ds) (and_parts (nat_lt 0 (length (d ∷ ds))) (list_all is_ascii_digit (d ∷ ds)) h).1 in
    let r = digit_in_range d p.0 in
    rw (small_no_letter d r.1) refl

numeral_no_name : (w : List ℕ) → is_numeral w ≡ true → is_name w ≡ false
numeral_no_name [] h = refl
numeral_no_name (b ∷ bs) h = by_sign (eqb b 45) refl
  where
    by_sign : (s : Bool) → eqb b 45 ≡ s → is_name (b ∷ bs) ≡ false
    by_sign false e = digits_no_name (b ∷ bs) (subst (λ (t : Bool). is_digits (cond t bs (b ∷ bs)) ≡ true) e h)
    by_sign true e = let k : b ≡ 45 = eqb-true b 45 e in rw (small_no_letter b (omega (arith, k))) refl

mark_no_numeral : (ds : List ℕ) → is_numeral (35 ∷ ds) ≡ false
mark_no_numeral ds = and_false (nat_lt 0 (length (35 ∷ ds)))

mark_run : (z : ℤ) → IsNumber z → IsRun (35 ∷ signed_decimal z)
mark_run z h = let r = number_run z h in (omega arith, ap (λ (w : List ℕ). 35 ∷ w) r.1)

mark_again : (ds : List ℕ) → is_digits ds ≡ true → simple_at 0 (35 ∷ ds) ≡ (Ok (character 0) ⊛ number_at 0 ds)
mark_again ds h = rw (mark_no_numeral ds, h) refl

pub simple_again : (l : LiteralOf) → FitsSimple l → SimpleAgain l
simple_again (integer p z) h = let numeral = numeral-signed_decimal z h in
    record {
      bytes = signed_decimal z;
      tree_is = refl;
      run = number_run z h;
      reads = ap (λ (b : Bool). if b then Ok (integer 0) ⊛ number_at 0 (signed_decimal z) else if is_character (signed_decimal z)
          then Ok (character 0) ⊛ number_at 0 (drop 1 (signed_decimal z)) else judged 0 8 (is_truth_word (signed_decimal z))
          (Ok (truth 0 (bytes_eq (signed_decimal z) (codes "true"))))) numeral
          ∙ (ok (integer 0) ◂ number_again z h);
      no_name = numeral_no_name (signed_decimal z) numeral;
    }
simple_again (character p z) h = let k = natural_written z h in
    record {
      bytes = 35 ∷ signed_decimal z;
      tree_is = refl;
      run = mark_run z k.0;
      reads = mark_again (signed_decimal z) k.1 ∙ (ok (character 0) ◂ number_again z k.0);
      no_name = refl;
    }
simple_again (truth p true) h = record { bytes = codes "true"; tree_is = refl; run = (omega arith, refl); reads = refl; no_name = refl }
simple_again (truth p false) h = record { bytes = codes "false"; tree_is = refl; run = (omega arith, refl); reads = refl; no_name = refl }
simple_again (array p ls) h = absurd h

-- ---- types and declarations

pub kind_again : (k : Kind) → kind_named (kind_name k) ≡ Some k
kind_again Integer = refl
kind_again Boolean = refl
kind_again Character = refl

pub kind_run : (k : Kind) → IsRun (kind_name k)
kind_run Integer = (omega arith, refl)
kind_run Boolean = (omega arith, refl)
kind_run Character = (omega arith, refl)

pub array_again : (k : Kind) (z : ℤ) → IsNumber z → type_in (type_tree_by k (Some z)) ≡ Ok (new_array 0 k z)
array_again k z h =
    ap (λ (o : Option Kind). array_type 0 o (number_tree z)) (kind_again k)
    ∙ passes 0 7 (is_numeral (signed_decimal z)) _ _ (numeral-signed_decimal z h) (ok (new_array 0 k) ◂ number_again z h)

-- ---- statements

-- a simple value is read again as an argument, since it is no name
pub argument_again : (l : LiteralOf) (k : SimpleAgain l) → arg_in (literal_tree l) ≡ Ok (constant (unplaced_literal l))
argument_again l k =
    ap arg_in k.tree_is ∙ ap (λ (b : Bool). if b then Ok (variable (new_name 0 k.bytes)) else Ok constant ⊛ simple_at 0 k.bytes) k.no_name
    ∙ (ok constant ◂ k.reads)

-- and so is a variable
pub variable_again : (w : List ℕ) → is_name w ≡ true → arg_in (atom 0 w) ≡ Ok (variable (new_name 0 w))
variable_again w e = ap (λ (b : Bool). if b then Ok (variable (new_name 0 w)) else Ok constant ⊛ simple_at 0 w) e

pub keyword_run : (k : Keyword) → IsRun (keyword_name k)
unfolding keyword_name
keyword_run word.NoOp = (omega arith, refl)
keyword_run (word.Predef row.MgSimpleVariableAssignment) = (omega arith, refl)
keyword_run k = (omega arith, refl)

pub keyword_again : (k : Keyword) → keyword_named (keyword_name k) ≡ Some k
unfolding keyword_name form_named predef_named
keyword_again word.NoOp = refl
keyword_again (word.Predef row.MgSimpleVariableAssignment) = refl
keyword_again k = refl

-- a statement is read by its first word
pub statement_again : (k : Keyword) (s : StmtOf) (us : Nodes) → stmt_tree s ≡ list 0 (more (keyword_tree k) us)
    → form_in (Some k) 0 us ≡ Ok (unplaced_stmt s) → statement_in (stmt_tree s) ≡ Ok (unplaced_stmt s)
statement_again k s us e reads = ap statement_in e ∙ ap (λ (o : Option Keyword). form_in o 0 us) (keyword_again k) ∙ reads

pub begin_again : (cs : Node) (r : Judged StmtOf) (s : StmtOf) → is_empty_list cs ≡ false → r ≡ Ok s → (if is_empty_list cs then fault 0 10 else r) ≡ Ok s
begin_again cs r s e h = ap (λ (b : Bool). if b then fault 0 10 else r) e ∙ h
