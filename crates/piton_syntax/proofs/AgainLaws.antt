-- The words of a system are read again as what they are printed for.
use Rattle.std.{proofs.Common.{◌≡◌, ℕ, Bool, true, false, cond, List, Option, Some, None, Ok, refl, sym, ap, subst, ◌∙◌}, specs.Prelude.{ℤ, codes, ◌&&◌}}
use Rattle.std.{specs.Str.bytes_eq, specs.Fmt.signed_decimal, proofs.lemmas.Slice.Eq.bytes_eq-Decides}
use Rattle.stack_text.{specs.declared.name.Named.Named, specs.Names.is_name, specs.Numerals.{is_digits, numeral_value, fits_128_bits}, specs.Trees.Nodes}
use Rattle.stack_text.{specs.Trees.{atom, list, more}, proofs.AtomLaws.name_is_run, specs.Grammar.Printed.{name_tree, unplaced_name}}
use Rattle.stack_text.{specs.Grammar.Judged.{Judged, judged, ◌⊛◌}, specs.Grammar.Parts.is_atom_of, proofs.NumeralTextLaws.value-signed_decimal}
use Rattle.stack_text.{proofs.MadeLaws.{named_again as name_again, IsRun, ok, ◌◂◌, passes}, proofs.KeepsLaws.found_passes}
use Rattle.piton_syntax.{specs.declared.argument.ArgText.ArgText, specs.declared.op.PitonOp.PitonOp, specs.declared.word_text.Number.Number}
use Rattle.piton_syntax.{specs.declared.word_text.WordItem.WordItem, specs.Operations.{row_of, op_name, op_arguments, operations, operation_named}}
use Rattle.piton_syntax.{specs.Grammar.{named_of, number_of, word_of, arguments_of, called_of, labelled_of, instruction_of}, specs.Systems.{InstrOf, new_word}}
use Rattle.piton_syntax.{specs.Systems.{new_instruction, unplaced_number}, specs.Printed.{number_tree, item_tree}, proofs.WordLaws.operation_named-name}
use Rattle.piton_syntax.specs.declared.word_text.WordItem.TheVariants as item

-- ---- names and numbers

pub named_again : (n : Named) → is_name n.name ≡ true → named_of (name_tree n) ≡ Ok (unplaced_name n)
named_again = name_again 4

number_judged : (v z : ℤ) → v ≡ z → fits_128_bits z ≡ true → judged 0 8 (fits_128_bits v) (Ok (record { place = 0; number = v }))
    ≡ Ok (unplaced_number (record { place = 0; number = z }))
number_judged v z e h =
    subst (λ (u : ℤ). judged 0 8 (fits_128_bits u) (Ok (record { place = 0; number = u })) ≡ Ok (unplaced_number (record { place = 0; number = z })))
    (sym e) (passes 0 8 (fits_128_bits z) _ _ h refl)

pub number_again : (n : Number) → fits_128_bits n.number ≡ true → number_of (number_tree n) ≡ Ok (unplaced_number n)
number_again n h = number_judged (numeral_value (signed_decimal n.number)) n.number (value-signed_decimal n.number h) h

-- ---- words

pub truth_again : (b : Bool) → word_of (item_tree (item.Bool b)) ≡ Ok (new_word 0 (item.Bool b))
truth_again true = refl
truth_again false = refl

-- a word of one number, of one name, or of both
pub word_again : (i : WordItem) (r : Judged WordItem) → r ≡ Ok i → (Ok (new_word 0) ⊛ r) ≡ Ok (new_word 0 i)
word_again i r h = ok (new_word 0) ◂ h

pub named_and_numbered : (f : Named → Number → WordItem) (area : Named) (n : Number) → is_name area.name ≡ true
    → is_digits (signed_decimal n.number) ≡ true → fits_128_bits n.number ≡ true →
    judged 0 5 (is_atom_of is_name (name_tree area) && is_atom_of is_digits (number_tree n))
    (Ok f ⊛ named_of (name_tree area) ⊛ number_of (number_tree n)) ≡ Ok (f (unplaced_name area) (unplaced_number n))
named_and_numbered f area n named digits fits =
    passes 0 5 (is_atom_of is_name (name_tree area) && is_atom_of is_digits (number_tree n))
    _ _ (ap (λ (b : Bool). b && is_digits (signed_decimal n.number)) named ∙ digits)
    (ok f ◂ named_again area named ◂ number_again n fits)

-- ---- the words of operations and of tests

pub op_run : (o : PitonOp) → IsRun (op_name o)
unfolding row_of operations
op_run o = name_is_run (op_name o) (found_passes (λ q. is_name (op_name q)) (λ q. bytes_eq (op_name o) (op_name q)) operations o refl (operation_named-name o))

-- no operation has the name `dl`, which is before a label
pub no_label_word : (o : PitonOp) → bytes_eq (op_name o) (codes "dl") ≡ false
unfolding row_of operations
no_label_word o = by_test (bytes_eq (op_name o) (codes "dl")) refl
  where
    by_test : (b : Bool) → bytes_eq (op_name o) (codes "dl") ≡ b → b ≡ false
    by_test true e =
        let same : op_name o ≡ codes "dl" = (bytes_eq-Decides (op_name o) (codes "dl")).0 e in
        let named : operation_named (codes "dl") ≡ Some o = subst (λ (w : List ℕ). operation_named w ≡ Some o) same (operation_named-name o) in
        let unnamed : operation_named (codes "dl") ≡ None = refl in
        absurd cc
    by_test false e = refl

-- ---- instructions

pub called_again : (l : Judged (Option Named)) (o : PitonOp) (n : Option Named) (ts : Nodes) (xs : List ArgText) → l ≡ Ok n
    → arguments_of (op_arguments o) 0 ts ≡ Ok xs → called_of 0 l (operation_named (op_name o)) 0 ts ≡ Ok (new_instruction 0 o n xs)
called_again l o n ts xs h k =
    ap (λ (found : Option PitonOp). called_of 0 l found 0 ts) (operation_named-name o) ∙ (ok (new_instruction 0 o) ◂ h ◂ k)

pub unlabelled_again : (o : PitonOp) (ts : Nodes) (i : InstrOf) → called_of 0 (Ok None) (operation_named (op_name o)) 0 ts ≡ Ok i
    → instruction_of (list 0 (more (atom 0 (op_name o)) ts)) ≡ Ok i
unlabelled_again o ts i h =
    ap (λ (b : Bool). cond b (labelled_of 0 ts) (called_of 0 (Ok None) (operation_named (op_name o)) 0 ts)) (no_label_word o) ∙ h
