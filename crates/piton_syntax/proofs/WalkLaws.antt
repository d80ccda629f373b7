-- The parts of a system, one walk over them: their faults go up with the places of a tree, places don't count, and what is read fits.
use Rattle.std.proofs.Common.{◌≡◌, ℕ, ◌+◌, ◌≤◌, suc, true, false, cond, leb, List, [], ◌∷◌, length, map, Option, Some, None, Ok, Contains, refl, ap, arith}
use Rattle.std.{specs.Prelude.{Bool, ◌&&◌, codes, option_map}, specs.Str.bytes_eq, specs.List.find, proofs.lemmas.Bool.{and_parts, leb-true}}
use Rattle.stack_text.specs.Trees.{Node, Nodes, atom, list, none, more, all_without_places, place_of, without_places as bare, node_count, node_counts}
use Rattle.stack_text.{specs.Names.is_name, specs.Numerals.{is_digits, is_numeral, numeral_value, fits_128_bits}, specs.Grammar.Printed.unplaced_name}
use Rattle.stack_text.{specs.Grammar.Printed.name_tree, specs.Grammar.Judged.{◌⊛◌, each_of}, specs.Grammar.Parts.{IsNamed, is_atom_of, count_of, list_length}}
use Rattle.stack_text.{specs.Views.TreeView.nodes, specs.declared.name.Named.Named, proofs.PlacesLaws.{same_atom, same_count, same_list_length, unplaced_place}}
use Rattle.stack_text.{proofs.PlacesLaws.same_and, proofs.NumeralTextLaws.natural_digits, proofs.WalkLaws.{Part, Walk, Walks, Fitted, FittedEach, done, ◌▸◌}}
use Rattle.stack_text.proofs.WalkLaws.{rest, skip, in_order, found, at_fault, choice, passing, tested, made, name, some_nodes, none_fitted, one_fitted, no_more}
use Rattle.stack_text.proofs.WalkLaws.{one_more, each, list_part, of_list, after}
use Rattle.piton_syntax.{specs.declared.test_kind.TestKind.TestKind, specs.declared.argument.ArgKind.ArgKind, specs.declared.argument.Arguments.Arguments}
use Rattle.piton_syntax.{specs.declared.argument.Arguments.TheVariants.{Zero, One, TestAndLabel, OneOrMore}, specs.declared.op.PitonOp.PitonOp}
use Rattle.piton_syntax.{specs.declared.tag.Tag.Tag, specs.declared.argument.ArgText.ArgText, specs.declared.test_kind.TestFamily.TestFamily}
use Rattle.piton_syntax.{specs.Limits.{is_small_program, is_small_system}, specs.Operations.{op_arguments, operation_named, tag_named, test_named, test_name}}
use Rattle.piton_syntax.{specs.Operations.tests_of, specs.Grammar.{named_of, number_of, is_true_word, is_false_word, address, program_place, item_of, word_of}}
use Rattle.piton_syntax.specs.Grammar.{is_of_kind, are_of_kind, argument_of, one, test_and_label, tested_of, pair, arguments_of, called_of, labelled_of}
use Rattle.piton_syntax.{specs.Grammar.{instruction_of, temporary_of, program_of, area_of, system_of}, specs.Systems.{new_word, new_instruction, new_program}}
use Rattle.piton_syntax.specs.Systems.{new_area, new_system, unplaced_number, unplaced_item, unplaced_word, unplaced_argument, unplaced_instruction}
use Rattle.piton_syntax.{specs.Systems.{unplaced_temporary, unplaced_program, unplaced_area, without_places as unplaced_system}, specs.Fits.IsSigned}
use Rattle.piton_syntax.specs.Fits.{IsUnsigned, FitsItem, FitsWord, FitsArgument, FitsArguments, FitsInstruction, FitsTemporary, FitsProgram, FitsArea}
use Rattle.piton_syntax.{specs.Fits.FitsForm, specs.Printed.{number_tree, truth_tree, item_tree, word_tree, argument_tree, instruction_tree, temporary_tree}}
use Rattle.piton_syntax.specs.Printed.{program_tree, area_tree, tree_of}
use Rattle.piton_syntax.specs.declared.argument.ArgKind.TheVariants as kind
use Rattle.piton_syntax.specs.declared.argument.ArgText.TheVariants as arg
use Rattle.piton_syntax.specs.declared.tag.Tag.TheVariants as tag
use Rattle.piton_syntax.specs.declared.word_text.WordItem.TheVariants as item

-- ---- words

name_part : (t : Node) → Part named_of unplaced_name (Fitted IsNamed name_tree) t
name_part = name 4

signed_part : (t : Node) → Part number_of unplaced_number (Fitted IsSigned number_tree) t
signed_part (atom p w) = passing {b = fits_128_bits (numeral_value w)} 8 refl (λ fits. found refl (record { fits = fits; size = omega arith }))
signed_part (list p ts) = found refl (record { fits = refl; size = omega arith })

digits_part : (t : Node) → is_atom_of is_digits t ≡ true → Part number_of unplaced_number (Fitted IsUnsigned number_tree) t
digits_part (atom p w) digits =
    passing {b = fits_128_bits (numeral_value w)} 8 refl (λ fits. found refl (record { fits = natural_digits w digits fits; size = omega arith }))
digits_part (list p ts) digits = absurd cc

one_word : (b : Bool) → node_count (truth_tree b) ≡ 1
one_word true = refl
one_word false = refl

item_part : (k : Option Tag) (p q : ℕ) (w : List ℕ) (ts : Nodes) → let t = list p (more (atom q w) ts) in
    Walk t unplaced_item (Fitted FitsItem item_tree t) (item_of k p ts) (item_of k 0 (all_without_places ts))
item_part (Some tag.Int) p q w (more n none) =
    tested 5 (same_atom is_numeral n)
    (in_order item.Int item.Int (skip (atom q w) (signed_part n ▸ done)) (λ m. refl) (λ m h. record { fits = h.fits; size = omega (arith, h.size) }))
item_part (Some tag.Nat) p q w (more n none) =
    passing 5 (same_atom is_digits n) (λ is. in_order item.Nat item.Nat (skip (atom q w) (digits_part n is ▸ done)) (λ m. refl)
    (λ m h. record { fits = h.fits; size = omega (arith, h.size) }))
item_part (Some tag.Bitv) p q w (more n none) =
    passing 5 (same_atom is_digits n) (λ is. in_order item.Bitv item.Bitv (skip (atom q w) (digits_part n is ▸ done)) (λ m. refl)
    (λ m h. record { fits = h.fits; size = omega (arith, h.size) }))
item_part (Some tag.Bool) p q w (more b none) =
    tested 5 (rw (same_atom is_true_word b, same_atom is_false_word b) refl)
    (found (ap item.Bool (same_atom is_true_word b))
    (record { fits = tt; size = omega (arith, one_word (is_atom_of is_true_word b), some_nodes b) }))
item_part (Some tag.Addr) p q w (more area (more n none)) =
    passing 5 (same_and (same_atom is_name area) (same_atom is_digits n))
    (λ is. let digits = and_parts (is_atom_of is_name area) (is_atom_of is_digits n) is in
    in_order address address (skip (atom q w) (name_part area ▸ digits_part n digits.1 ▸ done)) (λ a m. refl)
    (λ a ha m hm. record { fits = (ha.fits, hm.fits); size = omega (arith, ha.size, hm.size) }))
item_part (Some tag.Pc) p q w (more program (more n none)) =
    passing 5 (same_and (same_atom is_name program) (same_atom is_digits n))
    (λ is. let digits = and_parts (is_atom_of is_name program) (is_atom_of is_digits n) is in
    in_order program_place program_place (skip (atom q w) (name_part program ▸ digits_part n digits.1 ▸ done)) (λ a m. refl)
    (λ a ha m hm. record { fits = (ha.fits, hm.fits); size = omega (arith, ha.size, hm.size) }))
item_part (Some tag.Subr) p q w (more program none) =
    tested 5 (same_atom is_name program)
    (in_order item.Subr item.Subr (skip (atom q w) (name_part program ▸ done)) (λ n. refl) (λ n h. record { fits = h.fits; size = omega (arith, h.size) }))
item_part k p q w ts = at_fault 5 _

word_part : (t : Node) → Part word_of unplaced_word (Fitted FitsWord word_tree) t
word_part (list p (more (atom q w) ts)) =
    made (new_word p) (new_word 0) (λ i. refl) (λ i h. record { fits = h.fits; size = h.size }) (item_part (tag_named w) p q w ts)
word_part t = at_fault 5 _

-- ---- instructions

same_of_kind : (k : ArgKind) (t : Node) → is_of_kind k (bare t) ≡ is_of_kind k t
same_of_kind kind.Word t = refl
same_of_kind kind.Count t = same_atom is_digits t
same_of_kind k t = same_atom is_name t

same_are_of_kind : (k : ArgKind) (ts : Nodes) → are_of_kind k (all_without_places ts) ≡ are_of_kind k ts
same_are_of_kind k none = refl
same_are_of_kind k (more t ts) = same_and (same_of_kind k t) (same_are_of_kind k ts)

argument_part : (k : ArgKind) (t : Node) → is_of_kind k t ≡ true → Part (argument_of k) unplaced_argument (Fitted (FitsArgument k) argument_tree) t
argument_part kind.Word t is = made arg.Word arg.Word (λ w. refl) (λ w h. record { fits = h.fits; size = h.size }) (word_part t)
argument_part kind.Count t is = made arg.Number arg.Number (λ n. refl) (λ n h. record { fits = h.fits; size = h.size }) (digits_part t is)
argument_part k t is = made arg.Name arg.Name (λ n. refl) (λ n h. record { fits = h.fits; size = h.size }) (name_part t)

argument_parts : (k : ArgKind) (ts : Nodes) → are_of_kind k ts ≡ true
    → Walks ts (map unplaced_argument) (FittedEach (FitsArgument k) argument_tree ts) (each_of (argument_of k) ts)
    (each_of (argument_of k) (all_without_places ts))
argument_parts k none are = no_more (none_fitted (FitsArgument k) argument_tree)
argument_parts k (more t ts) are =
    let both = and_parts (is_of_kind k t) (are_of_kind k ts) are in
    one_more (one_fitted (FitsArgument k) argument_tree t ts) (argument_part k t both.0) (argument_parts k ts both.1)

-- the arguments in an operation's list
record FittedCall (a : Arguments) (t : Node) (xs : List ArgText) : Type 0 where
  fits : FitsArguments a xs
  size : 2 + node_counts (nodes (map argument_tree xs)) ≤ node_count t

some_fitted : (k : ArgKind) (p q : ℕ) (w : List ℕ) (t : Node) (ts : Nodes) (xs : List ArgText)
    → FittedEach (FitsArgument k) argument_tree (more t ts) xs → FittedCall (OneOrMore k) (list p (more (atom q w) (more t ts))) xs
some_fitted k p q w t ts [] h = absurd (let n : 0 ≡ 1 + count_of ts = h.count in omega (arith, n))
some_fitted k p q w t ts (x ∷ xs) h = record { fits = h.all; size = omega (arith, h.size) }

found_among : (test : TestKind → Bool) (k : TestKind) (ks : List TestKind) → find test ks ≡ Some k → Contains ks k
found_among test k [] h = absurd cc
found_among test k (l ∷ ks) h = by_test (test l) h (found_among test k ks)
  where
    by_test : (b : Bool) → cond b (Some l) (find test ks) ≡ Some k → (find test ks ≡ Some k → Contains ks k) → Contains (l ∷ ks) k
    by_test true e later = (0, omega arith, cc)
    by_test false e later = let found = later e in (suc found.0, omega (arith, found.1), found.2)

tested_part : (f : TestFamily) (p q r : ℕ) (w v : List ℕ) (label : Node) (found : Option TestKind) → test_named f v ≡ found
    → let t = list p (more (atom q w) (more (atom r v) (more label none))) in
    Walk t (map unplaced_argument) (FittedCall (TestAndLabel f) t) (tested_of p found label) (tested_of 0 found (bare label))
tested_part f p q r w v label None e = at_fault 7 _
tested_part f p q r w v label (Some k) e =
    tested 7 (same_atom is_name label)
    (in_order (test_and_label k) (test_and_label k) (skip (atom q w) (skip (atom r v) (name_part label ▸ done))) (λ n. refl)
    (λ n h. record { fits = (found_among (λ j. bytes_eq v (test_name j)) k (tests_of f) e, h.fits); size = omega (arith, h.size) }))

arguments_part : (a : Arguments) (p q : ℕ) (w : List ℕ) (ts : Nodes) → let t = list p (more (atom q w) ts) in
    Walk t (map unplaced_argument) (FittedCall a t) (arguments_of a p ts) (arguments_of a 0 (all_without_places ts))
arguments_part Zero p q w none = found refl (record { fits = tt; size = omega arith })
arguments_part (One k) p q w (more t none) =
    passing 7 (same_of_kind k t) (λ is. in_order one one (skip (atom q w) (argument_part k t is ▸ done)) (λ x. refl)
    (λ x h. record { fits = h.fits; size = omega (arith, h.size) }))
arguments_part (TestAndLabel f) p q w (more (atom r v) (more label none)) = tested_part f p q r w v label (test_named f v) refl
arguments_part (TestAndLabel f) p q w (more (list r us) (more label none)) = at_fault 7 _
arguments_part (OneOrMore k) p q w (more t ts) =
    passing 7 (same_are_of_kind k (more t ts))
    (λ are. of_list (some_fitted k p q w t ts) (after (atom q w) (argument_parts k (more t ts) are)))
arguments_part a p q w ts = at_fault 7 _

called_part : (o : Option PitonOp) (p q : ℕ) (w : List ℕ) (ts : Nodes) → let t = list p (more (atom q w) ts) in
    Walk t unplaced_instruction (Fitted FitsInstruction instruction_tree t) (called_of p (Ok None) o p ts) (called_of 0 (Ok None) o 0 (all_without_places ts))
called_part None p q w ts = at_fault 6 _
called_part (Some o) p q w ts =
    made (new_instruction p o None) (new_instruction 0 o None) (λ args. refl)
    (λ args h. record { fits = record { label = tt; args = h.fits }; size = omega (arith, h.size) }) (arguments_part (op_arguments o) p q w ts)

abbrev IsLabel : Option Named → Type 0
IsLabel None = ⊥
IsLabel (Some n) = IsNamed n

abbrev labelled_list : (p q s r i : ℕ) (w v : List ℕ) (label : Node) (ts : Nodes) → Node
labelled_list p q s r i w v label ts = list p (more (atom q w) (more label (more (list s none) (more (list r (more (atom i v) ts)) none))))

labelled_fitted : (p q s r i : ℕ) (w v : List ℕ) (label : Node) (ts : Nodes) (o : PitonOp) (l : Option Named) → IsLabel l → (args : List ArgText)
    → FittedCall (op_arguments o) (list r (more (atom i v) ts)) args
    → Fitted FitsInstruction instruction_tree (labelled_list p q s r i w v label ts) (new_instruction p o l args)
labelled_fitted p q s r i w v label ts o None h args k = absurd h
labelled_fitted p q s r i w v label ts o (Some n) h args k =
    record { fits = record { label = h; args = k.fits }; size = omega (arith, some_nodes label, k.size) }

called_labelled_part : (o : Option PitonOp) (p q s r i : ℕ) (w v : List ℕ) (label : Node) (ts : Nodes) → let t = labelled_list p q s r i w v label ts in
    Walk t unplaced_instruction (Fitted FitsInstruction instruction_tree t) (called_of p (Ok Some ⊛ named_of label) o r ts)
    (called_of 0 (Ok Some ⊛ named_of (bare label)) o 0 (all_without_places ts))
called_labelled_part None p q s r i w v label ts = at_fault 6 _
called_labelled_part (Some o) p q s r i w v label ts =
    in_order (new_instruction p o) (new_instruction 0 o)
    (skip (atom q w) (made {view = option_map unplaced_name} {P = IsLabel} Some Some (λ n. refl) (λ n h. h.fits) (name_part label)
    ▸ skip (list s none) (arguments_part (op_arguments o) r i v ts ▸ done)))
    (λ n args. refl) (labelled_fitted p q s r i w v label ts o)

labelled_part : (p q : ℕ) (w : List ℕ) (ts : Nodes) → let t = list p (more (atom q w) ts) in
    Walk t unplaced_instruction (Fitted FitsInstruction instruction_tree t) (labelled_of p ts) (labelled_of 0 (all_without_places ts))
labelled_part p q w (more label (more (list s none) (more (list r (more (atom i v) ts)) none))) =
    called_labelled_part (operation_named v) p q s r i w v label ts
labelled_part p q w ts = at_fault 6 _

instruction_part : (t : Node) → Part instruction_of unplaced_instruction (Fitted FitsInstruction instruction_tree) t
instruction_part (list p (more (atom q w) ts)) =
    let labelled = bytes_eq w (codes "dl") in
    choice labelled labelled refl (λ is. labelled_part p q w ts) (λ other. called_part (operation_named w) p q w ts)
instruction_part t = at_fault 6 _

-- ---- programs, areas and systems

temporary_part : (t : Node) → Part temporary_of unplaced_temporary (Fitted FitsTemporary temporary_tree) t
temporary_part (list p (more name (more word none))) =
    in_order pair pair (name_part name ▸ word_part word ▸ done) (λ n w. refl)
    (λ n hn w hw. record { fits = (hn.fits, hw.fits); size = omega (arith, hn.size, hw.size) })
temporary_part t = at_fault 3 _

same_small_program : (formals temporaries : Node) (is : Nodes)
    → is_small_program (bare formals) (bare temporaries) (all_without_places is) ≡ is_small_program formals temporaries is
same_small_program formals temporaries is = rw (same_list_length formals, same_list_length temporaries, same_count is) refl

small_locals : (a b : ℕ) (c d : ℕ) → (leb a 400 && leb b 1048576) ≡ true → c ≡ a → d ≡ b → (c ≤ 400) × (d ≤ 1048576)
small_locals a b c d small e f =
    let p = and_parts (leb a 400) (leb b 1048576) small in
    (omega (arith, e, leb-true a 400 p.0), omega (arith, f, leb-true b 1048576 p.1))

program_part : (t : Node) → Part program_of unplaced_program (Fitted FitsProgram program_tree) t
program_part (list p (more name (more formals (more temporaries (more i is))))) =
    passing 9 (same_small_program formals temporaries (more i is))
    (λ small. in_order (new_program p (place_of formals)) (new_program 0 (place_of (bare formals)))
    (name_part name ▸ list_part 3 IsNamed name_tree named_of name_part formals
    ▸ list_part 3 FitsTemporary temporary_tree temporary_of temporary_part temporaries
    ▸ rest (each FitsInstruction instruction_tree instruction_of instruction_part (more i is)))
    (λ n fs ts js. unplaced_place formals
    (λ q. new_program 0 q (unplaced_name n) (map unplaced_name fs) (map unplaced_temporary ts) (map unplaced_instruction js)))
    (λ n hn fs hf ts ht js hj.
    let counts = small_locals (list_length formals + list_length temporaries) (count_of (more i is)) (length fs + length ts) (length js) small
    (omega (arith, hf.count, ht.count)) hj.count in
    record {
      fits = record {
        name = hn.fits;
        formals = hf.all;
        temporaries = ht.all;
        instrs = hj.all;
        few_locals = counts.0;
        some_instrs = let many : length js ≡ 1 + count_of is = hj.count in omega (arith, many);
        few_instrs = counts.1;
      };
      size = omega (arith, hn.size, hf.size, ht.size, hj.size);
    }))
program_part t = at_fault 3 _

area_part : (t : Node) → Part area_of unplaced_area (Fitted FitsArea area_tree) t
area_part (list p (more name (more w ws))) =
    in_order (new_area p) (new_area 0) (name_part name ▸ rest (each FitsWord word_tree word_of word_part (more w ws))) (λ n ws. refl)
    (λ n hn xs hx. record {
      fits = record { name = hn.fits; words = hx.all; some_words = let many : length xs ≡ 1 + count_of ws = hx.count in omega (arith, many) };
      size = omega (arith, hn.size, hx.size);
    })
area_part t = at_fault 2 _

same_small_system : (areas programs : Nodes) → is_small_system (all_without_places areas) (all_without_places programs) ≡ is_small_system areas programs
same_small_system areas programs = rw (same_count areas, same_count programs) refl

small_counts : (a b c d : ℕ) → (leb a 1000 && leb b 1100) ≡ true → c ≡ a → d ≡ b → (c ≤ 1000) × (d ≤ 1100)
small_counts a b c d small e f =
    let p = and_parts (leb a 1000) (leb b 1100) small in
    (omega (arith, e, leb-true a 1000 p.0), omega (arith, f, leb-true b 1100 p.1))

pub system_part : (t : Node) → Part system_of unplaced_system (Fitted FitsForm tree_of) t
system_part (list p (more (atom q w) (more main (more ctrl (more temp (more base (more (list r areas) (more (list s stack) (more i is))))))))) =
    passing 1 (rw (same_atom is_digits ctrl, same_atom is_digits temp, same_atom is_digits base) refl)
    (λ pass. let last = and_parts (bytes_eq w (codes "piton") && is_atom_of is_digits ctrl && is_atom_of is_digits temp) (is_atom_of is_digits base) pass in
    let middle = and_parts (bytes_eq w (codes "piton") && is_atom_of is_digits ctrl) (is_atom_of is_digits temp) last.0 in
    let first_ = and_parts (bytes_eq w (codes "piton")) (is_atom_of is_digits ctrl) middle.0 in
    passing 9 (same_small_system areas (more i is))
    (λ small. in_order (new_system p) (new_system 0)
    (skip (atom q w) (name_part main ▸ digits_part ctrl first_.1 ▸ digits_part temp middle.1 ▸ digits_part base last.1
    ▸ of_list (λ xs h. h) (each FitsArea area_tree area_of area_part areas) ▸ of_list (λ xs h. h) (each FitsWord word_tree word_of word_part stack)
    ▸ rest (each FitsProgram program_tree program_of program_part (more i is))))
    (λ m c t b areas words programs. refl)
    (λ m hm c hc t ht b hb xs hx ws hw ps hp.
    let counts = small_counts (count_of areas) (count_of (more i is)) (length xs) (length ps) small hx.count hp.count in
    record {
      fits = record {
        main = hm.fits;
        ctrl = hc.fits;
        temp = ht.fits;
        base = hb.fits;
        areas = hx.all;
        stack = hw.all;
        programs = hp.all;
        few_areas = counts.0;
        some_programs = let many : length ps ≡ 1 + count_of is = hp.count in omega (arith, many);
        few_programs = counts.1;
      };
      size = omega (arith, hm.size, hc.size, ht.size, hb.size, hx.size, hw.size, hp.size);
    })))
system_part t = at_fault 1 _
