-- The text that is printed for a system is read as that system but for places.
use Rattle.std.{proofs.Common.{◌≡◌, ℕ, List, [], ◌∷◌, drop, map, Option, Some, None, true, false, refl}, specs.Prelude.codes}
use Rattle.stack_text.{specs.Trees.{Node, atom, without_places as unplaced_tree}, specs.TreeText.tree_text, specs.Internal.Spellings.Spells}
use Rattle.stack_text.{proofs.SpellingLaws.spelled_is_read, specs.Grammar.Printed.{lines_text, name_tree, tree_of_all}, specs.declared.name.Named.Named}
use Rattle.stack_text.{proofs.PartTextLaws.{spells_list, unplaced_all}, proofs.PrintLaws.Spells-tree_text, proofs.ReaderLaws.read_back}
use Rattle.piton_syntax.{specs.declared.argument.ArgText.ArgText, specs.declared.word_text.WordItem.WordItem, specs.declared.word_text.WordText.WordText}
use Rattle.piton_syntax.{specs.PitonReading.{KeepsForm, ReadsAs, piton_reader}, specs.Systems.{InstrOf, ProgramOf, AreaOf, SystemOf}, specs.Printed.item_tree}
use Rattle.piton_syntax.specs.Printed.{word_tree, argument_tree, labelled_tree, instruction_tree, temporary_tree, program_tree, area_tree, system_head, tree_of}
use Rattle.piton_syntax.{specs.Printed.{program_text, piton_text}, proofs.WalkLaws.system_part}
use Rattle.piton_syntax.specs.declared.argument.ArgText.TheVariants as arg
use Rattle.piton_syntax.specs.declared.word_text.WordItem.TheVariants as item

-- ---- the text spells the tree

spells_program : (p : ProgramOf) → Spells (program_tree p) (program_text p)
spells_program p =
    spells_list instruction_tree (λ i. tree_text (instruction_tree i)) (λ i. Spells-tree_text (instruction_tree i)) (name_tree p.name)
    (tree_of_all (map name_tree p.formals) ∷ tree_of_all (map temporary_tree p.temporaries) ∷ []) p.instrs

spells_system : (s : SystemOf) → Spells (tree_of s) (lines_text program_text (system_head s) s.programs)
spells_system s = spells_list program_tree program_text spells_program (atom 0 (codes "piton")) (drop 1 (system_head s)) s.programs

-- ---- the tree of a system has 0 in all its places

unplaced_item : (i : WordItem) → unplaced_tree (item_tree i) ≡ item_tree i
unplaced_item (item.Int n) = refl
unplaced_item (item.Nat n) = refl
unplaced_item (item.Bitv n) = refl
unplaced_item (item.Bool true) = refl
unplaced_item (item.Bool false) = refl
unplaced_item (item.Addr area n) = refl
unplaced_item (item.Pc program n) = refl
unplaced_item (item.Subr program) = refl

unplaced_word : (w : WordText) → unplaced_tree (word_tree w) ≡ word_tree w
unplaced_word w = unplaced_item w.item

unplaced_argument : (a : ArgText) → unplaced_tree (argument_tree a) ≡ argument_tree a
unplaced_argument (arg.Name n) = refl
unplaced_argument (arg.Number n) = refl
unplaced_argument (arg.Word w) = unplaced_word w
unplaced_argument (arg.Test k) = refl

unplaced_labelled : (label : Option Named) (t : Node) → unplaced_tree t ≡ t → unplaced_tree (labelled_tree label t) ≡ labelled_tree label t
unplaced_labelled None t h = h
unplaced_labelled (Some n) t h = rw h refl

unplaced_instruction : (i : InstrOf) → unplaced_tree (instruction_tree i) ≡ instruction_tree i
unplaced_instruction i = unplaced_labelled i.label _ (rw (unplaced_all argument_tree unplaced_argument i.args) refl)

unplaced_temporary : (t : Named × WordText) → unplaced_tree (temporary_tree t) ≡ temporary_tree t
unplaced_temporary t = rw (unplaced_word t.1) refl

unplaced_program : (p : ProgramOf) → unplaced_tree (program_tree p) ≡ program_tree p
unplaced_program p =
    rw (
      unplaced_all name_tree (λ n. refl) p.formals,
      unplaced_all temporary_tree unplaced_temporary p.temporaries,
      unplaced_all instruction_tree unplaced_instruction p.instrs,
    ) refl

unplaced_area : (a : AreaOf) → unplaced_tree (area_tree a) ≡ area_tree a
unplaced_area a = rw (unplaced_all word_tree unplaced_word a.words) refl

unplaced_system : (s : SystemOf) → unplaced_tree (tree_of s) ≡ tree_of s
unplaced_system s =
    rw (unplaced_all area_tree unplaced_area s.areas, unplaced_all word_tree unplaced_word s.stack, unplaced_all program_tree unplaced_program s.programs) refl

-- ---- the text is read again

pub piton_text_reads : (s : SystemOf) → KeepsForm s → ReadsAs (piton_text s) s
piton_text_reads s form =
    let text : List ℕ = lines_text program_text (system_head s) s.programs in
    let read = spelled_is_read (tree_of s) text (10 ∷ []) form.well_formed (spells_system s) (tt, tt) in
    read_back piton_reader system_part (piton_text s) s read (unplaced_system s) form.reads
