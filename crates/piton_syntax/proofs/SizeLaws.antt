-- The tree of a system has no more atoms and lists than its plain counts allow.
use Rattle.std.proofs.Common.{◌≡◌, ℕ, ◌+◌, ◌*◌, ◌≤◌, ◌∷◌, map, length, Option, Some, None, Bool, true, false, refl, arith}
use Rattle.stack_text.{specs.declared.name.Named.Named, specs.Trees.{Node, atom, node_count}, specs.Grammar.Printed.tree_of_all, proofs.SizeLaws.each_over}
use Rattle.stack_text.proofs.SizeLaws.{names_over, sum_over}
use Rattle.piton_syntax.{specs.declared.argument.ArgText.ArgText, specs.declared.word_text.WordText.WordText, specs.declared.word_text.WordItem.WordItem}
use Rattle.piton_syntax.{specs.Operations.op_name, specs.Systems.{InstrOf, ProgramOf, AreaOf, SystemOf}, specs.Printed.{truth_tree, item_tree, word_tree}}
use Rattle.piton_syntax.specs.Printed.{argument_tree, labelled_tree, instruction_tree, temporary_tree, program_tree, area_tree, tree_of}
use Rattle.piton_syntax.specs.Sizes.{instruction_size, program_size, area_size, text_size}
use Rattle.piton_syntax.specs.declared.argument.ArgText.TheVariants as arg
use Rattle.piton_syntax.specs.declared.word_text.WordItem.TheVariants as item

-- ---- parts

truth_count : (b : Bool) → node_count (truth_tree b) ≡ 1
truth_count true = refl
truth_count false = refl

word_over : (w : WordText) → node_count (word_tree w) ≤ 4
word_over w = by_item w.item
  where
    by_item : (i : WordItem) → node_count (item_tree i) ≤ 4
    by_item (item.Int n) = omega arith
    by_item (item.Nat n) = omega arith
    by_item (item.Bitv n) = omega arith
    by_item (item.Bool b) = omega (arith, truth_count b)
    by_item (item.Addr area n) = omega arith
    by_item (item.Pc program n) = omega arith
    by_item (item.Subr program) = omega arith

argument_over : (a : ArgText) → node_count (argument_tree a) ≤ 4
argument_over (arg.Name n) = omega arith
argument_over (arg.Number n) = omega arith
argument_over (arg.Word w) = word_over w
argument_over (arg.Test k) = omega arith

labelled_over : (l : Option Named) (t : Node) (n : ℕ) → node_count t ≤ n → node_count (labelled_tree l t) ≤ 4 + n
labelled_over None t n h = omega (arith, h)
labelled_over (Some name) t n h = omega (arith, h)

instruction_over : (i : InstrOf) → node_count (instruction_tree i) ≤ instruction_size i
instruction_over i =
    let args = each_over 4 argument_tree argument_over i.args in
    let bare = tree_of_all (atom 0 (op_name i.op) ∷ map argument_tree i.args) in
    let labelled = labelled_over i.label bare (2 + 4 * length i.args) (omega (arith, args)) in
    omega (arith, labelled)

temporary_over : (t : Named × WordText) → node_count (temporary_tree t) ≤ 6
temporary_over t = omega (arith, word_over t.1)

program_over : (p : ProgramOf) → node_count (program_tree p) ≤ program_size p
program_over p =
    let formals = names_over p.formals in
    let temporaries = each_over 6 temporary_tree temporary_over p.temporaries in
    let instrs = sum_over instruction_size instruction_tree instruction_over p.instrs in
    omega (arith, formals, temporaries, instrs)

area_over : (a : AreaOf) → node_count (area_tree a) ≤ area_size a
area_over a = let words = each_over 4 word_tree word_over a.words in omega (arith, words)

pub text_over : (s : SystemOf) → node_count (tree_of s) ≤ text_size s
text_over s =
    let areas = sum_over area_size area_tree area_over s.areas in
    let stack = each_over 4 word_tree word_over s.stack in
    let programs = sum_over program_size program_tree program_over s.programs in
    omega (arith, areas, stack, programs)
