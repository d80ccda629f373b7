-- The words of areas and the targets of jumps are no more than the atoms and lists of the system's tree.
use Rattle.std.{proofs.Common.{◌≡◌, ℕ, ◌+◌, ◌<◌, ◌≤◌, ◌^◌, List, [], ◌∷◌, map, length, Option, Some, None, refl, sym, ap, ◌∙◌, arith}, specs.List.sum_by}
use Rattle.std.{proofs.lemmas.List.length-map, proofs.lemmas.List.Sums.sum_by-cons}
use Rattle.stack_text.{specs.declared.name.Named.Named, specs.Trees.{Node, atom, list, node_count, node_counts}, specs.Views.TreeView.nodes}
use Rattle.stack_text.specs.Grammar.Printed.{tree_of_all}
use Rattle.piton_words.specs.declared.word.Word.{Word}
use Rattle.piton_syntax.{specs.declared.op.PitonOp.PitonOp, specs.declared.test_kind.TestFamily.TestFamily, specs.Operations.{op_name, op_arguments}}
use Rattle.piton_syntax.{specs.Printed.{word_tree, argument_tree, labelled_tree, instruction_tree, program_tree, area_tree, tree_of}, specs.Systems.InstrOf}
use Rattle.piton_syntax.specs.Systems.{ProgramOf, AreaOf, SystemOf}
use Rattle.piton_syntax.specs.declared.op.PitonOp.TheVariants as op
use Rattle.piton_syntax.specs.declared.test_kind.TestFamily.TheVariants as family
use Rattle.piton_check.{specs.declared.resolved.ResolvedArg.ResolvedArg, specs.Instruction.{Instruction, instruction_of, instruction_view, program_view}}
use Rattle.piton_check.specs.Instruction.{system_view, with_word, with_number, with_local, with_place, with_area, with_program, with_test, place_of}
use Rattle.piton_check.{specs.Meaning.name_kind, specs.Resolved.{resolved, resolved_word, resolved_area, resolved_argument, resolved_instruction}}
use Rattle.piton_check.{specs.Resolved.resolved_program, specs.Sound.{target_count, program_targets, all_targets, all_words}}
use Rattle.piton_check.specs.declared.resolved.ResolvedArg.TheVariants as arg
use Rattle.piton_check.specs.Instruction as seen

-- ---- sums

sum_map : {X Y : Type 0} (f : Y → ℕ) (g : X → Y) (xs : List X) → sum_by f (map g xs) ≡ sum_by (λ x. f (g x)) xs
sum_map f g [] = refl
sum_map f g (x ∷ xs) = sum_by-cons f (g x) (map g xs) ∙ ap (λ (n : ℕ). f (g x) + n) (sum_map f g xs) ∙ sym (sum_by-cons (λ y. f (g y)) x xs)

sum_under : {X : Type 0} (f : X → ℕ) (tree : X → Node) → ((x : X) → f x ≤ node_count (tree x)) → (xs : List X) → sum_by f xs ≤ node_counts (nodes (map tree xs))
sum_under f tree under [] = omega arith
sum_under f tree under (x ∷ xs) = let one = under x in let others = sum_under f tree under xs in omega (arith, sum_by-cons f x xs, one, others)

node_positive : (t : Node) → 0 < node_count t
node_positive (atom p w) = omega arith
node_positive (list p ts) = omega arith

length_under : {X : Type 0} (tree : X → Node) (xs : List X) → length xs ≤ node_counts (nodes (map tree xs))
length_under tree [] = omega arith
length_under tree (x ∷ xs) = let one = node_positive (tree x) in let others = length_under tree xs in omega (arith, one, others)

-- ---- targets of one instruction

word_targets : (make : Word → Instruction) → ((x : Word) → target_count (make x) ≡ 0) → (args : List ResolvedArg)
    → target_count (with_word make args) ≤ length args
word_targets make plain (arg.Word w ∷ []) = omega (arith, plain w)
word_targets make plain args = omega arith

number_targets : (make : ℕ → Instruction) → ((x : ℕ) → target_count (make x) ≡ 0) → (args : List ResolvedArg)
    → target_count (with_number make args) ≤ length args
number_targets make plain (arg.Number x ∷ []) = omega (arith, plain x)
number_targets make plain args = omega arith

local_targets : (make : ℕ → Instruction) → ((x : ℕ) → target_count (make x) ≡ 0) → (args : List ResolvedArg) → target_count (with_local make args) ≤ length args
local_targets make plain (arg.Local x ∷ []) = omega (arith, plain x)
local_targets make plain args = omega arith

place_targets : (make : ℕ → Instruction) → ((x : ℕ) → target_count (make x) ≡ 0) → (args : List ResolvedArg) → target_count (with_place make args) ≤ length args
place_targets make plain (arg.Place x ∷ []) = omega (arith, plain x)
place_targets make plain args = omega arith

area_targets : (make : ℕ → Instruction) → ((x : ℕ) → target_count (make x) ≡ 0) → (args : List ResolvedArg) → target_count (with_area make args) ≤ length args
area_targets make plain (arg.Area x ∷ []) = omega (arith, plain x)
area_targets make plain args = omega arith

program_targets_of : (make : ℕ → Instruction) → ((x : ℕ) → target_count (make x) ≡ 0) → (args : List ResolvedArg)
    → target_count (with_program make args) ≤ length args
program_targets_of make plain (arg.Program x ∷ []) = omega (arith, plain x)
program_targets_of make plain args = omega arith

test_targets : (f : TestFamily) (args : List ResolvedArg) → target_count (with_test f args) ≤ length args
test_targets f (arg.Test k ∷ arg.Place x ∷ []) = omega arith
test_targets f args = omega arith

targets_under : (o : PitonOp) (args : List ResolvedArg) → target_count (instruction_of o args) ≤ length args
targets_under op.PushConstant args = word_targets seen.PushConstant (λ x. refl) args
targets_under op.PushLocal args = local_targets seen.PushLocal (λ x. refl) args
targets_under op.PopLocal args = local_targets seen.PopLocal (λ x. refl) args
targets_under op.SetLocal args = local_targets seen.SetLocal (λ x. refl) args
targets_under op.PushGlobal args = area_targets seen.PushGlobal (λ x. refl) args
targets_under op.PopGlobal args = area_targets seen.PopGlobal (λ x. refl) args
targets_under op.SetGlobal args = area_targets seen.SetGlobal (λ x. refl) args
targets_under op.PushTempStkIndex args = number_targets seen.PushTempStkIndex (λ x. refl) args
targets_under op.PopStar args = number_targets seen.PopStar (λ x. refl) args
targets_under op.Jump args = place_targets seen.Jump (λ x. refl) args
targets_under op.JumpIfTempStkFull args = place_targets seen.JumpIfTempStkFull (λ x. refl) args
targets_under op.JumpIfTempStkEmpty args = place_targets seen.JumpIfTempStkEmpty (λ x. refl) args
targets_under op.Pushj args = place_targets seen.Pushj (λ x. refl) args
targets_under op.Call args = program_targets_of seen.Call (λ x. refl) args
targets_under op.TestNatAndJump args = test_targets family.Nat args
targets_under op.TestIntAndJump args = test_targets family.Int args
targets_under op.TestBoolAndJump args = test_targets family.Bool args
targets_under op.TestBitvAndJump args = test_targets family.Bitv args
targets_under op.JumpCase args = omega (arith, length-map args place_of)
targets_under o args = omega arith

-- ---- the parts of a system

labelled_under : (l : Option Named) (t : Node) (n : ℕ) → n ≤ node_count t → n ≤ node_count (labelled_tree l t)
labelled_under None t n h = h
labelled_under (Some name) t n h = omega (arith, h)

instruction_under : (s : SystemOf) (p : ProgramOf) (i : InstrOf) → target_count (instruction_view (resolved_instruction s p i))
    ≤ node_count (instruction_tree i)
instruction_under s p i =
    let targets = targets_under i.op (map (resolved_argument s p (name_kind (op_arguments i.op))) i.args) in
    let args = length_under argument_tree i.args in
    labelled_under i.label (tree_of_all (atom 0 (op_name i.op) ∷ map argument_tree i.args)) (target_count (instruction_view (resolved_instruction s p i)))
    (omega (arith, targets, args, length-map i.args (resolved_argument s p (name_kind (op_arguments i.op)))))

program_under : (s : SystemOf) (p : ProgramOf) → program_targets (program_view (resolved_program s p)) ≤ node_count (program_tree p)
program_under s p =
    let seen_as : program_targets (program_view (resolved_program s p)) ≡ sum_by (λ i. target_count (instruction_view (resolved_instruction s p i))) p.instrs =
    sum_map target_count instruction_view (map (resolved_instruction s p) p.instrs)
    ∙ sum_map (λ i. target_count (instruction_view i)) (resolved_instruction s p) p.instrs in
    let under = sum_under (λ i. target_count (instruction_view (resolved_instruction s p i))) instruction_tree (instruction_under s p) p.instrs in
    omega (arith, seen_as, under)

area_under : (s : SystemOf) (a : AreaOf) → length (resolved_area s a) ≤ node_count (area_tree a)
area_under s a = omega (arith, length-map a.words (resolved_word s), length_under word_tree a.words)

pub few_parts : (s : SystemOf) → node_count (tree_of s) ≤ 2 ^ 31 → all_words (system_view (resolved s)) + all_targets (system_view (resolved s)) ≤ 2 ^ 31
few_parts s few =
    let words_as : all_words (system_view (resolved s)) ≡ sum_by (λ a. length (resolved_area s a)) s.areas = sum_map length (resolved_area s) s.areas in
    let targets_as : all_targets (system_view (resolved s)) ≡ sum_by (λ p. program_targets (program_view (resolved_program s p))) s.programs =
    sum_map program_targets program_view (map (resolved_program s) s.programs) ∙ sum_map (λ p. program_targets (program_view p)) (resolved_program s)
    s.programs in
    let words = sum_under (λ a. length (resolved_area s a)) area_tree (area_under s) s.areas in
    let targets = sum_under (λ p. program_targets (program_view (resolved_program s p))) program_tree (program_under s) s.programs in
    omega (arith, few, words_as, targets_as, words, targets)
