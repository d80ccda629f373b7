-- Instructions and programs, part by part.
use Rattle.std.{proofs.Common.{◌≡◌, ◌-◌, List, [], ◌++◌, length, slice_get, Option, ap, ◌∙◌}, specs.List.flat_map}
use Rattle.stack_text.{specs.declared.name.Named.Named, specs.declared.breach.Breach.Breach, specs.Breaches.{lesser_of, least, Notes}}
use Rattle.stack_text.proofs.BreachLaws.{notes_more}
use Rattle.piton_syntax.{specs.declared.word_text.WordText.WordText, specs.declared.argument.ArgKind.ArgKind, specs.declared.argument.ArgText.ArgText}
use Rattle.piton_syntax.{specs.declared.argument.Arguments.Arguments, specs.Operations.op_arguments, specs.Systems.{InstrOf, ProgramOf, SystemOf}}
use Rattle.piton_check.{specs.Meaning.name_kind, specs.Violations.{argument_breaches, instruction_breaches, temporary_breaches, end_breaches, program_breaches}}
use Rattle.piton_check.specs.Declarations.{local_names, label_names, repeats}

-- an instruction's breaches are those of its arguments
pub instruction_noted : (s : SystemOf) (p : ProgramOf) (i j : InstrOf) (k : ArgKind) (a : Arguments) (texts : List ArgText) (x y : Option Breach)
    → k ≡ name_kind a → a ≡ op_arguments j.op → texts ≡ j.args → j ≡ i →
    Notes x (flat_map (argument_breaches s p k) texts) y → Notes x (instruction_breaches s p i) y
instruction_noted s p i j k a texts x y k_is a_is texts_are seen h =
    h ∙ ap (λ (l : ArgKind). lesser_of x (least (flat_map (argument_breaches s p l) texts))) (k_is ∙ ap name_kind a_is)
    ∙ ap (λ (us : List ArgText). lesser_of x (least (flat_map (argument_breaches s p (name_kind (op_arguments j.op))) us))) texts_are
    ∙ ap (λ (u : InstrOf). lesser_of x (least (instruction_breaches s p u))) seen

-- a program's breaches are those of its names, its words, its instructions and its end
pub program_noted : (s : SystemOf) (p : ProgramOf) (ts : List (Named × WordText)) (is js : List InstrOf) (a b c d e : Option Breach)
    → ts ≡ p.temporaries → is ≡ p.instrs → js ≡ p.instrs
    → Notes a (repeats 5 [] (local_names p) ++ repeats 6 [] (label_names p)) b → Notes b (flat_map (temporary_breaches s) ts) c
    → Notes c (flat_map (instruction_breaches s p) is) d
    → Notes d (end_breaches (slice_get js (length js - 1))) e → Notes a (program_breaches s p) e
program_noted s p ts is js a b c d e ts_are is_are js_are names words instrs end =
    let of_names : List Breach = repeats 5 [] (local_names p) ++ repeats 6 [] (label_names p) in
    let words_at : Notes b (flat_map (temporary_breaches s) p.temporaries) c =
    words ∙ ap (λ (xs : List (Named × WordText)). lesser_of b (least (flat_map (temporary_breaches s) xs))) ts_are in
    let instrs_at : Notes c (flat_map (instruction_breaches s p) p.instrs) d =
    instrs ∙ ap (λ (xs : List InstrOf). lesser_of c (least (flat_map (instruction_breaches s p) xs))) is_are in
    let end_at : Notes d (end_breaches (slice_get p.instrs (length p.instrs - 1))) e =
    end ∙ ap (λ (xs : List InstrOf). lesser_of d (least (end_breaches (slice_get xs (length xs - 1))))) js_are in
    let two = notes_more a b c of_names (flat_map (temporary_breaches s) p.temporaries) names words_at in
    let three = notes_more a c d (of_names ++ flat_map (temporary_breaches s) p.temporaries) (flat_map (instruction_breaches s p) p.instrs) two instrs_at in
    notes_more a d e (of_names ++ flat_map (temporary_breaches s) p.temporaries ++ flat_map (instruction_breaches s p) p.instrs)
    (end_breaches (slice_get p.instrs (length p.instrs - 1))) three end_at
