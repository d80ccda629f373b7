-- What the code shows of a run.
use Rattle.std.proofs.Common.{◌≡◌, ℕ, zero, suc, ◌+◌, ◌*◌, ◌^◌, ◌<◌, ◌≤◌, List, [], ◌∷◌, map, length, take, reverse, slice_get, Option, Some, None, refl, ap}
use Rattle.std.{proofs.Common.{ap₂, subst, ◌∙◌, arith}, specs.declared.alloc.Global.Global, specs.declared.rc.Rc.Rc, proofs.lemmas.List.length-map}
use Rattle.std.proofs.lemmas.List.{length-reverse}
use Rattle.gypsy_syntax.{specs.Sources.SourceOf, specs.Programs.{Declared, Program, proc_at}, specs.Resolved.program_of}
use Rattle.gypsy_space.{specs.Needs.{StackSizes, ctrl_need, main_used, with_call}, specs.Nodes.{seen_program, seen_statements}, specs.declared.need.Need.Need}
use Rattle.gypsy_space.specs.declared.program.Node.{Node}
use Rattle.gypsy_meaning.{specs.Views.Belongs.{BelongsTo, IsKept}, specs.Views.Named.{conditions_of, current_or, shown_names, variables_of}}
use Rattle.gypsy_meaning.{specs.Views.Running.{frame_of, frames_in, kept_frames, seen, sizes_of, stage_by}, specs.declared.running.Ending.Ending}
use Rattle.gypsy_meaning.{specs.declared.running.Meaning.Meaning, proofs.NamedLaws.{conditions_same, variables_same}, proofs.StepLaws.{program_is, seen_fits}}
use Rattle.gypsy_semantics.{specs.Room.HaveWords, specs.Machine.{Frame, Held, statement_place, used}, specs.Views.RunView.{depth_at, procedure_at, way_at}}
use Rattle.gypsy_semantics.{specs.Views.Shown.{condition_at, conditions_at, current_by, named_or, names_at}, specs.declared.conditions.Current.Current}
use Rattle.gypsy_semantics.{proofs.LendingLaws.length-back, proofs.SeenLaws.StageRoom}
use Rattle.gypsy_semantics.specs.declared.conditions.Current.TheVariants as current

pub parts_place : (ns : List (Rc Node Global)) → 0 ≡ statement_place (seen_statements ns)
parts_place [] = refl
parts_place (n ∷ ns) = refl

-- The names of variables.

names_by : (s : SourceOf) (ns : List Need) (m : Meaning) (b : BelongsTo s ns m) (o : Option Ending) → IsKept m o
    → map (λ v. v.0) m.variables.items ≡ names_at s (stage_by o m)
names_by s ns m b None h = h.top.named ∙ variables_same s m.names.items b.names m.procedure
names_by s ns m b (Some e) h =
    let same = program_is s ns m b in
    h
    ∙ ap (λ (q : Program). take (length (proc_at q q.main).formals) (variables_of m.names.items q.main)) same
    ∙ ap (take (length (proc_at (program_of s) (program_of s).main).formals)) (variables_same s m.names.items b.names (program_of s).main)

pub names_shown : (s : SourceOf) (ns : List Need) (m : Meaning) → BelongsTo s ns m → map (λ v. v.0) m.variables.items ≡ names_at s (seen m).stage
unfolding seen
names_shown s ns m b = names_by s ns m b m.ending b.kept

-- The condition.

current_same : (names : List (List ℕ)) (i : ℕ) → current_or current.Routine (slice_get (shown_names names) i) ≡ named_or (slice_get names i)
current_same [] i = refl
current_same (n ∷ names) zero = refl
current_same (n ∷ names) (suc i) = current_same names i

pub condition_shown : (s : SourceOf) (ns : List Need) (m : Meaning) (c : Current) (routine : Current) (p i : ℕ) → BelongsTo s ns m
    → routine ≡ current.Routine → p ≡ procedure_at (seen m).program (seen m).stage → Some (Declared i) ≡ way_at (seen m).stage →
    c ≡ current_or routine (slice_get (conditions_of m.names.items p) i) → c ≡ condition_at s (seen m).stage
unfolding seen
condition_shown s ns m c other p i b plain active way is =
    let stage = (seen m).stage in
    let at : p ≡ procedure_at (program_of s) stage = active ∙ ap (λ (q : Program). procedure_at q stage) (program_is s ns m b) in
    is
    ∙ ap₂ (λ (r : Current) (cs : List Current). current_or r (slice_get cs i)) plain (conditions_same s m.names.items b.names p)
    ∙ current_same (conditions_at s p) i
    ∙ ap (λ (k : ℕ). current_by (conditions_at s k) (Some (Declared i))) at
    ∙ ap (current_by (conditions_at s (procedure_at (program_of s) stage))) way

-- How many activations there are.

-- each takes two words of the control stack
two_words : (q : Program) (p : ℕ) (fs : List Frame) → 2 * (length fs + 1) ≤ (used q p fs).ctrl
unfolding main_used with_call
two_words q p [] = omega arith
two_words q p (Held c x w xs cs ∷ fs) = let h : 2 * (length fs + 1) ≤ (used q c fs).ctrl = two_words q c fs in omega (arith, h)

has_words : (q : Program) (sizes : StackSizes) (p : ℕ) (fs : List Frame) → HaveWords q sizes p fs → (used q p fs).ctrl + ctrl_need (proc_at q p) ≤ sizes.ctrl
has_words q sizes p [] h = h.1
has_words q sizes p (Held c x w xs cs ∷ fs) h = h.0.1

pub depth_shown : (s : SourceOf) (ns : List Need) (m : Meaning) → BelongsTo s ns m → m.ending ≡ None → m.ctrl < 2 ^ 32
    → (length m.waiting.items + 1 < 2 ^ 32) × (depth_at (seen m).stage ≡ length m.waiting.items + 1)
unfolding seen
depth_shown s ns m b e lt =
    let q = seen_program m.program in
    let fs = frames_in m in
    let P : Option Ending → Type 0 = λ o. StageRoom q (sizes_of m) (stage_by o m) in
    let room = subst P e (seen_fits s ns m b).1 in
    let words : (used q m.procedure fs).ctrl + ctrl_need (proc_at q m.procedure) ≤ m.ctrl = has_words q (sizes_of m) m.procedure fs room.1 in
    let twice : 2 * (length fs + 1) ≤ (used q m.procedure fs).ctrl = two_words q m.procedure fs in
    let same : length fs ≡ length m.waiting.items =
    length-back (map (λ v. v.1) m.variables.items) (kept_frames m.waiting.items) ∙ length-map (reverse m.waiting.items) frame_of
    ∙ length-reverse m.waiting.items in
    (omega (arith, words, twice, same, lt), ap (λ (o : Option Ending). depth_at (stage_by o m)) e ∙ ap (λ (n : ℕ). n + 1) same)
