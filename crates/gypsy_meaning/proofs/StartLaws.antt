-- The start of a run.
use Rattle.std.proofs.Common.{◌≡◌, ℕ, ◌+◌, ◌<◌, ◌≤◌, List, [], ◌∷◌, map, length, reverse, None, refl, sym, ap, ap₂, subst, ◌∙◌, arith, length-append}
use Rattle.std.proofs.lemmas.List.{length-map}
use Rattle.stack_text.{specs.declared.name.Name.Name, specs.declared.shape.Shape.Shape, specs.declared.value.Value.Value, specs.Values.ValueOf}
use Rattle.gypsy_syntax.{specs.Sources.SourceOf, specs.Programs.{Program, body_of, proc_at, shapes_of, words_of}, specs.Resolved.program_of}
use Rattle.gypsy_syntax.specs.ValuesFit.{VarsFit}
use Rattle.gypsy_check.specs.Accepted.{IsAccepted}
use Rattle.gypsy_space.{specs.Costs.start_tally, specs.Events.{AreNeeds, AreSmall}, specs.Needs.{main_used, stack_sizes}, specs.Nodes.seen_program}
use Rattle.gypsy_space.{specs.declared.need.Need.Need, specs.declared.program.Program.Program as Code}
use Rattle.gypsy_meaning.{specs.Views.Belongs.{BelongsTo, IsKept}, specs.Views.Held.{AreActivations, IsHeld}, specs.Views.Named.{proc_names, seen_names}}
use Rattle.gypsy_meaning.{specs.Views.Named.{unnamed, variables_of}, specs.Views.Running.{frames_in, frames_of, kept_frames, seen, sizes_of, stage_by}}
use Rattle.gypsy_meaning.{specs.Views.Work.work_of, specs.declared.names.Names.Names, specs.declared.running.Frame.Frame as Waiting}
use Rattle.gypsy_meaning.{specs.declared.running.Meaning.Meaning, proofs.NamedLaws.{number_same, variables_same, variables_sized}}
use Rattle.gypsy_semantics.{specs.Room.Suffices, specs.Calls.main_start, specs.Machine.{At, Frame, Item, open_on, start, used}, specs.Views.RunView.Running}
use Rattle.gypsy_semantics.{specs.Views.RunView.{after, opening}, proofs.Keeping.start_fits}

shapes_are : (shapes : List Shape) (x : List ValueOf) → VarsFit shapes x → map (λ v. v.shape) x ≡ shapes
shapes_are [] [] h = refl
shapes_are [] (v ∷ x) h = absurd h
shapes_are (s ∷ shapes) [] h = absurd h
shapes_are (s ∷ shapes) (v ∷ x) h = ap₂ (λ (a : Shape) (b : List Shape). a ∷ b) h.0 (shapes_are shapes x h.2)

-- a program that is made of an accepted source, with the source's names
module _ (s : SourceOf) (accepted : IsAccepted s) (code : Code) (program : seen_program code ≡ program_of s) where
  main_vars : (x : List ValueOf) → VarsFit (proc_at (program_of s) (program_of s).main).formals x
      → VarsFit (shapes_of (proc_at (seen_program code) code.main)) (main_start (seen_program code) x)
  main_vars x fit =
      let q = program_of s in
      let P : Program → Type 0 = λ r. VarsFit (shapes_of (proc_at r r.main)) (main_start r x) in
      subst P (sym program) (start_fits q (stack_sizes 0 0) accepted.fits x fit).0

  pub main_words : (vars : List (Name × Value)) (x : List ValueOf) → VarsFit (proc_at (program_of s) (program_of s).main).formals x
      → map (λ v. v.1) vars ≡ main_start (seen_program code) x →
      words_of (map (λ v. v.shape) (map (λ v. v.1) vars)) ≤ 65536
  main_words vars x fit is =
      let shapes = shapes_of (proc_at (seen_program code) code.main) in
      let same : map (λ v. v.shape) (map (λ v. v.1) vars) ≡ shapes =
      ap (map (λ v. v.shape)) is ∙ shapes_are shapes (main_start (seen_program code) x) (main_vars x fit) in
      let P : Program → Type 0 = λ r. words_of (shapes_of (proc_at r r.main)) ≤ 65536 in
      let Q : List Shape → Type 0 = λ l. words_of l ≤ 65536 in
      subst Q (sym same) (subst P (sym program) (accepted.fits.procs (program_of s).main).words)

  pub main_there : (names : List Names) → map seen_names names ≡ map proc_names s.procs → code.main < length names
  main_there names same =
      let number : length names ≡ length code.procedures.items = number_same s names same code program in
      let procs : length (seen_program code).procs ≡ length code.procedures.items = length-map code.procedures.items _ in
      let P : Program → Type 0 = λ r. r.main < length r.procs in
      let there : code.main < length (seen_program code).procs = subst P (sym program) accepted.fits.main in
      omega (arith, number, procs, there)

  pub main_sized : (names : List Names) (x : List ValueOf) → map seen_names names ≡ map proc_names s.procs
      → VarsFit (proc_at (program_of s) (program_of s).main).formals x →
      length (variables_of names code.main) ≡ length x + length (proc_at (seen_program code) code.main).locals
  main_sized names x same fit =
      let formals = (proc_at (program_of s) (program_of s).main).formals in
      let number : length formals ≡ length x = sym (ap length (shapes_are formals x fit)) ∙ length-map x (λ v. v.shape) in
      let P : Program → Type 0 = λ r. length (variables_of names r.main) ≡ length x + length (proc_at r r.main).locals in
      let q = program_of s in
      let sized : length (variables_of names q.main) ≡ length formals + length (proc_at q q.main).locals =
      ap length (variables_same s names same q.main) ∙ variables_sized s q.main in
      subst P (sym program) (omega (arith, sized, number))

same_stage : (p p' : ℕ) (x x' : List ValueOf) (w w' : List Item) (fs fs' : List Frame) → p ≡ p' → x ≡ x' → w ≡ w' → fs ≡ fs'
    → Running (At p x w fs start_tally) ≡ Running (At p' x' w' fs' start_tally)
same_stage p p' x x' w w' fs fs' a b c d = cc

module _ (s : SourceOf) (m : Meaning) (accepted : IsAccepted s) (program : seen_program m.program ≡ program_of s)
    (names : map seen_names m.names.items ≡ map proc_names s.procs)
    (fit : VarsFit (proc_at (program_of s) (program_of s).main).formals m.values.items) (procedure : m.procedure ≡ m.program.main)
    (vars : map (λ v. v.1) m.variables.items ≡ main_start (seen_program m.program) m.values.items)
    (named : map (λ v. v.0) m.variables.items ≡ variables_of m.names.items m.program.main)
    (work : work_of m.work ≡ open_on (body_of (seen_program m.program) m.program.main) []) (waiting : m.waiting.items ≡ []) (ending : m.ending ≡ None) where
  pub opens : m.steps ≡ 0 → m.counted ≡ 0 → m.cost ≡ 0 → seen m ≡ opening (program_of s) (sizes_of m) m.values.items
  unfolding seen
  opens steps counted cost =
      let q = seen_program m.program in
      let v = m.values.items in
      let stage : stage_by m.ending m ≡ Running (start (program_of s) v) =
      ap (λ o. stage_by o m) ending
      ∙ same_stage m.procedure m.program.main (map (λ v. v.1) m.variables.items) (main_start q v) (work_of m.work)
      (open_on (body_of q m.program.main) []) (frames_in m) []
      procedure vars work (ap (frames_of (map (λ v. v.1) m.variables.items)) waiting)
      ∙ ap (λ (r : Program). Running (start r v)) program in
      λ i. record {
        program = program i;
        sizes = sizes_of m;
        values = v;
        stage = stage i;
        steps = steps i;
        counted = counted i;
        cost = cost i;
      }

  held : m.used_temp ≡ words_of (map (λ v. v.shape) (map (λ v. v.1) m.variables.items)) → m.used_ctrl ≡ length m.variables.items + 2 → IsHeld m
  unfolding main_used
  held temp ctrl =
      let q = seen_program m.program in
      let p = proc_at q m.program.main in
      let shapes : map (λ v. v.shape) (map (λ v. v.1) m.variables.items) ≡ shapes_of p =
      ap (map (λ v. v.shape)) vars ∙ shapes_are (shapes_of p) (main_start q m.values.items) (main_vars s accepted m.program program m.values.items fit) in
      let a : length (map (λ v. v.shape) (map (λ v. v.1) m.variables.items)) ≡ length m.variables.items =
      length-map (map (λ v. v.1) m.variables.items) (λ v. v.shape) ∙ length-map m.variables.items (λ v. v.1) in
      let b : length (shapes_of p) ≡ length p.formals + length (map (λ (v : ValueOf). v.shape) p.locals) =
      length-append p.formals (map (λ v. v.shape) p.locals) in
      let d : length (map (λ (v : ValueOf). v.shape) p.locals) ≡ length p.locals = length-map p.locals (λ v. v.shape) in
      let number : m.used_ctrl ≡ 2 + (length p.formals + length p.locals) = omega (arith, a, b, d, ctrl, ap length shapes) in
      let P : List Waiting → Type 0 = λ fs. AreActivations q m.names.items (reverse fs) in
      record {
        top = record {
          named = named ∙ ap (variables_of m.names.items) (sym procedure);
          used_words =
              ap (λ (fs : List Waiting). used q m.procedure (kept_frames fs)) waiting
              ∙ ap₂ stack_sizes (sym number) (ap words_of (sym shapes) ∙ sym temp);
        };
        waiting = subst P (sym waiting) tt;
      }

  pub belongs : (ns : List Need) → AreNeeds (program_of s) ns → AreSmall ns → Suffices (program_of s) (sizes_of m) → m.unnamed ≡ unnamed → m.steps ≡ 0
      → m.counted ≡ 0 → m.cost ≡ 0 →
      m.used_temp ≡ words_of (map (λ v. v.shape) (map (λ v. v.1) m.variables.items)) → m.used_ctrl ≡ length m.variables.items + 2 → BelongsTo s ns m
  unfolding after
  belongs ns needs small suffices plain steps counted cost temp ctrl =
      let P : _ → Type 0 = IsKept m in
      record {
        accepted = accepted;
        needs_are = needs;
        needs_small = small;
        values_fit = fit;
        sizes_suffice = suffices;
        number = 0;
        run = opens steps counted cost;
        names = names;
        unnamed_are = plain;
        kept = subst P (sym ending) (held temp ctrl);
      }
