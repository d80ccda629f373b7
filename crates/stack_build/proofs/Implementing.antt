-- The image of an accepted source does what the source means.
use Rattle.std.{proofs.Common.{◌≡◌, ℕ, List, length, map, Option, Some, refl, sym, ap, subst, ◌∙◌}, specs.Prelude.option_map, specs.List.zip}
use Rattle.std.proofs.lemmas.List.{length-map}
use Rattle.stack_text.{specs.declared.name.Named.Named, specs.declared.shape.Shape.Shape, specs.Values.ValueOf}
use Rattle.fm_image.specs.Limits.{Tables}
use Rattle.piton_check.{specs.Instruction.SystemView, specs.Sound.IsSound}
use Rattle.piton_semantics.specs.StateView.{started}
use Rattle.piton_linker.specs.Theorem.{RunsOnProcessor, PitonRunsOnProcessor}
use Rattle.gypsy_syntax.{specs.declared.literal.Decl.Decl, specs.Sources.{ProcOf, SourceOf}, specs.Programs.{Proc, Program, proc_at}, specs.Resolved.program_of}
use Rattle.gypsy_syntax.specs.ValuesFit.{VarsFit}
use Rattle.gypsy_check.specs.Accepted.{IsAccepted}
use Rattle.gypsy_space.{specs.Costs.Tally, specs.Needs.StackSizes}
use Rattle.gypsy_semantics.{specs.Calls.{CurrentCondition, main_start}, specs.Meaning.{Done, meaning}, specs.Counted.{CountedOutcome, CountedDone}}
use Rattle.gypsy_semantics.specs.Counted.{counted_meaning, tally_of}
use Rattle.gypsy_codegen.{specs.WordsOf.{words_of_values, zero_value}, specs.Generated.generated_view, specs.Whole.{RunsTo, MeaningRuns}}
use Rattle.gypsy_codegen.specs.Acceptable.{GeneratedIsAcceptable}
use Rattle.stack_build.{specs.Formals.{formals_in, formal_conditions_in, conditions_in, main_of}, specs.Image.{image_with, source_tables, image_of}}
use Rattle.stack_build.{specs.Implements.{variable_shown, way_shown, Implements}, specs.ComesTo.ComesTo, specs.Joined.GeneratedImageImplements}
use Rattle.stack_build.{specs.Internal.Showing.shapes_in, proofs.Ending.{ends_well, way_read}, proofs.Joining.image_comes, proofs.MainLaws.{IsMain, main_is}}
use Rattle.stack_build.proofs.MainLaws.{zero_values}

-- where the meaning is done, this system halts with the same
abbrev pub RunsAsMeant : Program → StackSizes → SystemView → Type 0
RunsAsMeant q sizes system =
    (v : List ValueOf) (n : ℕ) (x : List ValueOf) (c : CurrentCondition) → VarsFit (proc_at q q.main).formals v → meaning q sizes v n ≡ Done x c →
    (t : Tally) × (counted_meaning q sizes v n ≡ CountedDone x c t) × RunsTo system (started system (words_of_values (main_start q v))) x c t

-- what the image of a source shows, by its main procedure
abbrev ComesAs : Option ProcOf → Tables → SystemView → List ValueOf → List ValueOf → CurrentCondition → ℕ → Type 0
ComesAs main tables system v x c count =
    ComesTo (image_with (formals_in main) (conditions_in main) tables system) v count
    record {
      condition = Some (way_shown (formal_conditions_in main) c);
      items = map variable_shown
          (zip (map (λ (d : Decl). d.name.name) (formals_in main)) x);
    }

module _ (s : SourceOf) (sizes : StackSizes) (base : ℕ) (accepted : IsAccepted s) (sound : IsSound (generated_view (program_of s) sizes base))
    (theorem : RunsOnProcessor (generated_view (program_of s) sizes base))
    (runs : RunsAsMeant (program_of s) sizes (generated_view (program_of s) sizes base)) where
  comes : (p : ProcOf) → IsMain s p → (v x : List ValueOf) (c : CurrentCondition) (n : ℕ)
      → VarsFit (proc_at (program_of s) (program_of s).main).formals v → meaning (program_of s) sizes v n ≡ Done x c →
      (t : Tally) × (counted_meaning (program_of s) sizes v n ≡ CountedDone x c t)
      × ComesAs (Some p) (source_tables s (generated_view (program_of s) sizes base)) (generated_view (program_of s) sizes base) v x c t.count
  unfolding main_start
  comes p main v x c n fits done =
      let q : Program = program_of s in
      let r = runs v n x c fits done in
      let t : Tally = r.0 in
      let ends = ends_well q sizes accepted.fits x c t v n fits r.1 in
      let formals : (proc_at q q.main).formals ≡ shapes_in p.formals = ap (λ (z : Proc). z.formals) main.at in
      let here = accepted.fits.procs q.main in
      let zeros : VarsFit (shapes_in p.formals) (map zero_value (proc_at q q.main).formals) =
      subst (λ (shapes : List Shape). VarsFit shapes (map zero_value (proc_at q q.main).formals)) formals
      (zero_values (proc_at q q.main).formals here.formals) in
      let count : length (map (λ (m : Named). m.name) p.conds) ≡ (proc_at q q.main).conds =
      length-map p.conds (λ (m : Named). m.name) ∙ sym (ap (λ (z : Proc). z.conds) main.at) in (
        t,
        r.1,
        image_comes (generated_view q sizes base) sound theorem p.formals (conditions_in (Some p)) (source_tables s (generated_view q sizes base))
            (map (λ (m : Named). m.name) p.conds) (map zero_value (proc_at q q.main).formals) v x (proc_at q q.main).locals c t
            zeros (subst (λ (shapes : List Shape). VarsFit shapes v) formals fits)
            (subst (λ (shapes : List Shape). VarsFit shapes x) formals ends.values) here.locals refl r.2
            (way_read q (map (λ (m : Named). m.name) p.conds) c ends.way count),
      )

  pub image_implements : Implements (image_of s sizes base) s sizes
  unfolding image_of
  image_implements v x c count fits finishes =
      let main = main_is s accepted in
      let r = comes main.0 main.1 v x c finishes.bound fits finishes.done in
      let counted : Some (r.0).count ≡ Some count =
      sym (ap (λ (o : CountedOutcome). option_map (λ (t : Tally). t.count) (tally_of o)) r.1) ∙ finishes.counted in
      let same : (r.0).count ≡ count = cc in
      subst (λ (n : ℕ). ComesAs (main_of s) (source_tables s (generated_view (program_of s) sizes base)) (generated_view (program_of s) sizes base) v x
      c n) same
      (subst (λ (o : Option ProcOf). ComesAs o (source_tables s (generated_view (program_of s) sizes base)) (generated_view (program_of s) sizes base) v
      x c (r.0).count) (sym main.1.found) r.2)

-- from the three theorems
pub images_implement : MeaningRuns → GeneratedIsAcceptable → PitonRunsOnProcessor → GeneratedImageImplements
images_implement meaning_runs acceptable piton_runs s sizes base accepted limits small =
    let good = acceptable s sizes base accepted limits in
    image_implements s sizes base accepted good.sound (piton_runs (generated_view (program_of s) sizes base) good.sound small)
    (λ v n x c fits done. meaning_runs (program_of s) sizes base v n x c accepted.fits limits.sizes_fit fits done)
