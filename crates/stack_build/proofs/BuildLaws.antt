-- What is built of a source, and why nothing is.
use Rattle.std.{proofs.Common.{◌≡◌, ◌<◌, ◌≤◌, ℕ, List, [], Bool, cond, Option, Some, None, Result, Ok, Err, sym, ap, subst, ◌∙◌}, specs.Prelude.◌^◌}
use Rattle.std.proofs.lemmas.Bool.{lt-ltb, le-ltb}
use Rattle.stack_text.{specs.declared.breach.Breach.Breach, specs.Breaches.least, specs.Gives.FailsUnless, specs.Results.◌>>=◌}
use Rattle.fm_image.{specs.Image.ImageOf, specs.Spelling.spelling}
use Rattle.piton_syntax.specs.Systems.{SystemOf}
use Rattle.piton_check.{specs.PitonChecking.{CheckedOf, IsChecked}, specs.Instruction.SystemView}
use Rattle.piton_semantics.{specs.Fits.system_in, specs.Placed.placed}
use Rattle.piton_linker.{specs.declared.fault.LinkFault.LinkFault, specs.Layouts.IsFaultUnless}
use Rattle.piton_linker.specs.declared.fault.LinkFault.TheVariants as link
use Rattle.gypsy_syntax.{specs.declared.fault.GypsyFault.GypsyFault, specs.GypsyReading.gypsy_in, specs.Sources.SourceOf, specs.Resolved.program_of}
use Rattle.gypsy_syntax.specs.declared.fault.GypsyFault.TheVariants as gypsy
use Rattle.gypsy_syntax.specs.GypsyReading as syntax
use Rattle.gypsy_check.{specs.declared.fault.CheckFault.CheckFault, specs.GypsyChecking.IsLeastUnless, specs.Rules.violations}
use Rattle.gypsy_check.specs.declared.fault.CheckFault.TheVariants as check
use Rattle.gypsy_space.specs.Needs.{StackSizes, stack_sizes}
use Rattle.gypsy_codegen.{specs.Generated.generated_view, specs.Generation.generation, specs.declared.fault.GenFault.GenFault}
use Rattle.gypsy_codegen.specs.Generation as generating
use Rattle.gypsy_codegen.specs.declared.fault.GenFault.TheVariants as gen
use Rattle.stack_build.{specs.declared.fault.BuildFault.BuildFault, specs.Image.{image_on, image_of}, specs.Build.{reading_fault, checking_fault}}
use Rattle.stack_build.specs.Build.{generating_fault, linking_fault, fault_of, accepted_unless, accepted_by, accepted_source, generated_by, built_with}
use Rattle.stack_build.specs.Build.{placed_size, linked_of, source_built, built}
use Rattle.stack_build.specs.declared.fault.BuildFault.TheVariants as fault

-- ---- reading and checking

pub reading_fails : (memory : Type 0) (e : GypsyFault) (text : List ℕ) → FailsUnless memory (syntax.fault_of e) (gypsy_in text)
    → FailsUnless memory (fault_of (reading_fault e)) (accepted_source text)
unfolding accepted_source
reading_fails memory (gypsy.Text rule place) text h = ap accepted_by h
reading_fails memory (gypsy.Form rule place) text h = ap accepted_by h
reading_fails memory gypsy.Memory text h = h

pub checking_fails : (memory : Type 0) (e : CheckFault) (text : List ℕ) (source : SourceOf) → gypsy_in text ≡ Ok source
    → IsLeastUnless memory source e → FailsUnless memory (fault_of (checking_fault e)) (accepted_source text)
unfolding accepted_source
checking_fails memory (check.Violation rule place) text source h e = ap accepted_by h ∙ ap (accepted_unless source) e
checking_fails memory check.Memory text source h e = e

pub accepted_found : (text : List ℕ) (source : SourceOf) → gypsy_in text ≡ Ok source → violations source ≡ [] → accepted_source text ≡ Ok source
unfolding accepted_source
accepted_found text source h e = ap accepted_by h ∙ ap (λ (breaches : List Breach). accepted_unless source (least breaches)) e

-- ---- generating and linking

pub generating_fails : (memory : Type 0) (e : GenFault) (s : SourceOf) (sizes : StackSizes) (base : ℕ)
    → FailsUnless memory (generating.fault_of e) (generation s sizes base) → FailsUnless memory (fault_of (generating_fault e)) (source_built s sizes base)
unfolding source_built
generating_fails memory gen.Size s sizes base h = ap (λ (r : Result SystemOf GenFault). generated_by r >>= linked_of s sizes base) h
generating_fails memory (gen.Control need) s sizes base h = ap (λ (r : Result SystemOf GenFault). generated_by r >>= linked_of s sizes base) h
generating_fails memory (gen.Temporary need) s sizes base h = ap (λ (r : Result SystemOf GenFault). generated_by r >>= linked_of s sizes base) h
generating_fails memory (gen.Words count) s sizes base h = ap (λ (r : Result SystemOf GenFault). generated_by r >>= linked_of s sizes base) h
generating_fails memory gen.Memory s sizes base h = h

module _ (s : SourceOf) (sizes : StackSizes) (base : ℕ) (out : SystemOf) (made : generation s sizes base ≡ Ok out) where
  built_large : 2 ^ 20 < placed_size s sizes base → source_built s sizes base ≡ Err (fault.Words (placed_size s sizes base))
  unfolding source_built linked_of
  built_large large =
      ap (λ (r : Result SystemOf GenFault). generated_by r >>= linked_of s sizes base) made
      ∙ ap (λ (b : Bool). cond b (Err (fault.Words (placed_size s sizes base))) (Ok (built_with s sizes base out)))
      (lt-ltb (2 ^ 20) (placed_size s sizes base) large)

  pub built_small : placed_size s sizes base ≤ 2 ^ 20 → source_built s sizes base ≡ Ok (built_with s sizes base out)
  unfolding source_built linked_of
  built_small small =
      ap (λ (r : Result SystemOf GenFault). generated_by r >>= linked_of s sizes base) made
      ∙ ap (λ (b : Bool). cond b (Err (fault.Words (placed_size s sizes base))) (Ok (built_with s sizes base out)))
      (le-ltb (2 ^ 20) (placed_size s sizes base) small)

  pub linking_fails : (memory : Type 0) (e : LinkFault) (system : SystemView) → system ≡ generated_view (program_of s) sizes base
      → IsFaultUnless memory system e → FailsUnless memory (fault_of (linking_fault e)) (source_built s sizes base)
  linking_fails memory (link.Large words) system is h =
      let count : words ≡ placed_size s sizes base = h.0 ∙ ap (λ (v : SystemView). (placed v).size) is in
      let large : 2 ^ 20 < placed_size s sizes base = subst (λ (v : SystemView). 2 ^ 20 < (placed v).size) is h.1 in
      built_large large ∙ ap (λ (n : ℕ). Err (fault.Words n)) (sym count)
  linking_fails memory link.Memory system is h = h

-- what was made is what is to be built
pub built_is : (s : SourceOf) (sizes : StackSizes) (base : ℕ) (piton : CheckedOf) (image : ImageOf) (bytes : List ℕ)
    → generation s sizes base ≡ Ok piton.system → IsChecked piton →
    system_in piton ≡ generated_view (program_of s) sizes base → (placed (system_in piton)).size ≤ 2 ^ 20 → image ≡ image_on s (system_in piton)
    → bytes ≡ spelling image →
    source_built s sizes base ≡ Ok record { piton = piton; image = image; bytes = bytes }
unfolding image_of
built_is s sizes base piton image bytes made is view small image_is bytes_are =
    let names = sym is.names in
    let same : image_of s sizes base ≡ image = ap (image_on s) (sym view) ∙ sym image_is in
    let file : spelling (image_of s sizes base) ≡ bytes = ap spelling same ∙ sym bytes_are in
    built_small s sizes base piton.system made (subst (λ (v : SystemView). (placed v).size ≤ 2 ^ 20) view small)
    ∙ (λ i. Ok record { piton = record { system = piton.system; resolved = names i }; image = same i; bytes = file i })

-- ---- the whole

-- what follows a fault is that fault
stays : {X Y : Type 0} (memory : Type 0) (o : Option BuildFault) (r : Result X BuildFault) (go : X → Result Y BuildFault)
    → FailsUnless memory o r → FailsUnless memory o (r >>= go)
stays memory None r go h = h
stays memory (Some f) r go h = ap (λ (z : Result _ BuildFault). z >>= go) h

pub text_fails : (memory : Type 0) (e : BuildFault) (text : List ℕ) (ctrl temp base : ℕ) → FailsUnless memory (fault_of e) (accepted_source text)
    → FailsUnless memory (fault_of e) (built text ctrl temp base)
unfolding built
text_fails memory e text ctrl temp base h =
    stays memory (fault_of e) (accepted_source text) (λ source. source_built source (stack_sizes ctrl temp) base) h

pub text_builds : (text : List ℕ) (ctrl temp base : ℕ) (source : SourceOf) → accepted_source text ≡ Ok source
    → built text ctrl temp base ≡ source_built source (stack_sizes ctrl temp) base
unfolding built
text_builds text ctrl temp base source h = ap (λ (r : Result SourceOf BuildFault). r >>= λ source. source_built source (stack_sizes ctrl temp) base) h
