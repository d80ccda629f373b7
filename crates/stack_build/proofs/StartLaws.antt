-- A run of what is built of an accepted source begins with the words of main's variables.
use Rattle.std.proofs.Common.{◌≡◌, ◌≤◌, ℕ, Bool, true, false, cond, List, ◌++◌, length, drop, map, Option, Some, None, Result, Ok, Err, refl, sym, ap, subst}
use Rattle.std.{proofs.Common.{◌∙◌, arith}, specs.Prelude.{◌^◌, if◌then◌else◌, IfSome, IsTrue, nat_lt}, proofs.Math.Seq.drop-append_seam}
use Rattle.std.proofs.lemmas.Bool.{ltb-false}
use Rattle.stack_text.{specs.Results.{◌>>=◌, unless_fault}, specs.declared.shape.Shape.Shape, specs.Values.ValueOf}
use Rattle.fm_image.{specs.Image.ImageOf, specs.Limits.is_image}
use Rattle.stack_text.specs.Gives as common
use Rattle.fm_loader.{specs.declared.fault.ValuesFault.ValuesFault, specs.declared.fault.ValuesFault.TheVariants.{Refused, Memory}}
use Rattle.fm_loader.{specs.Rules.fault_of as values_rule, specs.Values.values_in}
use Rattle.piton_words.specs.declared.word.Word.{Word}
use Rattle.piton_check.specs.Instruction.{SystemView}
use Rattle.piton_semantics.{specs.Fits.{IsInitialStack, system_in}, specs.Placed.placed}
use Rattle.gypsy_syntax.{specs.Sources.SourceOf, specs.Programs.proc_at, specs.Resolved.program_of, specs.ValuesFit.VarsFit}
use Rattle.gypsy_check.specs.Accepted.{IsAccepted}
use Rattle.gypsy_space.specs.Needs.{StackSizes, main_need}
use Rattle.gypsy_semantics.{specs.Calls.main_start, specs.Views.RunView.opening}
use Rattle.gypsy_codegen.{specs.declared.fault.GenFault.GenFault, specs.Acceptable.GeneratedIsAcceptable, specs.Generation.size_fault}
use Rattle.gypsy_codegen.{specs.Generated.generated_view, specs.Text.generated, specs.Whole.SizesFit, specs.WordsOf.{words_of_values, zero_value}}
use Rattle.gypsy_codegen.{proofs.AnswerLaws.limits_fit, proofs.CallLaws.values-split, proofs.StackLaws.values_words}
use Rattle.stack_build.{specs.declared.fault.BuildFault.BuildFault, specs.Build.{BuiltOf, generated_by, built_with, placed_size, linked_of, source_built}}
use Rattle.stack_build.{specs.Image.{formal_slots, image_of}, specs.Implements.FitsFormals, proofs.Initial.is_initial, proofs.MainLaws.zero_values}
use Rattle.stack_build.{proofs.TakesLaws.takes_values, specs.declared.start_fault.StartFault.StartFault}
use Rattle.stack_build.{specs.declared.start_fault.StartFault.TheVariants.Build, specs.Starts.{values_fault, start_fault_of, or_build, or_values, with_text}}
use Rattle.stack_build.specs.Starts.{built_start, with_values, main_words, CanRun, shortage_of, unless_short, gypsy_start}
use Rattle.stack_build.specs.declared.fault.BuildFault.TheVariants as fault

-- 1. What is built.

-- the sizes suffice, it has a place in memory, and its parts are those of the source
pub record IsMade (s : SourceOf) (sizes : StackSizes) (b : BuiltOf) : Type 0 where
  pub sizes_fit : SizesFit (program_of s) sizes
  pub small : (placed (system_in b.piton)).size ≤ 2 ^ 20
  pub view : system_in b.piton ≡ generated_view (program_of s) sizes 0
  pub image : image_of s sizes 0 ≡ b.image

module _ (acceptable : GeneratedIsAcceptable) (s : SourceOf) (sizes : StackSizes) (accepted : IsAccepted s) (b : BuiltOf) where
  pub made : source_built s sizes 0 ≡ Ok b → IsMade s sizes b
  unfolding source_built linked_of
  made = by_fault (size_fault (program_of s) sizes) refl
    where
      by_size : SizesFit (program_of s) sizes → system_in (built_with s sizes 0 (generated s sizes 0)).piton ≡ generated_view (program_of s) sizes 0
          → (large : Bool) → nat_lt (2 ^ 20) (placed_size s sizes 0) ≡ large →
          cond large (Err (fault.Words (placed_size s sizes 0))) (Ok (built_with s sizes 0 (generated s sizes 0))) ≡ Ok b → IsMade s sizes b
      by_size suffice view true e h = absurd cc
      by_size suffice view false e h =
          let same : built_with s sizes 0 (generated s sizes 0) ≡ b = cc in
          let small : placed_size s sizes 0 ≤ 2 ^ 20 = ltb-false (2 ^ 20) (placed_size s sizes 0) e in
          subst (IsMade s sizes) same (record {
            sizes_fit = suffice;
            small = subst (λ (v : SystemView). (placed v).size ≤ 2 ^ 20) (sym view) small;
            view = view;
            image = refl;
          })

      by_fault : (f : Option GenFault) → size_fault (program_of s) sizes ≡ f
          → (generated_by (unless_fault f (generated s sizes 0)) >>= linked_of s sizes 0) ≡ Ok b → IsMade s sizes b
      by_fault None e h =
          let fit = limits_fit (program_of s) sizes 0 (omega arith) e in
          let good = acceptable s sizes 0 accepted fit in
          by_size fit.sizes_fit good.view (nat_lt (2 ^ 20) (placed_size s sizes 0)) refl h
      by_fault (Some f) e h = absurd cc

-- 2. Its initial stack.

drop_front : {A : Type 0} (a b : List A) (n : ℕ) → n ≡ length a → drop n (a ++ b) ≡ b
drop_front a b n e = ap (λ (k : ℕ). drop k (a ++ b)) e ∙ drop-append_seam a b

module _ (s : SourceOf) (sizes : StackSizes) (accepted : IsAccepted s) (values : List ValueOf) (fits : FitsFormals s values) where
  -- main's own formals and locals
  abbrev shapes : List Shape
  shapes = (proc_at (program_of s) (program_of s).main).formals

  abbrev locals : List ValueOf
  locals = (proc_at (program_of s) (program_of s).main).locals

  zeros : VarsFit shapes (map zero_value shapes)
  zeros = zero_values shapes (accepted.fits.procs (program_of s).main).formals

  may_begin : IsInitialStack (generated_view (program_of s) sizes 0) (main_words s values)
  unfolding main_start
  may_begin = is_initial (generated_view (program_of s) sizes 0) shapes (map zero_value shapes) values locals zeros fits
      (accepted.fits.procs (program_of s).main).locals refl

  words_are : with_values values (generated_view (program_of s) sizes 0).stack ≡ main_words s values
  unfolding main_start
  words_are =
      let same : length (words_of_values values) ≡ length (words_of_values (map zero_value shapes)) =
      values_words shapes values fits ∙ sym (values_words shapes (map zero_value shapes) zeros) in
      ap (λ (ws : List Word). words_of_values values ++ ws)
      (ap (drop (length (words_of_values values))) (values-split (map zero_value shapes) locals)
      ∙ drop_front (words_of_values (map zero_value shapes)) (words_of_values locals) (length (words_of_values values)) same)
      ∙ sym (values-split values locals)

-- 3. Together.

pub can_run : GeneratedIsAcceptable → (s : SourceOf) (sizes : StackSizes) (b : BuiltOf) (text : List ℕ) (values : List ValueOf) → IsAccepted s
    → source_built s sizes 0 ≡ Ok b → IsTrue (is_image b.image) →
    values_in b.image.slots text ≡ Ok values → CanRun s (record { checked = b.piton; image = b.image; values = values })
can_run acceptable s sizes b text values accepted is image read =
    let m = made acceptable s sizes accepted b is in
    let fits : FitsFormals s values = takes_values s sizes 0 text values accepted (subst (λ (i : ImageOf). IsTrue (is_image i)) (sym m.image) image)
    (subst (λ (i : ImageOf). values_in i.slots text ≡ Ok values) (sym m.image) read) in
    record {
      small = m.small;
      words = ap (λ (v : SystemView). with_values values v.stack) m.view ∙ words_are s sizes accepted values fits;
      initial = subst (λ (v : SystemView). IsInitialStack v (main_words s values)) (sym m.view) (may_begin s sizes accepted values fits);
    }

-- values that break a rule
pub values_failed : (memory : Type 0) (s : SourceOf) (sizes : StackSizes) (b : BuiltOf) (text : List ℕ) (error : ValuesFault)
    → source_built s sizes 0 ≡ Ok b → common.FailsUnless memory (values_rule error) (values_in b.image.slots text)
    → common.FailsUnless memory (start_fault_of (values_fault error)) (built_start s sizes text)
unfolding built_start
values_failed memory s sizes b text (Refused rule place) is fails =
    ap (λ (r : Result BuiltOf BuildFault). or_build r >>= with_text text) is
    ∙ ap (λ (v : Result (List ValueOf) (ℕ × ℕ)). or_values v >>= λ values. Ok (record { checked = b.piton; image = b.image; values = values })) fails
values_failed memory s sizes b text Memory is fails = fails

-- 4. A stack that is smaller than main itself needs is a fault of the sizes, and no lack of memory.

first_of_two : (a b : Bool) (m n : ℕ) → IfSome (if a then Some (fault.Control m) else (if b then Some (fault.Temporary n) else None))
    (λ f. start_fault_of (Build f) ≡ Some (Build f))
first_of_two true b m n = refl
first_of_two false true m n = refl
first_of_two false false m n = tt

shortage_known : (need sizes : StackSizes) → IfSome (shortage_of need sizes) (λ f. start_fault_of (Build f) ≡ Some (Build f))
shortage_known need sizes = first_of_two (nat_lt sizes.ctrl need.ctrl) (nat_lt sizes.temp need.temp) need.ctrl need.temp

pub short_fails : (memory : Type 0) (s : SourceOf) (sizes : StackSizes) (text : List ℕ) (f : BuildFault)
    → shortage_of (main_need (program_of s)) sizes ≡ Some f → common.FailsUnless memory (start_fault_of (Build f)) (gypsy_start s sizes text)
unfolding gypsy_start
short_fails memory s sizes text f short =
    let known : start_fault_of (Build f) ≡ Some (Build f) =
    subst (λ (o : Option BuildFault). IfSome o (λ g. start_fault_of (Build g) ≡ Some (Build g))) short
    (shortage_known (main_need (program_of s)) sizes) in
    let fails : gypsy_start s sizes text ≡ Err (Build f) =
    ap (λ (o : Option BuildFault). unless_short o (or_values (values_in (formal_slots s) text)
    >>= λ values. Ok (opening (program_of s) sizes values))) short in
    subst (λ (o : Option StartFault). common.FailsUnless memory o (gypsy_start s sizes text)) (sym known) fails
