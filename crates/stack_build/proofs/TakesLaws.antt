-- Values that are read for the image of a source fit the formals of its main procedure.
use Rattle.std.proofs.Common.{◌≡◌, ◌≤◌, ◌-◌, ℕ, ℤ, pos, negsuc, true, eqb, List, [], ◌∷◌, length, map, Option, Result, Ok, Err, IfOk, refl, sym, ap, subst, ◌∙◌}
use Rattle.std.{specs.Prelude.IsTrue, specs.List.{list_all, IsDistinct}, specs.Str.bytes_eq, proofs.lemmas.Bool.{and_parts, and_from, eqb-true}}
use Rattle.stack_text.{specs.declared.shape.Kind.Kind, specs.declared.shape.Kind.TheVariants.{Integer, Boolean, Character}, specs.declared.shape.Shape.Shape}
use Rattle.stack_text.specs.Values.{ValueOf, item_count, is_item, is_value}
use Rattle.fm_words.specs.Word.{is_int}
use Rattle.fm_image.{specs.declared.slot.Slot.Slot, specs.Limits.is_image}
use Rattle.fm_loader.{specs.declared.fault.ValuesFault.ValuesFault, specs.Rules.GivesValuesUnless, specs.Values.{values_in, HaveOwnNames}}
use Rattle.fm_loader.{proofs.ImageLaws.own_names, proofs.ValuesLaws.{values_fit, values_are, values_have_32_bits}}
use Rattle.gypsy_syntax.{specs.declared.literal.Decl.Decl, specs.Sources.{ProcOf, SourceOf}, specs.Programs.{Proc, proc_at}, specs.ProgramFits.Each}
use Rattle.gypsy_syntax.{specs.Ranges.is_in_range, specs.ValuesFit.{ValueFits, VarsFit}, specs.Resolved.{shape_of, program_of}}
use Rattle.gypsy_check.specs.Accepted.{IsAccepted}
use Rattle.gypsy_space.specs.Needs.{StackSizes, stack_sizes}
use Rattle.gypsy_codegen.specs.Generated.{generated_view}
use Rattle.stack_build.{specs.Formals.{formals_in, shown_formals, shown_conditions}, specs.Image.{slots_from, formal_slots, image_of}}
use Rattle.stack_build.{specs.Internal.Showing.{HaveShortArrays, shapes_in, IsShowable}, specs.Implements.FitsFormals, proofs.ImageLimits.names-slots_from}
use Rattle.stack_build.{proofs.ImageLimits.generated_shows, proofs.MainLaws.main_is}

item_ranges : (k : Kind) (z : ℤ) → is_item k z ≡ true → is_int z ≡ true → is_in_range k z ≡ true
item_ranges Integer (pos n) h i = i
item_ranges Integer (negsuc n) h i = i
item_ranges Boolean (pos n) h i = h
item_ranges Boolean (negsuc n) h i = h
item_ranges Character (pos n) h i = h
item_ranges Character (negsuc n) h i = h

items_range : (k : Kind) (items : List ℤ) → list_all (λ item. is_item k item) items ≡ true → list_all is_int items ≡ true
    → list_all (is_in_range k) items ≡ true
items_range k [] h i = refl
items_range k (z ∷ items) h i =
    let p = and_parts (is_item k z) (list_all (λ item. is_item k item) items) h in
    let q = and_parts (is_int z) (list_all is_int items) i in
    and_from _ _ (item_ranges k z p.0 q.0) (items_range k items p.1 q.1)

value_fits : (v : ValueOf) → v.shape.length ≤ 4096 → is_value v.shape v.items ≡ true → list_all is_int v.items ≡ true → ValueFits v
value_fits v few h i =
    let p = and_parts (eqb (length v.items) (item_count v.shape)) (list_all (λ item. is_item v.shape.kind item) v.items) h in
    record { few = few; number = eqb-true (length v.items) (item_count v.shape) p.0; items = items_range v.shape.kind v.items p.1 i }

vars_fit : (shapes : List Shape) (values : List ValueOf) → Each (λ s. s.length ≤ 4096) shapes → map (λ value. value.shape) values ≡ shapes →
    list_all (λ value. is_value value.shape value.items) values ≡ true → list_all (λ value. list_all is_int value.items) values ≡ true → VarsFit shapes values
vars_fit [] [] few e h i = tt
vars_fit [] (v ∷ values) few e h i = absurd cc
vars_fit (s ∷ shapes) [] few e h i = absurd cc
vars_fit (s ∷ shapes) (v ∷ values) few e h i =
    let first : v.shape ≡ s = cc in
    let rest : map (λ value. value.shape) values ≡ shapes = cc in
    let p = and_parts (is_value v.shape v.items) (list_all (λ value. is_value value.shape value.items) values) h in
    let q = and_parts (list_all is_int v.items) (list_all (λ value. list_all is_int value.items) values) i in
    (first, value_fits v (subst (λ (t : Shape). t.length ≤ 4096) (sym first) few.0) p.0 q.0, vars_fit shapes values few.1 rest p.1 q.1)

shapes-slots_from : (a : ℕ) (ds : List Decl) → map (λ (slot : Slot). slot.shape) (slots_from a ds) ≡ shapes_in ds
shapes-slots_from a [] = refl
shapes-slots_from a (d ∷ ds) = ap (λ (shapes : List Shape). shape_of d.shape ∷ shapes) (shapes-slots_from (a - item_count (shape_of d.shape)) ds)

-- the formals of an accepted source have these shapes
formals_are : (s : SourceOf) → IsAccepted s → (proc_at (program_of s) (program_of s).main).formals ≡ shapes_in (shown_formals s)
formals_are s accepted =
    let main = main_is s accepted in
    ap (λ (p : Proc). p.formals) main.1.at ∙ ap (λ (o : Option ProcOf). shapes_in (formals_in o)) (sym main.1.found)

-- values that are read for slots of main's formals, wherever these stand
takes : (s : SourceOf) (a : ℕ) (text : List ℕ) (values : List ValueOf) → IsAccepted s → HaveOwnNames (slots_from a (shown_formals s)) →
    values_in (slots_from a (shown_formals s)) text ≡ Ok values → FitsFormals s values
takes s a text values accepted own read =
    let slots : List Slot = slots_from a (shown_formals s) in
    let q = program_of s in
    let formals = formals_are s accepted in
    let here = accepted.fits.procs q.main in
    let shapes : map (λ value. value.shape) values ≡ (proc_at q q.main).formals =
    values_fit slots text values read ∙ shapes-slots_from a (shown_formals s) ∙ sym formals in
    vars_fit (proc_at q q.main).formals values here.formals shapes (values_are slots text values own read) (values_have_32_bits slots text values read)

pub takes_values : (s : SourceOf) (sizes : StackSizes) (base : ℕ) (text : List ℕ) (values : List ValueOf) → IsAccepted s
    → IsTrue (is_image (image_of s sizes base)) →
    values_in (image_of s sizes base).slots text ≡ Ok values → FitsFormals s values
unfolding image_of
takes_values s sizes base text values accepted image read = takes s _ text values accepted (own_names (image_of s sizes base) image) read

-- what is known of main's formals, whatever the sizes
shown_as : (s : SourceOf) → IsAccepted s → IsShowable (generated_view (program_of s) (stack_sizes 1 1) 0) (shown_formals s) (shown_conditions s)
shown_as s accepted = generated_shows s (stack_sizes 1 1) 0 (generated_view (program_of s) (stack_sizes 1 1) 0) accepted refl

pub formals_short : (s : SourceOf) → IsAccepted s → HaveShortArrays (shown_formals s)
formals_short s accepted = (shown_as s accepted).formals_short

pub formals_own_names : (s : SourceOf) → IsAccepted s → HaveOwnNames (formal_slots s)
formals_own_names s accepted = subst (IsDistinct bytes_eq) (sym (names-slots_from 0 (shown_formals s))) (shown_as s accepted).formals_differ

pub formals_take : (s : SourceOf) (text : List ℕ) (values : List ValueOf) → IsAccepted s → values_in (formal_slots s) text ≡ Ok values → FitsFormals s values
formals_take s text values accepted read = takes s 0 text values accepted (formals_own_names s accepted) read

pub fits_from : {X : Type 0} (memory : Type 0) (s : SourceOf) (slots : List Slot) (text : List ℕ) (view : X → List ValueOf)
    (result : Result X ValuesFault) → IsAccepted s → slots ≡ formal_slots s →
    GivesValuesUnless memory view result (values_in slots text) → IfOk result (λ x. FitsFormals s (view x))
fits_from memory s slots text view (Ok x) accepted is gives = formals_take s text (view x) accepted (ap (λ (z : List Slot). values_in z text) (sym is) ∙ gives)
fits_from memory s slots text view (Err fault) accepted is gives = tt
