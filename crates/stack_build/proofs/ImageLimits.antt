-- The image of an accepted source keeps the limits of images.
use Rattle.std.proofs.Common.{◌≡◌, ◌<◌, ◌≤◌, ◌+◌, ◌-◌, ℕ, suc, List, [], ◌∷◌, ◌++◌, true, false, Option, Some, length, map, flat_map, refl, sym, ap, ◌∙◌, subst}
use Rattle.std.{proofs.Common.{arith, true≢false}, specs.Prelude.{◌^◌, IsTrue, All}, specs.List.{list_all, AllByRecursion, IsDistinct}, specs.Str.bytes_eq}
use Rattle.std.{proofs.lemmas.Bool.{and_parts, and_from, le-leb, lt-ltb, false_from_ne_true}, proofs.lemmas.Slice.Eq.bytes_eq-Decides}
use Rattle.std.{proofs.lemmas.List.{length-map, map-append}, proofs.lemmas.List.Elements.{All-head, All-tail}}
use Rattle.stack_text.{specs.Names.is_name, specs.declared.name.Named.Named, specs.declared.shape.Shape.Shape, specs.Values.{ValueOf, item_count}}
use Rattle.stack_text.{specs.Grammar.Parts.IsNamed, proofs.SharedLaws.{rule_fails, append_none, bytes_apart}}
use Rattle.fm_image.{specs.declared.slot.Slot.Slot, specs.declared.window.Window.Window, specs.Image.ImageOf, specs.Limits.{Tables, window_of, is_size}}
use Rattle.fm_image.{specs.Limits.{is_inside, are_tables, is_slot_address, all_after, is_image}, proofs.LimitLaws.from_limits, proofs.NameLaws.fits_window}
use Rattle.fm_image.proofs.NameLaws.{slots_fit, conditions_fit}
use Rattle.display_maps.specs.Reading.{space_name}
use Rattle.piton_check.{specs.Instruction.SystemView, specs.Sound.IsSound}
use Rattle.piton_semantics.{specs.Placed.{placed, final_pc_of, areas_start, end_of}, proofs.SizeLaws.length-placed, proofs.SoundLaws.known}
use Rattle.gypsy_syntax.{specs.declared.literal.Decl.Decl, specs.Sources.{ProcOf, LocalOf, SourceOf}, specs.Programs.{Proc, Program, proc_at, words_of}}
use Rattle.gypsy_syntax.{specs.ProgramFits.Each, specs.Resolved.{shape_of, program_of, variable_types}, specs.Fits.FitsDecl}
use Rattle.gypsy_check.{specs.Accepted.IsAccepted, specs.Declarations.{variables_of, conditions_of, repeats}, specs.Rules.{type_breaches, local_breaches}}
use Rattle.gypsy_check.specs.Rules.{is_reserved, condition_breaches, variable_breaches, condition_name_breaches, size_breaches, statement_breaches}
use Rattle.gypsy_check.{specs.Rules.procedure_breaches, proofs.CleanLaws.{three, four}}
use Rattle.gypsy_space.specs.Needs.{StackSizes}
use Rattle.gypsy_codegen.{specs.WordsOf.{words_of_values, zero_value}, specs.Generated.generated_view, proofs.DeclareLaws.{Unlike, Differ, differ_source}}
use Rattle.gypsy_codegen.proofs.StackLaws.{values_words}
use Rattle.gypsy_semantics.proofs.Keeping.{vars_join, locals_fit}
use Rattle.piton_linker.specs.Layouts.{trimmed}
use Rattle.stack_build.{specs.Formals.{formals_in, conditions_in, shown_formals, shown_conditions}, specs.Image.{slots_from, image_with}}
use Rattle.stack_build.{specs.Internal.Showing.{HaveShortArrays, shapes_in, IsShowable}, proofs.Windows.shorter, proofs.MainLaws.{IsMain, main_is, zero_values}}

-- ---- names

pub distinct_names : (names : List (List ℕ)) → Differ names → IsDistinct bytes_eq names
unfolding IsDistinct
distinct_names [] h = tt
distinct_names (name ∷ names) h = (others names h.0, distinct_names names h.1)
  where
    others : (names : List (List ℕ)) → Unlike name names → AllByRecursion (λ other. bytes_eq name other ≡ false) names
    others [] u = tt
    others (other ∷ names) u = (bytes_apart other name u.0, others names u.1)

unlike_front : (name : List ℕ) (xs ys : List (List ℕ)) → Unlike name (xs ++ ys) → Unlike name xs
unlike_front name [] ys u = tt
unlike_front name (x ∷ xs) ys u = (u.0, unlike_front name xs ys u.1)

differ_front : (xs ys : List (List ℕ)) → Differ (xs ++ ys) → Differ xs
differ_front [] ys d = tt
differ_front (x ∷ xs) ys d = (unlike_front x xs ys d.0, differ_front xs ys d.1)

pub mapped_front : {X : Type 0} (f : X → List ℕ) (g : X → Named) (xs : List X) (ys : List Named) → ((x : X) → (g x).name ≡ f x)
    → map (λ (n : Named). n.name) (map g xs ++ ys) ≡ map f xs ++ map (λ (n : Named). n.name) ys
mapped_front f g [] ys same = refl
mapped_front f g (x ∷ xs) ys same = λ i. same x i ∷ mapped_front f g xs ys same i

-- of the formals, and of the formal conditions
formals_differ : (s : SourceOf) (p : ProcOf) → procedure_breaches s p ≡ [] → IsDistinct bytes_eq (map (λ (d : Decl). d.name.name) p.formals)
formals_differ s p e =
    let h = four (variable_breaches p) (condition_name_breaches p) (size_breaches p) (statement_breaches s p false p.body) e in
    let k = three (repeats 4 [] (variables_of p)) (flat_map type_breaches (variable_types p)) (flat_map local_breaches p.locals) h.0 in
    let locals : List Named = map (λ (l : LocalOf). l.decl.name) p.locals in
    let all = subst Differ (mapped_front (λ (d : Decl). d.name.name) (λ (d : Decl). d.name) p.formals locals (λ d. refl))
    (differ_source 4 [] (variables_of p) k.0) in
    distinct_names (map (λ (d : Decl). d.name.name) p.formals)
    (differ_front (map (λ (d : Decl). d.name.name) p.formals) (map (λ (n : Named). n.name) locals) all)

-- no condition is declared as spaceerror
not_space : (c : Named) → condition_breaches c ≡ [] → bytes_eq space_name c.name ≡ false
not_space c e = false_from_ne_true (bytes_eq space_name c.name) is_not
  where
    is_not : bytes_eq space_name c.name ≡ true → ⊥
    is_not k =
        let same : space_name ≡ c.name = (bytes_eq-Decides space_name c.name).0 k in
        true≢false (ap is_reserved same ∙ rule_fails (is_reserved c.name) c.place 6 e)

pub others_than_space : (cs ds : List Named) → flat_map condition_breaches (cs ++ ds) ≡ []
    → AllByRecursion (λ other. bytes_eq space_name other ≡ false) (map (λ (n : Named). n.name) cs)
others_than_space [] ds e = tt
others_than_space (c ∷ cs) ds e =
    let h = append_none (condition_breaches c) (flat_map condition_breaches (cs ++ ds)) e in
    (not_space c h.0, others_than_space cs ds h.1)

conditions_differ : (s : SourceOf) (p : ProcOf) → procedure_breaches s p ≡ [] → IsDistinct bytes_eq (conditions_in (Some p))
unfolding IsDistinct
conditions_differ s p e =
    let h = four (variable_breaches p) (condition_name_breaches p) (size_breaches p) (statement_breaches s p false p.body) e in
    let k = append_none (repeats 5 [] (conditions_of p)) (flat_map condition_breaches (conditions_of p)) h.1 in
    let all = subst Differ (map-append (λ (n : Named). n.name) p.conds p.local_conds) (differ_source 5 [] (conditions_of p) k.0) in (
      others_than_space p.conds p.local_conds k.1,
      distinct_names (map (λ (n : Named). n.name) p.conds)
          (differ_front (map (λ (n : Named). n.name) p.conds) (map (λ (n : Named). n.name) p.local_conds) all),
    )

pub all_named : {X : Type 0} (P : X → Type 0) (name : X → List ℕ) → ((x : X) → P x → is_name (name x) ≡ true) → (xs : List X) → All P xs
    → list_all is_name (map name xs) ≡ true
all_named P name fits [] h = refl
all_named P name fits (x ∷ xs) h = and_from _ _ (fits x (All-head P x xs h)) (all_named P name fits xs (All-tail P x xs h))

-- ---- slots

pub length-slots_from : (a : ℕ) (ds : List Decl) → length (slots_from a ds) ≡ length ds
length-slots_from a [] = refl
length-slots_from a (d ∷ ds) = ap suc (length-slots_from (a - item_count (shape_of d.shape)) ds)

pub names-slots_from : (a : ℕ) (ds : List Decl) → map (λ (slot : Slot). slot.name) (slots_from a ds) ≡ map (λ (d : Decl). d.name.name) ds
names-slots_from a [] = refl
names-slots_from a (d ∷ ds) = ap (λ (names : List (List ℕ)). d.name.name ∷ names) (names-slots_from (a - item_count (shape_of d.shape)) ds)

-- slots from an address down fit a window that has all their items
pub each_fits : (window : Window) (a : ℕ) (ds : List Decl) → list_all is_name (map (λ (d : Decl). d.name.name) ds) ≡ true → HaveShortArrays ds →
    window.base + words_of (shapes_in ds) ≤ a + 1 → a < window.base + window.size → list_all (fits_window window) (slots_from a ds) ≡ true
each_fits window a [] named few low high = refl
each_fits window a (d ∷ ds) named few low high =
    let p = and_parts (is_name d.name.name) (list_all is_name (map (λ (d : Decl). d.name.name) ds)) named in
    let count : ℕ = item_count (shape_of d.shape) in
    let inside : is_slot_address window (shape_of d.shape) a ≡ true =
    and_from _ _ (le-leb (window.base + count) (a + 1) (omega arith)) (lt-ltb a (window.base + window.size) high) in
    and_from _ _ (and_from _ _ p.0 (and_from _ _ (le-leb (shape_of d.shape).length 4096 few.0) inside))
    (each_fits window (a - count) ds p.1 few.1 (omega arith) (omega arith))

-- ---- the image of a placed system

-- its window
abbrev pub placed_window : SystemView → Window
placed_window s = record { base = s.base; size = (placed s).size; final_pc = (placed s).final_pc }

-- its window is one that images may have, and has room for its words
pub record PlacedFits (s : SystemView) : Type 0 where
  pub sized : is_size s.base (placed s).size ≡ true
  pub inside : is_inside s.base (placed s).size (placed s).final_pc ≡ true
  pub few : length (trimmed (placed s).words) ≤ (placed s).size

pub placed_fits : (s : SystemView) → IsSound s → (placed s).size ≤ 2 ^ 20 → PlacedFits s
placed_fits s sound small =
    let long = length-placed s (known s sound) in
    let size : ℕ = (placed s).size in
    let low = sound.low_base in
    let some = sound.some_temp in
    record {
      sized = and_from _ _ (and_from _ _ (le-leb 1 size (omega arith)) (le-leb size 1048576 (omega arith))) (le-leb (s.base + size) 4294967295 (omega arith));
      inside = and_from _ _ (le-leb s.base (final_pc_of s) (omega arith)) (lt-ltb (final_pc_of s) (s.base + size) (omega arith));
      few = omega (arith, shorter (placed s).words);
    }

pub system_fits : (s : SystemView) (ds : List Decl) (conditions : List (List ℕ)) (tables : Tables) → IsSound s → (placed s).size ≤ 2 ^ 20
    → IsShowable s ds conditions →
    are_tables (placed_window s) tables ≡ true → IsTrue (is_image (image_with ds conditions tables s))
unfolding all_after
system_fits s ds conditions tables sound small shows fit_tables =
    let image : ImageOf = image_with ds conditions tables s in
    let fits = placed_fits s sound small in
    let long = length-placed s (known s sound) in
    let size : ℕ = (placed s).size in
    let low = sound.low_base in
    let some = sound.some_temp in
    let fit = sound.stack_fits in
    let stand = shows.formals_stand in
    let area = shows.area in
    from_limits image record {
      version = refl;
      tables = fit_tables;
      window = and_from _ _ fits.sized fits.inside;
      registers = refl;
      condition_address = and_from _ _ (le-leb s.base (areas_start s) (omega arith)) (lt-ltb (areas_start s) (s.base + size) (omega arith));
      condition_count = le-leb _ 201 shows.conditions_few;
      conditions = conditions_fit conditions shows.conditions_named shows.conditions_differ;
      slot_count = le-leb _ 200 (let few = shows.formals_few in let count = length-slots_from (end_of s - 1) ds in omega arith);
      slots = slots_fit (window_of image) image.slots
          (each_fits (window_of image) (end_of s - 1) ds shows.formals_named shows.formals_short (omega arith) (omega arith))
          (subst (IsDistinct bytes_eq) (sym (names-slots_from (end_of s - 1) ds)) shows.formals_differ);
      words = le-leb (length (trimmed (placed s).words)) size fits.few;
    }

-- ---- the image of a source

shorts : (ds : List Decl) → Each (λ (s : Shape). s.length ≤ 4096) (shapes_in ds) → HaveShortArrays ds
shorts [] h = tt
shorts (d ∷ ds) h = (h.0, shorts ds h.1)

pub words_front : (a b : List Shape) → words_of a ≤ words_of (a ++ b)
words_front [] b = omega arith
words_front (s ∷ a) b = omega (arith, words_front a b)

main_shows : (s : SourceOf) (sizes : StackSizes) (base : ℕ) (p : ProcOf) → IsAccepted s → IsMain s p
    → IsShowable (generated_view (program_of s) sizes base) p.formals (conditions_in (Some p))
main_shows s sizes base p accepted main =
    let q : Program = program_of s in
    let c : Proc = proc_at q q.main in
    let here = accepted.fits.procs q.main in
    let formals : c.formals ≡ shapes_in p.formals = ap (λ (z : Proc). z.formals) main.at in
    let few_variables = main.form.few_variables in
    let few_conds = main.form.few_conds in
    let locals : List Shape = map (λ (v : ValueOf). v.shape) c.locals in
    let opening = values_words (c.formals ++ locals) (map zero_value c.formals ++ c.locals)
    (vars_join c.formals locals (map zero_value c.formals) c.locals (zero_values c.formals here.formals) (locals_fit c.locals here.locals)) in
    let stand : words_of c.formals ≤ length (words_of_values (map zero_value c.formals ++ c.locals)) = omega (arith, opening, words_front c.formals locals) in
    record {
      formals_named = all_named FitsDecl (λ (d : Decl). d.name.name) (λ d h. h.name) p.formals main.form.formals;
      formals_differ = formals_differ s p main.rules;
      formals_few = omega arith;
      formals_short = shorts p.formals (subst (Each (λ (s : Shape). s.length ≤ 4096)) formals here.formals);
      formals_stand = subst (λ (shapes : List Shape). words_of shapes ≤ length (words_of_values (map zero_value c.formals ++ c.locals))) formals stand;
      conditions_named = and_from _ _ refl (all_named IsNamed (λ (n : Named). n.name) (λ n h. h) p.conds main.form.conds);
      conditions_differ = conditions_differ s p main.rules;
      conditions_few = omega (arith, few_conds, length-map p.conds (λ (n : Named). n.name));
      area = omega arith;
    }

-- what is asked of the image holds of each accepted source
pub generated_shows : (s : SourceOf) (sizes : StackSizes) (base : ℕ) (system : SystemView) → IsAccepted s → system ≡ generated_view (program_of s) sizes base →
    IsShowable system (shown_formals s) (shown_conditions s)
generated_shows s sizes base system accepted is =
    let main = main_is s accepted in
    subst (λ (v : SystemView). IsShowable v (shown_formals s) (shown_conditions s)) (sym is)
    (subst (λ (o : Option ProcOf). IsShowable (generated_view (program_of s) sizes base) (formals_in o) (conditions_in o)) (sym main.1.found)
    (main_shows s sizes base main.0 accepted main.1))
