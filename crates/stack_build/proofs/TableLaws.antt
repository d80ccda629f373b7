-- The procedures and the marks of an accepted source keep the limits of images.
use Rattle.std.proofs.Common.{◌≡◌, ◌<◌, ◌≤◌, ◌+◌, ◌-◌, ℕ, zero, suc, Bool, true, false, cond, eqb, ltb, List, [], ◌∷◌, ◌++◌, length, map, flat_map, get_or}
use Rattle.std.{proofs.Common.{Some, refl, sym, ap, subst, ◌∙◌, inl, inr, arith, length-append}, specs.Prelude.{◌^◌, All, nat_lt, slice_get, take}}
use Rattle.std.{specs.List.{Contains, list_all, AllByRecursion, IsDistinct}, specs.Str.bytes_eq, proofs.lemmas.Bool.{and_parts, and_from, le-leb, lt-ltb}}
use Rattle.std.{proofs.lemmas.Bool.ltb-true, proofs.lemmas.List.{length-map, map-append}, proofs.lemmas.List.Elements.{All-head, All-tail}}
use Rattle.stack_text.{specs.Names.is_name, specs.Grammar.Parts.IsNamed, specs.declared.name.Named.Named, specs.declared.shape.Shape.Shape}
use Rattle.stack_text.{specs.Values.ValueOf, proofs.SharedLaws.append_none}
use Rattle.fm_image.{specs.declared.procedure.Mark.Mark, specs.declared.procedure.VarInfo.VarInfo, specs.declared.window.Window.Window, specs.Limits.Tables}
use Rattle.fm_image.{specs.Limits.{no_tables, is_place, is_inside, are_tables, all_after}, specs.Procedure.ProcedureOf, proofs.MarkLaws.{Climbing, fits_mark}}
use Rattle.fm_image.{proofs.MarkLaws.{marks_fit, marks_few}, proofs.NameLaws.{conditions_fit, fits_frame, variables_fit, fits_lists, procedures_fit}}
use Rattle.display_maps.specs.Reading.{space_name}
use Rattle.piton_check.{specs.Instruction.{Instruction, ProgramView, SystemView}, specs.Sound.IsSound}
use Rattle.piton_semantics.{specs.State.program_of as program_in, specs.Fits.IsPlace, specs.Placed.{placed, instructions_size, program_size, programs_size}}
use Rattle.piton_semantics.{specs.Placed.{address_of_place, final_pc_of}, proofs.AddressLaws.{offset_of, sum_below, programs_offset, length_at, program_there}}
use Rattle.gypsy_syntax.{specs.declared.literal.Decl.Decl, specs.Fits.{FitsDecl, FitsLocal, FitsProcedure}, specs.ProgramFits.Each, specs.ValuesFit.ValueFits}
use Rattle.gypsy_syntax.{specs.Programs.{Proc, Program, no_proc, proc_at, shapes_of}, specs.Resolved.{condition_names, local_value, procedure_of, program_of}}
use Rattle.gypsy_syntax.{specs.Resolved.{shape_of, variable_names, variable_types}, specs.Sources.{LocalOf, ProcOf, SourceOf}, proofs.FitsLaws.keeps_fits}
use Rattle.gypsy_check.{specs.Accepted.IsAccepted, specs.Declarations.{variables_of, conditions_of, repeats}, specs.Rules.{type_breaches, local_breaches}}
use Rattle.gypsy_check.specs.Rules.{main_breaches, name_breaches, condition_breaches, variable_breaches, condition_name_breaches, size_breaches}
use Rattle.gypsy_check.{specs.Rules.{statement_breaches, procedure_breaches, violations}, proofs.CleanLaws.{three, four, get_or_map}}
use Rattle.gypsy_space.specs.Needs.{StackSizes}
use Rattle.gypsy_codegen.{specs.declared.marking.MarkAt.MarkAt, specs.Generated.{offset, generated_view}, specs.Marks.{marks_of, IsBefore, Ascend, IsMarkPlace}}
use Rattle.gypsy_codegen.{proofs.DeclareLaws.{Differ, differ_source}, proofs.MarkOrderLaws.{marks_ascend, marks_are_places}}
use Rattle.stack_build.{specs.Image.{variable_infos, procedure_info, procedure_infos, mark_info, places_fit, source_tables}, proofs.ImageLimits.placed_window}
use Rattle.stack_build.proofs.ImageLimits.{distinct_names, all_named, mapped_front, others_than_space}

-- ---- addresses ascend as places do

sums_ascend : (is : List Instruction) (l m : ℕ) → l < m → m < length is → instructions_size (take l is) < instructions_size (take m is)
sums_ascend [] l m lt there = absurd (omega (arith, there))
sums_ascend (i ∷ is) l zero lt there = absurd (omega (arith, lt))
sums_ascend (i ∷ is) zero (suc m) lt there = let some = sum_below (i ∷ []) 0 (omega arith) in omega (arith, some)
sums_ascend (i ∷ is) (suc l) (suc m) lt there = omega (arith, sums_ascend is l m (omega (arith, lt)) (omega (arith, there)))

offset_on : (ns : List ℕ) (a b : ℕ) → a < b → a < length ns → offset_of ns a + get_or ns a 0 ≤ offset_of ns b
offset_on [] a b lt there = absurd (omega (arith, there))
offset_on (n ∷ ns) a zero lt there = absurd (omega (arith, lt))
offset_on (n ∷ ns) zero (suc b) lt there = omega arith
offset_on (n ∷ ns) (suc a) (suc b) lt there = omega (arith, offset_on ns a b (omega (arith, lt)) (omega (arith, there)))

offset_end : (ns : List ℕ) (a : ℕ) → a < length ns → offset_of ns a + get_or ns a 0 ≤ offset_of ns (length ns)
offset_end ns a there = offset_on ns a (length ns) there there

take_all : (ps : List ProgramView) → take (length ps) ps ≡ ps
take_all [] = refl
take_all (p ∷ ps) = ap (λ (qs : List ProgramView). p ∷ qs) (take_all ps)

module _ (s : SystemView) where
  -- a place lies in its program
  within : (a l : ℕ) → IsPlace s a l → address_of_place s a l < s.base + offset_of (map program_size s.programs) a + get_or (map program_size s.programs) a 0
  within a l p =
      let below = sum_below (program_in s a).instructions l p in
      let size = length_at s.programs a record { formals = 0; temporaries = []; instructions = [] } (program_there s.programs a l p) in
      omega (arith, below, size, programs_offset s.programs a)

  climbs : (m n : MarkAt) → IsPlace s m.program m.at → IsPlace s n.program n.at → IsBefore m n
      → address_of_place s m.program m.at < address_of_place s n.program n.at
  climbs m n p q (inl lt) =
      let count = length-map s.programs program_size in
      let on = offset_on (map program_size s.programs) m.program n.program lt (omega (arith, program_there s.programs m.program m.at p, count)) in
      omega (arith, within m.program m.at p, on, programs_offset s.programs n.program)
  climbs m n p q (inr (same, lt)) =
      let there : n.at < length (program_in s m.program).instructions = subst (λ (i : ℕ). n.at < length (program_in s i).instructions) (sym same) q in
      let sums = sums_ascend (program_in s m.program).instructions m.at n.at lt there in
      let here : address_of_place s m.program n.at ≡ address_of_place s n.program n.at = ap (λ (i : ℕ). address_of_place s i n.at) same in
      omega (arith, sums, here)

  -- before the final program counter
  inside_code : (a l : ℕ) → IsPlace s a l → address_of_place s a l < final_pc_of s
  inside_code a l p =
      let count = length-map s.programs program_size in
      let end = offset_end (map program_size s.programs) a (omega (arith, program_there s.programs a l p, count)) in
      let all : programs_size s.programs ≡ offset_of (map program_size s.programs) (length (map program_size s.programs)) =
      sym (ap programs_size (take_all s.programs)) ∙ programs_offset s.programs (length s.programs)
      ∙ ap (offset_of (map program_size s.programs)) (sym count) in
      omega (arith, within a l p, end, all)

module _ (q : Program) (sizes : StackSizes) (base : ℕ) where
  marks_climb : (low : ℕ) (ms : List MarkAt) → Ascend ms → Each (IsMarkPlace q sizes base) ms
      → ((m : MarkAt) (rest : List MarkAt) → ms ≡ m ∷ rest → low ≤ address_of_place (generated_view q sizes base) m.program m.at) →
      Climbing low (map (mark_info (generated_view q sizes base)) ms)
  marks_climb low [] up places first = tt
  marks_climb low (m ∷ []) up places first = (first m [] refl, tt)
  marks_climb low (m ∷ n ∷ ms) up places first = (
    first m (n ∷ ms) refl,
    marks_climb (address_of_place (generated_view q sizes base) m.program m.at + 1) (n ∷ ms) up.1 places.1 (λ x rest e.
        let same : n ≡ x = cc in
        let lt = climbs (generated_view q sizes base) m n places.0.1 places.1.0.1 up.0 in
        let moved : address_of_place (generated_view q sizes base) n.program n.at ≡ address_of_place (generated_view q sizes base) x.program x.at =
        ap (λ (y : MarkAt). address_of_place (generated_view q sizes base) y.program y.at) same in
        omega (arith, lt, moved)),
  )

  each_mark_fits : (window : Window) (count : ℕ) → count ≡ length q.procs → window.base ≡ base
      → final_pc_of (generated_view q sizes base) ≤ window.base + window.size → (ms : List MarkAt) → Each (IsMarkPlace q sizes base) ms →
      list_all (λ (m : MarkAt). is_place m.place) ms ≡ true → list_all (fits_mark window count) (map (mark_info (generated_view q sizes base)) ms) ≡ true
  each_mark_fits window count is b end [] places short = refl
  each_mark_fits window count is b end (m ∷ ms) places short =
      let p = and_parts (is_place m.place) (list_all (λ (m : MarkAt). is_place m.place) ms) short in
      let S : SystemView = generated_view q sizes base in
      let address : ℕ = address_of_place S m.program m.at in
      let low : window.base ≤ address = omega (arith, b) in
      let high : address < window.base + window.size = omega (arith, inside_code S m.program m.at places.0.1, end) in
      let inside : is_inside window.base window.size address ≡ true =
      and_from _ _ (le-leb window.base address low) (lt-ltb address (window.base + window.size) high) in
      let procedure : nat_lt m.program count ≡ true = lt-ltb m.program count (omega (arith, places.0.0, is)) in
      and_from _ _ (and_from _ _ inside (and_from _ _ procedure p.0)) (each_mark_fits window count is b end ms places.1 p.1)

  below_end : (high : ℕ) → final_pc_of (generated_view q sizes base) ≤ high → (ms : List MarkAt) → Each (IsMarkPlace q sizes base) ms → (m : Mark)
      → Contains (map (mark_info (generated_view q sizes base)) ms) m → m.address < high
  below_end high end [] places m c = absurd (omega (arith, c.1))
  below_end high end (x ∷ ms) places m (zero, lt, is) =
      let at : address_of_place (generated_view q sizes base) x.program x.at ≡ m.address = ap (λ (y : Mark). y.address) is in
      omega (arith, at, inside_code (generated_view q sizes base) x.program x.at places.0.1, end)
  below_end high end (x ∷ ms) places m (suc k, lt, is) = below_end high end ms places.1 m (k, omega (arith, lt), is)

-- ---- a procedure

length_infos : (f : ℕ → ℕ) (b : ℕ) (names : List (List ℕ)) (shapes : List Shape) → length (variable_infos f b names shapes) ≤ length names
length_infos f b [] shapes = omega arith
length_infos f b (name ∷ names) [] = omega arith
length_infos f b (name ∷ names) (s ∷ shapes) = omega (arith, length_infos f (b + 1) names shapes)

names_infos : (f : ℕ → ℕ) (b : ℕ) (names : List (List ℕ)) (shapes : List Shape) → length names ≡ length shapes
    → map (λ (v : VarInfo). v.name) (variable_infos f b names shapes) ≡ names
names_infos f b [] shapes e = refl
names_infos f b (name ∷ names) [] e = absurd (omega (arith, e))
names_infos f b (name ∷ names) (s ∷ shapes) e = ap (λ (ns : List (List ℕ)). name ∷ ns) (names_infos f (b + 1) names shapes (omega (arith, e)))

infos_fit : (f : ℕ → ℕ) (count : ℕ) → ((i : ℕ) → i < count → f i ≤ 199) → (b : ℕ) (names : List (List ℕ)) (shapes : List Shape)
    → b + length names ≤ count → list_all is_name names ≡ true →
    Each (λ (s : Shape). s.length ≤ 4096) shapes → list_all fits_frame (variable_infos f b names shapes) ≡ true
infos_fit f count low b [] shapes le named few = refl
infos_fit f count low b (name ∷ names) [] le named few = refl
infos_fit f count low b (name ∷ names) (s ∷ shapes) le named few =
    let p = and_parts (is_name name) (list_all is_name names) named in
    and_from _ _ (and_from _ _ p.0 (and_from _ _ (le-leb s.length 4096 few.0) (le-leb (f b) 199 (low b (omega (arith, le))))))
    (infos_fit f count low (b + 1) names shapes (omega (arith, le)) p.1 few.1)

-- where a variable stands in a frame
offset_low : (main first : Bool) (b formals locals : ℕ) → ltb b formals ≡ first → b < formals + locals → formals + locals ≤ 200
    → cond main b (cond first (locals + b) (b - formals)) ≤ 199
offset_low true first b formals locals e lt few = omega (arith, lt, few)
offset_low false true b formals locals e lt few = omega (arith, ltb-true b formals e, few)
offset_low false false b formals locals e lt few = omega (arith, lt, few)

named_both : (xs ys : List (List ℕ)) → list_all is_name xs ≡ true → list_all is_name ys ≡ true → list_all is_name (xs ++ ys) ≡ true
named_both [] ys h k = k
named_both (x ∷ xs) ys h k = let p = and_parts (is_name x) (list_all is_name xs) h in and_from _ _ p.0 (named_both xs ys p.1 k)

each_both : (P : Shape → Type 0) (xs ys : List Shape) → Each P xs → Each P ys → Each P (xs ++ ys)
each_both P [] ys h k = k
each_both P (x ∷ xs) ys h k = (h.0, each_both P xs ys h.1 k)

value_shapes : (vs : List ValueOf) → Each ValueFits vs → Each (λ (s : Shape). s.length ≤ 4096) (map (λ (v : ValueOf). v.shape) vs)
value_shapes [] h = tt
value_shapes (v ∷ vs) h = (h.0.few, value_shapes vs h.1)

module _ (s : SourceOf) (accepted : IsAccepted s) where
  module _ (p : ℕ) (proc : ProcOf) (form : FitsProcedure proc) (rules : procedure_breaches s proc ≡ [])
      (at : proc_at (program_of s) p ≡ procedure_of s proc) where
    declared_variables : IsDistinct bytes_eq (variable_names proc)
    declared_variables =
        let h = four (variable_breaches proc) (condition_name_breaches proc) (size_breaches proc) (statement_breaches s proc false proc.body) rules in
        let k = three (repeats 4 [] (variables_of proc)) (flat_map type_breaches (variable_types proc)) (flat_map local_breaches proc.locals) h.0 in
        let locals : List Named = map (λ (l : LocalOf). l.decl.name) proc.locals in
        let all = subst Differ (mapped_front (λ (d : Decl). d.name.name) (λ (d : Decl). d.name) proc.formals locals (λ d. refl))
        (differ_source 4 [] (variables_of proc) k.0) in
        let joined : map (λ (n : Named). n.name) locals ≡ map (λ (l : LocalOf). l.decl.name.name) proc.locals = map_twice proc.locals in
        distinct_names (variable_names proc) (subst (λ (ns : List (List ℕ)). Differ (map (λ (d : Decl). d.name.name) proc.formals ++ ns)) joined all)
      where
        map_twice : (ls : List LocalOf) → map (λ (n : Named). n.name) (map (λ (l : LocalOf). l.decl.name) ls) ≡ map (λ (l : LocalOf). l.decl.name.name) ls
        map_twice [] = refl
        map_twice (l ∷ ls) = ap (λ (ns : List (List ℕ)). l.decl.name.name ∷ ns) (map_twice ls)

    declared_conditions : IsDistinct bytes_eq (space_name ∷ condition_names proc)
    unfolding IsDistinct
    declared_conditions =
        let h = four (variable_breaches proc) (condition_name_breaches proc) (size_breaches proc) (statement_breaches s proc false proc.body) rules in
        let k = append_none (repeats 5 [] (conditions_of proc)) (flat_map condition_breaches (conditions_of proc)) h.1 in
        let joined = map-append (λ (n : Named). n.name) proc.conds proc.local_conds in
        let none = others_than_space (proc.conds ++ proc.local_conds) []
        (subst (λ (cs : List Named). flat_map condition_breaches cs ≡ []) (sym (append_nil (proc.conds ++ proc.local_conds))) k.1) in (
          subst (AllByRecursion (λ other. bytes_eq space_name other ≡ false)) joined none,
          distinct_names (condition_names proc) (subst Differ joined (differ_source 5 [] (conditions_of proc) k.0)),
        )
      where
        append_nil : (xs : List Named) → xs ++ [] ≡ xs
        append_nil [] = refl
        append_nil (x ∷ xs) = ap (λ (ys : List Named). x ∷ ys) (append_nil xs)

    proc_fits : fits_lists (procedure_info (program_of s) p proc) ≡ true
    proc_fits =
        let q : Program = program_of s in
        let names : List (List ℕ) = variable_names proc in
        let shapes : List Shape = shapes_of (proc_at q p) in
        let here = accepted.fits.procs p in
        let few_variables = form.few_variables in
        let few_conds = form.few_conds in
        let named_formals = all_named FitsDecl (λ (d : Decl). d.name.name) (λ d h. h.name) proc.formals form.formals in
        let named_locals = all_named FitsLocal (λ (l : LocalOf). l.decl.name.name) (λ l h. h.decl.name) proc.locals form.locals in
        let named =
        named_both (map (λ (d : Decl). d.name.name) proc.formals) (map (λ (l : LocalOf). l.decl.name.name) proc.locals) named_formals named_locals in
        let conds_named = named_both (map (λ (n : Named). n.name) proc.conds) (map (λ (n : Named). n.name) proc.local_conds)
        (all_named IsNamed (λ (n : Named). n.name) (λ n h. h) proc.conds form.conds)
        (all_named IsNamed (λ (n : Named). n.name) (λ n h. h) proc.local_conds form.local_conds) in
        let few_names : length names ≡ length proc.formals + length proc.locals =
        omega (
          arith,
          length-append (map (λ (d : Decl). d.name.name) proc.formals) (map (λ (l : LocalOf). l.decl.name.name) proc.locals),
          length-map proc.formals (λ (d : Decl). d.name.name),
          length-map proc.locals (λ (l : LocalOf). l.decl.name.name),
        ) in
        let formals_number : length (proc_at q p).formals ≡ length proc.formals =
        ap (λ (c : Proc). length c.formals) at ∙ length-map proc.formals (λ (d : Decl). shape_of d.shape) in
        let locals_number : length (proc_at q p).locals ≡ length proc.locals = ap (λ (c : Proc). length c.locals) at ∙ length-map proc.locals local_value in
        let shapes_number : length names ≡ length shapes =
        omega (
          arith,
          few_names,
          formals_number,
          locals_number,
          length-append (proc_at q p).formals
              (map (λ (v : ValueOf). v.shape) (proc_at q p).locals),
          length-map (proc_at q p).locals (λ (v : ValueOf). v.shape),
        ) in
        let conds_number : length (condition_names proc) ≡ length proc.conds + length proc.local_conds =
        omega (
          arith,
          length-append (map (λ (n : Named). n.name) proc.conds) (map (λ (n : Named). n.name) proc.local_conds),
          length-map proc.conds (λ (n : Named). n.name),
          length-map proc.local_conds (λ (n : Named). n.name),
        ) in
        let low : (i : ℕ) → i < length names → offset q p i ≤ 199 =
        λ i lt. offset_low (eqb p q.main) (ltb i (length (proc_at q p).formals)) i (length (proc_at q p).formals) (length (proc_at q p).locals) refl
        (omega (arith, lt, few_names, formals_number, locals_number)) (omega (arith, formals_number, locals_number, few_variables)) in
        let each = infos_fit (offset q p) (length names) low 0 names shapes (omega arith) named
        (each_both (λ (s : Shape). s.length ≤ 4096) (proc_at q p).formals (map (λ (v : ValueOf). v.shape) (proc_at q p).locals) here.formals
        (value_shapes (proc_at q p).locals here.locals)) in
        let own = subst (IsDistinct bytes_eq) (sym (names_infos (offset q p) 0 names shapes shapes_number)) declared_variables in
        let variables = and_from _ _ (le-leb (length (variable_infos (offset q p) 0 names shapes)) 200
        (omega (arith, length_infos (offset q p) 0 names shapes, few_names, few_variables)))
        (variables_fit (variable_infos (offset q p) 0 names shapes) each own) in
        let conditions = and_from _ _ (le-leb (length (space_name ∷ condition_names proc)) 201 (omega (arith, conds_number, few_conds)))
        (conditions_fit (space_name ∷ condition_names proc) (and_from _ _ refl conds_named) declared_conditions) in
        and_from _ _ form.name (and_from _ _ conditions variables)

  all_fit : (p : ℕ) (procs : List ProcOf) → All FitsProcedure procs → flat_map (procedure_breaches s) procs ≡ []
      → ((i : ℕ) (proc : ProcOf) → slice_get procs i ≡ Some proc → proc_at (program_of s) (p + i) ≡ procedure_of s proc) →
      list_all fits_lists (procedure_infos (program_of s) p procs) ≡ true
  all_fit p [] forms rules at = refl
  all_fit p (proc ∷ procs) forms rules at =
      let k = append_none (procedure_breaches s proc) (flat_map (procedure_breaches s) procs) rules in
      let here : p + 0 ≡ p = omega arith in
      and_from _ _ (proc_fits p proc (All-head FitsProcedure proc procs forms) k.0
      (subst (λ (i : ℕ). proc_at (program_of s) i ≡ procedure_of s proc) here (at 0 proc refl)))
      (all_fit (suc p) procs (All-tail FitsProcedure proc procs forms) k.1 (λ i c e.
      let next : p + suc i ≡ suc p + i = omega arith in
      subst (λ (j : ℕ). proc_at (program_of s) j ≡ procedure_of s c) next (at (suc i) c e)))

procedures_named : (q : Program) (p : ℕ) (procs : List ProcOf) → map (λ (c : ProcedureOf). c.name) (procedure_infos q p procs)
    ≡ map (λ (n : Named). n.name) (map (λ (c : ProcOf). c.name) procs)
procedures_named q p [] = refl
procedures_named q p (proc ∷ procs) = ap (λ (ns : List (List ℕ)). proc.name.name ∷ ns) (procedures_named q (suc p) procs)

procedures_number : (q : Program) (p : ℕ) (procs : List ProcOf) → length (procedure_infos q p procs) ≡ length procs
procedures_number q p [] = refl
procedures_number q p (proc ∷ procs) = ap suc (procedures_number q (suc p) procs)

-- ---- together

pub tables_fit : (s : SourceOf) (sizes : StackSizes) (base : ℕ) → IsAccepted s → IsSound (generated_view (program_of s) sizes base)
    → (placed (generated_view (program_of s) sizes base)).size ≤ 2 ^ 20 →
    are_tables (placed_window (generated_view (program_of s) sizes base)) (source_tables s (generated_view (program_of s) sizes base)) ≡ true
unfolding all_after violations
tables_fit s sizes base accepted sound small = by_places (places_fit (program_of s)) refl
  where
    full : Tables
    full = record {
      procedures = procedure_infos (program_of s) 0 s.procs;
      marks = map (mark_info (generated_view (program_of s) sizes base))
          (marks_of (program_of s));
    }

    full_fits : places_fit (program_of s) ≡ true → are_tables (placed_window (generated_view (program_of s) sizes base)) full ≡ true
    full_fits short =
        let q : Program = program_of s in
        let S : SystemView = generated_view q sizes base in
        let window : Window = placed_window S in
        let form = keeps_fits s accepted.form in
        let number = procedures_number q 0 s.procs in
        let few = form.few_procs in
        let rules = four (repeats 1 [] (map (λ (c : ProcOf). c.name) s.procs)) (main_breaches s) (flat_map name_breaches s.procs)
        (flat_map (procedure_breaches s) s.procs) accepted.rules in
        let own = subst (IsDistinct bytes_eq) (sym (procedures_named q 0 s.procs))
        (distinct_names (map (λ (n : Named). n.name) (map (λ (c : ProcOf). c.name) s.procs))
        (differ_source 1 [] (map (λ (c : ProcOf). c.name) s.procs) rules.0)) in
        let procedures = procedures_fit (procedure_infos q 0 s.procs)
        (all_fit s accepted 0 s.procs form.procs rules.3 (λ i proc e.
        let zero_on : i ≡ 0 + i = omega arith in
        subst (λ (j : ℕ). proc_at q j ≡ procedure_of s proc) zero_on (get_or_map (procedure_of s) s.procs i proc no_proc e))) own in
        let places = marks_are_places q sizes base in
        let end : final_pc_of S ≤ window.base + window.size = omega (arith, small) in
        let climb = marks_climb q sizes base window.base (marks_of q) (marks_ascend q) places (λ m rest e. omega arith) in
        let count : length q.procs ≡ length (procedure_infos q 0 s.procs) = length-map s.procs (procedure_of s) ∙ sym number in
        let fit = each_mark_fits q sizes base window (length (procedure_infos q 0 s.procs)) (sym count) refl end (marks_of q) places short in
        let marks = marks_fit window (length (procedure_infos q 0 s.procs)) [] (map (mark_info S) (marks_of q)) window.base fit climb (λ m e. absurd cc) in
        let few_marks = marks_few (map (mark_info S) (marks_of q)) window.base (window.base + window.size) climb
        (below_end q sizes base (window.base + window.size) end (marks_of q) places) (omega arith) in
        and_from _ _ (and_from _ _ (le-leb (length (procedure_infos q 0 s.procs)) 1000 (omega (arith, number, few))) procedures)
        (and_from _ _ (le-leb (length (map (mark_info S) (marks_of q))) (2 ^ 20) (omega (arith, few_marks, small))) marks)

    by_places : (fit : Bool) → places_fit (program_of s) ≡ fit → are_tables (placed_window (generated_view (program_of s) sizes base))
        (source_tables s (generated_view (program_of s) sizes base)) ≡ true
    by_places true e = subst (λ (t : Tables). are_tables (placed_window (generated_view (program_of s) sizes base)) t ≡ true)
        (sym (ap (λ (b : Bool). cond b full no_tables) e)) (full_fits e)
    by_places false e = subst (λ (t : Tables). are_tables (placed_window (generated_view (program_of s) sizes base)) t ≡ true)
        (sym (ap (λ (b : Bool). cond b full no_tables) e)) refl
