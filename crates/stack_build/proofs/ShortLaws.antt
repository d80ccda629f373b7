-- What is built of a text of at most 2^20 bytes has its marks, and its file is short enough to be read again.
use Rattle.std.proofs.Common.{◌≡◌, ◌<◌, ◌≤◌, ◌+◌, ◌*◌, ℕ, suc, Bool, true, false, cond, List, [], ◌∷◌, ◌++◌, length, map, flat_map, Option, Some, None, Result}
use Rattle.std.{proofs.Common.{Ok, Err, IfOk, refl, sym, ap, subst, ◌∙◌, arith, length-append}, specs.Prelude.{◌^◌, slice_get}, specs.List.list_all}
use Rattle.std.{proofs.lemmas.Bool.{and_parts, and_from, lt-ltb}, proofs.lemmas.List.length-map}
use Rattle.stack_text.{specs.declared.breach.Breach.Breach, specs.declared.name.Named.Named, specs.declared.shape.Shape.Shape, specs.Breaches.least}
use Rattle.stack_text.proofs.ReaderLaws.{TreeOf-tree_in, value_tree}
use Rattle.fm_image.{specs.declared.procedure.Mark.Mark, specs.Image.ImageOf, specs.Limits.{Tables, no_tables, tables_of, is_place}}
use Rattle.fm_image.specs.Spelling.{number_bytes, shape_bytes, name_bytes, counted_bytes, variable_bytes, procedure_bytes, mark_bytes, tables_bytes, spelling}
use Rattle.display_maps.specs.Reading.{space_name}
use Rattle.piton_check.specs.Instruction.{SystemView}
use Rattle.gypsy_syntax.{specs.declared.literal.Decl.Decl, specs.declared.fault.GypsyFault.GypsyFault, specs.GypsyReading.{gypsy_in, gypsy_reader}}
use Rattle.gypsy_syntax.{specs.Programs.{Proc, Program, Stmt, body_of, no_proc, proc_at, shapes_of}, specs.Resolved.{condition_names, procedure_of, program_of}}
use Rattle.gypsy_syntax.{specs.Resolved.{statement_of, statement_of_all, variable_names}, specs.Sources.{StmtOf, StmtsOf, no_op, signal, seq, loop, branch}}
use Rattle.gypsy_syntax.specs.Sources.{begin, call, predef, no_parts, part, LocalOf, ProcOf, SourceOf}
use Rattle.gypsy_check.{specs.Rules.violations, proofs.CleanLaws.get_or_map}
use Rattle.gypsy_space.specs.Needs.{StackSizes, stack_sizes}
use Rattle.gypsy_codegen.{specs.declared.marking.MarkAt.MarkAt, specs.Generated.{size, count_from, offset, generated_view}, specs.Marks.mark_at}
use Rattle.gypsy_codegen.specs.Marks.{statement_marks, tail_marks, procedure_marks, marks_of}
use Rattle.stack_build.{specs.declared.fault.BuildFault.BuildFault, specs.Build.{BuiltOf, accepted_unless, accepted_by, accepted_source, Builds, BuildsText}}
use Rattle.stack_build.specs.Image.{variable_infos, procedure_info, procedure_infos, mark_info, places_fit, source_tables, image_of}
use Rattle.stack_build.{proofs.ImageBytes.file_few, proofs.TextLaws.{marks_in, marks_in_all, StandsBelow, AllStandBelow, conditions_cost, formals_cost}}
use Rattle.stack_build.proofs.TextLaws.{locals_cost, procedures_cost, EachStands, LightSource, tree_is_light}

-- ---- the source of a text

text_is_light : (text : List ℕ) (source : SourceOf) → accepted_source text ≡ Ok source → LightSource (length text) (length text) source
unfolding accepted_source
text_is_light text source is = by_reading (gypsy_in text) refl is
  where
    by_breach : (s : SourceOf) → gypsy_in text ≡ Ok s → (breach : Option Breach) → accepted_unless s breach ≡ Ok source
        → LightSource (length text) (length text) source
    by_breach s reads None h =
        let same : s ≡ source = cc in
        let found = value_tree gypsy_reader text source (reads ∙ ap (λ (x : SourceOf). Ok x) same) in
        tree_is_light text found.0 source (TreeOf-tree_in text found.0 found.1) found.2
    by_breach s reads (Some breach) h = absurd cc

    by_reading : (found : Result SourceOf GypsyFault) → gypsy_in text ≡ found → accepted_by found ≡ Ok source → LightSource (length text) (length text) source
    by_reading (Ok s) reads h = by_breach s reads (least (violations s)) h
    by_reading (Err fault) reads h = absurd cc

-- ---- its marks

abbrev short_place : MarkAt → Bool
short_place m = is_place m.place

all_both : (xs ys : List MarkAt) → list_all short_place xs ≡ true → list_all short_place ys ≡ true → list_all short_place (xs ++ ys) ≡ true
all_both [] ys h k = k
all_both (x ∷ xs) ys h k = let p = and_parts (short_place x) (list_all short_place xs) h in and_from _ _ p.0 (all_both xs ys p.1 k)

module _ (s : SourceOf) (c : ProcOf) (q : Program) (p high : ℕ) (low : high ≤ 1048576) where
  short : (place at : ℕ) → place < high → short_place (mark_at p at place) ≡ true
  short place at lt = lt-ltb place (2 ^ 20) (omega (arith, lt, low))

  mutual
    marks_short : (st : StmtOf) (at : ℕ) → StandsBelow high st → list_all short_place (statement_marks q p at (statement_of s c st)) ≡ true
    marks_short (no_op place) at h = and_from _ _ (short place at h) refl
    marks_short (signal place n) at h = and_from _ _ (short place at h) refl
    marks_short (seq place ss) at h = all_marks_short ss at h
    marks_short (loop place b) at h =
        let end = at + 1 + size q (statement_of s c b) in
        and_from _ _ (short place at h.0)
        (all_both (statement_marks q p (at + 1) (statement_of s c b)) (mark_at p end place ∷ []) (marks_short b (at + 1) h.1)
        (and_from _ _ (short place end h.0) refl))
    marks_short (branch place test a b) at h =
        let jump = at + 3 + size q (statement_of s c a) in
        let end = jump + 2 + size q (statement_of s c b) in
        and_from _ _ (short place at h.0)
        (all_both (statement_marks q p (at + 3) (statement_of s c a))
        (mark_at p jump place ∷ (statement_marks q p (jump + 2) (statement_of s c b) ++ mark_at p end place ∷ [])) (marks_short a (at + 3) h.1)
        (and_from _ _ (short place jump h.0)
        (all_both (statement_marks q p (jump + 2) (statement_of s c b)) (mark_at p end place ∷ []) (marks_short b (jump + 2) h.2)
        (and_from _ _ (short place end h.0) refl))))
    marks_short (begin place a cs b) at h =
        let jump = at + size q (statement_of s c a) in
        let end = jump + 3 + size q (statement_of s c b) in
        all_both (statement_marks q p at (statement_of s c a))
        (mark_at p jump place ∷ (statement_marks q p (jump + 3) (statement_of s c b) ++ mark_at p end place ∷ [])) (marks_short a at h.1)
        (and_from _ _ (short place jump h.0)
        (all_both (statement_marks q p (jump + 3) (statement_of s c b)) (mark_at p end place ∷ []) (marks_short b (jump + 3) h.2)
        (and_from _ _ (short place end h.0) refl)))
    marks_short (call place f xp xs cp cs) at h = and_from _ _ (short place at h) refl
    marks_short (predef place r xs) at h = and_from _ _ (short place at h) refl

    all_marks_short : (ss : StmtsOf) (at : ℕ) → AllStandBelow high ss → list_all short_place (statement_marks q p at (statement_of_all s c ss)) ≡ true
    all_marks_short no_parts at h = refl
    all_marks_short (part a ss) at h =
        let next = at + size q (statement_of s c a) in
        all_both (statement_marks q p at (statement_of s c a)) (statement_marks q p next (statement_of_all s c ss)) (marks_short a at h.0)
        (all_marks_short ss next h.1)

module _ (s : SourceOf) (c : ProcOf) (q : Program) (p : ℕ) where
  mutual
    marks_number : (st : StmtOf) (at : ℕ) → length (statement_marks q p at (statement_of s c st)) ≤ marks_in st
    marks_number (no_op place) at = omega arith
    marks_number (signal place n) at = omega arith
    marks_number (seq place ss) at = all_marks_number ss at
    marks_number (loop place b) at =
        omega (
          arith,
          marks_number b (at + 1),
          length-append (statement_marks q p (at + 1) (statement_of s c b))
              (mark_at p (at + 1 + size q (statement_of s c b)) place ∷ []),
        )
    marks_number (branch place test a b) at =
        let jump = at + 3 + size q (statement_of s c a) in
        let end = jump + 2 + size q (statement_of s c b) in
        omega (
          arith,
          marks_number a (at + 3),
          marks_number b (jump + 2),
          length-append (statement_marks q p (at + 3) (statement_of s c a))
              (mark_at p jump place ∷ (statement_marks q p (jump + 2) (statement_of s c b) ++ mark_at p end place ∷ [])),
          length-append (statement_marks q p (jump + 2) (statement_of s c b)) (mark_at p end place ∷ []),
        )
    marks_number (begin place a cs b) at =
        let jump = at + size q (statement_of s c a) in
        let end = jump + 3 + size q (statement_of s c b) in
        omega (
          arith,
          marks_number a at,
          marks_number b (jump + 3),
          length-append (statement_marks q p at (statement_of s c a))
              (mark_at p jump place ∷ (statement_marks q p (jump + 3) (statement_of s c b) ++ mark_at p end place ∷ [])),
          length-append (statement_marks q p (jump + 3) (statement_of s c b)) (mark_at p end place ∷ []),
        )
    marks_number (call place f xp xs cp cs) at = omega arith
    marks_number (predef place r xs) at = omega arith

    all_marks_number : (ss : StmtsOf) (at : ℕ) → length (statement_marks q p at (statement_of_all s c ss)) ≤ marks_in_all ss
    all_marks_number no_parts at = omega arith
    all_marks_number (part a ss) at =
        let next = at + size q (statement_of s c a) in
        omega (
          arith,
          marks_number a at,
          all_marks_number ss next,
          length-append (statement_marks q p at (statement_of s c a))
              (statement_marks q p next (statement_of_all s c ss)),
        )

-- ---- the bytes of its tables

names_bytes : (ns : List Named) → length (flat_map name_bytes (map (λ (n : Named). n.name) ns)) ≡ conditions_cost ns
unfolding conditions_cost
names_bytes [] = refl
names_bytes (n ∷ ns) =
    let rest = names_bytes ns in omega (arith, rest, length-append (name_bytes n.name) (flat_map name_bytes (map (λ (n : Named). n.name) ns)))

flat_names : (xs ys : List (List ℕ)) → length (flat_map name_bytes (xs ++ ys)) ≡ length (flat_map name_bytes xs) + length (flat_map name_bytes ys)
flat_names [] ys = omega arith
flat_names (x ∷ xs) ys =
    let rest = flat_names xs ys in
    omega (arith, rest, length-append (name_bytes x) (flat_map name_bytes (xs ++ ys)), length-append (name_bytes x) (flat_map name_bytes xs))

-- so many bytes for variables of these names
variables_cost : List (List ℕ) → ℕ
variables_cost [] = 0
variables_cost (name ∷ names) = 16 + length name + variables_cost names

infos_bytes : (f : ℕ → ℕ) (b : ℕ) (names : List (List ℕ)) (shapes : List Shape) → length (flat_map variable_bytes (variable_infos f b names shapes))
    ≤ variables_cost names
unfolding variables_cost
infos_bytes f b [] shapes = omega arith
infos_bytes f b (name ∷ names) [] = omega arith
infos_bytes f b (name ∷ names) (x ∷ shapes) =
    let rest = infos_bytes f (b + 1) names shapes in
    let one = variable_bytes record { name = name; shape = x; offset = f b } in
    omega (
      arith,
      rest,
      length-append one (flat_map variable_bytes (variable_infos f (b + 1) names shapes)),
      length-append (name_bytes name ++ shape_bytes x) (number_bytes (f b)),
      length-append (name_bytes name) (shape_bytes x),
    )

formals_names : (ds : List Decl) (rest : List (List ℕ)) → variables_cost (map (λ (d : Decl). d.name.name) ds ++ rest) ≡ formals_cost ds + variables_cost rest
unfolding variables_cost formals_cost
formals_names [] rest = omega arith
formals_names (d ∷ ds) rest = let k = formals_names ds rest in omega (arith, k)

locals_names : (ls : List LocalOf) → variables_cost (map (λ (l : LocalOf). l.decl.name.name) ls) ≡ locals_cost ls
unfolding variables_cost locals_cost
locals_names [] = refl
locals_names (l ∷ ls) = let k = locals_names ls in omega (arith, k)

procedure_few : (q : Program) (p : ℕ) (c : ProcOf) → length (procedure_bytes (procedure_info q p c)) ≤ 26 + length c.name.name + conditions_cost c.conds
    + conditions_cost c.local_conds + formals_cost c.formals + locals_cost c.locals
procedure_few q p c =
    let conditions : List (List ℕ) = condition_names c in
    let names : List (List ℕ) = variable_names c in
    let infos = variable_infos (offset q p) 0 names (shapes_of (proc_at q p)) in
    let both = flat_names (map (λ (n : Named). n.name) c.conds) (map (λ (n : Named). n.name) c.local_conds) in
    let variables = infos_bytes (offset q p) 0 names (shapes_of (proc_at q p)) in
    let cost = formals_names c.formals (map (λ (l : LocalOf). l.decl.name.name) c.locals) in
    let first = name_bytes c.name.name in
    let second = counted_bytes name_bytes (space_name ∷ conditions) in
    let third = counted_bytes variable_bytes infos in
    omega (
      arith,
      both,
      names_bytes c.conds,
      names_bytes c.local_conds,
      variables,
      cost,
      locals_names c.locals,
      length-append (first ++ second) third,
      length-append first second,
    )

module _ (s : SourceOf) (q : Program) where
  -- its procedures stand in the program from position k on
  abbrev Stand : ℕ → List ProcOf → Type 0
  Stand k procs = (i : ℕ) (c : ProcOf) → slice_get procs i ≡ Some c → proc_at q (k + i) ≡ procedure_of s c

  here : (k : ℕ) (c : ProcOf) (procs : List ProcOf) → Stand k (c ∷ procs) → proc_at q k ≡ procedure_of s c
  here k c procs stand = let zero_on : k + 0 ≡ k = omega arith in subst (λ (i : ℕ). proc_at q i ≡ procedure_of s c) zero_on (stand 0 c refl)

  others : (k : ℕ) (c : ProcOf) (procs : List ProcOf) → Stand k (c ∷ procs) → Stand (suc k) procs
  others k c procs stand i d e = let next : k + suc i ≡ suc k + i = omega arith in subst (λ (j : ℕ). proc_at q j ≡ procedure_of s d) next (stand (suc i) d e)

  procedures_few : (k : ℕ) (procs : List ProcOf) → Stand k procs → length (flat_map procedure_bytes (procedure_infos q k procs)) + 12
      * length (flat_map (procedure_marks q) (count_from k (length procs))) ≤ procedures_cost procs
  unfolding procedures_cost
  procedures_few k [] stand = omega arith
  procedures_few k (c ∷ procs) stand =
      let body : body_of q k ≡ statement_of s c c.body = ap (λ (d : Proc). d.body) (here k c procs stand) in
      let marks : length (statement_marks q k 0 (body_of q k)) ≤ marks_in c.body =
      subst (λ (b : Stmt). length (statement_marks q k 0 b) ≤ marks_in c.body) (sym body) (marks_number s c q k c.body 0) in
      let tail = tail_marks k (size q (body_of q k)) (proc_at q k).place in
      let rest = procedures_few (suc k) procs (others k c procs stand) in
      omega (
        arith,
        rest,
        marks,
        procedure_few q k c,
        length-append (statement_marks q k 0 (body_of q k)) tail,
        length-append (procedure_marks q k) (flat_map (procedure_marks q) (count_from (suc k) (length procs))),
        length-append (procedure_bytes (procedure_info q k c)) (flat_map procedure_bytes (procedure_infos q (suc k) procs)),
      )

  procedures_short : (high : ℕ) → high ≤ 1048576 → (k : ℕ) (procs : List ProcOf) → Stand k procs → EachStands high procs
      → list_all short_place (flat_map (procedure_marks q) (count_from k (length procs))) ≡ true
  procedures_short high low k [] stand each = refl
  procedures_short high low k (c ∷ procs) stand each =
      let at = here k c procs stand in
      let body : body_of q k ≡ statement_of s c c.body = ap (λ (d : Proc). d.body) at in
      let place : (proc_at q k).place ≡ c.place = ap (λ (d : Proc). d.place) at in
      let marks : list_all short_place (statement_marks q k 0 (body_of q k)) ≡ true =
      subst (λ (b : Stmt). list_all short_place (statement_marks q k 0 b) ≡ true) (sym body) (marks_short s c q k high low c.body 0 each.0.1) in
      let ends : is_place (proc_at q k).place ≡ true = lt-ltb (proc_at q k).place (2 ^ 20) (omega (arith, each.0.0, low, place)) in
      let tail = tail_marks k (size q (body_of q k)) (proc_at q k).place in
      all_both (procedure_marks q k) (flat_map (procedure_marks q) (count_from (suc k) (length procs)))
      (all_both (statement_marks q k 0 (body_of q k)) tail marks (and_from _ _ ends (and_from _ _ ends (and_from _ _ ends refl))))
      (procedures_short high low (suc k) procs (others k c procs stand) each.1)

marks_bytes : (ms : List Mark) → length (flat_map mark_bytes ms) ≡ 12 * length ms
marks_bytes [] = refl
marks_bytes (m ∷ ms) = let rest = marks_bytes ms in omega (arith, rest, length-append (mark_bytes m) (flat_map mark_bytes ms))

stand_all : (s : SourceOf) → Stand s (program_of s) 0 s.procs
stand_all s i c e =
    let zero_on : i ≡ 0 + i = omega arith in
    subst (λ (j : ℕ). proc_at (program_of s) j ≡ procedure_of s c) zero_on (get_or_map (procedure_of s) s.procs i c no_proc e)

same_number : (s : SourceOf) → length (program_of s).procs ≡ length s.procs
same_number s = length-map s.procs (procedure_of s)

tables_few : (s : SourceOf) (system : SystemView) → length (tables_bytes 2 (source_tables s system)) ≤ 8 + procedures_cost s.procs
tables_few s system = by_places (places_fit (program_of s))
  where
    full : Tables
    full = record { procedures = procedure_infos (program_of s) 0 s.procs; marks = map (mark_info system) (marks_of (program_of s)) }

    by_places : (fit : Bool) → length (tables_bytes 2 (cond fit full no_tables)) ≤ 8 + procedures_cost s.procs
    by_places true =
        let q : Program = program_of s in
        let all = procedures_few s q 0 s.procs (stand_all s) in
        let marks = map (mark_info system) (marks_of q) in
        let number : length marks ≡ length (marks_of q) = length-map (marks_of q) (mark_info system) in
        let same : length (marks_of q) ≡ length (flat_map (procedure_marks q) (count_from 0 (length s.procs))) =
        ap (λ (n : ℕ). length (flat_map (procedure_marks q) (count_from 0 n))) (same_number s) in
        omega (
          arith,
          all,
          number,
          same,
          marks_bytes marks,
          length-append (counted_bytes procedure_bytes (procedure_infos q 0 s.procs))
              (counted_bytes mark_bytes marks),
        )
    by_places false = omega arith

-- ---- what is built of it

pub text_places_fit : (text : List ℕ) (s : SourceOf) → accepted_source text ≡ Ok s → length text ≤ 2 ^ 20 → places_fit (program_of s) ≡ true
text_places_fit text s read few =
    let light = text_is_light text s read in
    ap (λ (n : ℕ). list_all short_place (flat_map (procedure_marks (program_of s)) (count_from 0 n))) (same_number s)
    ∙ procedures_short s (program_of s) (length text) (omega (arith, few)) 0 s.procs (stand_all s) light.each

tables_of_image : (s : SourceOf) (sizes : StackSizes) (base : ℕ) → length
    (tables_bytes (image_of s sizes base).version (tables_of (image_of s sizes base))) ≤ 8 + procedures_cost s.procs
unfolding image_of
tables_of_image s sizes base = tables_few s (generated_view (program_of s) sizes base)

text_builds_whole : (text : List ℕ) (ctrl temp : ℕ) (s : SourceOf) (b : BuiltOf) → accepted_source text ≡ Ok s → Builds s (stack_sizes ctrl temp) b
    → BuildsText text ctrl temp b
text_builds_whole text ctrl temp s b read builds = record {
  source = s;
  read = read;
  marked = text_places_fit text s read;
  short = λ few.
      let light = text_is_light text s read in
      let image : ImageOf = image_of s (stack_sizes ctrl temp) builds.base in
      let file : length b.bytes ≡ length (spelling b.image) = ap length builds.spells.fields in
      let before = file_few b.image builds.spells.limits in
      let same : length (tables_bytes b.image.version (tables_of b.image)) ≡ length (tables_bytes image.version (tables_of image)) =
      ap (λ (i : ImageOf). length (tables_bytes i.version (tables_of i))) builds.is in
      let tables = tables_of_image s (stack_sizes ctrl temp) builds.base in
      let cost = light.few in
      omega (arith, file, before, same, tables, cost, few);
  builds = builds;
}

pub text_builds_if : (text : List ℕ) (ctrl temp : ℕ) (s : SourceOf) (r : Result BuiltOf BuildFault) → accepted_source text ≡ Ok s
    → IfOk r (Builds s (stack_sizes ctrl temp)) → IfOk r (BuildsText text ctrl temp)
text_builds_if text ctrl temp s (Ok b) read builds = text_builds_whole text ctrl temp s b read builds
text_builds_if text ctrl temp s (Err fault) read builds = tt
