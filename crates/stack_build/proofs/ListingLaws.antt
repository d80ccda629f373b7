-- What the code lists is the procedures and the marks of an image.
use Rattle.std.proofs.Common.{◌≡◌, ◌<◌, ◌≤◌, ◌+◌, ◌-◌, ℕ, zero, suc, Bool, true, cond, ltb, eqb, List, [], ◌∷◌, ◌++◌, length, map, get_or, Option, Some, None}
use Rattle.std.{proofs.Common.{refl, sym, ap, subst, ◌∙◌, arith, append_assoc}, specs.Prelude.{All, drop, slice_get}, specs.List.list_all}
use Rattle.std.{specs.Option.unwrap_or, proofs.lemmas.List.{length-append, length-map}, proofs.lemmas.List.Elements.{All-head, All-tail}}
use Rattle.stack_text.{specs.declared.shape.Shape.Shape, specs.Options.◌>>=◌, specs.Values.ValueOf, proofs.Loops.drop-item}
use Rattle.fm_image.{specs.declared.procedure.Mark.Mark, specs.declared.procedure.VarInfo.VarInfo, specs.Limits.{Tables, no_tables, is_place}}
use Rattle.fm_image.specs.Procedure.{ProcedureOf}
use Rattle.display_maps.specs.Reading.{space_name}
use Rattle.piton_check.specs.Instruction.{Instruction, ProgramView, SystemView}
use Rattle.piton_semantics.{specs.State.program_of as program_in, specs.Fits.IsPlace, specs.Placed.address_of_place, proofs.AddressLaws.program_there}
use Rattle.piton_linker.specs.Layouts.{places_from, places_of}
use Rattle.gypsy_syntax.{specs.ProgramFits.Each, specs.Programs.{Proc, Program, no_proc, proc_at, shapes_of}, specs.declared.literal.Decl.Decl}
use Rattle.gypsy_syntax.{specs.Fits.FitsProcedure, specs.Resolved.program_of, specs.Sources.{LocalOf, ProcOf, SourceOf}, proofs.FitsLaws.keeps_fits}
use Rattle.gypsy_check.{specs.Accepted.IsAccepted, proofs.CleanLaws.get_or_map}
use Rattle.gypsy_space.specs.declared.program.Program as nodes
use Rattle.gypsy_space.{specs.declared.program.Procedure.Procedure, specs.Needs.StackSizes, specs.Nodes.{ProcNames, declared_names, seen_proc, seen_proc_names}}
use Rattle.gypsy_space.specs.Nodes.{seen_program}
use Rattle.gypsy_codegen.{specs.declared.marking.MarkAt.MarkAt, specs.Generated.{offset, generated_view}, specs.Marks.{IsMarkPlace, marks_of}}
use Rattle.gypsy_codegen.proofs.MarkOrderLaws.{marks_are_places}
use Rattle.stack_build.{specs.declared.tables.FrameOrder.FrameOrder, specs.Image.{variable_infos, procedure_info, procedure_infos, mark_info, source_tables}}
use Rattle.stack_build.specs.Internal.Listing.{Declares, IsGenerated, offset_in, order_of, formal_infos, local_infos, frame_infos, listed_procedure}
use Rattle.stack_build.specs.Internal.Listing.{address_among, mark_among}

-- ---- variables

-- formals and then locals
pub infos_both : (f : ℕ → ℕ) (b : ℕ) (ns ms : List (List ℕ)) (ss ts : List Shape) → length ns ≡ length ss →
    variable_infos f b (ns ++ ms) (ss ++ ts) ≡ variable_infos f b ns ss ++ variable_infos f (b + length ns) ms ts
infos_both f b [] ms [] ts e = let here : b ≡ b + 0 = omega arith in ap (λ (k : ℕ). variable_infos f k ms ts) here
infos_both f b [] ms (s ∷ ss) ts e = absurd (omega (arith, e))
infos_both f b (n ∷ ns) ms [] ts e = absurd (omega (arith, e))
infos_both f b (n ∷ ns) ms (s ∷ ss) ts e =
    let next : b + 1 + length ns ≡ b + length (n ∷ ns) = omega arith in
    ap (λ (vs : List VarInfo). record { name = n; shape = s; offset = f b } ∷ vs)
    (infos_both f (b + 1) ns ms ss ts (omega (arith, e)) ∙ ap (λ (k : ℕ). variable_infos f (b + 1) ns ss ++ variable_infos f k ms ts) next)

pub length_infos : (f : ℕ → ℕ) (b : ℕ) (ns : List (List ℕ)) (ss : List Shape) → length ns ≡ length ss → length (variable_infos f b ns ss) ≡ length ns
length_infos f b [] ss e = refl
length_infos f b (n ∷ ns) [] e = absurd (omega (arith, e))
length_infos f b (n ∷ ns) (s ∷ ss) e = ap suc (length_infos f (b + 1) ns ss (omega (arith, e)))

-- one more is appended
pub one_more : {X : Type 0} (old new : List X) (x : X) → new ≡ old ++ x ∷ [] → length new ≡ length old + 1
one_more old new x now = omega (arith, ap length now, length-append old (x ∷ []))

pub info_next : {X : Type 0} (f : ℕ → ℕ) (name : X → List ℕ) (shape : X → Shape) (xs : List X) (k : ℕ) (x : X) (old new all : List VarInfo)
    → k < length xs → x ≡ get_or xs k x →
    new ≡ old ++ record { name = name x; shape = shape x; offset = f (length old) } ∷ [] →
    old ++ variable_infos f (length old) (map name (drop k xs)) (map shape (drop k xs)) ≡ all
    → new ++ variable_infos f (length new) (map name (drop (k + 1) xs)) (map shape (drop (k + 1) xs)) ≡ all
info_next {X} f name shape xs k x old new all lt is now so_far =
    let one : VarInfo = record { name = name x; shape = shape x; offset = f (length old) } in
    let number = one_more old new one now in
    let rest : List VarInfo = variable_infos f (length old + 1) (map name (drop (k + 1) xs)) (map shape (drop (k + 1) xs)) in
    ap (λ (n : ℕ). new ++ variable_infos f n (map name (drop (k + 1) xs)) (map shape (drop (k + 1) xs))) number
    ∙ ap (λ (vs : List VarInfo). vs ++ rest) now ∙ append_assoc old (one ∷ []) rest
    ∙ ap (λ (ys : List X). old ++ variable_infos f (length old) (map name ys) (map shape ys)) (sym (drop-item xs k x lt is)) ∙ so_far

-- those of formals are listed, and then those of locals
pub listed_both : {X Y : Type 0} (f : ℕ → ℕ) (names : X → List ℕ) (shapes : X → Shape) (locals : Y → List ℕ) (values : Y → ValueOf) (xs : List X)
    (ys : List Y) (one two : List VarInfo) →
    one ≡ [] ++ variable_infos f 0 (map names xs) (map shapes xs) → two ≡ one ++ variable_infos f (length one) (map locals ys)
    (map (λ y. (values y).shape) ys) →
    two ≡ variable_infos f 0 (map names xs ++ map locals ys) (map shapes xs ++ map (λ (v : ValueOf). v.shape) (map values ys))
listed_both {X} {Y} f names shapes locals values xs ys one two first second =
    let both : length (map names xs) ≡ length (map shapes xs) = length-map xs names ∙ sym (length-map xs shapes) in
    let number : length one ≡ 0 + length (map names xs) = omega (arith, ap length first, length_infos f 0 (map names xs) (map shapes xs) both) in
    second
    ∙ ap (λ (n : ℕ). one ++ variable_infos f n (map locals ys) (map (λ y. (values y).shape) ys)) number
    ∙ ap (λ (vs : List VarInfo). vs ++ variable_infos f (0 + length (map names xs)) (map locals ys) (map (λ y. (values y).shape) ys)) first
    ∙ ap (λ (ss : List Shape). variable_infos f 0 (map names xs) (map shapes xs) ++ variable_infos f (0 + length (map names xs)) (map locals ys) ss)
    (map_twice ys)
    ∙ sym (infos_both f 0 (map names xs) (map locals ys) (map shapes xs) (map (λ (v : ValueOf). v.shape) (map values ys)) both)
  where
    map_twice : (zs : List Y) → map (λ y. (values y).shape) zs ≡ map (λ (v : ValueOf). v.shape) (map values zs)
    map_twice [] = refl
    map_twice (z ∷ zs) = ap (λ (ss : List Shape). (values z).shape ∷ ss) (map_twice zs)

-- the number of formals that are listed first
pub first_number : (f : ℕ → ℕ) (old new : List VarInfo) (formals : List (List ℕ × Shape)) → old ≡ [] → new ≡ old ++ formal_infos f (length old) formals
    → length new ≡ length formals
first_number f old new formals none now =
    let both = length-map formals (λ x. x.0) ∙ sym (length-map formals (λ x. x.1)) in
    ap length now ∙ ap (λ (vs : List VarInfo). length (vs ++ formal_infos f (length vs) formals)) none
    ∙ length_infos f 0 (map (λ x. x.0) formals) (map (λ x. x.1) formals) both ∙ length-map formals (λ x. x.0)

-- the variables of a procedure are listed
pub frame_listed : (is_main : Bool) (found : Procedure) (order : FrameOrder) (old one two : List VarInfo) (formals : List (List ℕ × Shape))
    (locals : List (List ℕ × ValueOf)) →
    order ≡ order_of is_main found → formals ≡ found.formals.items → locals ≡ found.locals.items → old ≡ []
    → one ≡ old ++ formal_infos (offset_in order) (length old) formals →
    two ≡ one ++ local_infos (offset_in order) (length one) locals → two ≡ frame_infos is_main found
frame_listed is_main found order old one two formals locals o f l none first second =
    let start = first ∙ ap (λ (vs : List VarInfo). vs ++ formal_infos (offset_in order) (length vs) formals) none in
    listed_both {X = List ℕ × Shape} {Y = List ℕ × ValueOf} (offset_in order) (λ x. x.0) (λ x. x.1) (λ x. x.0) (λ x. x.1) formals locals one two start second
    ∙ (λ i. variable_infos (offset_in (o i)) 0 (map (λ x. x.0) (f i) ++ map (λ x. x.0) (l i))
    (map (λ x. x.1) (f i) ++ map (λ (v : ValueOf). v.shape) (map (λ x. x.1) (l i))))

-- the offsets of a procedure
pub offsets_are : (q : Program) (p formals locals : ℕ) → formals ≡ length (proc_at q p).formals → locals ≡ length (proc_at q p).locals →
    offset_in record { is_main = eqb p q.main; formals = formals; locals = locals } ≡ offset q p
offsets_are q p formals locals f l = λ i b. cond (eqb p q.main) b (cond (ltb b (f i)) (l i + b) (b - f i))

-- a procedure
pub procedure_is : (program : nodes.Program) (k : ℕ) (c : ProcOf) (found : Procedure) → slice_get program.procedures.items k ≡ Some found
    → seen_proc_names found ≡ declared_names c →
    listed_procedure (eqb k program.main) c.name.name found ≡ procedure_info (seen_program program) k c
procedure_is program k c found there names =
    let q : Program = seen_program program in
    let at : proc_at q k ≡ seen_proc found = get_or_map seen_proc program.procedures.items k found no_proc there in
    let here : seen_proc found ≡ proc_at q k = sym at in
    let formals : length found.formals.items ≡ length (proc_at q k).formals =
    sym (ap (λ (p : Proc). length p.formals) at ∙ length-map found.formals.items (λ f. f.1)) in
    let locals : length found.locals.items ≡ length (proc_at q k).locals =
    sym (ap (λ (p : Proc). length p.locals) at ∙ length-map found.locals.items (λ l. l.1)) in
    let offsets = offsets_are q k (length found.formals.items) (length found.locals.items) formals locals in
    λ i. record {
      name = c.name.name;
      conditions = space_name ∷ (names i).conditions;
      variables = variable_infos (offsets i) 0 (names i).variables (shapes_of (here i));
    }

-- one more is appended
pub procedure_next : (q : Program) (procs : List ProcOf) (k : ℕ) (c : ProcOf) (old new all : List ProcedureOf) → k < length procs → c ≡ get_or procs k c
    → new ≡ old ++ procedure_info q k c ∷ [] →
    old ++ procedure_infos q k (drop k procs) ≡ all → new ++ procedure_infos q (k + 1) (drop (k + 1) procs) ≡ all
procedure_next q procs k c old new all lt is now so_far =
    let next : k + 1 ≡ suc k = omega arith in
    let rest : List ProcedureOf = procedure_infos q (suc k) (drop (k + 1) procs) in
    ap (λ (n : ℕ). new ++ procedure_infos q n (drop (k + 1) procs)) next
    ∙ ap (λ (ps : List ProcedureOf). ps ++ rest) now ∙ append_assoc old (procedure_info q k c ∷ []) rest
    ∙ ap (λ (cs : List ProcOf). old ++ procedure_infos q k cs) (sym (drop-item procs k c lt is)) ∙ so_far

-- the names of the procedure at a position, and how many variables it has
pub names_at : (ps : List Procedure) (procs : List ProcOf) (k : ℕ) (found : Procedure) (c : ProcOf) → map seen_proc_names ps ≡ map declared_names procs
    → slice_get ps k ≡ Some found → k < length procs → c ≡ get_or procs k c →
    seen_proc_names found ≡ declared_names c
names_at [] procs k found c e there lt is = absurd cc
names_at (p ∷ ps) [] k found c e there lt is = absurd cc
names_at (p ∷ ps) (d ∷ procs) zero found c e there lt is =
    let first : seen_proc_names p ≡ declared_names d = cc in
    let same : p ≡ found = cc in
    ap seen_proc_names (sym same) ∙ first ∙ ap declared_names (sym is)
names_at (p ∷ ps) (d ∷ procs) (suc k) found c e there lt is =
    let others : map seen_proc_names ps ≡ map declared_names procs = cc in
    names_at ps procs k found c others there (omega (arith, lt)) is

pub not_missing : (ps : List Procedure) (procs : List ProcOf) (k : ℕ) → map seen_proc_names ps ≡ map declared_names procs → k < length procs
    → slice_get ps k ≡ None → ⊥
not_missing [] [] k e lt none = omega (arith, lt)
not_missing [] (d ∷ procs) k e lt none = cc
not_missing (p ∷ ps) [] k e lt none = omega (arith, lt)
not_missing (p ∷ ps) (d ∷ procs) zero e lt none = cc
not_missing (p ∷ ps) (d ∷ procs) (suc k) e lt none =
    let others : map seen_proc_names ps ≡ map declared_names procs = cc in
    not_missing ps procs k others (omega (arith, lt)) none

pub few_at : (procs : List ProcOf) (k : ℕ) (c : ProcOf) → Each (λ (p : ProcOf). length p.formals + length p.locals ≤ 200) procs → k < length procs
    → c ≡ get_or procs k c → length c.formals + length c.locals ≤ 200
few_at [] k c few lt is = absurd (omega (arith, lt))
few_at (d ∷ procs) zero c few lt is = omega (arith, few.0, ap (λ (p : ProcOf). length p.formals) is, ap (λ (p : ProcOf). length p.locals) is)
few_at (d ∷ procs) (suc k) c few lt is = few_at procs k c few.1 (omega (arith, lt)) is

pub few_found : (found : Procedure) (c : ProcOf) → seen_proc_names found ≡ declared_names c → length c.formals + length c.locals ≤ 200
    → length found.formals.items + length found.locals.items ≤ 200
few_found found c names few =
    let same : length (seen_proc_names found).variables ≡ length (declared_names c).variables = ap (λ (n : ProcNames). length n.variables) names in
    omega (
      arith,
      few,
      same,
      length-append (map (λ f. f.0) found.formals.items) (map (λ l. l.0) found.locals.items),
      length-map found.formals.items (λ f. f.0),
      length-map found.locals.items (λ l. l.0),
      length-append (map (λ (d : Decl). d.name.name) c.formals) (map (λ (l : LocalOf). l.decl.name.name) c.locals),
      length-map c.formals (λ (d : Decl). d.name.name),
      length-map c.locals (λ (l : LocalOf). l.decl.name.name),
    )

-- what an accepted source declares
pub declares : (s : SourceOf) (program : nodes.Program) → IsAccepted s → map seen_proc_names program.procedures.items ≡ map declared_names s.procs
    → Declares program s.procs
declares s program accepted names =
    let form = keeps_fits s accepted.form in
    record { names = names; number = form.few_procs; few = each_few s.procs form.procs }
  where
    each_few : (procs : List ProcOf) → All FitsProcedure procs → Each (λ (p : ProcOf). length p.formals + length p.locals ≤ 200) procs
    each_few [] fits = tt
    each_few (c ∷ procs) fits = ((All-head FitsProcedure c procs fits).few_variables, each_few procs (All-tail FitsProcedure c procs fits))

-- ---- marks

place_from : (s : SystemView) (a k : ℕ) (is : List Instruction) (l : ℕ) → l < length is
    → slice_get (places_from s a k is) l ≡ Some (address_of_place s a (k + l))
place_from s a k [] l lt = absurd (omega (arith, lt))
place_from s a k (i ∷ is) zero lt = let here : k ≡ k + 0 = omega arith in ap (λ (n : ℕ). Some (address_of_place s a n)) here
place_from s a k (i ∷ is) (suc l) lt =
    let next : k + 1 + l ≡ k + suc l = omega arith in
    place_from s a (k + 1) is l (omega (arith, lt)) ∙ ap (λ (n : ℕ). Some (address_of_place s a n)) next

row_from : (s : SystemView) (k : ℕ) (ps : List ProgramView) (a : ℕ) (d : ProgramView) → a < length ps
    → slice_get (places_of s k ps) a ≡ Some (places_from s (k + a) 0 (get_or ps a d).instructions)
row_from s k [] a d lt = absurd (omega (arith, lt))
row_from s k (p ∷ ps) zero d lt = let here : k ≡ k + 0 = omega arith in ap (λ (n : ℕ). Some (places_from s n 0 p.instructions)) here
row_from s k (p ∷ ps) (suc a) d lt =
    let next : k + 1 + a ≡ k + suc a = omega arith in
    row_from s (k + 1) ps a d (omega (arith, lt)) ∙ ap (λ (n : ℕ). Some (places_from s n 0 (get_or ps a d).instructions)) next

address_is : (s : SystemView) (m : MarkAt) → IsPlace s m.program m.at → address_among (places_of s 0 s.programs) m ≡ address_of_place s m.program m.at
address_is s m there =
    let none : ProgramView = record { formals = 0; temporaries = []; instructions = [] } in
    let zero_on : 0 + m.program ≡ m.program = omega arith in
    let row = row_from s 0 s.programs m.program none (program_there s.programs m.program m.at there)
    ∙ ap (λ (n : ℕ). Some (places_from s n 0 (program_in s m.program).instructions)) zero_on in
    let place = place_from s m.program 0 (program_in s m.program).instructions m.at there in
    let at_zero : 0 + m.at ≡ m.at = omega arith in
    ap (λ (o : Option (List ℕ)). unwrap_or (o >>= λ row. slice_get row m.at) 0) row
    ∙ ap (λ (o : Option ℕ). unwrap_or o 0) place ∙ ap (address_of_place s m.program) at_zero

pub marks_are : (q : Program) (sizes : StackSizes) (base : ℕ) (ms : List MarkAt) → Each (IsMarkPlace q sizes base) ms →
    map (mark_among (places_of (generated_view q sizes base) 0 (generated_view q sizes base).programs)) ms ≡ map (mark_info (generated_view q sizes base)) ms
marks_are q sizes base [] places = refl
marks_are q sizes base (m ∷ ms) places =
    let address = address_is (generated_view q sizes base) m places.0.1 in
    λ i. record { address = address i; procedure = m.program; place = m.place } ∷ marks_are q sizes base ms places.1 i

-- ---- both

module _ (s : SourceOf) (system : SystemView) (generated : IsGenerated s system) (listed : List MarkAt) (all : listed ≡ marks_of (program_of s)) where
  abbrev full : Tables
  full = record { procedures = procedure_infos (program_of s) 0 s.procs; marks = map (mark_info system) (marks_of (program_of s)) }

  pub tables_are : (places : List (List ℕ)) (procedures : List ProcedureOf) (marks : List Mark) → places ≡ places_of system 0 system.programs
      → list_all (λ (m : MarkAt). is_place m.place) listed ≡ true →
      procedures ≡ procedure_infos (program_of s) 0 s.procs → marks ≡ map (mark_among places) listed
      → record { procedures = procedures; marks = marks } ≡ source_tables s system
  tables_are places procedures marks at fit ps ms =
      let q : Program = program_of s in
      let whole : source_tables s system ≡ full = ap (λ (b : Bool). cond b full no_tables) (ap (list_all (λ (m : MarkAt). is_place m.place)) (sym all) ∙ fit) in
      let view = generated.view in
      let addresses : map (mark_among (places_of system 0 system.programs)) (marks_of q) ≡ map (mark_info system) (marks_of q) =
      subst (λ (v : SystemView). map (mark_among (places_of v 0 v.programs)) (marks_of q) ≡ map (mark_info v) (marks_of q)) (sym view)
      (marks_are q generated.sizes generated.base (marks_of q) (marks_are_places q generated.sizes generated.base)) in
      let listed_marks : marks ≡ map (mark_info system) (marks_of q) =
      ms ∙ ap (λ (rows : List (List ℕ)). map (mark_among rows) listed) at ∙ ap (map (mark_among (places_of system 0 system.programs))) all ∙ addresses in
      (λ i. record { procedures = ps i; marks = listed_marks i }) ∙ sym whole
