-- At each moment what is read is the state of the step machine.
use Rattle.std.proofs.Common.{◌≡◌, ◌≢◌, ◌+◌, ◌-◌, ℕ, zero, suc, ℤ, List, [], ◌∷◌, ◌++◌, length, map, Bool, Option, Some, option_map, cond, refl, sym, ap, subst}
use Rattle.std.{proofs.Common.{◌∙◌, inl, inr, arith, length-append}, specs.Prelude.{IsTrue, slice_get, get_or, if◌then◌else◌}, specs.List.Contains}
use Rattle.std.{proofs.lemmas.Bool.{eq-eqb, ne_eqb}, proofs.lemmas.List.length-map}
use Rattle.stack_text.{specs.declared.name.Named.Named, specs.declared.shape.Shape.Shape, specs.Options.◌>>=◌, specs.Values.{ValueOf, item_count}}
use Rattle.stack_text.proofs.SharedLaws.{get_some}
use Rattle.fm_words.specs.Word.{word_of_int}
use Rattle.fm_machine.specs.State.{Fm}
use Rattle.fm_image.{specs.declared.procedure.Mark.Mark, specs.Limits.{Tables, no_tables}, specs.Procedure.ProcedureOf}
use Rattle.display_maps.{specs.declared.shown.Shown.Shown, specs.Reading.{word_in, condition_of, item_of, space_name}, specs.ReadingAt.{StandingOf, ItemsOf}}
use Rattle.display_maps.specs.ReadingAt.{machine_at, words_below, items_below, items_at, mark_there, condition_word, read_in, read_from}
use Rattle.display_maps.{specs.ValueReading.value_shown, proofs.ItemLaws.items_read}
use Rattle.display_maps.specs.ReadingAt as reading
use Rattle.piton_check.specs.Instruction.{SystemView}
use Rattle.piton_semantics.{specs.Placed.{address_of_place, areas_start}, proofs.AddressLaws.same_places}
use Rattle.gypsy_syntax.{specs.Programs.{Leave, Routine, Space, Declared, Proc, Program, no_proc, proc_at, shapes_of, conds_of}, specs.ProgramFits.Each}
use Rattle.gypsy_syntax.{specs.ValuesFit.{ValueFits, VarsFit}, specs.Effects.value_at, specs.Resolved.{shape_of, local_value, condition_names, procedure_names}}
use Rattle.gypsy_syntax.{specs.Resolved.{procedure_of, program_of, variable_names}, specs.Sources.{LocalOf, ProcOf, SourceOf}, specs.declared.literal.Decl.Decl}
use Rattle.gypsy_check.{specs.Accepted.IsAccepted, proofs.CleanLaws.get_or_map}
use Rattle.gypsy_space.specs.Needs.{StackSizes}
use Rattle.gypsy_semantics.{specs.Kept.{WorkFits, StateFits}, specs.Machine.{Item, Do, Back, JoinThen, JoinOne, Guard, Out, State, At, Next, place_of}}
use Rattle.gypsy_semantics.{specs.Views.RunView.top_way, specs.Views.Shown.{conditions_at, variables_at}}
use Rattle.gypsy_codegen.{specs.declared.marking.MarkAt.MarkAt, specs.WordsOf.number_of_way, specs.Generated.{offset, generated_view}, specs.Marks.marks_of}
use Rattle.gypsy_codegen.{specs.Marks.{top_mark, IsBefore, Ascend, IsMarkPlace}, specs.Moments.moment_from, proofs.LayoutLaws.proc_there}
use Rattle.gypsy_codegen.{proofs.MarkLaws.each_moment_is_marked, proofs.MarkOrderLaws.{marks_ascend, marks_are_places}, proofs.MomentLaws.moment_fits}
use Rattle.stack_build.specs.Image.{variable_infos, procedure_info, procedure_infos, mark_info, places_fit, source_tables, image_of}
use Rattle.stack_build.{specs.Implements.{FitsFormals, way_shown}, specs.SourceMoments.{ShowsVariable, ShowsState, variables_shown, moment_shown}}
use Rattle.stack_build.{specs.SourceMoments.{ShownMomentsAreRead, IsAtMoment, MomentsAreRead}, proofs.Ending.own_read, proofs.ReadBack.items_fit}

-- ---- the mark is found

before_more : (m n x : MarkAt) → IsBefore m n → IsBefore n x → IsBefore m x
before_more m n x (inl a) (inl b) = inl (omega (arith, a, b))
before_more m n x (inl a) (inr b) = inl (omega (arith, a, b.0))
before_more m n x (inr a) (inl b) = inl (omega (arith, a.0, b))
before_more m n x (inr a) (inr b) = inr (a.0 ∙ b.0, omega (arith, a.1, b.1))

before_all : (m : MarkAt) (ms : List MarkAt) (x : MarkAt) → Ascend (m ∷ ms) → Contains ms x → IsBefore m x
before_all m [] x h c = absurd (omega (arith, c.1))
before_all m (n ∷ ms) x h (zero, lt, is) = subst (IsBefore m) is h.0
before_all m (n ∷ ms) x h (suc k, lt, is) = before_more m n x h.0 (before_all n ms x h.1 (k, omega (arith, lt), is))

ascend_behind : (m : MarkAt) (ms : List MarkAt) → Ascend (m ∷ ms) → Ascend ms
ascend_behind m [] h = tt
ascend_behind m (n ∷ ms) h = h.1

each_of : (P : MarkAt → Type 0) (ms : List MarkAt) (x : MarkAt) → Each P ms → Contains ms x → P x
each_of P [] x h c = absurd (omega (arith, c.1))
each_of P (m ∷ ms) x h (zero, lt, is) = subst P is h.0
each_of P (m ∷ ms) x h (suc k, lt, is) = each_of P ms x h.1 (k, omega (arith, lt), is)

module _ (q : Program) (sizes : StackSizes) (base : ℕ) where
  find_mark : (ms : List MarkAt) (x : MarkAt) → Ascend ms → Each (IsMarkPlace q sizes base) ms → Contains ms x →
      mark_there (address_of_place (generated_view q sizes base) x.program x.at) (map (mark_info (generated_view q sizes base)) ms)
      ≡ Some (mark_info (generated_view q sizes base) x)
  find_mark [] x up places c = absurd (omega (arith, c.1))
  find_mark (m ∷ ms) x up places (zero, lt, is) =
      let S : SystemView = generated_view q sizes base in
      let same : address_of_place S m.program m.at ≡ address_of_place S x.program x.at = ap (λ (n : MarkAt). address_of_place S n.program n.at) is in
      ap (λ (b : Bool). if b then Some (mark_info S m) else mark_there (address_of_place S x.program x.at) (map (mark_info S) ms))
      (eq-eqb (address_of_place S m.program m.at) (address_of_place S x.program x.at) same)
      ∙ ap (λ (n : MarkAt). Some (mark_info S n)) is
  find_mark (m ∷ ms) x up places (suc k, lt, is) =
      let S : SystemView = generated_view q sizes base in
      let there : Contains ms x = (k, omega (arith, lt), is) in
      let before = before_all m ms x up there in
      let place = each_of (IsMarkPlace q sizes base) ms x places.1 there in
      let other : address_of_place S m.program m.at ≢ address_of_place S x.program x.at =
      λ e. apart m x (same_places S m.program x.program m.at x.at places.0.1 place.1 e) before in
      ap (λ (b : Bool). if b then Some (mark_info S m) else mark_there (address_of_place S x.program x.at) (map (mark_info S) ms))
      (ne_eqb (address_of_place S m.program m.at) (address_of_place S x.program x.at) other)
      ∙ find_mark ms x (ascend_behind m ms up) places.1 there
    where
      apart : (m x : MarkAt) → (m.program ≡ x.program) × (m.at ≡ x.at) → IsBefore m x → ⊥
      apart m x e (inl lt) = omega (arith, e.0, lt)
      apart m x e (inr b) = omega (arith, e.1, b.1)

-- ---- the procedure is found

info_at : (q : Program) (k : ℕ) (procs : List ProcOf) (i : ℕ) (proc : ProcOf) → slice_get procs i ≡ Some proc
    → slice_get (procedure_infos q k procs) i ≡ Some (procedure_info q (k + i) proc)
info_at q k [] i proc e = absurd cc
info_at q k (c ∷ procs) zero proc e =
    let same : c ≡ proc = cc in
    let here : k ≡ k + 0 = omega arith in
    ap (λ (z : ProcOf). Some (procedure_info q k z)) same ∙ ap (λ (n : ℕ). Some (procedure_info q n proc)) here
info_at q k (c ∷ procs) (suc i) proc e =
    let next : suc k + i ≡ k + suc i = omega arith in
    info_at q (suc k) procs i proc e ∙ ap (λ (n : ℕ). Some (procedure_info q n proc)) next

-- ---- the condition is read

way_fits : (q : Program) (p : Proc) (w : List Item) (names : List (List ℕ)) → WorkFits q p w → length names ≡ conds_of p
    → condition_of (space_name ∷ names) (number_of_way (top_way w)) ≡ way_shown names (top_way w)
unfolding condition_of
way_fits q p [] names f e = refl
way_fits q p (Do s ∷ w) names f e = refl
way_fits q p (Back place s ∷ w) names f e = refl
way_fits q p (JoinThen place v ∷ w) names f e = refl
way_fits q p (JoinOne place ∷ w) names f e = refl
way_fits q p (Guard place cs v ∷ w) names f e = refl
way_fits q p (Out Leave ∷ w) names f e = refl
way_fits q p (Out Routine ∷ w) names f e = refl
way_fits q p (Out Space ∷ w) names f e = refl
way_fits q p (Out (Declared i) ∷ w) names f e = own_read names i (omega (arith, e, f.0))

-- ---- the variables are read

words_held : (run : StandingOf) (items : List ℤ) (k n : ℕ) → length items ≡ n
    → ((h : ℕ) (z : ℤ) → slice_get items h ≡ Some z → run.below (k + h) ≡ Some (word_of_int z)) →
    words_below run k n ≡ Some (map word_of_int items)
words_held run [] k zero e held = refl
words_held run [] k (suc n) e held = absurd (omega (arith, e))
words_held run (z ∷ items) k zero e held = absurd (omega (arith, e))
words_held run (z ∷ items) k (suc n) e held =
    let here : k + 0 ≡ k = omega arith in
    let first : run.below k ≡ Some (word_of_int z) = subst (λ (i : ℕ). run.below i ≡ Some (word_of_int z)) here (held 0 z refl) in
    let rest = words_held run items (k + 1) n (omega (arith, e)) (λ h y f.
    let next : k + suc h ≡ k + 1 + h = omega arith in
    subst (λ (i : ℕ). run.below i ≡ Some (word_of_int y)) next (held (suc h) y f)) in
    ap (λ (o : Option ℕ). o >>= λ word. words_below run (k + 1) n >>= λ words. Some (word ∷ words)) first
    ∙ ap (λ (o : Option (List ℕ)). o >>= λ words. Some (word_of_int z ∷ words)) rest

module _ (run : StandingOf) (offset : ℕ → ℕ) where
  variable_held : (b : ℕ) (name : List ℕ) (shape : Shape) (v : ValueOf) → v.shape ≡ shape → ValueFits v → ShowsVariable run (offset b) v →
      items_at run record { name = name; shape = shape; offset = offset b } ≡ Some (value_shown v)
  variable_held b name shape v same fits h =
      let kinds = items_fit v.shape.kind v.items fits.items in
      let words = words_held run v.items h.index (item_count v.shape) fits.number h.items in
      ap (λ (s : Shape). items_at run record { name = name; shape = s; offset = offset b }) (sym same)
      ∙ ap (λ (o : Option ℕ). o >>= λ index. items_below run index v.shape) h.local
      ∙ ap (option_map (map (item_of v.shape.kind))) words
      ∙ ap (λ (shown : List Shown). Some shown) (items_read v.shape.kind v.items kinds.0 kinds.1)

  variables_held : (b : ℕ) (names : List (List ℕ)) (shapes : List Shape) (x : List ValueOf) → length names ≡ length shapes → VarsFit shapes x →
      ((i : ℕ) (shape : Shape) → slice_get shapes i ≡ Some shape → ShowsVariable run (offset (b + i)) (value_at x i)) →
      reading.variables_at run (variable_infos offset b names shapes) ≡ Some (variables_shown names x)
  variables_held b [] shapes x e fit held = refl
  variables_held b (name ∷ names) [] x e fit held = absurd (omega (arith, e))
  variables_held b (name ∷ names) (s ∷ shapes) [] e fit held = absurd fit
  variables_held b (name ∷ names) (s ∷ shapes) (v ∷ x) e fit held =
      let here : b + 0 ≡ b = omega arith in
      let one : ShowsVariable run (offset b) v = subst (λ (i : ℕ). ShowsVariable run (offset i) v) here (held 0 s refl) in
      let first = variable_held b name s v fit.0 fit.1 one in
      let rest = variables_held (b + 1) names shapes x (omega (arith, e)) fit.2 (λ i shape f.
      let next : b + suc i ≡ b + 1 + i = omega arith in
      subst (λ (k : ℕ). ShowsVariable run (offset k) (value_at x i)) next (held (suc i) shape f)) in
      let shape : v.shape ≡ s = fit.0 in
      ap (λ (o : Option (List Shown)). o >>= λ items. reading.variables_at run (variable_infos offset (b + 1) names shapes)
      >>= λ others. Some ((name, s, items) ∷ others)) first
      ∙ ap (λ (o : Option (List ItemsOf)). o >>= λ others. Some ((name, s, value_shown v) ∷ others)) rest
      ∙ ap (λ (z : Shape). Some ((name, z, value_shown v) ∷ variables_shown names x)) (sym shape)

-- ---- all together

module _ (s : SourceOf) (sizes : StackSizes) (base : ℕ) (accepted : IsAccepted s) where
  names_number : (p : ℕ) (proc : ProcOf) → proc_at (program_of s) p ≡ procedure_of s proc
      → length (variable_names proc) ≡ length (shapes_of (proc_at (program_of s) p))
  names_number p proc here =
      let formals = map (λ (d : Decl). shape_of d.shape) proc.formals in
      let locals = map (λ (v : ValueOf). v.shape) (map local_value proc.locals) in
      let shapes : length (shapes_of (proc_at (program_of s) p)) ≡ length (formals ++ locals) = ap (λ (c : Proc). length (shapes_of c)) here in
      omega (
        arith,
        shapes,
        length-append formals locals,
        length-map proc.formals (λ (d : Decl). shape_of d.shape),
        length-map (map local_value proc.locals) (λ (v : ValueOf). v.shape),
        length-map proc.locals local_value,
        length-append (map (λ (d : Decl). d.name.name) proc.formals) (map (λ (l : LocalOf). l.decl.name.name) proc.locals),
        length-map proc.formals (λ (d : Decl). d.name.name),
        length-map proc.locals (λ (l : LocalOf). l.decl.name.name),
      )

  conditions_number : (p : ℕ) (proc : ProcOf) → proc_at (program_of s) p ≡ procedure_of s proc
      → length (condition_names proc) ≡ conds_of (proc_at (program_of s) p)
  conditions_number p proc here =
      let conds : conds_of (proc_at (program_of s) p) ≡ length proc.conds + length proc.local_conds = ap conds_of here in
      omega (
        arith,
        conds,
        length-append (map (λ (n : Named). n.name) proc.conds) (map (λ (n : Named). n.name) proc.local_conds),
        length-map proc.conds (λ (n : Named). n.name),
        length-map proc.local_conds (λ (n : Named). n.name),
      )

  state_is_read : IsTrue (places_fit (program_of s)) → (v : List ValueOf) (j : ℕ) (run : StandingOf) (g : State) → FitsFormals s v
      → moment_from (program_of s) sizes v j ≡ Next g →
      StateFits (program_of s) g → ShowsState s sizes (image_of s sizes base) run g →
      read_from (image_of s sizes base) run ≡ Some (moment_shown s g)
  unfolding read_from image_of
  state_is_read short v j run (At p x w fs t) fits e sf at =
      let q : Program = program_of s in
      let S : SystemView = generated_view q sizes base in
      let there = proc_there q accepted.fits p fs sf.2 in
      let found = get_some s.procs p (omega (arith, there, length-map s.procs (procedure_of s))) in
      let proc : ProcOf = found.0 in
      let here : proc_at q p ≡ procedure_of s proc = get_or_map (procedure_of s) s.procs p proc no_proc found.1 in
      let place : ℕ = place_of q (At p x w fs t) in
      let full : Tables = record { procedures = procedure_infos q 0 s.procs; marks = map (mark_info S) (marks_of q) } in
      let tables : source_tables s S ≡ full = ap (λ (b : Bool). cond b full no_tables) short in
      let marked = each_moment_is_marked q sizes v j (At p x w fs t) accepted.fits fits e in
      let M : Mark = mark_info S (top_mark q (At p x w fs t)) in
      let I : ProcedureOf = procedure_info q p proc in
      let mark : mark_there run.address (source_tables s S).marks ≡ Some M =
      ap (λ (t : Tables). mark_there run.address t.marks) tables ∙ ap (λ (a : ℕ). mark_there a (map (mark_info S) (marks_of q))) at.mark
      ∙ find_mark q sizes base (marks_of q) (top_mark q (At p x w fs t)) (marks_ascend q) (marks_are_places q sizes base) marked in
      let info : slice_get (source_tables s S).procedures p ≡ Some I =
      let zero_on : 0 + p ≡ p = omega arith in
      ap (λ (t : Tables). slice_get t.procedures p) tables ∙ info_at q 0 s.procs p proc found.1 ∙ ap (λ (n : ℕ). Some (procedure_info q n proc)) zero_on in
      let items = variables_held run (offset q p) 0 (variable_names proc) (shapes_of (proc_at q p)) x (names_number p proc here) sf.0 (λ b shape f.
      let zero_on : b ≡ 0 + b = omega arith in
      subst (λ (k : ℕ). ShowsVariable run (offset q p k) (value_at x b)) zero_on (at.variables b shape f)) in
      let names : variable_names proc ≡ variables_at s p = sym (get_or_map variable_names s.procs p proc [] found.1) in
      let conds : condition_names proc ≡ conditions_at s p = sym (get_or_map condition_names s.procs p proc [] found.1) in
      let name : proc.name.name ≡ get_or (procedure_names s) p [] = sym (get_or_map (λ (c : ProcOf). c.name.name) s.procs p proc [] found.1) in
      let way : condition_of (space_name ∷ condition_names proc) (number_of_way (top_way w)) ≡ way_shown (condition_names proc) (top_way w) =
      way_fits q (proc_at q p) w (condition_names proc) sf.1 (conditions_number p proc here) in
      let address : Option ℕ = Some (areas_start S) in
      ap (λ (o : Option Mark). o >>= λ mark. slice_get (source_tables s S).procedures mark.procedure >>= λ procedure. condition_word run address
      >>= λ word. read_in run word mark procedure) mark
      ∙ ap (λ (o : Option ProcedureOf). o >>= λ procedure. condition_word run address >>= λ word. read_in run word M procedure) info
      ∙ ap (λ (o : Option ℕ). o >>= λ word. read_in run word M I) at.condition
      ∙ ap (λ (o : Option (List ItemsOf)). o >>= λ items. Some
      record { procedure = I.name; place = place; condition = condition_of I.conditions (number_of_way (top_way w)); items = items }) items
      ∙ (λ i. Some record {
        procedure = name i;
        place = place;
        condition = (way ∙ ap (λ (ns : List (List ℕ)). way_shown ns (top_way w)) conds) i;
        items = variables_shown (names i) x;
      })

pub shown_moments_are_read : ShownMomentsAreRead
shown_moments_are_read s sizes base j v run g accepted short fits e at =
    state_is_read s sizes base accepted short v j run g fits e (moment_fits (program_of s) sizes accepted.fits v j g fits e) at

-- the machine of the image shows the state that its memory has
memory_shows : (s : SourceOf) (sizes : StackSizes) (base : ℕ) (m : Fm) (g : State) → IsAtMoment s sizes base m g
    → ShowsState s sizes (image_of s sizes base) (machine_at (image_of s sizes base) m) g
unfolding image_of
memory_shows s sizes base m (At p x w fs t) at = record {
  mark = at.mark;
  condition = some_is (word_in m (areas_start (generated_view (program_of s) sizes base))) (Some (number_of_way (top_way w))) at.condition;
  variables = λ b shape e.
      let h = at.variables b shape e in
      record { index = h.index; local = h.local; items = h.items };
}
  where
    some_is : (a b : Option ℕ) → Some a ≡ Some b → a ≡ b
    some_is a b h = cc

pub moments_are_read : MomentsAreRead
moments_are_read s sizes base j v m g accepted short fits e at =
    shown_moments_are_read s sizes base j v (machine_at (image_of s sizes base) m) g accepted short fits e (memory_shows s sizes base m g at)
