-- The code of parts, put together.
use Rattle.std.proofs.Common.{◌≡◌, ℕ, ◌+◌, ◌-◌, List, [], ◌∷◌, ◌++◌, map, length, max, sym, refl, ap, ◌∙◌, arith, append_assoc, subst, Bool, cond}
use Rattle.std.{proofs.lemmas.List.map-append, specs.Prelude.{ℤ, ◌==◌}}
use Rattle.stack_text.{specs.declared.shape.Kind.Kind, specs.declared.shape.Kind.TheVariants.{Integer, Boolean, Character}, specs.declared.shape.Shape.Shape}
use Rattle.stack_text.{specs.Values.{ValueOf, item_count}, specs.declared.name.Named.Named, specs.Grammar.Printed.unplaced}
use Rattle.piton_words.{specs.declared.word.Word.TheVariants.Nat, specs.declared.word.Word.Word}
use Rattle.piton_syntax.specs.declared.op.PitonOp.TheVariants as op
use Rattle.piton_syntax.{specs.declared.word_text.WordText.WordText, specs.Systems.{InstrOf, new_program}}
use Rattle.gypsy_syntax.{specs.Sources.ProcOf, specs.Programs.{Program, Proc, proc_at, shapes_of}}
use Rattle.gypsy_codegen.{specs.Text.{area_texts, frame_texts, procedure_with, temporaries_of}, specs.WordsOf.{words_of_values, local_shapes, starts}}
use Rattle.gypsy_codegen.{specs.Guard.guard_code, specs.Generated.{push_words, push_indices, push_actuals}, specs.Lines.{unmarked, before_code, lines_of}}
use Rattle.gypsy_codegen.{specs.Internal.Views.{nameless, half_guard, word_constant, local_constants, index_text}, specs.Written.{Names, Line, Plain, Marked}}
use Rattle.gypsy_codegen.specs.Written.{written, written_word}
use Rattle.piton_check.specs.Instruction as i
use Rattle.piton_check.specs.Instruction.{Instruction}
use Rattle.gypsy_space.{specs.declared.need.Need.Need, specs.Events.need_of, specs.Needs.{StackSizes, temp_need, local_words, vars_of, call_need}}
use Rattle.gypsy_predef.specs.Runs.{word_of_item, words_of_value}

pub plain_both : (n : Names) (a b : List Instruction) → map (written n) (unmarked (a ++ b)) ≡ map (written n) (unmarked a) ++ map (written n) (unmarked b)
plain_both n [] b = refl
plain_both n (x ∷ a) b = ap (λ z. written n (Plain x) ∷ z) (plain_both n a b)

-- the words of values name nothing
item_nameless : (n : Names) (k : Kind) (zs : List ℤ) → map (written_word n) (map (word_of_item k) zs) ≡ map (written_word nameless) (map (word_of_item k) zs)
item_nameless n k [] = refl
item_nameless n Integer (z ∷ zs) = ap (λ ws. written_word nameless (word_of_item Integer z) ∷ ws) (item_nameless n Integer zs)
item_nameless n Boolean (z ∷ zs) = ap (λ ws. written_word nameless (word_of_item Boolean z) ∷ ws) (item_nameless n Boolean zs)
item_nameless n Character (z ∷ zs) = ap (λ ws. written_word nameless (word_of_item Character z) ∷ ws) (item_nameless n Character zs)

pub words_nameless : (n : Names) (x : List ValueOf) → map (written_word n) (words_of_values x) ≡ map (written_word nameless) (words_of_values x)
words_nameless n [] = refl
words_nameless n (v ∷ x) =
    map-append (written_word n) (words_of_value v) (words_of_values x)
    ∙ ap (λ z. z ++ map (written_word n) (words_of_values x)) (item_nameless n v.shape.kind v.items)
    ∙ ap (λ z. map (written_word nameless) (words_of_value v) ++ z) (words_nameless n x)
    ∙ sym (map-append (written_word nameless) (words_of_value v) (words_of_values x))

pushes_are : (n : Names) (ws : List Word) → map (written n) (unmarked (push_words ws)) ≡ map word_constant (map (written_word n) ws)
pushes_are n [] = refl
pushes_are n (w ∷ ws) = ap (λ z. word_constant (written_word n w) ∷ z) (pushes_are n ws)

pub constants_are : (n : Names) (x : List ValueOf) → map (written n) (unmarked (push_words (words_of_values x))) ≡ local_constants x
constants_are n x = pushes_are n (words_of_values x) ∙ ap (map word_constant) (words_nameless n x)

pub indices_are : (n : Names) (l k o : ℕ) (shapes : List Shape) → map (written n) (unmarked (push_indices l k o shapes)) ≡ index_text l k o shapes
indices_are n l k o [] = refl
indices_are n l k o (s ∷ shapes) = ap (λ z. written n (Plain (i.PushTempStkIndex (l + k - 1 - o))) ∷ z) (indices_are n l (k + 1) (o + item_count s) shapes)

-- the code before a call, of its three parts
pub before_is : (n : Names) (q : Program) (p c : ℕ) (xs : List ℕ) (d : Proc) (old mid last new : List InstrOf) → d ≡ proc_at q c →
    mid ≡ old ++ (local_constants d.locals ++ index_text (local_words d) 0 0 (local_shapes d)) →
    last ≡ mid ++ map (written n) (unmarked (push_actuals q p xs)) → new ≡ last ++ written n (Plain (i.Call c)) ∷ [] →
    new ≡ old ++ map (written n) (unmarked (before_code q p c xs))
before_is n q p c xs d old mid last new is e f g =
    subst (λ (z : Proc). new ≡ old ++ map (written n)
    (unmarked (push_words (words_of_values z.locals)
    ++ (push_indices (local_words z) 0 0 (local_shapes z) ++ (push_actuals q p xs ++ i.Call c ∷ []))))) is
    (let parts : map (written n) (unmarked (push_words (words_of_values d.locals)
    ++ (push_indices (local_words d) 0 0 (local_shapes d) ++ (push_actuals q p xs ++ i.Call c ∷ [])))) ≡
    local_constants d.locals ++ (index_text (local_words d) 0 0 (local_shapes d)
    ++ (map (written n) (unmarked (push_actuals q p xs)) ++ written n (Plain (i.Call c)) ∷ [])) =
    plain_both n (push_words (words_of_values d.locals)) _
    ∙ ap (λ z. z ++ map (written n) (unmarked (push_indices (local_words d) 0 0 (local_shapes d) ++ (push_actuals q p xs ++ i.Call c ∷ []))))
    (constants_are n d.locals)
    ∙ ap (λ z. local_constants d.locals ++ z)
    (plain_both n (push_indices (local_words d) 0 0 (local_shapes d)) _
    ∙ ap (λ z. z ++ map (written n) (unmarked (push_actuals q p xs ++ i.Call c ∷ []))) (indices_are n (local_words d) 0 0 (local_shapes d))
    ∙ ap (λ z. index_text (local_words d) 0 0 (local_shapes d) ++ z) (plain_both n (push_actuals q p xs) (i.Call c ∷ []))) in
    g ∙ ap (λ z. z ++ written n (Plain (i.Call c)) ∷ []) (f ∙ ap (λ z. z ++ map (written n) (unmarked (push_actuals q p xs))) e)
    ∙ simp append_assoc (ap (λ z. old ++ z) (sym parts)))

-- the lines after a call, of their parts
pub after_is : (n : Names) (rs : List Line) (l : ℕ) (old a b c d m e new : List InstrOf) (x y z : InstrOf) (r g : List InstrOf) →
    a ≡ old ++ x ∷ [] → b ≡ a ++ y ∷ [] → c ≡ b ++ z ∷ [] → d ≡ c ++ r → m ≡ d ++ g → e ≡ m ++ map (written n) rs →
    new ≡ e ++ written n (Marked l i.NoOp) ∷ [] →
    new ≡ old ++ x ∷ y ∷ z ∷ (r ++ (g ++ map (written n) (rs ++ Marked l i.NoOp ∷ [])))
after_is n rs l old a b c d m e new x y z r g ea eb ec ed em ee en =
    let last = written n (Marked l i.NoOp) ∷ [] in
    let both : map (written n) (rs ++ Marked l i.NoOp ∷ []) ≡ map (written n) rs ++ last = map-append (written n) rs (Marked l i.NoOp ∷ []) in
    let c_is : c ≡ old ++ x ∷ y ∷ z ∷ [] =
    ec ∙ ap (λ w. w ++ z ∷ []) (eb ∙ ap (λ w. w ++ y ∷ []) ea ∙ append_assoc old (x ∷ []) (y ∷ [])) ∙ append_assoc old (x ∷ y ∷ []) (z ∷ []) in
    let d_is : d ≡ old ++ x ∷ y ∷ z ∷ r = ed ∙ ap (λ w. w ++ r) c_is ∙ append_assoc old (x ∷ y ∷ z ∷ []) r in
    let m_is : m ≡ old ++ x ∷ y ∷ z ∷ (r ++ g) = em ∙ ap (λ w. w ++ g) d_is ∙ append_assoc old (x ∷ y ∷ z ∷ r) g in
    let e_is : e ≡ old ++ x ∷ y ∷ z ∷ ((r ++ g) ++ map (written n) rs) =
    ee ∙ ap (λ w. w ++ map (written n) rs) m_is ∙ append_assoc old (x ∷ y ∷ z ∷ (r ++ g)) (map (written n) rs) in
    en ∙ ap (λ w. w ++ last) e_is ∙ append_assoc old (x ∷ y ∷ z ∷ ((r ++ g) ++ map (written n) rs)) last
    ∙ ap (λ w. old ++ x ∷ y ∷ z ∷ w) (append_assoc (r ++ g) (map (written n) rs) last)
    ∙ ap (λ w. old ++ x ∷ y ∷ z ∷ ((r ++ g) ++ w)) (sym both)
    ∙ ap (λ w. old ++ x ∷ y ∷ z ∷ w) (append_assoc r g (map (written n) (rs ++ Marked l i.NoOp ∷ [])))

-- a guard, of its halves
pub guard_is : (n : Names) (need : StackSizes) (to temp ctrl : ℕ) (old mid new : List InstrOf) → temp ≡ need.temp → ctrl ≡ need.ctrl →
    mid ≡ old ++ half_guard op.PushTempStkFreeSize temp to → new ≡ mid ++ half_guard op.PushCtrlStkFreeSize ctrl to →
    new ≡ old ++ map (written n) (unmarked (guard_code need to))
guard_is n need to temp ctrl old mid new et ec em en =
    let second : ℕ → List InstrOf = λ k. half_guard op.PushCtrlStkFreeSize k to in
    en ∙ ap (λ z. z ++ second ctrl) em
    ∙ append_assoc old (half_guard op.PushTempStkFreeSize temp to) (second ctrl)
    ∙ ap (λ (k : ℕ). old ++ (half_guard op.PushTempStkFreeSize k to ++ second ctrl)) et
    ∙ ap (λ (k : ℕ). old ++ (half_guard op.PushTempStkFreeSize need.temp to ++ second k)) ec

-- what is counted of a callee is what a call of it needs
pub temp_counted : (q : Program) (c : ℕ) (n : Need) → n ≡ need_of q c → max (n.locals_words + n.vars) (n.locals_words + n.temp) ≡ (call_need q c).temp
unfolding call_need
temp_counted q c n e =
    let d = proc_at q c in
    let l = local_words d in
    let vars : l + vars_of d ≡ l + length d.locals + length d.formals = omega arith in
    ap (λ (m : Need). max (m.locals_words + m.vars) (m.locals_words + m.temp)) e ∙ ap (λ (k : ℕ). max k (l + temp_need d)) vars

pub ctrl_counted : (q : Program) (c : ℕ) (n : Need) → n ≡ need_of q c → 2 + n.vars + n.ctrl ≡ (call_need q c).ctrl
unfolding call_need
ctrl_counted q c n e = ap (λ (m : Need). 2 + m.vars + m.ctrl) e

-- lines behind lines
pub both_are : (n : Names) (xs ys : List Line) (old mid new : List InstrOf) → mid ≡ old ++ map (written n) xs → new ≡ mid ++ map (written n) ys →
    new ≡ old ++ map (written n) (xs ++ ys)
both_are n xs ys old mid new e f =
    f ∙ ap (λ z. z ++ map (written n) ys) e ∙ append_assoc old (map (written n) xs) (map (written n) ys)
    ∙ ap (λ z. old ++ z) (sym (map-append (written n) xs ys))

-- the indices of main's variables name nothing
temporaries_nameless : (n : Names) (names : List (List ℕ)) (indices : List ℕ) →
    temporaries_of nameless names (map (λ at. Nat at) indices) ≡ temporaries_of n names (map (λ at. Nat at) indices)
temporaries_nameless n [] indices = refl
temporaries_nameless n (name ∷ names) [] = refl
temporaries_nameless n (name ∷ names) (k ∷ indices) = ap (λ z. (unplaced name, written_word n (Nat k)) ∷ z) (temporaries_nameless n names indices)

-- a program of its parts
pub procedure_is : (q : Program) (programs : List (List ℕ)) (p : ℕ) (proc : ProcOf) (b : Bool) (frame : List (List ℕ)) (shapes : List Shape)
    (name : Named) (fs : List Named) (ts : List (Named × WordText)) (is : List InstrOf) →
    b ≡ (p == q.main) → frame ≡ frame_texts q p proc → shapes ≡ shapes_of (proc_at q p) → name ≡ unplaced proc.name.name →
    fs ≡ cond b [] (map unplaced frame) → ts ≡ cond b (temporaries_of nameless frame (map (λ at. Nat at) (starts 0 shapes))) [] →
    is ≡ map (written record { areas = area_texts; programs = programs; locals = frame }) (lines_of q p) →
    new_program 0 0 name fs ts is ≡ procedure_with q programs p proc
procedure_is q programs p proc b frame shapes name fs ts is main_is frame_is shapes_are name_is fs_are ts_are is_are =
    let frames : Names = record { areas = area_texts; programs = programs; locals = frame_texts q p proc } in
    let formals_are : fs ≡ cond (p == q.main) [] (map unplaced (frame_texts q p proc)) =
    fs_are ∙ ap (λ (c : Bool). cond c [] (map unplaced frame)) main_is ∙ ap (λ (f : List (List ℕ)). cond (p == q.main) [] (map unplaced f)) frame_is in
    let temporaries_are : ts ≡ cond (p == q.main) (temporaries_of frames (frame_texts q p proc) (map (λ at. Nat at) (starts 0 (shapes_of (proc_at q p))))) [] =
    ts_are ∙ ap (λ (c : Bool). cond c (temporaries_of nameless frame (map (λ at. Nat at) (starts 0 shapes))) []) main_is
    ∙ ap (λ (f : List (List ℕ)). cond (p == q.main) (temporaries_of nameless f (map (λ at. Nat at) (starts 0 shapes))) []) frame_is
    ∙ ap (λ (ss : List Shape). cond (p == q.main) (temporaries_of nameless (frame_texts q p proc) (map (λ at. Nat at) (starts 0 ss))) []) shapes_are
    ∙ ap (λ (z : List (Named × WordText)). cond (p == q.main) z []) (temporaries_nameless frames (frame_texts q p proc) (starts 0 (shapes_of (proc_at q p)))) in
    let instrs_are : is ≡ map (written frames) (lines_of q p) =
    is_are ∙ ap (λ (f : List (List ℕ)). map (written record { areas = area_texts; programs = programs; locals = f }) (lines_of q p)) frame_is in
    λ j. new_program 0 0 (name_is j) (formals_are j) (temporaries_are j) (instrs_are j)
