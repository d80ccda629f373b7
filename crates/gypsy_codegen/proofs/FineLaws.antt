-- What the lines of a statement that fits name is there.
use Rattle.std.proofs.Common.{◌≡◌, ℕ, zero, suc, ◌+◌, ◌-◌, ◌<◌, ◌≤◌, ◌^◌, List, [], ◌∷◌, ◌++◌, map, length, get_or, slice_get, Bool, true, false, cond, Some}
use Rattle.std.{proofs.Common.{refl, ap, ◌∙◌, arith, length-append}, specs.Prelude.{ℤ, pos, negsuc, ◌==◌, nat_lt}, specs.List.list_all}
use Rattle.std.{proofs.lemmas.List.length-map, proofs.lemmas.Bool.{ltb-true, leb-true, lt-ltb, and_parts}, proofs.lemmas.Option.slice_get_within}
use Rattle.stack_text.{specs.declared.shape.Kind.Kind, specs.declared.shape.Kind.TheVariants.{Integer, Boolean, Character}, specs.declared.shape.Shape.Shape}
use Rattle.stack_text.specs.Values.{ValueOf, item_count}
use Rattle.piton_words.{specs.declared.word.Word.Word, specs.declared.word.Word.TheVariants.Int}
use Rattle.piton_words.specs.declared.op.WordOp.TheVariants as op
use Rattle.piton_syntax.specs.declared.test_kind.TestFamily.TheVariants as family
use Rattle.piton_syntax.specs.declared.test_kind.TestKind.TheVariants as test
use Rattle.piton_syntax.specs.Systems.{ProgramOf as TextProgram}
use Rattle.piton_check.specs.Instruction as i
use Rattle.piton_check.specs.Instruction.{Instruction}
use Rattle.gypsy_syntax.{specs.declared.predef.Predef.Predef, specs.declared.slot.Form.Form, specs.declared.slot.Form.TheVariants.{Simple, Array, Literal}}
use Rattle.gypsy_syntax.{specs.declared.slot.Slot.Slot, proofs.PredefLaws.{number_below, low_temp, low_ctrl}, specs.Predefined.{predefs, slots_of, predef_temp}}
use Rattle.gypsy_syntax.{specs.Predefined.{predef_ctrl, can_fail}, specs.Effects.item_of_value, specs.Programs.{ConditionOf, Leave, Routine, Space, Declared}}
use Rattle.gypsy_syntax.specs.Programs.{Arg, Var, Lit, Proc, Program, simple, proc_at, body_of, shapes_of, conds_of, words_of, Stmt, Skip, NoOp, Signal, Seq}
use Rattle.gypsy_syntax.{specs.Programs.{Loop, If, Begin, Call, Apply}, specs.ProgramFits.{Each, CondFits, ActualsFit, ArgFits, ArgsFit, slot_kind, StmtFits}}
use Rattle.gypsy_syntax.{specs.ProgramFits.ProgramFits, specs.Ranges.is_in_range, specs.ValuesFit.ValueFits}
use Rattle.gypsy_syntax.specs.declared.predef.Predef.TheVariants as row
use Rattle.gypsy_space.{specs.Needs.{statement_temp, statement_ctrl, local_words, vars_of, call_need}, proofs.SmallLaws.{length-words_of, item_count-positive}}
use Rattle.gypsy_space.proofs.SmallLaws.{words_of-append, greatest_within}
use Rattle.gypsy_semantics.{specs.Calls.{has_cond, is_leave, is_passed_on}, proofs.Keeping.locals_fit}
use Rattle.gypsy_predef.specs.Runs.{word_of_item, words_of_value}
use Rattle.gypsy_codegen.{specs.WordsOf.{words_of_values, local_shapes, number_of}, specs.Guard.guard_code, specs.Generated.{Scope, InLoop, InBegin}}
use Rattle.gypsy_codegen.{specs.Generated.{push_words, push_indices, push_actuals, push_args, length_code, arg_length, offset}, specs.Written.{Line, Plain}}
use Rattle.gypsy_codegen.{specs.Written.Marked, specs.Lines.{labels, label_to, unmarked, marked_raises, raise_labels, before_code, after_lines, apply_code}}
use Rattle.gypsy_codegen.{specs.Lines.{lines, tail_lines, lines_of}, proofs.CopyLaws.each_both, proofs.StackLaws.values_words, proofs.InstructionLaws.InRange}
use Rattle.gypsy_codegen.proofs.InstructionLaws.{Known, Fine}

-- ---- words

item_in_range : (k : Kind) (z : ℤ) → is_in_range k z ≡ true → InRange (word_of_item k z)
item_in_range Integer (pos n) h = h
item_in_range Integer (negsuc n) h = h
item_in_range Boolean z h = tt
item_in_range Character (pos n) h = let le = leb-true n 127 h in lt-ltb n (2 ^ 31) (omega (arith, le))
item_in_range Character (negsuc n) h = absurd cc

items_in_range : (k : Kind) (zs : List ℤ) → list_all (is_in_range k) zs ≡ true → Each InRange (map (word_of_item k) zs)
items_in_range k [] h = tt
items_in_range k (z ∷ zs) h =
    let parts = and_parts (is_in_range k z) (list_all (is_in_range k) zs) h in (item_in_range k z parts.0, items_in_range k zs parts.1)

pub values_in_range : (x : List ValueOf) → Each ValueFits x → Each InRange (words_of_values x)
values_in_range [] h = tt
values_in_range (v ∷ x) h = each_both InRange (words_of_value v) (words_of_values x) (items_in_range v.shape.kind v.items h.0.items) (values_in_range x h.1)

literal_in_range : (k : Kind) (zs : List ℤ) → length zs ≡ 1 → list_all (is_in_range k) zs ≡ true → InRange (word_of_item k (get_or zs 0 (pos 0)))
literal_in_range k [] n h = absurd (omega (arith, n))
literal_in_range k (z ∷ zs) n h = item_in_range k z (and_parts (is_in_range k z) (list_all (is_in_range k) zs) h).0

pub all_words : (x : List ValueOf) → Each ValueFits x → length (words_of_values x) ≡ words_of (map (λ v. v.shape) x)
all_words x h = values_words (map (λ v. v.shape) x) x (locals_fit x h)

-- the words of the locals are as many as their shapes have
pub words_sized : (q : Program) → ProgramFits q → (c : ℕ) → length (words_of_values (proc_at q c).locals) ≡ local_words (proc_at q c)
words_sized q fits c = all_words (proc_at q c).locals (fits.procs c).locals

pub locals_few : (q : Program) → ProgramFits q → (c : ℕ) → local_words (proc_at q c) ≤ 65536
locals_few q fits c =
    let d = proc_at q c in
    omega (arith, (fits.procs c).words, words_of-append d.formals (map (λ v. v.shape) d.locals))

-- what a call needs is a word's number
need_small : (q : Program) → ProgramFits q → (c : ℕ) → ((call_need q c).temp < 2 ^ 32) × ((call_need q c).ctrl < 2 ^ 32)
unfolding call_need
need_small q fits c =
    let d = proc_at q c in
    let temp : statement_temp d.body ≤ 4 = greatest_within 2 predef_temp 4 (omega arith) low_temp d.body in
    let ctrl : statement_ctrl d.body ≤ 10 = greatest_within 0 predef_ctrl 10 (omega arith) low_ctrl d.body in
    let words = (fits.procs c).words in
    let vars = length-words_of (shapes_of d) in
    let number : length (shapes_of d) ≡ length d.formals + length d.locals =
    omega (arith, length-append d.formals (map (λ v. v.shape) d.locals), length-map d.locals (λ v. v.shape)) in
    let few = locals_few q fits c in
    (omega (arith, temp, words, vars, number, few), omega (arith, ctrl, words, vars, number))

-- the lengths of arrays
short_at : (shapes : List Shape) (b : ℕ) → Each (λ s. s.length ≤ 4096) shapes → (get_or shapes b (simple Integer)).length ≤ 4096
short_at [] b h = omega arith
short_at (s ∷ shapes) zero h = h.0
short_at (s ∷ shapes) (suc b) h = short_at shapes b h.1

values_short : (x : List ValueOf) → Each ValueFits x → Each (λ s. s.length ≤ 4096) (map (λ v. v.shape) x)
values_short [] h = tt
values_short (v ∷ x) h = (h.0.few, values_short x h.1)

shapes_short : (q : Program) → ProgramFits q → (c : ℕ) → Each (λ s. s.length ≤ 4096) (shapes_of (proc_at q c))
shapes_short q fits c =
    let d = proc_at q c in
    each_both (λ s. s.length ≤ 4096) d.formals (map (λ v. v.shape) d.locals) (fits.procs c).formals (values_short d.locals (fits.procs c).locals)

arg_short : (shapes : List Shape) (a : Arg) → Each (λ s. s.length ≤ 4096) shapes → arg_length shapes a ≤ 4096
arg_short shapes (Var b) h = short_at shapes b h
arg_short shapes (Lit v) h = omega arith

-- ---- variables

pub vars_count : (d : Proc) → length (shapes_of d) ≡ vars_of d
vars_count d = omega (arith, length-append d.formals (map (λ v. v.shape) d.locals), length-map d.locals (λ v. v.shape))

-- a variable has a word in the frame
pub offset_below : (q : Program) (p b : ℕ) (s : Shape) → slice_get (shapes_of (proc_at q p)) b ≡ Some s → offset q p b < vars_of (proc_at q p)
offset_below q p b s e =
    let d = proc_at q p in
    let below : b < length d.formals + length d.locals = let lt = slice_get_within (shapes_of d) b s e in omega (arith, lt, vars_count d) in
    by_main (p == q.main) below
  where
    by_front : (d : Proc) (t : Bool) → nat_lt b (length d.formals) ≡ t → b < length d.formals + length d.locals
        → cond t (length d.locals + b) (b - length d.formals) < length d.formals + length d.locals
    by_front d true e lt = let h = ltb-true b (length d.formals) e in omega (arith, h)
    by_front d false e lt = omega (arith, lt)

    by_main : (t : Bool) → b < length (proc_at q p).formals + length (proc_at q p).locals →
        cond t b (cond (nat_lt b (length (proc_at q p).formals)) (length (proc_at q p).locals + b) (b - length (proc_at q p).formals))
        < length (proc_at q p).formals + length (proc_at q p).locals
    by_main true lt = lt
    by_main false lt = by_front (proc_at q p) (nat_lt b (length (proc_at q p).formals)) refl lt

-- ---- labels

-- each label of the lines is known
abbrev pub Marks : (ℕ → Type 0) → List Line → Type 0
Marks K [] = Unit {0}
Marks K (Plain i ∷ ls) = Marks K ls
Marks K (Marked m i ∷ ls) = K m × Marks K ls

marks_front : (K : ℕ → Type 0) (a b : List Line) → Marks K (a ++ b) → Marks K a × Marks K b
marks_front K [] b h = (tt, h)
marks_front K (Plain i ∷ a) b h = marks_front K a b h
marks_front K (Marked m i ∷ a) b h = let k = marks_front K a b h.1 in ((h.0, k.0), k.1)

-- those of the scopes
abbrev Scopes : (ℕ → Type 0) → List Scope → Type 0
Scopes K [] = Unit {0}
Scopes K (InLoop b ∷ env) = K b × Scopes K env
Scopes K (InBegin cs a ∷ env) = K a × Scopes K env

pick : (K : ℕ → Type 0) (b : Bool) (l m : ℕ) → K l → K m → K (cond b l m)
pick K true l m x y = x
pick K false l m x y = y

-- the line names what is there
abbrev pub FineLine : TextProgram → (ℕ → ℕ) → ℕ → ℕ → Line → Type 0
FineLine t f locals programs (Plain ins) = Fine t f locals programs ins
FineLine t f locals programs (Marked l ins) = Known t f l × Fine t f locals programs ins

module _ (q : Program) (fits : ProgramFits q) (p : ℕ) (few : conds_of (proc_at q p) < 2 ^ 31) (t : TextProgram) (f : ℕ → ℕ) (k0 : Known t f 0)
    (k1 : Known t f 1) where
  abbrev K : ℕ → Type 0
  K = Known t f

  abbrev locals : ℕ
  locals = vars_of (proc_at q p)

  abbrev programs : ℕ
  programs = length q.procs + length predefs

  abbrev Right : Instruction → Type 0
  Right = Fine t f locals programs

  abbrev Sure : Line → Type 0
  Sure = FineLine t f locals programs

  plain_sure : (is : List Instruction) → Each Right is → Each Sure (unmarked is)
  plain_sure [] h = tt
  plain_sure (c ∷ is) h = (h.0, plain_sure is h.1)

  to_known : (env : List Scope) (c : ConditionOf) → Scopes K env → K (label_to q p env c)
  to_known [] c h = pick K (is_passed_on q p c) 1 0 k1 k0
  to_known (InLoop b ∷ env) c h = pick K (is_leave c) b (label_to q p env c) h.0 (to_known env c h.1)
  to_known (InBegin cs a ∷ env) c h = pick K (has_cond c cs) a (label_to q p env c) h.0 (to_known env c h.1)

  number_small : (b : Bool) (c : ConditionOf) → CondFits b (conds_of (proc_at q p)) c → number_of c < 2 ^ 32
  number_small b Leave h = omega arith
  number_small b Routine h = omega arith
  number_small b Space h = omega arith
  number_small b (Declared n) h = omega (arith, few, h)

  words_right : (ws : List Word) → Each InRange ws → Each Right (push_words ws)
  words_right [] h = tt
  words_right (w ∷ ws) h = (h.0, words_right ws h.1)

  indices_right : (l k o : ℕ) (shapes : List Shape) → l ≤ 65536 → k ≤ o → Each Right (push_indices l k o shapes)
  indices_right l k o [] few_words le = tt
  indices_right l k o (s ∷ shapes) few_words le =
      (omega (arith, few_words, le), indices_right l (k + 1) (o + item_count s) shapes few_words (let some = item_count-positive s in omega (arith, le, some)))

  actuals_right : (formals : List Shape) (xs : List ℕ) → ActualsFit (shapes_of (proc_at q p)) formals xs → Each Right (push_actuals q p xs)
  actuals_right [] [] h = tt
  actuals_right [] (x ∷ xs) h = absurd h
  actuals_right (s ∷ formals) [] h = absurd h
  actuals_right (s ∷ formals) (x ∷ xs) h = (offset_below q p x s h.0, actuals_right formals xs h.1)

  args_right : (k : Kind) (slots : List Slot) (args : List Arg) → ArgsFit (shapes_of (proc_at q p)) k slots args → Each Right (push_args q p args)
  args_right k [] [] h = tt
  args_right k [] (a ∷ args) h = absurd h
  args_right k (slot ∷ slots) [] h = absurd h
  args_right k (slot ∷ slots) (Var b ∷ args) h = (by_form slot.form h.0, args_right k slots args h.1)
    where
      by_form : (form : Form) → ArgFits (shapes_of (proc_at q p)) form (slot_kind k slot.kind) (Var b) → offset q p b < locals
      by_form Simple e = offset_below q p b (simple (slot_kind k slot.kind)) e
      by_form Array e = offset_below q p b (record { kind = slot_kind k slot.kind; length = e.0 }) e.3
      by_form Literal e = absurd e
  args_right k (slot ∷ slots) (Lit v ∷ args) h = (by_form slot.form h.0, args_right k slots args h.1)
    where
      by_form : (form : Form) → ArgFits (shapes_of (proc_at q p)) form (slot_kind k slot.kind) (Lit v) → InRange (word_of_item v.shape.kind (item_of_value v))
      by_form Simple e = absurd e
      by_form Array e = absurd e
      by_form Literal e =
          let one : length v.items ≡ 1 = e.1.number ∙ ap item_count e.0 in
          literal_in_range v.shape.kind v.items one e.1.items

  one_length_right : (n : ℕ) → n ≤ 4096 → Each Right (i.PushConstant (Int (pos n)) ∷ [])
  one_length_right n le = (lt-ltb n (2 ^ 31) (omega (arith, le)), tt)

  length_right : (shapes : List Shape) (r : Predef) (args : List Arg) → Each (λ s. s.length ≤ 4096) shapes → Each Right (length_code shapes r args)
  length_right shapes row.MgIndexArray args h = one_length_right (arg_length shapes (get_or args 1 (Var 0))) (arg_short shapes (get_or args 1 (Var 0)) h)
  length_right shapes row.MgArrayElementAssignment args h =
      one_length_right (arg_length shapes (get_or args 0 (Var 0))) (arg_short shapes (get_or args 0 (Var 0)) h)
  length_right shapes r args h = tt

  check_right : (b : Bool) (to : ℕ) → K to → Each Right (cond b (i.PushGlobal 0 ∷ i.Apply op.Sub1Nat ∷ i.TestAndJump family.Nat test.Zero to ∷ []) [])
  check_right true to k = (refl, (tt, (((0, omega arith, refl), k), tt)))
  check_right false to k = tt

  guard_right : (c to : ℕ) → K to → Each Right (guard_code (call_need q c) to)
  guard_right c to k =
      let need = need_small q fits c in
      (tt, (need.0, (tt, (((0, omega arith, refl), k), (tt, (need.1, (tt, (((0, omega arith, refl), k), tt))))))))

  before_right : (c : ℕ) (xs : List ℕ) → ActualsFit (shapes_of (proc_at q p)) (proc_at q c).formals xs → c < length q.procs → Each Right (before_code q p c xs)
  before_right c xs actuals lt =
      let d = proc_at q c in
      each_both Right (push_words (words_of_values d.locals)) _ (words_right (words_of_values d.locals) (values_in_range d.locals (fits.procs c).locals))
      (each_both Right (push_indices (local_words d) 0 0 (local_shapes d)) _
      (indices_right (local_words d) 0 0 (local_shapes d) (locals_few q fits c) (omega arith))
      (each_both Right (push_actuals q p xs) (i.Call c ∷ []) (actuals_right d.formals xs actuals) (omega (arith, lt), tt)))

  raises_sure : (b : Bool) (env : List Scope) (l : ℕ) (cs : List ConditionOf) → Scopes K env → Marks K (marked_raises q p env l cs)
      → Each (CondFits b (conds_of (proc_at q p))) cs →
      Each Sure (marked_raises q p env l cs)
  raises_sure b env l [] k m h = tt
  raises_sure b env l (c ∷ cs) k m h =
      ((m.0, number_small b c h.0), (refl, (to_known env c k, raises_sure b env (l + 1) cs k m.1 h.1)))

  raise_labels_known : (env : List Scope) (l : ℕ) (cs : List ConditionOf) → Marks K (marked_raises q p env l cs) → Each K (raise_labels l cs)
  raise_labels_known env l [] m = tt
  raise_labels_known env l (c ∷ cs) m = (m.0, raise_labels_known env (l + 1) cs m.1)

  after_sure : (b : Bool) (env : List Scope) (l n : ℕ) (cs : List ConditionOf) → n ≤ 65536 → Scopes K env → Marks K (after_lines q p env l n cs)
      → Each (CondFits b (conds_of (proc_at q p))) cs →
      Each Sure (after_lines q p env l n cs)
  after_sure b env l n cs le k m h =
      let rs = marked_raises q p env (l + 3) cs in
      let ms = marks_front K rs (Marked (l + 1) i.NoOp ∷ []) m.1.1 in
      let kb = ms.1.0 in
      let cases : Each K (l ∷ l ∷ (l + 1) ∷ (l + 2) ∷ raise_labels (l + 3) cs) = (m.0, (m.0, (kb, (m.1.0, raise_labels_known env (l + 3) cs ms.0)))) in
      let some : 0 < length (l ∷ l ∷ (l + 1) ∷ (l + 2) ∷ raise_labels (l + 3) cs) = omega arith in (
        le,
        (
          refl,
          (
            (some, cases),
            (
              (m.0, omega arith),
              (
                refl,
                (
                  to_known env Routine k,
                  (
                    (m.1.0, omega arith),
                    (
                      refl,
                      (
                        to_known env Space k,
                        each_both Sure rs (Marked (l + 1) i.NoOp ∷ []) (raises_sure b env (l + 3) cs k ms.0 h) ((kb, tt), tt),
                      ),
                    ),
                  ),
                ),
              ),
            ),
          ),
        ),
      )

  pub lines_sure : (b : Bool) (env : List Scope) (l : ℕ) (s : Stmt) → Scopes K env → Marks K (lines q p env l s) →
      StmtFits q (shapes_of (proc_at q p)) (conds_of (proc_at q p)) b s → Each Sure (lines q p env l s)
  lines_sure b env l Skip k m h = tt
  lines_sure b env l (NoOp place) k m h = (tt, tt)
  lines_sure b env l (Signal place c) k m h = (number_small b c h, (refl, (to_known env c k, tt)))
  lines_sure b env l (Seq s v) k m h =
      let ms = marks_front K (lines q p env l s) (lines q p env (l + labels s) v) m in
      each_both Sure (lines q p env l s) _ (lines_sure b env l s k ms.0 h.0) (lines_sure b env (l + labels s) v k ms.1 h.1)
  lines_sure b env l (Loop place s) k m h =
      let e = InLoop (l + 1) ∷ env in
      let ts = lines q p e (l + 2) s in
      let ms = marks_front K ts _ m.1 in
      ((m.0, tt), each_both Sure ts _ (lines_sure true e (l + 2) s (ms.1.0, k) ms.0 h) (m.0, ((ms.1.0, omega arith), (refl, tt))))
  lines_sure b env l (If place x s v) k m h =
      let ts = lines q p env (l + 2) s in
      let tv = lines q p env (l + 2 + labels s) v in
      let ms = marks_front K ts _ m in
      let mv = marks_front K tv _ ms.1.1 in (
        offset_below q p x (simple Boolean) h.0,
        (
          tt,
          (
            ((1, omega arith, refl), ms.1.0),
            each_both Sure ts _ (lines_sure b env (l + 2) s k ms.0 h.1)
                (mv.1.0, ((ms.1.0, tt), each_both Sure tv _ (lines_sure b env (l + 2 + labels s) v k mv.0 h.2) ((mv.1.0, tt), tt))),
          ),
        ),
      )
  lines_sure b env l (Begin place s cs v) k m h =
      let e = InBegin cs l ∷ env in
      let ts = lines q p e (l + 2) s in
      let tv = lines q p env (l + 2 + labels s) v in
      let ms = marks_front K ts _ m in
      let mv = marks_front K tv _ ms.1.1 in
      each_both Sure ts _ (lines_sure b e (l + 2) s (ms.1.0, k) ms.0 h.1)
      (mv.1.0, ((ms.1.0, omega arith), (refl, each_both Sure tv _ (lines_sure b env (l + 2 + labels s) v k mv.0 h.2) ((mv.1.0, tt), tt))))
  lines_sure b env l (Call place c xs cs) k m h =
      let before = before_code q p c xs in
      let after = after_lines q p env l (local_words (proc_at q c)) cs in
      let guard = guard_code (call_need q c) (l + 2) in
      let mg = marks_front K (unmarked guard) (unmarked before ++ after) m in
      let ms = marks_front K (unmarked before) after mg.1 in
      each_both Sure (unmarked guard) (unmarked before ++ after) (plain_sure guard (guard_right c (l + 2) ms.1.1.0))
      (each_both Sure (unmarked before) after (plain_sure before (before_right c xs h.actuals h.callee))
      (after_sure b env l (local_words (proc_at q c)) cs (locals_few q fits c) k ms.1 h.conds))
  lines_sure b env l (Apply place r args) k m h =
      let shapes = shapes_of (proc_at q p) in
      let below = number_below r in
      plain_sure (apply_code q p env (Apply place r args))
      (each_both Right (push_args q p args) _ (args_right h.0 (slots_of r) args h.1)
      (each_both Right (length_code shapes r args) _ (length_right shapes r args (shapes_short q fits p))
      (omega (arith, below), check_right (can_fail r) (label_to q p env Routine) (to_known env Routine k))))

  pub procedure_sure : Marks K (lines_of q p) → Each Sure (lines_of q p)
  procedure_sure m =
      let ts = lines q p [] 2 (body_of q p) in
      let ms = marks_front K ts tail_lines m in
      each_both Sure ts tail_lines (lines_sure false [] 2 (body_of q p) tt ms.0 (fits.procs p).body)
      (k1, ((k0, omega arith), (refl, ((k1, tt), tt))))
