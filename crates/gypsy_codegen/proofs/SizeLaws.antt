-- The words of the generated code, counted.
use Rattle.std.proofs.Common.{◌≡◌, ℕ, suc, ◌+◌, ◌*◌, List, [], ◌∷◌, ◌++◌, length, map, Bool, true, false, refl, ap, ◌∙◌, arith, length-append}
use Rattle.std.{specs.Prelude.{if◌then◌else◌, ◌==◌}, proofs.lemmas.List.length-map}
use Rattle.stack_text.{specs.declared.shape.Shape.Shape, specs.Values.{ValueOf, item_count}}
use Rattle.piton_words.{specs.declared.word.Word.Word, specs.declared.word.Word.TheVariants.Nat}
use Rattle.piton_check.specs.Instruction as i
use Rattle.piton_check.specs.Instruction.{Instruction, ProgramView}
use Rattle.piton_semantics.specs.Placed.{instructions_size, program_size}
use Rattle.gypsy_syntax.{specs.declared.predef.Predef.Predef, specs.Programs.{ConditionOf, Routine, Space, Arg, Var, Lit, Program, proc_at, body_of, shapes_of}}
use Rattle.gypsy_syntax.{specs.Programs.{Stmt, Skip, NoOp, Signal, Seq, Loop, If, Begin, Call, Apply}, specs.ProgramFits.{ProgramFits, StmtFits}}
use Rattle.gypsy_syntax.specs.Predefined.{predef_words}
use Rattle.gypsy_syntax.specs.declared.predef.Predef.TheVariants as row
use Rattle.gypsy_space.specs.Needs.{local_words, vars_of, call_need, args_words, statement_words, code_words}
use Rattle.gypsy_codegen.{specs.WordsOf.{words_of_values, starts, local_shapes}, specs.Guard.{guard_code, guard_size}, specs.Generated.{Scope, InLoop, InBegin}}
use Rattle.gypsy_codegen.specs.Generated.{target, raise_code, back_code, raises, raise_places, after_code, push_words, push_indices, push_actuals, push_args}
use Rattle.gypsy_codegen.{specs.Generated.{before_size, length_code, predef_position, size, gen, tail_code}, specs.Sizes.ProceduresTakeWords}
use Rattle.gypsy_codegen.{proofs.StackLaws.{values_words, starts-length}, proofs.StepLaws.program_is}
use Rattle.gypsy_predef.specs.Calls.{test_code}
use Rattle.gypsy_semantics.{proofs.Keeping.locals_fit, proofs.LendingLaws.actuals_length}

sum-append : (a b : List Instruction) → instructions_size (a ++ b) ≡ instructions_size a + instructions_size b
sum-append [] b = omega arith
sum-append (x ∷ a) b = omega (arith, sum-append a b)

sum_words : (ws : List Word) → instructions_size (push_words ws) ≡ 2 * length ws
sum_words [] = refl
sum_words (w ∷ ws) = omega (arith, sum_words ws)

sum_indices : (l k o : ℕ) (shapes : List Shape) → instructions_size (push_indices l k o shapes) ≡ 4 * length shapes
sum_indices l k o [] = refl
sum_indices l k o (s ∷ shapes) = omega (arith, sum_indices l (k + 1) (o + item_count s) shapes)

sum_actuals : (q : Program) (p : ℕ) (xs : List ℕ) → instructions_size (push_actuals q p xs) ≡ 4 * length xs
sum_actuals q p [] = refl
sum_actuals q p (b ∷ xs) = omega (arith, sum_actuals q p xs)

sum_args : (q : Program) (p : ℕ) (args : List Arg) → instructions_size (push_args q p args) ≡ args_words args
sum_args q p [] = refl
sum_args q p (Var b ∷ args) = omega (arith, sum_args q p args)
sum_args q p (Lit v ∷ args) = omega (arith, sum_args q p args)

sum_raises : (q : Program) (p n : ℕ) (env : List Scope) (cs : List ConditionOf) → instructions_size (raises q p n env cs) ≡ 7 * length cs
sum_raises q p n env [] = refl
sum_raises q p n env (c ∷ cs) = omega (arith, sum-append (raise_code q p n env c) (raises q p n env cs), sum_raises q p n env cs)

places_number : (at : ℕ) (cs : List ConditionOf) → length (raise_places at cs) ≡ length cs
places_number at [] = refl
places_number at (c ∷ cs) = ap suc (places_number (at + 3) cs)

sum_after : (q : Program) (p n : ℕ) (env : List Scope) (at l : ℕ) (cs : List ConditionOf)
    → instructions_size (after_code q p n env at l cs) ≡ 28 + 8 * length cs
sum_after q p n env at l cs =
    let rest = raises q p n env cs ++ i.NoOp ∷ [] in
    omega (
      arith,
      sum-append (raise_code q p n env Routine) (raise_code q p n env Space ++ rest),
      sum-append (raise_code q p n env Space) rest,
      sum-append (raises q p n env cs) (i.NoOp ∷ []),
      sum_raises q p n env cs,
      places_number (at + 9) cs,
    )

-- the length and the check of a row
sum_extra : (r : Predef) (shapes : List Shape) (args : List Arg) (to : ℕ) → instructions_size (length_code shapes r args)
    + instructions_size (test_code r to) ≡ predef_words r
sum_extra row.MgSimpleVariableAssignment shapes args to = refl
sum_extra r shapes args to = refl

module _ (q : Program) (fits : ProgramFits q) (p n : ℕ) (conds : ℕ) where
  sum_gen : (in_loop : Bool) (env : List Scope) (at : ℕ) (s : Stmt) → StmtFits q (shapes_of (proc_at q p)) conds in_loop s
      → instructions_size (gen q p n env at s) ≡ statement_words q s
  sum_gen b env at Skip f = refl
  sum_gen b env at (NoOp place) f = refl
  sum_gen b env at (Signal place c) f = refl
  sum_gen b env at (Seq s v) f =
      omega (arith, sum-append (gen q p n env at s) (gen q p n env (at + size q s) v), sum_gen b env at s f.0, sum_gen b env (at + size q s) v f.1)
  sum_gen b env at (Loop place s) f =
      let inner = InLoop (at + 1 + size q s + 1) ∷ env in
      omega (arith, sum-append (gen q p n inner (at + 1) s) (back_code at), sum_gen true inner (at + 1) s f)
  sum_gen b env at (If place t s v) f =
      let a2 = at + 3 + size q s in
      let gs = gen q p n env (at + 3) s in
      let gv = gen q p n env (a2 + 2) v in
      omega (
        arith,
        sum-append gs (i.Jump (a2 + 2 + size q v) ∷ i.NoOp ∷ (gv ++ i.NoOp ∷ [])),
        sum-append gv (i.NoOp ∷ []),
        sum_gen b env (at + 3) s f.1,
        sum_gen b env (a2 + 2) v f.2,
      )
  sum_gen b env at (Begin place s cs v) f =
      let inner = InBegin cs (at + size q s + 1) ∷ env in
      let gs = gen q p n inner at s in
      let gv = gen q p n env (at + size q s + 3) v in
      omega (
        arith,
        sum-append gs (i.Jump (at + size q s + 3 + size q v) ∷ i.PushConstant (Nat 2) ∷ i.PopGlobal 0 ∷ (gv ++ i.NoOp ∷ [])),
        sum-append gv (i.NoOp ∷ []),
        sum_gen b inner at s f.1,
        sum_gen b env (at + size q s + 3) v f.2,
      )
  sum_gen b env at (Call place c xs cs) f =
      let d = proc_at q c in
      let l = local_words d in
      let ws = words_of_values d.locals in
      let behind = at + guard_size + before_size q c xs in
      let after = after_code q p n env behind l cs in
      let pa = push_actuals q p xs in
      let pi = push_indices l 0 0 (local_shapes d) in
      let pw = push_words ws in
      let many = actuals_length (shapes_of (proc_at q p)) d.formals xs f.actuals in
      let words : length ws ≡ l = values_words (local_shapes d) d.locals (locals_fit d.locals (fits.procs c).locals) in
      let a : instructions_size pw ≡ 2 * l = sum_words ws ∙ ap (λ k. 2 * k) words in
      omega (
        arith,
        sum-append (guard_code (call_need q c) (behind + 6)) (pw ++ (pi ++ (pa ++ i.Call c ∷ after))),
        sum-append pw (pi ++ (pa ++ i.Call c ∷ after)),
        sum-append pi (pa ++ i.Call c ∷ after),
        sum-append pa (i.Call c ∷ after),
        a,
        sum_indices l 0 0 (local_shapes d),
        length-map d.locals (λ (v : ValueOf). v.shape),
        sum_actuals q p xs,
        sum_after q p n env behind l cs,
        many,
      )
  sum_gen b env at (Apply place r args) f =
      let to = target q p n env Routine in
      let pa = push_args q p args in
      let lc = length_code (shapes_of (proc_at q p)) r args in
      let cc = test_code r to in
      omega (
        arith,
        sum-append pa (lc ++ i.Call (predef_position q r) ∷ cc),
        sum-append lc (i.Call (predef_position q r) ∷ cc),
        sum_args q p args,
        sum_extra r (shapes_of (proc_at q p)) args to,
      )

-- the prelude of main, and of another procedure
prelude_by : (b : Bool) (vars temps : ℕ) (l : List Word) → length l ≡ vars → 1 + 2 * length (if b then l else []) + (if b then 0 else vars) + 1 ≡ 2
    + (if b then 2 else 1) * vars
prelude_by true vars temps l e = omega (arith, e)
prelude_by false vars temps l e = omega (arith, e)

pub procedures_take_words : ProceduresTakeWords
unfolding code_words
procedures_take_words q sizes base p fits there =
    let d = proc_at q p in
    let n = size q (body_of q p) in
    let g = gen q p n [] 0 (body_of q p) in
    let l = map (λ n. Nat n) (starts 0 (shapes_of d)) in
    let vars : length l ≡ vars_of d = omega (
      arith,
      length-map (starts 0 (shapes_of d)) (λ n. Nat n),
      starts-length 0 (shapes_of d),
      length-append d.formals (local_shapes d),
      length-map d.locals (λ (v : ValueOf). v.shape),
    ) in
    let code = sum_gen q fits p n (Rattle.gypsy_syntax.specs.Programs.conds_of d) false [] 0 (body_of q p) (fits.procs p).body in
    ap (λ (z : ProgramView). program_size z) (program_is q sizes base p there)
    ∙ omega (arith, prelude_by (p == q.main) (vars_of d) 0 l vars, sum-append g (tail_code n), code)
