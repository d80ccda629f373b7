-- The lowered source means what the program does.
use Rattle.std.proofs.Common.{◌≡◌, ℕ, zero, suc, ◌*◌, List, [], ◌∷◌, ◌++◌, map, length, take, true, false, Some, None, refl, sym, ap, ap₂, subst, ◌∙◌}
use Rattle.std.{specs.Prelude.{ℤ, pos, negsuc, ◌==◌, ◌||◌, ◌&&◌}, specs.List.list_all, proofs.lemmas.Bool.eqb-true, proofs.Math.Seq.take-append_seam}
use Rattle.std.specs.Prelude as std
use Rattle.stack_text.{specs.Names.place_among, specs.declared.shape.Kind.Kind, specs.declared.shape.Kind.TheVariants.{Integer, Boolean}}
use Rattle.stack_text.{specs.declared.shape.Shape.Shape, specs.Values.{ValueOf, item_count}, proofs.SharedLaws.one_item}
use Rattle.gypsy_syntax.{specs.declared.literal.Decl.Decl, specs.Effects.{integer_value, truth_value, item_of_value, is_true_value, same_int}}
use Rattle.gypsy_syntax.{specs.Ranges.is_in_range, specs.ValuesFit.{ValueFits, VarsFit}, specs.Programs.{Program, Leave, Routine, Space, simple, proc_at}}
use Rattle.gypsy_syntax.specs.Resolved.{program_of, shape_of, truth_item, statement_of, local_value}
use Rattle.gypsy_syntax.specs.Programs as gypsy
use Rattle.gypsy_space.specs.Needs.{StackSizes, main_used}
use Rattle.gypsy_semantics.{specs.Calls.{main_start, main_formals, main_way, is_passed_on}, specs.Meaning.{MeaningOutcome, Done, Unfinished, evaluate}}
use Rattle.gypsy_semantics.specs.Meaning.{main_end, meaning}
use Rattle.mini_syntax.{specs.declared.program.Declared.Declared, specs.declared.sort.Sort.Sort, specs.declared.sort.Sort.TheVariants.{Int, Bool}}
use Rattle.mini_syntax.{specs.Language.Stmt, specs.Lawful.IsLawful, specs.Sorted.depths}
use Rattle.mini_gypsy.{specs.Lowered.{kind_of, decl_of, locals_from, temporaries, statement_parts, main_procedure, lowered}, specs.Meant.worth_in}
use Rattle.mini_gypsy.{specs.Meant.program_run, specs.Promises.MeansSame, specs.Steps.{in_turn, block_of, statement_steps}, proofs.NameLaws.{all_named, knows}}
use Rattle.mini_gypsy.{proofs.ResolveLaws.{all_in_turn, statements_are}, proofs.HeldLaws.{Holds, AreHeld, held_length}, proofs.StatementLaws.Follows}
use Rattle.mini_gypsy.proofs.StatementLaws.{statements_follow}

-- ---- values that fit are held

truth_of : (z : ℤ) → is_in_range Boolean z ≡ true → z ≡ truth_item (same_int z (pos 1))
truth_of (negsuc n) e = cc
truth_of (pos n) e = pick (n == 0) (n == 1) refl refl e
  where
    pick : (a b : std.Bool) → (n == 0) ≡ a → (n == 1) ≡ b → (a || b) ≡ true → pos n ≡ truth_item (same_int (pos n) (pos 1))
    pick true b p q e = subst (λ (k : ℕ). pos k ≡ truth_item (same_int (pos k) (pos 1))) (sym (eqb-true n 0 p)) refl
    pick false true p q e = subst (λ (k : ℕ). pos k ≡ truth_item (same_int (pos k) (pos 1))) (sym (eqb-true n 1 q)) refl
    pick false false p q e = cc

one_number : (v : ValueOf) → v.shape ≡ simple Integer → v.items ≡ item_of_value v ∷ [] → v ≡ integer_value (item_of_value v)
one_number v e f = λ i. record { shape = e i; items = f i }

one_truth : (v : ValueOf) → v.shape ≡ simple Boolean → v.items ≡ truth_item (is_true_value v) ∷ [] → v ≡ truth_value (is_true_value v)
one_truth v e f = λ i. record { shape = e i; items = f i }

one_of : (v : ValueOf) (k : Kind) → v.shape ≡ simple k → ValueFits v → v.items ≡ item_of_value v ∷ []
one_of v k e fits = one_item v.items (fits.number ∙ ap item_count e)

one_held : (v : ValueOf) (s : Sort) → v.shape ≡ simple (kind_of s) → ValueFits v → Holds (worth_in s v) v
one_held v Int e fits = one_number v e (one_of v Integer e fits)
one_held v Bool e fits =
    let one = one_of v Boolean e fits in
    let ranges : list_all (is_in_range Boolean) (item_of_value v ∷ []) ≡ true =
    sym (ap₂ (λ (s : Shape) (zs : List ℤ). list_all (is_in_range s.kind) zs) e one) ∙ fits.items in
    one_truth v e (one ∙ ap (λ (z : ℤ). z ∷ []) (truth_of (item_of_value v) (and_first (is_in_range Boolean (item_of_value v)) ranges)))
  where
    and_first : (a : std.Bool) → (a && true) ≡ true → a ≡ true
    and_first true e = refl
    and_first false e = cc

all_held : (ds : List Declared) (v : List ValueOf) → VarsFit (map (λ (d : Decl). shape_of d.shape) (map (λ (d : Declared). decl_of d.name d.sort) ds)) v
    → AreHeld (map (λ (d : Declared). d.sort) ds) v
all_held [] [] fits = tt
all_held [] (w ∷ v) fits = absurd fits
all_held (d ∷ ds) [] fits = absurd fits
all_held (d ∷ ds) (w ∷ v) fits = (one_held w d.sort fits.0 fits.1, all_held ds v fits.2)

-- ---- the program

temporaries_count : length (map local_value temporaries) ≡ 2 * depths
unfolding temporaries locals_from
temporaries_count = refl

formals_count : (ds : List Declared) → length (map (λ (d : Decl). shape_of d.shape) (map (λ (d : Declared). decl_of d.name d.sort) ds))
    ≡ length (map (λ (d : Declared). d.sort) ds)
formals_count [] = refl
formals_count (d ∷ ds) = ap suc (formals_count ds)

sorts_count : (ds : List Declared) → length (map (λ (d : Declared). d.name) ds) ≡ length (map (λ (d : Declared). d.sort) ds)
sorts_count [] = refl
sorts_count (d ∷ ds) = ap suc (sorts_count ds)

pub body_is : (ds : List Declared) (s : Stmt) → IsLawful ds s →
    statement_of (lowered ds s) (main_procedure ds s) (main_procedure ds s).body ≡ block_of (statement_steps (length (map (λ (d : Declared). d.sort) ds)) s)
body_is ds s lawful =
    let q = lowered ds s in
    let p = main_procedure ds s in
    let names = map (λ (d : Declared). d.name) ds in
    let sorts = map (λ (d : Declared). d.sort) ds in
    ap (gypsy.Seq (gypsy.NoOp 0))
    (all_in_turn q p (statement_parts names s)
    ∙ ap in_turn (statements_are q p names sorts (knows ds s (all_named ds lawful.names) lawful.apart) s lawful.fine
    ∙ ap (λ (n : ℕ). statement_steps n s) (sorts_count ds)))

-- what main ends with is what the program does
ends_so : (q : Program) (sorts : List Sort) (count : length (proc_at q q.main).formals ≡ length sorts) (r o : MeaningOutcome) → Follows sorts r o
    → main_end q o ≡ r
unfolding main_formals main_way is_passed_on
ends_so q sorts count (Done d None) o follows =
    ap (main_end q) follows.is
    ∙ ap (λ (x : List ValueOf). Done x None)
    (ap (λ (n : ℕ). take n (d ++ follows.rest)) (count ∙ sym (held_length sorts d follows.held)) ∙ take-append_seam d follows.rest)
ends_so q sorts count (Done d (Some Leave)) o follows = absurd follows.ending
ends_so q sorts count (Done d (Some Routine)) o follows =
    ap (main_end q) follows.is
    ∙ ap (λ (x : List ValueOf). Done x (Some Routine))
    (ap (λ (n : ℕ). take n (d ++ follows.rest)) (count ∙ sym (held_length sorts d follows.held)) ∙ take-append_seam d follows.rest)
ends_so q sorts count (Done d (Some Space)) o follows = absurd follows.ending
ends_so q sorts count (Done d (Some (gypsy.Declared i))) o follows = absurd follows.ending
ends_so q sorts count Unfinished o follows = ap (main_end q) follows

-- at every bound and all sizes, on all values that fit
pub lowered_means : (ds : List Declared) (s : Stmt) → IsLawful ds s → (sizes : StackSizes) (v : List ValueOf) (n : ℕ) →
    VarsFit (proc_at (program_of (lowered ds s)) (program_of (lowered ds s)).main).formals v → meaning (program_of (lowered ds s)) sizes v n ≡ program_run s v n
unfolding place_among program_run main_start
lowered_means ds s lawful sizes v zero fits = refl
lowered_means ds s lawful sizes v (suc m) fits =
    let q = program_of (lowered ds s) in
    let sorts = map (λ (d : Declared). d.sort) ds in
    let t : List ValueOf = map local_value temporaries in
    let follows = (statements_follow q sizes (main_used q) sorts s lawful.fine).at (suc m) v t (all_held ds v fits) temporaries_count in
    ap (λ (b : gypsy.Stmt). main_end q (evaluate q sizes (suc m) b (main_used q) (v ++ t))) (body_is ds s lawful)
    ∙ ends_so q sorts (formals_count ds) (program_run s v (suc m))
    (evaluate q sizes (suc m) (in_turn (statement_steps (length sorts) s)) (main_used q) (v ++ t)) follows

pub means_same : (ds : List Declared) (s : Stmt) → IsLawful ds s → MeansSame (program_of (lowered ds s)) s
means_same ds s lawful = record {
  done = λ sizes v n x c can.
      let same = lowered_means ds s lawful sizes v n can.values_fit in
      (λ e. sym same ∙ e, λ e. same ∙ e);
  equal = λ sizes v n can. lowered_means ds s lawful sizes v n can.values_fit;
}
