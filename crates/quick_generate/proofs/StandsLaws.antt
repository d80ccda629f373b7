-- Main with its calls in line stands for main, if that isn't too much.
use Rattle.std.proofs.Common.{◌≡◌, ℕ, zero, suc, ◌+◌, ◌≤◌, List, [], ◌∷◌, ◌++◌, length, length-append, map, Bool, true, false, Some, None, refl, ap, subst}
use Rattle.std.{proofs.Common.arith, specs.Prelude.if◌then◌else◌, proofs.lemmas.Bool.leb-true, proofs.lemmas.List.{length-map, map-append}}
use Rattle.stack_text.{specs.Values.{ValueOf, item_count}, specs.declared.shape.Shape.Shape}
use Rattle.gypsy_syntax.specs.Programs.{Proc, Program, body_of, proc_at, shapes_of, words_of, Stmt, Skip, NoOp, Signal, Seq, Loop, If, Begin, Call, Apply}
use Rattle.gypsy_syntax.{specs.ProgramFits.Each, specs.Resolved.program_of, specs.Sources.SourceOf}
use Rattle.gypsy_check.specs.Accepted.{IsAccepted}
use Rattle.gypsy_space.specs.Needs.{StackSizes, has_room, main_used, with_call}
use Rattle.quick_gypsy.{specs.InLine.{Nests, if_so, new_locals}, proofs.PlainLaws.{lined_locals_fit, lined_mains_are_plain}}
use Rattle.quick_build.specs.QuickImage.{most_nested, quick_main}
use Rattle.quick_generate.{specs.Lining.{is_lined, main_size, most_levels, most_lined}, specs.QuickOf.{StandsForMain, main_found, main_proc}}
use Rattle.quick_generate.{proofs.LinedSizeLaws.{few_new, small_nests}, proofs.PlacedLaws.few_variables}

-- the words of variables
words_join : (xs ys : List Shape) → words_of (xs ++ ys) ≡ words_of xs + words_of ys
words_join [] ys = omega arith
words_join (x ∷ xs) ys = omega (arith, words_join xs ys)

simple_words : (vs : List ValueOf) → Each (λ v. v.shape.length ≡ 0) vs → words_of (map (λ v. v.shape) vs) ≡ length vs
simple_words [] h = refl
simple_words (v ∷ vs) h = let one = ap (λ n. item_count record { kind = v.shape.kind; length = n }) h.0 in omega (arith, one, simple_words vs h.1)

-- the locals of calls are simple
both_simple : (xs ys : List ValueOf) → Each (λ v. v.shape.length ≡ 0) xs → Each (λ v. v.shape.length ≡ 0) ys
    → Each (λ v. v.shape.length ≡ 0) (xs ++ ys)
both_simple [] ys h g = g
both_simple (x ∷ xs) ys h g = (h.0, both_simple xs ys h.1 g)

module _ (q : Program) (sizes : StackSizes) where
  call_simple : (b : Bool) (xs ys : List ValueOf) (inner : Type 0) → if_so b (Each (λ v. v.shape.length ≡ 0) xs × inner)
      → (inner → Each (λ v. v.shape.length ≡ 0) ys) → Each (λ v. v.shape.length ≡ 0) (if b then xs ++ ys else [])
  call_simple true xs ys inner h f = both_simple xs ys h.0 (f h.1)
  call_simple false xs ys inner h f = tt

  new_simple : (s : Stmt) (d : ℕ) (u : StackSizes) → Nests q sizes d u s → Each (λ v. v.shape.length ≡ 0) (new_locals q sizes d u s)
  new_simple Skip d u h = tt
  new_simple (NoOp place) d u h = tt
  new_simple (Signal place c) d u h = tt
  new_simple (Seq a b) d u h = both_simple (new_locals q sizes d u a) (new_locals q sizes d u b) (new_simple a d u h.0) (new_simple b d u h.1)
  new_simple (Loop place s) d u h = new_simple s d u h
  new_simple (If place v s w) d u h = both_simple (new_locals q sizes d u s) (new_locals q sizes d u w) (new_simple s d u h.0) (new_simple w d u h.1)
  new_simple (Begin place s cs w) d u h = both_simple (new_locals q sizes d u s) (new_locals q sizes d u w) (new_simple s d u h.0) (new_simple w d u h.1)
  new_simple (Call place p xs cs) zero u h = tt
  new_simple (Call place p xs cs) (suc d) u h =
      call_simple (has_room q sizes p u) (proc_at q p).locals (new_locals q sizes d (with_call q p u) (body_of q p))
      (Nests q sizes d (with_call q p u) (body_of q p)) h (λ inner. new_simple (body_of q p) d (with_call q p u) inner)
  new_simple (Apply place r args) d u h = tt

pub quick_stands : (s : SourceOf) (sizes : StackSizes) → IsAccepted s → main_size (program_of s) sizes ≤ most_lined
    → StandsForMain s (quick_main s sizes)
quick_stands s sizes accepted small =
    let q : Program = program_of s in
    let p : Proc = main_proc s in
    let nests = small_nests q sizes most_nested most_levels (main_used q) (body_of q q.main) small in
    let new : List ValueOf = new_locals q sizes most_nested (main_used q) p.body in
    let few = few_new q sizes most_nested most_levels (main_used q) (body_of q q.main) small in
    let own = few_variables s accepted in
    let words = (accepted.fits.procs q.main).words in
    let shape : ValueOf → Shape = λ v. v.shape in
    let shapes : shapes_of (quick_main s sizes) ≡ p.formals ++ (map shape p.locals ++ map shape new) =
    ap (λ l. p.formals ++ l) (map-append shape p.locals new) in
    record {
      formals = refl;
      conds = refl;
      locals = lined_locals_fit q sizes most_nested accepted.fits;
      plain = lined_mains_are_plain q sizes most_nested accepted.fits nests;
      few =
          omega (
            arith,
            few,
            own,
            small,
            ap (λ (l : List Shape). length l) shapes,
            length-append p.formals (map shape p.locals ++ map shape new),
            length-append (map shape p.locals) (map shape new),
            length-append p.formals (map shape p.locals),
            length-map new shape,
          );
      words =
          omega (
            arith,
            few,
            words,
            small,
            ap words_of shapes,
            words_join p.formals (map shape p.locals ++ map shape new),
            words_join (map shape p.locals) (map shape new),
            words_join p.formals (map shape p.locals),
            simple_words new (new_simple q sizes (body_of q q.main) most_nested (main_used q) nests),
          );
    }

-- so what is found stands for main
pub found_stands : (s : SourceOf) (sizes : StackSizes) (p : Proc) → IsAccepted s → Some p ≡ main_found s sizes → StandsForMain s p
unfolding main_found
found_stands s sizes p accepted e = by_lining (is_lined s sizes) refl e
  where
    by_lining : (t : Bool) → is_lined s sizes ≡ t → Some p ≡ (if t then Some (quick_main s sizes) else None) → StandsForMain s p
    by_lining true lined f =
        let same : quick_main s sizes ≡ p = cc in
        subst (StandsForMain s) same (quick_stands s sizes accepted (leb-true (main_size (program_of s) sizes) most_lined lined))
    by_lining false lined f = absurd cc
