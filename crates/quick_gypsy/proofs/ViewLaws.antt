-- Variables of main, seen as those of a procedure.
use Rattle.std.proofs.Common.{◌≡◌, ◌≢◌, ℕ, zero, suc, ◌+◌, ◌-◌, ◌<◌, ◌≤◌, List, [], ◌∷◌, ◌++◌, map, length, get_or, slice_set, Bool, true, false, refl, ap, sym}
use Rattle.std.{proofs.Common.{◌∙◌, arith, length-append, length-set, ltb-true}, specs.Prelude.{◌==◌, nat_lt}, proofs.lemmas.List.{length-map, get_or-map}}
use Rattle.std.{proofs.lemmas.List.{get_or-set_same, get_or-set_other, ext_get_or}, proofs.lemmas.Bool.{eqb-true, eqb-false, ltb-false}}
use Rattle.std.{proofs.Math.Seq.get_or-append_right, proofs.Math.ListN.get_or-append}
use Rattle.stack_text.specs.Values.{ValueOf}
use Rattle.gypsy_syntax.{specs.Effects.{value_at, no_value}, specs.ProgramFits.{Each, Misses, Distinct}}
use Rattle.gypsy_semantics.specs.Calls.{copied_out}
use Rattle.quick_gypsy.specs.InLine.{numbers_from}

-- the values of these variables
abbrev pub view : List ℕ → List ValueOf → List ValueOf
view vs X = map (value_at X) vs

pub view_at : (vs : List ℕ) (X : List ValueOf) (b : ℕ) → b < length vs → value_at (view vs X) b ≡ value_at X (get_or vs b 0)
view_at vs X b h = get_or-map (value_at X) vs b 0 no_value h

pub view_length : (vs : List ℕ) (X : List ValueOf) → length (view vs X) ≡ length vs
view_length vs X = length-map vs (value_at X)

-- no two are the same, and each is below a number
pub record Apart (vs : List ℕ) (next : ℕ) : Type 0 where
  pub below : (b : ℕ) → b < length vs → get_or vs b 0 < next
  pub apart : (b c : ℕ) → b < length vs → c < length vs → get_or vs b 0 ≡ get_or vs c 0 → b ≡ c

pub apart_below : (vs : List ℕ) (k n : ℕ) → Apart vs k → k ≤ n → Apart vs n
apart_below vs k n h le = record { below = λ b lt. let one : get_or vs b 0 < k = h.below b lt in omega (arith, one, le); apart = h.apart }

-- values are the same where they are the same at each place
pub same_view : (vs : List ℕ) (X x : List ValueOf) → length x ≡ length vs → ((b : ℕ) → b < length vs → value_at x b ≡ value_at X (get_or vs b 0))
    → x ≡ view vs X
same_view vs X x long h =
    ext_get_or no_value x (view vs X) (long ∙ sym (view_length vs X))
    (λ b lt. let there : b < length vs = omega (arith, lt, long) in h b there ∙ sym (view_at vs X b there))

-- one of them is written
pub view_set : (vs : List ℕ) (next : ℕ) (X : List ValueOf) (b : ℕ) (v : ValueOf) → Apart vs next → b < length vs → next ≤ length X
    → view vs (slice_set X (get_or vs b 0) v) ≡ slice_set (view vs X) b v
view_set vs next X b v is lt room =
    sym (same_view vs (slice_set X (get_or vs b 0) v) (slice_set (view vs X) b v) (length-set (view vs X) b v ∙ view_length vs X) each)
  where
    each : (i : ℕ) → i < length vs → value_at (slice_set (view vs X) b v) i ≡ value_at (slice_set X (get_or vs b 0) v) (get_or vs i 0)
    each i there = pick (i == b) refl
      where
        pick : (t : Bool) → (i == b) ≡ t → value_at (slice_set (view vs X) b v) i ≡ value_at (slice_set X (get_or vs b 0) v) (get_or vs i 0)
        pick true e =
            let same : i ≡ b = eqb-true i b e in
            let low : get_or vs b 0 < next = is.below b lt in
            let left : value_at (slice_set (view vs X) b v) b ≡ v =
            get_or-set_same (view vs X) b v no_value (omega (arith, lt, view_length vs X)) in
            let right : value_at (slice_set X (get_or vs b 0) v) (get_or vs b 0) ≡ v =
            get_or-set_same X (get_or vs b 0) v no_value (omega (arith, low, room)) in
            ap (λ j. value_at (slice_set (view vs X) b v) j) same ∙ left ∙ sym right
            ∙ ap (λ j. value_at (slice_set X (get_or vs b 0) v) (get_or vs j 0)) (sym same)
        pick false e =
            get_or-set_other (view vs X) b i v no_value (eqb-false i b e) ∙ view_at vs X i there
            ∙ sym (get_or-set_other X (get_or vs b 0) (get_or vs i 0) v no_value (λ f. eqb-false i b e (is.apart i b there lt f)))

-- What is below a number, and none of these variables, is as it was.
pub record Keeps (vs : List ℕ) (below : ℕ) (X Y : List ValueOf) : Type 0 where
  pub long : length Y ≡ length X
  pub same : (i : ℕ) → i < below → ((b : ℕ) → b < length vs → get_or vs b 0 ≢ i) → value_at Y i ≡ value_at X i

pub keeps_all : (vs : List ℕ) (below : ℕ) (X : List ValueOf) → Keeps vs below X X
keeps_all vs below X = record { long = refl; same = λ i lt h. refl }

pub keeps_then : (vs : List ℕ) (below : ℕ) (X Y Z : List ValueOf) → Keeps vs below X Y → Keeps vs below Y Z → Keeps vs below X Z
keeps_then vs below X Y Z h g = record { long = g.long ∙ h.long; same = λ i lt f. g.same i lt f ∙ h.same i lt f }

pub keeps_set : (vs : List ℕ) (below : ℕ) (X : List ValueOf) (b : ℕ) (v : ValueOf) → b < length vs → Keeps vs below X (slice_set X (get_or vs b 0) v)
keeps_set vs below X b v lt =
    record {
      long = length-set X (get_or vs b 0) v;
      same = λ i low h. get_or-set_other X (get_or vs b 0) i v no_value (λ e. h b lt (sym e));
    }

-- Numbers, one after the other.

pub numbers_length : (k n : ℕ) → length (numbers_from k n) ≡ n
numbers_length k zero = refl
numbers_length k (suc n) = ap suc (numbers_length (suc k) n)

pub number_at : (k n i : ℕ) → i < n → get_or (numbers_from k n) i 0 ≡ k + i
number_at k zero i h = absurd (omega (arith, h))
number_at k (suc n) zero h = omega arith
number_at k (suc n) (suc i) h =
    let rest : get_or (numbers_from (suc k) n) i 0 ≡ suc k + i = number_at (suc k) n i (omega (arith, h)) in
    omega (arith, rest)

pub numbers_apart : (n : ℕ) → Apart (numbers_from 0 n) n
numbers_apart n =
    record {
      below = λ b lt. let there : b < n = omega (arith, lt, numbers_length 0 n) in
          let e : get_or (numbers_from 0 n) b 0 ≡ 0 + b = number_at 0 n b there in omega (arith, e, there);
      apart = λ b c lt gt e.
          let f : get_or (numbers_from 0 n) b 0 ≡ 0 + b = number_at 0 n b (omega (arith, lt, numbers_length 0 n)) in
          let g : get_or (numbers_from 0 n) c 0 ≡ 0 + c = number_at 0 n c (omega (arith, gt, numbers_length 0 n)) in
          omega (arith, e, f, g);
    }

-- A callee's variables: the actuals, and the locals.

abbrev pub callee_variables : List ℕ → ℕ → List ℕ → ℕ → List ℕ
callee_variables vs next xs count = map (λ a. get_or vs a 0) xs ++ numbers_from next count

distinct_at : (a : ℕ) (xs : List ℕ) (c : ℕ) → Misses a xs → c < length xs → get_or xs c 0 ≢ a
distinct_at a [] c h lt = absurd (omega (arith, lt))
distinct_at a (b ∷ xs) zero h lt = λ e. h.0 (sym e)
distinct_at a (b ∷ xs) (suc c) h lt = distinct_at a xs c h.1 (omega (arith, lt))

distinct_places : (xs : List ℕ) (b c : ℕ) → Distinct xs → b < length xs → c < length xs → get_or xs b 0 ≡ get_or xs c 0 → b ≡ c
distinct_places [] b c h lt gt e = absurd (omega (arith, lt))
distinct_places (a ∷ xs) zero zero h lt gt e = refl
distinct_places (a ∷ xs) zero (suc c) h lt gt e = absurd (distinct_at a xs c h.0 (omega (arith, gt)) (sym e))
distinct_places (a ∷ xs) (suc b) zero h lt gt e = absurd (distinct_at a xs b h.0 (omega (arith, lt)) e)
distinct_places (a ∷ xs) (suc b) (suc c) h lt gt e = ap suc (distinct_places xs b c h.1 (omega (arith, lt)) (omega (arith, gt)) e)

pub each_at : (n : ℕ) (xs : List ℕ) (b : ℕ) → Each (λ a. a < n) xs → b < length xs → get_or xs b 0 < n
each_at n [] b h lt = absurd (omega (arith, lt))
each_at n (a ∷ xs) zero h lt = h.0
each_at n (a ∷ xs) (suc b) h lt = each_at n xs b h.1 (omega (arith, lt))

module _ (vs : List ℕ) (next : ℕ) (xs : List ℕ) (count : ℕ) where
  pub callee_length : length (callee_variables vs next xs count) ≡ length xs + count
  callee_length =
      length-append (map (λ a. get_or vs a 0) xs) (numbers_from next count)
      ∙ omega (arith, length-map xs (λ a. get_or vs a 0), numbers_length next count)

  pub formal_at : (b : ℕ) → b < length xs → get_or (callee_variables vs next xs count) b 0 ≡ get_or vs (get_or xs b 0) 0
  formal_at b lt =
      get_or-append (map (λ a. get_or vs a 0) xs) (numbers_from next count) 0 b (omega (arith, lt, length-map xs (λ a. get_or vs a 0)))
      ∙ get_or-map (λ a. get_or vs a 0) xs b 0 0 lt

  pub local_at : (b : ℕ) → length xs ≤ b → b < length xs + count → get_or (callee_variables vs next xs count) b 0 ≡ next + (b - length xs)
  local_at b low high =
      let m : length (map (λ a. get_or vs a 0) xs) ≡ length xs = length-map xs (λ a. get_or vs a 0) in
      get_or-append_right (map (λ a. get_or vs a 0) xs) (numbers_from next count) b 0 (omega (arith, low, m))
      ∙ ap (λ k. get_or (numbers_from next count) (b - k) 0) m ∙ number_at next count (b - length xs) (omega (arith, low, high))

  module _ (is : Apart vs next) (distinct : Distinct xs) (there : Each (λ a. a < length vs) xs) where
    pub formal_below : (b : ℕ) → b < length xs → get_or (callee_variables vs next xs count) b 0 < next
    formal_below b lt =
        let low : get_or vs (get_or xs b 0) 0 < next = is.below (get_or xs b 0) (each_at (length vs) xs b there lt) in
        omega (arith, low, formal_at b lt)

    pub callee_apart : Apart (callee_variables vs next xs count) (next + count)
    callee_apart = record { below = low; apart = two }
      where
        low : (b : ℕ) → b < length (callee_variables vs next xs count) → get_or (callee_variables vs next xs count) b 0 < next + count
        low b lt = pick (nat_lt b (length xs)) refl
          where
            pick : (t : Bool) → nat_lt b (length xs) ≡ t → get_or (callee_variables vs next xs count) b 0 < next + count
            pick true e = let one : get_or (callee_variables vs next xs count) b 0 < next = formal_below b (ltb-true b (length xs) e) in omega (arith, one)
            pick false e =
                let far : length xs ≤ b = ltb-false b (length xs) e in
                let bound : b < length xs + count = omega (arith, lt, callee_length) in
                omega (arith, far, bound, local_at b far bound)

        two : (b c : ℕ) → b < length (callee_variables vs next xs count) → c < length (callee_variables vs next xs count)
            → get_or (callee_variables vs next xs count) b 0 ≡ get_or (callee_variables vs next xs count) c 0 → b ≡ c
        two b c lt gt e = pick (nat_lt b (length xs)) (nat_lt c (length xs)) refl refl
          where
            pick : (t r : Bool) → nat_lt b (length xs) ≡ t → nat_lt c (length xs) ≡ r → b ≡ c
            pick true true f g =
                let bl : b < length xs = ltb-true b (length xs) f in
                let cl : c < length xs = ltb-true c (length xs) g in
                distinct_places xs b c distinct bl cl
                (is.apart (get_or xs b 0) (get_or xs c 0) (each_at (length vs) xs b there bl) (each_at (length vs) xs c there cl)
                (sym (formal_at b bl) ∙ e ∙ formal_at c cl))
            pick true false f g =
                let low : get_or (callee_variables vs next xs count) b 0 < next = formal_below b (ltb-true b (length xs) f) in
                let far : length xs ≤ c = ltb-false c (length xs) g in
                let bound : c < length xs + count = omega (arith, gt, callee_length) in
                absurd (omega (arith, low, e, far, bound, local_at c far bound))
            pick false true f g =
                let low : get_or (callee_variables vs next xs count) c 0 < next = formal_below c (ltb-true c (length xs) g) in
                let far : length xs ≤ b = ltb-false b (length xs) f in
                let bound : b < length xs + count = omega (arith, lt, callee_length) in
                absurd (omega (arith, low, e, far, bound, local_at b far bound))
            pick false false f g =
                let bf : length xs ≤ b = ltb-false b (length xs) f in
                let bb : b < length xs + count = omega (arith, lt, callee_length) in
                let cf : length xs ≤ c = ltb-false c (length xs) g in
                let cb : c < length xs + count = omega (arith, gt, callee_length) in
                omega (arith, e, bf, cf, local_at b bf bb, local_at c cf cb)

    -- what a callee keeps, its caller keeps
    pub caller_keeps : (below : ℕ) (X Y : List ValueOf) → below ≤ next → Keeps (callee_variables vs next xs count) next X Y → Keeps vs below X Y
    caller_keeps below X Y le h =
        record {
          long = h.long;
          same = λ i lt other. let low : i < next = omega (arith, lt, le) in h.same i low (λ b bl e. misses i low other b bl e);
        }
      where
        misses : (i : ℕ) → i < next → ((b : ℕ) → b < length vs → get_or vs b 0 ≢ i) → (b : ℕ) → b < length (callee_variables vs next xs count)
            → get_or (callee_variables vs next xs count) b 0 ≢ i
        misses i low other b bl e = pick (nat_lt b (length xs)) refl
          where
            pick : (t : Bool) → nat_lt b (length xs) ≡ t → ⊥
            pick true f =
                let lt : b < length xs = ltb-true b (length xs) f in
                other (get_or xs b 0) (each_at (length vs) xs b there lt) (sym (formal_at b lt) ∙ e)
            pick false f =
                let far : length xs ≤ b = ltb-false b (length xs) f in
                let bound : b < length xs + count = omega (arith, bl, callee_length) in
                absurd (omega (arith, low, e, far, bound, local_at b far bound))

    -- a caller's variable that is no actual is as it was
    pub others_kept : (X Y : List ValueOf) (b : ℕ) → Keeps (callee_variables vs next xs count) next X Y → b < length vs → Misses b xs
        → value_at (view vs X) b ≡ value_at Y (get_or vs b 0)
    others_kept X Y b h lt other =
        view_at vs X b lt ∙ sym (h.same (get_or vs b 0) (is.below b lt) misses)
      where
        misses : (c : ℕ) → c < length (callee_variables vs next xs count) → get_or (callee_variables vs next xs count) c 0 ≢ get_or vs b 0
        misses c cl e = pick (nat_lt c (length xs)) refl
          where
            pick : (t : Bool) → nat_lt c (length xs) ≡ t → ⊥
            pick true f =
                let less : c < length xs = ltb-true c (length xs) f in
                distinct_at b xs c other less
                (is.apart (get_or xs c 0) b (each_at (length vs) xs c there less) lt (sym (formal_at c less) ∙ e))
            pick false f =
                let far : length xs ≤ c = ltb-false c (length xs) f in
                let bound : c < length xs + count = omega (arith, cl, callee_length) in
                let low : get_or vs b 0 < next = is.below b lt in
                absurd (omega (arith, low, e, far, bound, local_at c far bound))

-- the formals' values are put back
put_back : (vs xs rest : List ℕ) (Y x : List ValueOf) → length x ≡ length vs → Each (λ a. a < length vs) xs
    → ((b : ℕ) → b < length vs → Misses b xs → value_at x b ≡ value_at Y (get_or vs b 0))
    → copied_out xs (view (map (λ a. get_or vs a 0) xs ++ rest) Y) x ≡ view vs Y
put_back vs [] rest Y x long there h = same_view vs Y x long (λ b lt. h b lt tt)
put_back vs (a ∷ xs) rest Y x long there h =
    put_back vs xs rest Y (slice_set x a (value_at Y (get_or vs a 0))) (length-set x a (value_at Y (get_or vs a 0)) ∙ long) there.1 each
  where
    each : (b : ℕ) → b < length vs → Misses b xs → value_at (slice_set x a (value_at Y (get_or vs a 0))) b ≡ value_at Y (get_or vs b 0)
    each b lt other = pick (b == a) refl
      where
        pick : (t : Bool) → (b == a) ≡ t → value_at (slice_set x a (value_at Y (get_or vs a 0))) b ≡ value_at Y (get_or vs b 0)
        pick true e =
            let same : b ≡ a = eqb-true b a e in
            ap (λ i. value_at (slice_set x a (value_at Y (get_or vs a 0))) i) same
            ∙ get_or-set_same x a (value_at Y (get_or vs a 0)) no_value (omega (arith, there.0, long)) ∙ ap (λ i. value_at Y (get_or vs i 0)) (sym same)
        pick false e =
            get_or-set_other x a b (value_at Y (get_or vs a 0)) no_value (eqb-false b a e) ∙ h b lt (eqb-false b a e, other)

pub copied_back : (vs : List ℕ) (next : ℕ) (xs : List ℕ) (count : ℕ) → Apart vs next → Distinct xs → Each (λ a. a < length vs) xs → (X Y : List ValueOf)
    → Keeps (callee_variables vs next xs count) next X Y
    → copied_out xs (view (callee_variables vs next xs count) Y) (view vs X) ≡ view vs Y
copied_back vs next xs count is distinct there X Y h =
    put_back vs xs (numbers_from next count) Y (view vs X) (view_length vs X) there
    (λ b lt other. others_kept vs next xs count is distinct there X Y b h lt other)

-- Locals, written one after the other.

abbrev pub written : ℕ → List ValueOf → List ValueOf → List ValueOf
written b [] X = X
written b (v ∷ vs) X = written (suc b) vs (slice_set X b v)

pub written_length : (b : ℕ) (vs X : List ValueOf) → length (written b vs X) ≡ length X
written_length b [] X = refl
written_length b (v ∷ vs) X = written_length (suc b) vs (slice_set X b v) ∙ length-set X b v

pub written_below : (b : ℕ) (vs X : List ValueOf) (i : ℕ) → i < b → value_at (written b vs X) i ≡ value_at X i
written_below b [] X i h = refl
written_below b (v ∷ vs) X i h =
    written_below (suc b) vs (slice_set X b v) i (omega (arith, h)) ∙ get_or-set_other X b i v no_value (λ e. absurd (omega (arith, e, h)))

pub written_at : (b : ℕ) (vs X : List ValueOf) (i : ℕ) → b + length vs ≤ length X → i < length vs → value_at (written b vs X) (b + i) ≡ value_at vs i
written_at b [] X i room h = absurd (omega (arith, h))
written_at b (v ∷ vs) X zero room h =
    let e : b + 0 ≡ b = omega arith in
    ap (λ k. value_at (written (suc b) vs (slice_set X b v)) k) e ∙ written_below (suc b) vs (slice_set X b v) b (omega arith)
    ∙ get_or-set_same X b v no_value (omega (arith, room))
written_at b (v ∷ vs) X (suc i) room h =
    let e : b + suc i ≡ suc b + i = omega arith in
    ap (λ k. value_at (written (suc b) vs (slice_set X b v)) k) e
    ∙ written_at (suc b) vs (slice_set X b v) i (omega (arith, room, length-set X b v)) (omega (arith, h))

-- a callee begins with the actuals' values and those of its locals
pub callee_begins : (vs : List ℕ) (next : ℕ) (xs : List ℕ) (locals X : List ValueOf) → Apart vs next → Each (λ a. a < length vs) xs
    → next + length locals ≤ length X
    → map (value_at (view vs X)) xs ++ locals ≡ view (callee_variables vs next xs (length locals)) (written next locals X)
callee_begins vs next xs locals X is there room =
    same_view (callee_variables vs next xs (length locals)) (written next locals X) (map (value_at (view vs X)) xs ++ locals) long each
  where
    long : length (map (value_at (view vs X)) xs ++ locals) ≡ length (callee_variables vs next xs (length locals))
    long =
        length-append (map (value_at (view vs X)) xs) locals
        ∙ omega (arith, length-map xs (value_at (view vs X)), callee_length vs next xs (length locals))

    each : (b : ℕ) → b < length (callee_variables vs next xs (length locals)) → value_at (map (value_at (view vs X)) xs ++ locals) b
        ≡ value_at (written next locals X) (get_or (callee_variables vs next xs (length locals)) b 0)
    each b bound = pick (nat_lt b (length xs)) refl
      where
        m : length (map (value_at (view vs X)) xs) ≡ length xs
        m = length-map xs (value_at (view vs X))

        pick : (t : Bool) → nat_lt b (length xs) ≡ t → value_at (map (value_at (view vs X)) xs ++ locals) b
            ≡ value_at (written next locals X) (get_or (callee_variables vs next xs (length locals)) b 0)
        pick true e =
            let lt : b < length xs = ltb-true b (length xs) e in
            let a : get_or xs b 0 < length vs = each_at (length vs) xs b there lt in
            get_or-append (map (value_at (view vs X)) xs) locals no_value b (omega (arith, lt, m))
            ∙ get_or-map (value_at (view vs X)) xs b 0 no_value lt ∙ view_at vs X (get_or xs b 0) a
            ∙ sym (written_below next locals X (get_or vs (get_or xs b 0) 0) (is.below (get_or xs b 0) a))
            ∙ ap (value_at (written next locals X)) (sym (formal_at vs next xs (length locals) b lt))
        pick false e =
            let far : length xs ≤ b = ltb-false b (length xs) e in
            let high : b < length xs + length locals = omega (arith, bound, callee_length vs next xs (length locals)) in
            get_or-append_right (map (value_at (view vs X)) xs) locals b no_value (omega (arith, far, m))
            ∙ ap (λ k. value_at locals (b - k)) m ∙ sym (written_at next locals X (b - length xs) room (omega (arith, far, high)))
            ∙ ap (value_at (written next locals X)) (sym (local_at vs next xs (length locals) b far high))
