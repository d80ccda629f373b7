-- A field that is read is the field that was written, and what was written is read again.
use Rattle.std.proofs.Common.{◌≡◌, ℕ, zero, suc, ◌+◌, ◌^◌, ◌<◌, ◌≤◌, Bool, true, false, cond, ◌&&◌, ltb, eqb, List, [], ◌∷◌, ◌++◌, length, get_or, take, drop}
use Rattle.std.{proofs.Common.{Result, Ok, Err, refl, sym, ap, subst, ◌∙◌, append_assoc, arith, inl, inr}, specs.List.flat_map, specs.Int.{w32, from_be_bytes}}
use Rattle.std.{proofs.lemmas.Bool.{cases_lt, ltb-false, le-ltb, lt-ltb, ltb-true, and_parts, and_from, eqb-true, eq-eqb}, proofs.lemmas.List.take_at}
use Rattle.std.proofs.lemmas.List.{drop_at, take-append-drop, length-append, length-take, get_or-drop, get_or-take, get_or_past, append-nil}
use Rattle.std.{proofs.lemmas.List.Concat.flat_map-cons, proofs.lemmas.Nat.{be_bytes_4, from_be_bytes-to_be_bytes_4}}
use Rattle.fm_image.{specs.declared.fault.Rule.Rule, specs.Limits.all_after, specs.Spelling.{number_bytes, counted_bytes}, specs.Rules.{rule_number, Fault}}
use Rattle.fm_image.specs.Fields.{place, number_at, passing, bytes_at, items_at}
use Rattle.fm_image.specs.declared.fault.Rule.TheVariants as rules
use Rattle.stack_text.{specs.Results.◌>>=◌, proofs.ResultLaws.{bind_ok, bind_at}}

abbrev pub IsBytes : List ℕ → Type 0
IsBytes bytes = (i : ℕ) → get_or bytes i 0 < 256

IsBytes-drop : (n : ℕ) (bytes : List ℕ) → IsBytes bytes → IsBytes (drop n bytes)
IsBytes-drop n bytes h i = rw get_or-drop (h (n + i))

IsBytes-take : (n : ℕ) (bytes : List ℕ) → IsBytes bytes → IsBytes (take n bytes)
IsBytes-take n bytes h i =
    elim (cases_lt i n) [
      | inl lt ↦ rw (get_or-take n bytes i 0 lt) (h i)
      | inr le ↦ rw (get_or_past (take n bytes) i 0 (omega (arith, length-take n bytes))) (omega arith)
    ]

-- tests that did not fail
pub guard_short : {A : Type 0} (b : Bool) (d : ℕ × ℕ) (x y : A) → cond b (Err d) (Ok x) ≡ Ok y → (b ≡ false) × (x ≡ y)
guard_short true d x y e = absurd cc
guard_short false d x y e = (refl, cc)

pub guard_passed : {A : Type 0} (b : Bool) (d : ℕ × ℕ) (x y : A) → cond b (Ok x) (Err d) ≡ Ok y → (b ≡ true) × (x ≡ y)
guard_passed true d x y e = (refl, cc)
guard_passed false d x y e = absurd cc

abbrev done : {A : Type 0} → A → Result A Fault
done x = Ok x

pub ok_is : {A : Type 0} (x y : A) → done x ≡ done y → x ≡ y
ok_is x y e = cc

-- what a reader took from the left
pub record Took (bytes text rest : List ℕ) : Type 0 where
  pub parts : bytes ≡ text ++ rest
  pub rest_fits : IsBytes rest

pub Took-then : (a x b y c : List ℕ) → Took a x b → Took b y c → Took a (x ++ y) c
Took-then a x b y c p q = record { parts = p.parts ∙ ap (λ (t : List ℕ). x ++ t) q.parts ∙ sym (append_assoc x y c); rest_fits = q.rest_fits }

-- a reader takes the spelling of its value, which fits, and takes it again
pub record Reads {A : Type 0} (read : List ℕ → Result (A × List ℕ) Fault) (spell : A → List ℕ) (fits : A → Bool) : Type 0 where
  pub takes : (bytes : List ℕ) (x : A) (rest : List ℕ) → IsBytes bytes → read bytes ≡ Ok (x, rest) → Took bytes (spell x) rest × (fits x ≡ true)
  pub again : (x : A) (rest : List ℕ) → fits x ≡ true → read (spell x ++ rest) ≡ Ok (x, rest)

-- ---- bytes and numbers

pub bytes_reads : (end count : ℕ) → Reads (bytes_at end count) (λ bytes. bytes) (λ bytes. eqb (length bytes) count)
bytes_reads end count = record {
  takes = λ bytes x rest fits e.
      let g = guard_short (ltb (length bytes) count) (3, end) (take count bytes, drop count bytes) (x, rest) e in
      let long : count ≤ length bytes = ltb-false _ _ g.0 in
      let len : length (take count bytes) ≡ count = omega (arith, length-take count bytes) in
      subst (λ (p : List ℕ × List ℕ). Took bytes p.0 p.1 × (eqb (length p.0) count ≡ true)) g.1
      (record { parts = sym (take-append-drop count bytes); rest_fits = IsBytes-drop count bytes fits }, eq-eqb _ _ len);
  again = λ x rest h.
      let len : length x ≡ count = eqb-true _ _ h in
      let long : ltb (length (x ++ rest)) count ≡ false = le-ltb _ _ (omega (arith, length-append x rest)) in
      rw (long, take_at x rest count len, drop_at x rest count len) refl;
}

abbrev pub is_word : ℕ → Bool
is_word n = ltb n (2 ^ 32)

number_takes : (end : ℕ) (bytes : List ℕ) (n : ℕ) (rest : List ℕ) → IsBytes bytes → number_at end bytes ≡ Ok (n, rest)
    → Took bytes (number_bytes n) rest × (is_word n ≡ true)
number_takes end bytes n rest fits e =
    let g = guard_short (ltb (length bytes) 4) (3, end) (from_be_bytes w32 (take 4 bytes), drop 4 bytes) (n, rest) e in
    let long : 4 ≤ length bytes = ltb-false _ _ g.0 in
    let front_fits : IsBytes (take 4 bytes) = IsBytes-take 4 bytes fits in
    let front : number_bytes (from_be_bytes w32 (take 4 bytes)) ≡ take 4 bytes =
    be_bytes_4 (take 4 bytes) _ (omega (arith, length-take 4 bytes)) front_fits refl in
    let below : from_be_bytes w32 (take 4 bytes) < 2 ^ 32 = omega (arith, front_fits 0, front_fits 1, front_fits 2, front_fits 3) in
    let took : Took bytes (number_bytes (from_be_bytes w32 (take 4 bytes))) (drop 4 bytes) =
    record { parts = sym (take-append-drop 4 bytes) ∙ ap (λ (t : List ℕ). t ++ drop 4 bytes) (sym front); rest_fits = IsBytes-drop 4 bytes fits } in
    subst (λ (p : ℕ × List ℕ). Took bytes (number_bytes p.0) p.1 × (is_word p.0 ≡ true)) g.1 (took, lt-ltb _ _ below)

-- four bytes of a number, whatever follows
four_again : (end n : ℕ) (text rest : List ℕ) → length text ≡ 4 → from_be_bytes w32 text ≡ n → number_at end (text ++ rest) ≡ Ok (n, rest)
four_again end n text rest len is =
    let long : ltb (length (text ++ rest)) 4 ≡ false = le-ltb _ _ (omega (arith, length-append text rest)) in
    let front : from_be_bytes w32 (take 4 (text ++ rest)) ≡ n = ap (from_be_bytes w32) (take_at text rest 4 len) ∙ is in
    let later : drop 4 (text ++ rest) ≡ rest = drop_at text rest 4 len in
    ap (λ (b : Bool). cond b (Err (3, end)) (Ok (from_be_bytes w32 (take 4 (text ++ rest)), drop 4 (text ++ rest)))) long
    ∙ ap (λ (m : ℕ). done (m, drop 4 (text ++ rest))) front
    ∙ ap (λ (r : List ℕ). done (n, r)) later

number_again : (end n : ℕ) (rest : List ℕ) → is_word n ≡ true → number_at end (number_bytes n ++ rest) ≡ Ok (n, rest)
number_again end n rest h = four_again end n (number_bytes n) rest refl (from_be_bytes-to_be_bytes_4 n (ltb-true _ _ h))

pub number_reads : (end : ℕ) → Reads (number_at end) number_bytes is_word
number_reads end = record { takes = number_takes end; again = number_again end }

-- ---- a test

pub passing_reads : {A : Type 0} (test : A → Bool) (rule : Rule) (end : ℕ) (read : List ℕ → Result (A × List ℕ) Fault) (spell : A → List ℕ) (fits : A → Bool)
    → Reads read spell fits → Reads (passing test rule end read) spell (λ x. fits x && test x)
passing_reads {A} test rule end read spell fits r = record {
  takes = λ bytes x rest ok e.
      let b = bind_ok (read bytes) (λ y. cond (test y.0) (Ok y) (Err (rule_number rule, place end bytes))) (x, rest) e in
      let g = guard_passed (test b.0.0) (rule_number rule, place end bytes) b.0 (x, rest) b.2 in
      let t = r.takes bytes b.0.0 b.0.1 ok b.1 in
      subst (λ (p : A × List ℕ). Took bytes (spell p.0) p.1 × ((fits p.0 && test p.0) ≡ true)) g.1 (t.0, and_from _ _ t.1 g.0);
  again = λ x rest h.
      let p = and_parts (fits x) (test x) h in
      let passed : test x ≡ true = p.1 in
      bind_at (read (spell x ++ rest)) (λ y. cond (test y.0) (Ok y) (Err (rule_number rule, place end (spell x ++ rest)))) (x, rest)
      (r.again x rest p.0) ∙ rw passed refl;
}

-- ---- a value by its number

pub coded_reads : {A B : Type 0} (f : A → B) (g : B → A) (read : List ℕ → Result (A × List ℕ) Fault) (spell : A → List ℕ) (fits : A → Bool) (fit : B → Bool)
    → Reads read spell fits → ((x : A) → fits x ≡ true → (g (f x) ≡ x) × (fit (f x) ≡ true)) → ((y : B) → fit y ≡ true → (f (g y) ≡ y) × (fits (g y) ≡ true))
    → Reads (λ bytes. read bytes >>= λ x. Ok (f x.0, x.1)) (λ y. spell (g y)) fit
coded_reads {A} {B} f g read spell fits fit r back there = record {
  takes = λ bytes y rest ok e.
      let b = bind_ok (read bytes) (λ x. Ok (f x.0, x.1)) (y, rest) e in
      let t = r.takes bytes b.0.0 b.0.1 ok b.1 in
      let same = back b.0.0 t.1 in
      subst (λ (p : B × List ℕ). Took bytes (spell (g p.0)) p.1 × (fit p.0 ≡ true)) (ok_is (f b.0.0, b.0.1) (y, rest) b.2)
      (subst (λ (x : A). Took bytes (spell x) b.0.1) (sym same.0) t.0, same.1);
  again = λ y rest h.
      let same = there y h in
      bind_at (read (spell (g y) ++ rest)) (λ x. Ok (f x.0, x.1)) (g y, rest) (r.again (g y) rest same.1) ∙ ap (λ (z : B). done (z, rest)) same.0;
}

-- the same reader under an equal test
pub refit_reads : {A : Type 0} (read : List ℕ → Result (A × List ℕ) Fault) (spell : A → List ℕ) (fits fit : A → Bool) → Reads read spell fits
    → ((x : A) → fits x ≡ fit x) → Reads read spell fit
refit_reads read spell fits fit r same = record {
  takes = λ bytes x rest ok e. let t = r.takes bytes x rest ok e in (t.0, sym (same x) ∙ t.1);
  again = λ x rest h. r.again x rest (same x ∙ h);
}

-- ---- three fields, one after the other

pub three_reads : {A B C X : Type 0} (make : A → B → C → X) (a_of : X → A) (b_of : X → B) (c_of : X → C)
    (read_a : List ℕ → Result (A × List ℕ) Fault) (read_b : A → List ℕ → Result (B × List ℕ) Fault) (read_c : A → B → List ℕ → Result (C × List ℕ) Fault)
    (spell_a : A → List ℕ) (spell_b : B → List ℕ) (spell_c : C → List ℕ) (spell : X → List ℕ) (fits_a : A → Bool) (fits_b : A → B → Bool)
    (fits_c : A → B → C → Bool) (fits : X → Bool)
    → Reads read_a spell_a fits_a → ((a : A) → Reads (read_b a) spell_b (fits_b a)) → ((a : A) (b : B) → Reads (read_c a b) spell_c (fits_c a b))
    → ((a : A) (b : B) (c : C) → spell (make a b c) ≡ spell_a a ++ spell_b b ++ spell_c c)
    → ((a : A) (b : B) (c : C) → fits (make a b c) ≡ (fits_a a && fits_b a b && fits_c a b c)) → ((x : X) → make (a_of x) (b_of x) (c_of x) ≡ x)
    → Reads (λ bytes. read_a bytes >>= λ a. read_b a.0 a.1 >>= λ b. read_c a.0 b.0 b.1 >>= λ c. Ok (make a.0 b.0 c.0, c.1)) spell fits
three_reads {A} {B} {C} {X} make a_of b_of c_of read_a read_b read_c spell_a spell_b spell_c spell fits_a fits_b fits_c fits ra rb rc spelled fit
    whole = record {
      takes = λ bytes x rest ok e.
          let a = bind_ok (read_a bytes) (λ a. read_b a.0 a.1 >>= λ b. read_c a.0 b.0 b.1 >>= λ c. Ok (make a.0 b.0 c.0, c.1)) (x, rest) e in
          let b = bind_ok (read_b a.0.0 a.0.1) (λ b. read_c a.0.0 b.0 b.1 >>= λ c. Ok (make a.0.0 b.0 c.0, c.1)) (x, rest) a.2 in
          let c = bind_ok (read_c a.0.0 b.0.0 b.0.1) (λ c. Ok (make a.0.0 b.0.0 c.0, c.1)) (x, rest) b.2 in
          let t = ra.takes bytes a.0.0 a.0.1 ok a.1 in
          let u = (rb a.0.0).takes a.0.1 b.0.0 b.0.1 t.0.rest_fits b.1 in
          let v = (rc a.0.0 b.0.0).takes b.0.1 c.0.0 c.0.1 u.0.rest_fits c.1 in
          let took = Took-then bytes (spell_a a.0.0 ++ spell_b b.0.0) b.0.1 (spell_c c.0.0) c.0.1
          (Took-then bytes (spell_a a.0.0) a.0.1 (spell_b b.0.0) b.0.1 t.0 u.0) v.0 in
          subst (λ (p : X × List ℕ). Took bytes (spell p.0) p.1 × (fits p.0 ≡ true)) (ok_is (make a.0.0 b.0.0 c.0.0, c.0.1) (x, rest) c.2) (
            subst (λ (text : List ℕ). Took bytes text c.0.1) (sym (spelled a.0.0 b.0.0 c.0.0)) took,
            fit a.0.0 b.0.0 c.0.0 ∙ and_from _ _ (and_from _ _ t.1 u.1) v.1,
          );
      again = λ x rest h.
          let p = and_parts (fits_a (a_of x) && fits_b (a_of x) (b_of x)) (fits_c (a_of x) (b_of x) (c_of x))
          (sym (fit (a_of x) (b_of x) (c_of x)) ∙ ap fits (whole x) ∙ h) in
          let q = and_parts (fits_a (a_of x)) (fits_b (a_of x) (b_of x)) p.0 in
          let text : spell x ++ rest ≡ spell_a (a_of x) ++ (spell_b (b_of x) ++ (spell_c (c_of x) ++ rest)) =
          ap (λ (t : List ℕ). t ++ rest) (ap spell (sym (whole x)) ∙ spelled (a_of x) (b_of x) (c_of x))
          ∙ append_assoc (spell_a (a_of x) ++ spell_b (b_of x)) (spell_c (c_of x)) rest
          ∙ append_assoc (spell_a (a_of x)) (spell_b (b_of x)) (spell_c (c_of x) ++ rest) in
          ap (λ bytes. read_a bytes >>= λ a. read_b a.0 a.1 >>= λ b. read_c a.0 b.0 b.1 >>= λ c. Ok (make a.0 b.0 c.0, c.1)) text
          ∙ bind_at (read_a (spell_a (a_of x) ++ (spell_b (b_of x) ++ (spell_c (c_of x) ++ rest))))
          (λ a. read_b a.0 a.1 >>= λ b. read_c a.0 b.0 b.1 >>= λ c. Ok (make a.0 b.0 c.0, c.1))
          (a_of x, spell_b (b_of x) ++ (spell_c (c_of x) ++ rest)) (ra.again (a_of x) (spell_b (b_of x) ++ (spell_c (c_of x) ++ rest)) q.0)
          ∙ bind_at (read_b (a_of x) (spell_b (b_of x) ++ (spell_c (c_of x) ++ rest))) (λ b. read_c (a_of x) b.0 b.1 >>= λ c. Ok (make (a_of x) b.0 c.0, c.1))
          (b_of x, spell_c (c_of x) ++ rest) ((rb (a_of x)).again (b_of x) (spell_c (c_of x) ++ rest) q.1)
          ∙ bind_at (read_c (a_of x) (b_of x) (spell_c (c_of x) ++ rest)) (λ c. Ok (make (a_of x) (b_of x) c.0, c.1)) (c_of x, rest)
          ((rc (a_of x) (b_of x)).again (c_of x) rest p.1)
          ∙ ap (λ (y : X). done (y, rest)) (whole x);
    }

-- ---- items

pub record TookItems {A : Type 0} (spell : A → List ℕ) (test : List A → A → Bool) (count : ℕ) (earlier all : List A) (bytes rest : List ℕ) : Type 0 where
  pub items : List A
  pub all_are : all ≡ earlier ++ items
  pub count_is : length items ≡ count
  pub took : Took bytes (flat_map spell items) rest
  pub fit : all_after test earlier items ≡ true

pub items_take : {A : Type 0} (item : List A → List ℕ → Result (A × List ℕ) Fault) (spell : A → List ℕ) (test : List A → A → Bool)
    → ((earlier : List A) → Reads (item earlier) spell (test earlier))
    → (count : ℕ) (earlier : List A) (bytes : List ℕ) (all : List A) (rest : List ℕ) → IsBytes bytes
    → items_at item count earlier bytes ≡ Ok (all, rest) → TookItems spell test count earlier all bytes rest
unfolding items_at all_after
items_take {A} item spell test reads zero earlier bytes all rest ok e =
    subst (λ (p : List A × List ℕ). TookItems spell test 0 earlier p.0 bytes p.1) (ok_is (earlier, bytes) (all, rest) e)
    (record { items = []; all_are = sym (append-nil earlier); count_is = refl; took = record { parts = refl; rest_fits = ok }; fit = refl })
items_take {A} item spell test reads (suc n) earlier bytes all rest ok e =
    let b = bind_ok (item earlier bytes) (λ next. items_at item n (earlier ++ next.0 ∷ []) next.1) (all, rest) e in
    let x = b.0.0 in
    let t = (reads earlier).takes bytes b.0.0 b.0.1 ok b.1 in
    let more = items_take item spell test reads n (earlier ++ b.0.0 ∷ []) b.0.1 all rest t.0.rest_fits b.2 in
    record {
      items = b.0.0 ∷ more.items;
      all_are = more.all_are ∙ append_assoc earlier (b.0.0 ∷ []) more.items;
      count_is = ap suc more.count_is;
      took = rw flat_map-cons (Took-then bytes (spell b.0.0) b.0.1 (flat_map spell more.items) rest t.0 more.took);
      fit = and_from _ _ t.1 more.fit;
    }

pub items_again : {A : Type 0} (item : List A → List ℕ → Result (A × List ℕ) Fault) (spell : A → List ℕ) (test : List A → A → Bool)
    → ((earlier : List A) → Reads (item earlier) spell (test earlier))
    → (items earlier : List A) (rest : List ℕ) → all_after test earlier items ≡ true
    → items_at item (length items) earlier (flat_map spell items ++ rest) ≡ Ok (earlier ++ items, rest)
unfolding items_at all_after
items_again {A} item spell test reads [] earlier rest fit = ap (λ (all : List A). done (all, rest)) (sym (append-nil earlier))
items_again {A} item spell test reads (x ∷ items) earlier rest fit =
    let p = and_parts (test earlier x) (all_after test (earlier ++ x ∷ []) items) fit in
    let regrouped : flat_map spell (x ∷ items) ++ rest ≡ spell x ++ (flat_map spell items ++ rest) =
    ap (λ (t : List ℕ). t ++ rest) (flat_map-cons spell x items) ∙ append_assoc (spell x) (flat_map spell items) rest in
    ap (items_at item (suc (length items)) earlier) regrouped
    ∙ bind_at (item earlier (spell x ++ (flat_map spell items ++ rest))) (λ next. items_at item (length items) (earlier ++ next.0 ∷ []) next.1)
    (x, flat_map spell items ++ rest) ((reads earlier).again x (flat_map spell items ++ rest) p.0)
    ∙ items_again item spell test reads items (earlier ++ x ∷ []) rest p.1
    ∙ ap (λ (all : List A). done (all, rest)) (append_assoc earlier (x ∷ []) items)

-- items after their number
pub counted_reads : {A : Type 0} (item : List A → List ℕ → Result (A × List ℕ) Fault) (spell : A → List ℕ) (test : List A → A → Bool)
    → ((earlier : List A) → Reads (item earlier) spell (test earlier))
    → (limit : ℕ → Bool) (end : ℕ) → ((n : ℕ) → limit n ≡ true → is_word n ≡ true)
    → Reads (λ bytes. passing limit rules.Limit end (number_at end) bytes >>= λ count. items_at item count.0 [] count.1) (counted_bytes spell)
    (λ items. limit (length items) && all_after test [] items)
counted_reads {A} item spell test reads limit end small = record {
  takes = λ bytes all rest ok e.
      let b = bind_ok (passing limit rules.Limit end (number_at end) bytes) (λ count. items_at item count.0 [] count.1) (all, rest) e in
      let t = (passing_reads limit rules.Limit end (number_at end) number_bytes is_word (number_reads end)).takes bytes b.0.0 b.0.1 ok b.1 in
      let s = items_take item spell test reads b.0.0 [] b.0.1 all rest t.0.rest_fits b.2 in
      let n-fits : limit b.0.0 ≡ true = (and_parts (is_word b.0.0) (limit b.0.0) t.1).1 in
      let whole = Took-then bytes (number_bytes b.0.0) b.0.1 (flat_map spell s.items) rest t.0 s.took in
      subst (λ (xs : List A). Took bytes (counted_bytes spell xs) rest × ((limit (length xs) && all_after test [] xs) ≡ true)) (sym s.all_are) (
        subst (λ (n : ℕ). Took bytes (number_bytes n ++ flat_map spell s.items) rest) (sym s.count_is) whole,
        and_from _ _ (subst (λ (n : ℕ). limit n ≡ true) (sym s.count_is) n-fits) s.fit,
      );
  again = λ items rest h.
      let p = and_parts (limit (length items)) (all_after test [] items) h in
      let after : List ℕ = flat_map spell items ++ rest in
      ap (λ bytes. passing limit rules.Limit end (number_at end) bytes >>= λ count. items_at item count.0 [] count.1)
      (append_assoc (number_bytes (length items)) (flat_map spell items) rest)
      ∙ bind_at (passing limit rules.Limit end (number_at end) (number_bytes (length items) ++ (flat_map spell items ++ rest)))
      (λ count. items_at item count.0 [] count.1) (length items, flat_map spell items ++ rest)
      ((passing_reads limit rules.Limit end (number_at end) number_bytes is_word (number_reads end)).again (length items) (flat_map spell items ++ rest)
      (and_from _ _ (small (length items) p.0) p.0))
      ∙ items_again item spell test reads items [] rest p.1;
}
