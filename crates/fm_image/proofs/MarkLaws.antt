-- The marks of an image have addresses that ascend.
use Rattle.std.proofs.Common.{◌≡◌, ◌<◌, ◌≤◌, ◌+◌, ◌-◌, ◌&&◌, ℕ, zero, suc, Bool, true, false, cond, eqb, List, [], ◌∷◌, ◌++◌, length, get_or, Option, Some}
use Rattle.std.{proofs.Common.{None, refl, sym, ap, ◌∙◌, arith, length-append}, specs.Prelude.{IsTrue, ◌^◌, nat_lt, slice_get}, specs.List.{Contains, list_all}}
use Rattle.std.proofs.lemmas.Bool.{and_parts, and_from, eqb-true, ltb-true, lt-ltb}
use Rattle.fm_image.{specs.declared.procedure.Mark.Mark, specs.declared.window.Window.Window, specs.Image.ImageOf, specs.Limits.{Tables, tables_of, window_of}}
use Rattle.fm_image.specs.Limits.{is_inside, last_mark, is_after, is_place, is_mark, is_count, is_procedure, are_tables, all_after, is_image}
use Rattle.fm_image.proofs.LimitLaws.{limits_of}

pub no_mark : Mark
no_mark = record { address = 0; procedure = 0; place = 0 }

-- the address of the mark at a place
abbrev pub address_at : List Mark → ℕ → ℕ
address_at ms i = (get_or ms i no_mark).address

abbrev pub Ascending : List Mark → Type 0
Ascending ms = (i j : ℕ) → i < j → j < length ms → address_at ms i < address_at ms j

get_last : (earlier : List Mark) (m : Mark) → slice_get (earlier ++ m ∷ []) (length earlier) ≡ Some m
get_last [] m = refl
get_last (e ∷ earlier) m = get_last earlier m

last_pushed : (earlier : List Mark) (m : Mark) → last_mark (earlier ++ m ∷ []) ≡ Some m
last_pushed earlier m =
    let place : length (earlier ++ m ∷ []) - 1 ≡ length earlier = omega (arith, length-append earlier (m ∷ [])) in
    ap (slice_get (earlier ++ m ∷ [])) place ∙ get_last earlier m

module _ (window : Window) (procedures : ℕ) where
  behind_last : (earlier : List Mark) (last m : Mark) → last_mark earlier ≡ Some last → is_mark window procedures earlier m ≡ true → last.address < m.address
  behind_last earlier last m is h =
      let a = and_parts ((is_inside window.base window.size m.address && is_after (last_mark earlier) m.address) && nat_lt m.procedure procedures)
      (is_place m.place) h in
      let b = and_parts (is_inside window.base window.size m.address && is_after (last_mark earlier) m.address) (nat_lt m.procedure procedures) a.0 in
      let c = and_parts (is_inside window.base window.size m.address) (is_after (last_mark earlier) m.address) b.0 in
      ltb-true last.address m.address (sym (ap (λ (o : Option Mark). is_after o m.address) is) ∙ c.1)

  all_behind : (earlier ms : List Mark) (last : Mark) → last_mark earlier ≡ Some last → all_after (is_mark window procedures) earlier ms ≡ true
      → (k : ℕ) → k < length ms → last.address < address_at ms k
  unfolding all_after
  all_behind earlier [] last is h k lt = absurd (omega (arith, lt))
  all_behind earlier (m ∷ ms) last is h zero lt =
      behind_last earlier last m is (and_parts (is_mark window procedures earlier m) (all_after (is_mark window procedures) (earlier ++ m ∷ []) ms) h).0
  all_behind earlier (m ∷ ms) last is h (suc k) lt =
      let p = and_parts (is_mark window procedures earlier m) (all_after (is_mark window procedures) (earlier ++ m ∷ []) ms) h in
      omega (arith, behind_last earlier last m is p.0, all_behind (earlier ++ m ∷ []) ms m (last_pushed earlier m) p.1 k (omega (arith, lt)))

  ascend : (earlier ms : List Mark) → all_after (is_mark window procedures) earlier ms ≡ true → Ascending ms
  unfolding all_after
  ascend earlier [] h i j lt below = absurd (omega (arith, below))
  ascend earlier (m ∷ ms) h i zero lt below = absurd (omega (arith, lt))
  ascend earlier (m ∷ ms) h zero (suc j) lt below =
      all_behind (earlier ++ m ∷ []) ms m (last_pushed earlier m)
      (and_parts (is_mark window procedures earlier m) (all_after (is_mark window procedures) (earlier ++ m ∷ []) ms) h).1 j (omega (arith, below))
  ascend earlier (m ∷ ms) h (suc i) (suc j) lt below =
      ascend (earlier ++ m ∷ []) ms (and_parts (is_mark window procedures earlier m) (all_after (is_mark window procedures) (earlier ++ m ∷ []) ms) h).1
      i j (omega (arith, lt)) (omega (arith, below))

tables_ascend : (one : Bool) (window : Window) (tables : Tables) → cond one (eqb (length tables.procedures) 0 && eqb (length tables.marks) 0)
    (are_tables window tables) ≡ true → Ascending tables.marks
tables_ascend true window tables h =
    let none : length tables.marks ≡ 0 = eqb-true _ _ (and_parts (eqb (length tables.procedures) 0) (eqb (length tables.marks) 0) h).1 in
    λ i j lt below. absurd (omega (arith, none, below))
tables_ascend false window tables h =
    let p = and_parts (is_count 1000 (length tables.procedures) && all_after is_procedure [] tables.procedures)
    (is_count (2 ^ 20) (length tables.marks) && all_after (is_mark window (length tables.procedures)) [] tables.marks) h in
    let r = and_parts (is_count (2 ^ 20) (length tables.marks)) (all_after (is_mark window (length tables.procedures)) [] tables.marks) p.1 in
    ascend window (length tables.procedures) [] tables.marks r.1

pub marks_ascend : (image : ImageOf) → IsTrue (is_image image) → Ascending image.marks
marks_ascend image h = tables_ascend (eqb image.version 1) (window_of image) (tables_of image) (limits_of image h).tables

-- ---- marks in a window, each behind the one before

-- each behind the one before
abbrev pub Climbing : ℕ → List Mark → Type 0
Climbing low [] = Unit {0}
Climbing low (m ∷ ms) = (low ≤ m.address) × Climbing (m.address + 1) ms

-- what a mark has by itself
abbrev pub fits_mark : Window → ℕ → Mark → Bool
fits_mark window procedures m = is_inside window.base window.size m.address && (nat_lt m.procedure procedures && is_place m.place)

pub marks_fit : (window : Window) (procedures : ℕ) (earlier ms : List Mark) (low : ℕ) → list_all (fits_mark window procedures) ms ≡ true → Climbing low ms →
    ((m : Mark) → last_mark earlier ≡ Some m → m.address < low) → all_after (is_mark window procedures) earlier ms ≡ true
unfolding all_after
marks_fit window procedures earlier [] low fit up behind = refl
marks_fit window procedures earlier (m ∷ ms) low fit up behind =
    let p = and_parts (fits_mark window procedures m) (list_all (fits_mark window procedures) ms) fit in
    let q = and_parts (is_inside window.base window.size m.address) (nat_lt m.procedure procedures && is_place m.place) p.0 in
    let r = and_parts (nat_lt m.procedure procedures) (is_place m.place) q.1 in
    let after : is_after (last_mark earlier) m.address ≡ true =
    by_last (last_mark earlier) (λ x e. let lt : x.address < low = behind x e in omega (arith, lt, up.0)) in
    and_from _ _ (and_from _ _ (and_from _ _ (and_from _ _ q.0 after) r.0) r.1)
    (marks_fit window procedures (earlier ++ m ∷ []) ms (m.address + 1) p.1 up.1 (λ x e.
    let same : m ≡ x = some_is m x (sym (last_pushed earlier m) ∙ e) in
    omega (arith, ap (λ (y : Mark). y.address) same)))
  where
    some_is : (a b : Mark) → Some a ≡ Some b → a ≡ b
    some_is a b h = cc

    by_last : (o : Option Mark) → ((x : Mark) → o ≡ Some x → x.address < m.address) → is_after o m.address ≡ true
    by_last None lt = refl
    by_last (Some x) lt = lt-ltb x.address m.address (lt x refl)

-- no more than there are addresses from there on
pub marks_few : (ms : List Mark) (low high : ℕ) → Climbing low ms → ((m : Mark) → Contains ms m → m.address < high) → low ≤ high → length ms + low ≤ high
marks_few [] low high up below le = omega (arith, le)
marks_few (m ∷ ms) low high up below le =
    let here : m.address < high = below m (0, omega arith, refl) in
    let rest = marks_few ms (m.address + 1) high up.1 (λ x c. below x (suc c.0, omega (arith, c.1), c.2)) (omega (arith, here)) in
    omega (arith, rest, up.0)
