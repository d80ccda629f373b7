-- Bytes that are cut into parts.
use Rattle.std.proofs.Common.{◌≡◌, Bor, ◌≢◌, ℕ, zero, suc, ◌+◌, ◌-◌, ◌<◌, ◌≤◌, ◌==◌, ◌&&◌, Bool, true, false, cond, not, List, [], ◌∷◌, ◌++◌, length, take}
use Rattle.std.{proofs.Common.{drop, get_or, Option, Some, None, option_map, unwrap_or, refl, sym, ap, ◌∙◌, arith, eqb-true}, specs.Prelude.nat_eq}
use Rattle.std.{specs.Prelude.MatchOption, specs.List.list_all, proofs.lemmas.Bool.{eq-eqb, not-true, false_from_ne_true, and_parts}}
use Rattle.std.{specs.Option.option_copied, proofs.lemmas.List.{drop_more, drop_all, take_all, take_more, length-drop}}
use lib.Pointwise.{pointwise}
use Rattle.memchr.specs.Find.{IsFirstByte, is_byte}
use Rattle.fm_asm.specs.Cuts.{Cut, in_front, cut, parts_of, split_once, after_prefix, without_leading_spaces, unless_trailing, without_trailing}

-- no byte is this one
abbrev pub lacks : ℕ → List ℕ → Bool
lacks byte bytes = list_all (λ b. not (b == byte)) bytes

lacks_first : (byte b : ℕ) (bytes : List ℕ) → lacks byte (b ∷ bytes) ≡ true → (b == byte) ≡ false
lacks_first byte b bytes h = not-true (b == byte) (and_parts (not (b == byte)) (lacks byte bytes) h).0

lacks_rest : (byte b : ℕ) (bytes : List ℕ) → lacks byte (b ∷ bytes) ≡ true → lacks byte bytes ≡ true
lacks_rest byte b bytes h = (and_parts (not (b == byte)) (lacks byte bytes) h).1

pub lacks-append : (byte : ℕ) (a b : List ℕ) → lacks byte a ≡ true → lacks byte b ≡ true → lacks byte (a ++ b) ≡ true
lacks-append byte [] b h k = k
lacks-append byte (x ∷ a) b h k = rw (lacks_first byte x a h) (lacks-append byte a b (lacks_rest byte x a h) k)

-- ---- a byte that is there, and one that isn't

chosen : Bool → ℕ → List ℕ → Cut → Cut
chosen true b bytes later = ([], Some bytes)
chosen false b bytes later = in_front b later

cut-cons : (byte b : ℕ) (bytes : List ℕ) (t : Bool) → (b == byte) ≡ t → cut byte (b ∷ bytes) ≡ chosen t b bytes (cut byte bytes)
unfolding cut chosen
cut-cons byte b bytes true e = rw e refl
cut-cons byte b bytes false e = rw e refl

pub cut-append : (byte : ℕ) (front rest : List ℕ) → lacks byte front ≡ true → cut byte (front ++ byte ∷ rest) ≡ (front, Some rest)
unfolding chosen
cut-append byte [] rest h = cut-cons byte byte rest true (eq-eqb byte byte refl)
cut-append byte (b ∷ front) rest h = cc (
  cut-cons byte b (front ++ byte ∷ rest) false (lacks_first byte b front h),
  cut-append byte front rest (lacks_rest byte b front h),
)

pub cut-lacks : (byte : ℕ) (bytes : List ℕ) → lacks byte bytes ≡ true → cut byte bytes ≡ (bytes, None)
unfolding cut chosen
cut-lacks byte [] h = refl
cut-lacks byte (b ∷ bytes) h = cut-cons byte b bytes false (lacks_first byte b bytes h) ∙ ap (in_front b) (cut-lacks byte bytes (lacks_rest byte b bytes h))

-- the bytes of which these are the parts
unfoldable pub whole : ℕ → List ℕ → Option (List ℕ) → List ℕ
whole byte front None = front
whole byte front (Some rest) = front ++ byte ∷ rest

whole-cons : (byte b : ℕ) (front : List ℕ) (rest : Option (List ℕ)) → whole byte (b ∷ front) rest ≡ b ∷ whole byte front rest
unfolding whole
whole-cons byte b front None = refl
whole-cons byte b front (Some rest) = refl

whole_by : (byte b : ℕ) (bytes : List ℕ) (t : Bool) → (b == byte) ≡ t → bytes ≡ whole byte (cut byte bytes).0 (cut byte bytes).1
    → b ∷ bytes ≡ whole byte (cut byte (b ∷ bytes)).0 (cut byte (b ∷ bytes)).1
unfolding whole chosen
whole_by byte b bytes true e later =
    let parts = cut-cons byte b bytes true e in
    ap (λ c. c ∷ bytes) (eqb-true b byte e) ∙ ap (λ (c : Cut). whole byte c.0 c.1) (sym parts)
whole_by byte b bytes false e later =
    let parts = cut-cons byte b bytes false e in
    ap (λ bs. b ∷ bs) later ∙ sym (whole-cons byte b (cut byte bytes).0 (cut byte bytes).1) ∙ ap (λ (c : Cut). whole byte c.0 c.1) (sym parts)

pub cut_whole : (byte : ℕ) (bytes : List ℕ) → bytes ≡ whole byte (cut byte bytes).0 (cut byte bytes).1
unfolding cut whole
cut_whole byte [] = refl
cut_whole byte (b ∷ bytes) = whole_by byte b bytes (b == byte) refl (cut_whole byte bytes)

pub cut_some : (byte : ℕ) (bytes rest : List ℕ) → (cut byte bytes).1 ≡ Some rest → bytes ≡ (cut byte bytes).0 ++ byte ∷ rest
unfolding whole
cut_some byte bytes rest e = cut_whole byte bytes ∙ ap (whole byte (cut byte bytes).0) e

-- ---- two parts

pub split_once-append : (byte : ℕ) (front rest : List ℕ) → lacks byte front ≡ true → split_once byte (front ++ byte ∷ rest) ≡ Some (front, rest)
unfolding split_once
split_once-append byte front rest h = ap parts_of (cut-append byte front rest h)

pub split_once_found : (byte : ℕ) (text front rest : List ℕ) → split_once byte text ≡ Some (front, rest) → text ≡ front ++ byte ∷ rest
unfolding split_once
split_once_found byte text front rest e = by_rest (cut byte text).1 refl e
  where
    by_rest : (r : Option (List ℕ)) → (cut byte text).1 ≡ r → option_map {U = List ℕ × List ℕ} (λ rest. ((cut byte text).0, rest)) r
        ≡ Some (front, rest) → text ≡ front ++ byte ∷ rest
    by_rest None h k = absurd cc
    by_rest (Some more) h k =
        let first = ap (λ (o : Option (List ℕ × List ℕ)). (unwrap_or o (front, rest)).0) k in
        let second = ap (λ (o : Option (List ℕ × List ℕ)). (unwrap_or o (front, rest)).1) k in
        cut_some byte text more h ∙ ap (λ f. f ++ byte ∷ more) first ∙ ap (λ r. front ++ byte ∷ r) second

-- ---- a prefix

pub after_prefix-append : (prefix rest : List ℕ) → after_prefix prefix (prefix ++ rest) ≡ Some rest
unfolding after_prefix
after_prefix-append [] rest = refl
after_prefix-append (p ∷ ps) rest = rw (eq-eqb p p refl) (after_prefix-append ps rest)

pub after_prefix_found : (prefix bytes rest : List ℕ) → after_prefix prefix bytes ≡ Some rest → bytes ≡ prefix ++ rest
unfolding after_prefix
after_prefix_found [] bytes rest e = cc
after_prefix_found (p ∷ ps) [] rest e = absurd cc
after_prefix_found (p ∷ ps) (b ∷ bs) rest e = by_test (b == p) refl e (after_prefix_found ps bs rest)
  where
    by_test : (t : Bool) → (b == p) ≡ t → cond t (after_prefix ps bs) None ≡ Some rest → (after_prefix ps bs ≡ Some rest → bs ≡ ps ++ rest)
        → b ∷ bs ≡ p ∷ (ps ++ rest)
    by_test true h k later = ap (λ c. c ∷ bs) (eqb-true b p h) ∙ ap (λ cs. p ∷ cs) (later k)
    by_test false h k later = absurd cc

-- ---- spaces

pub last-same : (item : ℕ) (xs : List ℕ) → without_trailing item (xs ++ item ∷ []) ≡ without_trailing item xs
unfolding without_trailing
last-same item [] = rw (eq-eqb item item refl) refl
last-same item (x ∷ xs) = ap (unless_trailing item x) (last-same item xs)

pub last-other : (item : ℕ) (xs : List ℕ) (x : ℕ) → (x == item) ≡ false → without_trailing item (xs ++ x ∷ []) ≡ xs ++ x ∷ []
unfolding without_trailing
last-other item [] x h = rw h refl
last-other item (y ∷ []) x h = ap (unless_trailing item y) (last-other item [] x h)
last-other item (y ∷ z ∷ xs) x h = ap (unless_trailing item y) (last-other item (z ∷ xs) x h)

-- ---- what the code knows

-- the byte at a place, which is the first that is this one
pub cut_at : (byte : ℕ) (bytes : List ℕ) (k : ℕ) → k < length bytes → ((j : ℕ) → j < k → (get_or bytes j 0 == byte) ≡ false)
    → (get_or bytes k 0 == byte) ≡ true → cut byte bytes ≡ (take k bytes, Some (drop (k + 1) bytes))
unfolding chosen
cut_at byte [] k lt none here = absurd (omega arith)
cut_at byte (b ∷ bytes) zero lt none here = cut-cons byte b bytes true here
cut_at byte (b ∷ bytes) (suc k) lt none here = cut-cons byte b bytes false (none 0 (omega arith))
    ∙ ap (in_front b) (cut_at byte bytes k (omega arith) (λ j h. none (suc j) (omega arith)) here)
    ∙ (let count : suc (k + 1) ≡ suc k + 1 = omega arith in ap (λ n. let parts : Cut = (b ∷ take k bytes, Some (drop n (b ∷ bytes))) in parts) count)

-- no byte is this one
pub cut_nowhere : (byte : ℕ) (bytes : List ℕ) → ((j : ℕ) → j < length bytes → (get_or bytes j 0 == byte) ≡ false) → cut byte bytes ≡ (bytes, None)
unfolding cut chosen
cut_nowhere byte [] none = refl
cut_nowhere byte (b ∷ bytes) none = cc (cut-cons byte b bytes false (none 0 (omega arith)), cut_nowhere byte bytes (λ j h. none (suc j) (omega arith)))

tail_all : (k : ℕ) (bytes : List ℕ) → take (length bytes - k) (drop k bytes) ≡ drop k bytes
tail_all k bytes = take_all (length bytes - k) (drop k bytes) (omega (arith, length-drop k bytes))

pub cut_found : (byte : ℕ) (bytes : List ℕ) (k : ℕ) → IsFirstByte (is_byte byte) bytes (Some k)
    → (let parts : Cut = (take k bytes, Some (take (length bytes - (k + 1)) (drop (k + 1) bytes))) in parts) ≡ cut byte bytes
cut_found byte bytes k h =
    let found = cut_at byte bytes k h.0.high (λ j lt. false_from_ne_true (get_or bytes j 0 == byte) (h.0.before j (omega arith) lt)) h.1 in
    ap (λ (rest : List ℕ). let parts : Cut = (take k bytes, Some rest) in parts) (tail_all (k + 1) bytes) ∙ sym found

pub cut_absent : (byte : ℕ) (bytes : List ℕ) → IsFirstByte (is_byte byte) bytes None → (let parts : Cut = (bytes, None) in parts) ≡ cut byte bytes
cut_absent byte bytes h = sym (cut_nowhere byte bytes (λ j lt. false_from_ne_true (get_or bytes j 0 == byte) (h j (omega arith) lt)))

-- a prefix, by the bytes that are taken and dropped
after_prefix_is : (prefix bytes : List ℕ) → pointwise nat_eq (take (length prefix) bytes) prefix ≡ true
    → after_prefix prefix bytes ≡ Some (drop (length prefix) bytes)
unfolding after_prefix
after_prefix_is [] bytes h = refl
after_prefix_is (p ∷ ps) [] h = absurd cc
after_prefix_is (p ∷ ps) (b ∷ bs) h =
    let first : (b == p) ≡ true = (and_parts (b == p) (pointwise nat_eq (take (length ps) bs) ps) h).0 in
    rw first (after_prefix_is ps bs (and_parts (b == p) (pointwise nat_eq (take (length ps) bs) ps) h).1)

after_prefix_none : (prefix bytes : List ℕ) → pointwise nat_eq (take (length prefix) bytes) prefix ≡ false → after_prefix prefix bytes ≡ None
unfolding after_prefix
after_prefix_none [] bytes h = absurd cc
after_prefix_none (p ∷ ps) [] h = refl
after_prefix_none (p ∷ ps) (b ∷ bs) h = by_test (b == p) refl h (after_prefix_none ps bs)
  where
    by_test : (t : Bool) → (b == p) ≡ t → t && pointwise nat_eq (take (length ps) bs) ps ≡ false
        → (pointwise nat_eq (take (length ps) bs) ps ≡ false → after_prefix ps bs ≡ None) → cond (b == p) (after_prefix ps bs) None ≡ None
    by_test true e k later = rw e (later k)
    by_test false e k later = rw e refl

pub after_prefix_by : (prefix bytes : List ℕ) (r : Option (Bor (List ℕ)))
    → MatchOption r (pointwise nat_eq (take (length prefix) bytes) prefix ≡ false)
    (λ x. (pointwise nat_eq (take (length prefix) bytes) prefix ≡ true) × (x.now ≡ drop (length prefix) bytes)
    × (length x.now + length prefix ≡ length bytes))
    → option_copied r ≡ after_prefix prefix bytes
after_prefix_by prefix bytes None h = sym (after_prefix_none prefix bytes h)
after_prefix_by prefix bytes (Some x) h = ap (λ (xs : List ℕ). Some xs) h.1 ∙ sym (after_prefix_is prefix bytes h.0)

-- ---- spaces, one byte after the other

pub space_next : (bytes : List ℕ) (k d : ℕ) → get_or bytes k d ≡ 32 → k < length bytes
    → without_leading_spaces (drop k bytes) ≡ without_leading_spaces bytes → without_leading_spaces (drop (k + 1) bytes) ≡ without_leading_spaces bytes
unfolding without_leading_spaces
space_next bytes k d is lt so_far =
    let begins : drop k bytes ≡ get_or bytes k d ∷ drop (k + 1) bytes = drop_more bytes k d lt in
    let space : (get_or bytes k d == 32) ≡ true = ap (λ b. b == 32) is in
    let skipped : without_leading_spaces (get_or bytes k d ∷ drop (k + 1) bytes) ≡ without_leading_spaces (drop (k + 1) bytes) = rw space refl in
    sym skipped ∙ ap without_leading_spaces (sym begins) ∙ so_far

differs : (b item : ℕ) → b ≢ item → (b == item) ≡ false
differs b item h = false_from_ne_true (b == item) (λ e. h (eqb-true b item e))

pub other_here : (bytes : List ℕ) (k d : ℕ) → get_or bytes k d ≢ 32 → k < length bytes
    → without_leading_spaces (drop k bytes) ≡ without_leading_spaces bytes → drop k bytes ≡ without_leading_spaces bytes
unfolding without_leading_spaces
other_here bytes k d other lt so_far =
    let begins : drop k bytes ≡ get_or bytes k d ∷ drop (k + 1) bytes = drop_more bytes k d lt in
    let no_space = differs (get_or bytes k d) 32 other in
    let stays : without_leading_spaces (get_or bytes k d ∷ drop (k + 1) bytes) ≡ get_or bytes k d ∷ drop (k + 1) bytes = rw no_space refl in
    begins ∙ sym stays ∙ ap without_leading_spaces (sym begins) ∙ so_far

pub spaces_end : (bytes : List ℕ) (k : ℕ) → length bytes ≤ k → without_leading_spaces (drop k bytes) ≡ without_leading_spaces bytes
    → drop (length bytes) bytes ≡ without_leading_spaces bytes
unfolding without_leading_spaces
spaces_end bytes k past so_far = drop_all (length bytes) bytes (omega arith) ∙ ap without_leading_spaces (sym (drop_all k bytes past)) ∙ so_far

-- ---- items at the end, one after the other

same_last : (item : ℕ) (xs : List ℕ) (x : ℕ) → x ≡ item → without_trailing item (xs ++ x ∷ []) ≡ without_trailing item xs
same_last item xs x is = ap (λ y. without_trailing item (xs ++ y ∷ [])) is ∙ last-same item xs

-- the items so far: the next one is this one, or it is the last so far that isn't
pub same_next : (item : ℕ) (xs : List ℕ) (used k d : ℕ) → take used xs ≡ without_trailing item (take k xs) → get_or xs k d ≡ item → k < length xs
    → take used xs ≡ without_trailing item (take (k + 1) xs)
same_next item xs used k d h is lt = h ∙ sym (same_last item (take k xs) (get_or xs k d) is) ∙ ap (without_trailing item) (sym (take_more xs k d lt))

pub other_next : (item : ℕ) (xs : List ℕ) (k d : ℕ) → get_or xs k d ≢ item → k < length xs → take (k + 1) xs ≡ without_trailing item (take (k + 1) xs)
other_next item xs k d other lt = cc (take_more xs k d lt, last-other item (take k xs) (get_or xs k d) (differs (get_or xs k d) item other))
