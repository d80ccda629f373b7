-- The laws of each field.
use Rattle.std.proofs.Common.{◌≡◌, ℕ, suc, ◌+◌, ◌^◌, ◌<◌, ◌≤◌, Bool, true, false, ◌&&◌, ◌||◌, ltb, leb, eqb, List, [], ◌∷◌, ◌++◌, length, Ok, refl, sym, ap}
use Rattle.std.{proofs.Common.{subst, ◌∙◌, append_assoc, arith}, proofs.lemmas.Bool.{lt-ltb, ltb-true, leb-true, le-leb, and_parts, and_from, eqb-true, eq-eqb}}
use Rattle.std.proofs.lemmas.Bool.{and_right}
use Rattle.stack_text.{specs.Names.is_name, specs.Results.◌>>=◌, proofs.ResultLaws.{bind_ok, bind_at}, proofs.SharedLaws.bytes_same}
use Rattle.fm_image.{specs.declared.fault.Rule.Rule, specs.declared.window.Window.Window, specs.Limits.{magic_bytes, is_version, is_size, is_inside, is_window}}
use Rattle.fm_image.{specs.Limits.{is_new, is_condition}, specs.Spelling.{number_bytes, name_bytes, window_bytes, opening_bytes}, specs.Fields.number_at}
use Rattle.fm_image.{specs.Fields.{passing, bytes_at, is_name_length, text_at}, specs.Reading.{opening_at, is_magic, window_at, name_at, new_name_at}}
use Rattle.fm_image.proofs.ReaderLaws.{IsBytes, ok_is, Took, Took-then, Reads, bytes_reads, is_word, number_reads, passing_reads, refit_reads}
use Rattle.fm_image.specs.declared.fault.Rule.TheVariants as rules

abbrev pub limited_reads : (test : ℕ → Bool) (rule : Rule) (end : ℕ) → Reads (passing test rule end (number_at end)) number_bytes (λ n. is_word n && test n)
limited_reads test rule end = passing_reads test rule end (number_at end) number_bytes is_word (number_reads end)

-- what a test lets pass is below 2^32
pub both : (n limit : ℕ) (test : Bool) → n ≤ limit → limit < 2 ^ 32 → test ≡ true → (is_word n && test) ≡ true
both n limit test le lt h = let below : n < 2 ^ 32 = omega (arith, le, lt) in and_from _ _ (lt-ltb _ _ below) h

implied : (word test : Bool) → (test ≡ true → word ≡ true) → (word && test) ≡ test
implied word true h = and_from _ _ (h refl) refl
implied word false h = and_right word false refl

-- a test that passes small numbers only
pub small_reads : (test : ℕ → Bool) (rule : Rule) (end : ℕ) → ((n : ℕ) → test n ≡ true → n < 2 ^ 32)
    → Reads (passing test rule end (number_at end)) number_bytes test
small_reads test rule end small =
    refit_reads (passing test rule end (number_at end)) number_bytes (λ n. is_word n && test n) test (limited_reads test rule end)
    (λ n. implied (is_word n) (test n) (λ h. lt-ltb n (2 ^ 32) (small n h)))

-- ---- names

text_takes : (end : ℕ) (bytes text rest : List ℕ) → IsBytes bytes → text_at end bytes ≡ Ok (text, rest) → Took bytes (name_bytes text) rest
    × (is_name_length (length text) ≡ true)
text_takes end bytes text rest ok e =
    let b = bind_ok (passing is_name_length rules.Name end (number_at end) bytes) (λ count. bytes_at end count.0 count.1) (text, rest) e in
    let t = (limited_reads is_name_length rules.Name end).takes bytes b.0.0 b.0.1 ok b.1 in
    let s = (bytes_reads end b.0.0).takes b.0.1 text rest t.0.rest_fits b.2 in
    let len : length text ≡ b.0.0 = eqb-true _ _ s.1 in
    let p = and_parts (is_word b.0.0) (is_name_length b.0.0) t.1 in
    let whole = Took-then bytes (number_bytes b.0.0) b.0.1 text rest t.0 s.0 in
    (subst (λ (k : ℕ). Took bytes (number_bytes k ++ text) rest) (sym len) whole, subst (λ (k : ℕ). is_name_length k ≡ true) (sym len) p.1)

text_again : (end : ℕ) (text rest : List ℕ) → is_name_length (length text) ≡ true → text_at end (name_bytes text ++ rest) ≡ Ok (text, rest)
text_again end text rest h =
    let p = and_parts (leb 1 (length text)) (leb (length text) 64) h in
    let small : length text ≤ 64 = leb-true _ _ p.1 in
    ap (text_at end) (append_assoc (number_bytes (length text)) text rest)
    ∙ bind_at (passing is_name_length rules.Name end (number_at end) (number_bytes (length text) ++ (text ++ rest)))
    (λ count. bytes_at end count.0 count.1) (length text, text ++ rest)
    ((limited_reads is_name_length rules.Name end).again (length text) (text ++ rest)
    (both (length text) 64 (is_name_length (length text)) small (omega arith) h))
    ∙ (bytes_reads end (length text)).again text rest (eq-eqb _ _ refl)

text_reads : (end : ℕ) → Reads (text_at end) name_bytes (λ text. is_name_length (length text))
text_reads end = record { takes = text_takes end; again = text_again end }

at_least_one : (n : ℕ) → 1 ≤ suc n
at_least_one n = omega arith

-- a name has 1 to 64 bytes
name_length : (name : List ℕ) → is_name name ≡ true → is_name_length (length name) ≡ true
name_length [] h = absurd cc
name_length (b ∷ bs) h =
    let p = and_parts _ _ h in
    let q = and_parts _ _ p.0 in
    let some : 1 ≤ length (b ∷ bs) = at_least_one (length bs) in
    and_from _ _ (le-leb 1 (length (b ∷ bs)) some) q.1

length_implied : (name : List ℕ) (b : Bool) → is_name name ≡ b → (is_name_length (length name) && b) ≡ b
length_implied name true h = and_from _ _ (name_length name h) refl
length_implied name false h = and_right _ _ refl

pub name_reads : (end : ℕ) → Reads (name_at end) name_bytes is_name
name_reads end =
    refit_reads (name_at end) name_bytes (λ name. is_name_length (length name) && is_name name) is_name
    (passing_reads is_name rules.Name end (text_at end) name_bytes (λ text. is_name_length (length text)) (text_reads end))
    (λ name. length_implied name (is_name name) refl)

pub new_name_reads : (end : ℕ) (earlier : List (List ℕ)) → Reads (new_name_at end earlier) name_bytes (is_condition earlier)
new_name_reads end earlier = passing_reads (is_new earlier) rules.Repeated end (name_at end) name_bytes is_name (name_reads end)

-- ---- the opening

small_version : (version : ℕ) → is_version version ≡ true → is_word version ≡ true
small_version version h =
    let le : version ≤ 2 = by_test (eqb version 1) refl h in
    lt-ltb version (2 ^ 32) (omega (arith, le))
  where
    by_test : (one : Bool) → eqb version 1 ≡ one → (one || eqb version 2) ≡ true → version ≤ 2
    by_test true e h = omega (arith, eqb-true version 1 e)
    by_test false e h = omega (arith, eqb-true version 2 h)

opening_takes : (end : ℕ) (bytes : List ℕ) (version : ℕ) (rest : List ℕ) → IsBytes bytes → opening_at end bytes ≡ Ok (version, rest)
    → Took bytes (opening_bytes version) rest × (is_version version ≡ true)
opening_takes end bytes version rest ok e =
    let b = bind_ok (passing is_magic rules.Magic end (bytes_at end 4) bytes) (λ magic. passing is_version rules.Version end (number_at end) magic.1)
    (version, rest) e in
    let t = (passing_reads is_magic rules.Magic end (bytes_at end 4) (λ text. text) (λ text. eqb (length text) 4) (bytes_reads end 4)).takes bytes b.0.0
    b.0.1 ok b.1 in
    let s = (limited_reads is_version rules.Version end).takes b.0.1 version rest t.0.rest_fits b.2 in
    let magic : b.0.0 ≡ magic_bytes = bytes_same b.0.0 (magic_bytes) (and_parts (eqb (length b.0.0) 4) (is_magic b.0.0) t.1).1 in
    let whole = Took-then bytes b.0.0 b.0.1 (number_bytes version) rest t.0 s.0 in
    (subst (λ (m : List ℕ). Took bytes (m ++ number_bytes version) rest) magic whole, (and_parts (is_word version) (is_version version) s.1).1)

opening_again : (end version : ℕ) (rest : List ℕ) → is_version version ≡ true → opening_at end (opening_bytes version ++ rest) ≡ Ok (version, rest)
opening_again end version rest h =
    bind_at (passing is_magic rules.Magic end (bytes_at end 4) (magic_bytes ++ (number_bytes version ++ rest)))
    (λ magic. passing is_version rules.Version end (number_at end) magic.1) (magic_bytes, number_bytes version ++ rest)
    ((passing_reads is_magic rules.Magic end (bytes_at end 4) (λ text. text) (λ text. eqb (length text) 4) (bytes_reads end 4)).again (magic_bytes)
    (number_bytes version ++ rest) refl)
    ∙ (limited_reads is_version rules.Version end).again version rest (and_from _ _ (small_version version h) h)

pub opening_reads : (end : ℕ) → Reads (opening_at end) opening_bytes is_version
opening_reads end = record { takes = opening_takes end; again = opening_again end }

-- ---- the window

pub window_reads : (end : ℕ) → Reads (window_at end) window_bytes is_window
window_reads end = record {
  takes = λ bytes w rest ok e.
      let a = bind_ok (number_at end bytes) (λ base. passing (is_size base.0) rules.Limit end (number_at end) base.1
      >>= λ size. passing (is_inside base.0 size.0) rules.Limit end (number_at end) size.1
      >>= λ pc. Ok (record { base = base.0; size = size.0; final_pc = pc.0 }, pc.1)) (w, rest) e in
      let b = bind_ok (passing (is_size a.0.0) rules.Limit end (number_at end) a.0.1)
      (λ size. passing (is_inside a.0.0 size.0) rules.Limit end (number_at end) size.1
      >>= λ pc. Ok (record { base = a.0.0; size = size.0; final_pc = pc.0 }, pc.1)) (w, rest) a.2 in
      let c = bind_ok (passing (is_inside a.0.0 b.0.0) rules.Limit end (number_at end) b.0.1)
      (λ pc. Ok (record { base = a.0.0; size = b.0.0; final_pc = pc.0 }, pc.1)) (w, rest) b.2 in
      let t0 = (number_reads end).takes bytes a.0.0 a.0.1 ok a.1 in
      let t1 = (limited_reads (is_size a.0.0) rules.Limit end).takes a.0.1 b.0.0 b.0.1 t0.0.rest_fits b.1 in
      let t2 = (limited_reads (is_inside a.0.0 b.0.0) rules.Limit end).takes b.0.1 c.0.0 c.0.1 t1.0.rest_fits c.1 in
      let made : Window × List ℕ = (record { base = a.0.0; size = b.0.0; final_pc = c.0.0 }, c.0.1) in
      subst (λ (y : Window × List ℕ). Took bytes (window_bytes y.0) y.1 × (is_window y.0 ≡ true)) (ok_is made (w, rest) c.2) (
        Took-then bytes (number_bytes a.0.0 ++ number_bytes b.0.0) b.0.1 (number_bytes c.0.0) c.0.1
            (Took-then bytes (number_bytes a.0.0) a.0.1 (number_bytes b.0.0) b.0.1 t0.0 t1.0) t2.0,
        and_from _ _ (and_parts (is_word b.0.0) (is_size a.0.0 b.0.0) t1.1).1 (and_parts (is_word c.0.0) (is_inside a.0.0 b.0.0 c.0.0) t2.1).1,
      );
  again = λ w rest h. window_again end w rest h;
}
  where
    window_again : (end : ℕ) (w : Window) (rest : List ℕ) → is_window w ≡ true → window_at end (window_bytes w ++ rest) ≡ Ok (w, rest)
    window_again end w rest h =
        let p = and_parts (is_size w.base w.size) (is_inside w.base w.size w.final_pc) h in
        let q = and_parts (leb 1 w.size && leb w.size 1048576) (leb (w.base + w.size) 4294967295) p.0 in
        let r = and_parts (leb w.base w.final_pc) (ltb w.final_pc (w.base + w.size)) p.1 in
        let end_in : w.base + w.size ≤ 4294967295 = leb-true (w.base + w.size) 4294967295 q.1 in
        let pc_in : w.final_pc < w.base + w.size = ltb-true w.final_pc (w.base + w.size) r.1 in
        let base_word : is_word w.base ≡ true = lt-ltb w.base (2 ^ 32) (omega (arith, end_in)) in
        let size_fits = both w.size 4294967295 (is_size w.base w.size) (omega (arith, end_in)) (omega arith) p.0 in
        let pc_fits = both w.final_pc 4294967295 (is_inside w.base w.size w.final_pc) (omega (arith, end_in, pc_in)) (omega arith) p.1 in
        let after_pc : Window × List ℕ = (w, rest) in
        ap (window_at end) (append_assoc (number_bytes w.base ++ number_bytes w.size) (number_bytes w.final_pc) rest
        ∙ append_assoc (number_bytes w.base) (number_bytes w.size) (number_bytes w.final_pc ++ rest))
        ∙ bind_at (number_at end (number_bytes w.base ++ (number_bytes w.size ++ (number_bytes w.final_pc ++ rest))))
        (λ base. passing (is_size base.0) rules.Limit end (number_at end) base.1
        >>= λ size. passing (is_inside base.0 size.0) rules.Limit end (number_at end) size.1
        >>= λ pc. Ok (record { base = base.0; size = size.0; final_pc = pc.0 }, pc.1))
        (w.base, number_bytes w.size ++ (number_bytes w.final_pc ++ rest))
        ((number_reads end).again w.base (number_bytes w.size ++ (number_bytes w.final_pc ++ rest)) base_word)
        ∙ bind_at (passing (is_size w.base) rules.Limit end (number_at end) (number_bytes w.size ++ (number_bytes w.final_pc ++ rest)))
        (λ size. passing (is_inside w.base size.0) rules.Limit end (number_at end) size.1
        >>= λ pc. Ok (record { base = w.base; size = size.0; final_pc = pc.0 }, pc.1))
        (w.size, number_bytes w.final_pc ++ rest) ((limited_reads (is_size w.base) rules.Limit end).again w.size (number_bytes w.final_pc ++ rest) size_fits)
        ∙ bind_at (passing (is_inside w.base w.size) rules.Limit end (number_at end) (number_bytes w.final_pc ++ rest))
        (λ pc. Ok (record { base = w.base; size = w.size; final_pc = pc.0 }, pc.1))
        (w.final_pc, rest) ((limited_reads (is_inside w.base w.size) rules.Limit end).again w.final_pc rest pc_fits)
