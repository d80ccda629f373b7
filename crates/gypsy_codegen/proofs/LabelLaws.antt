-- Labels: their names, how they differ, and where they stand.
use Rattle.std.proofs.Common.{◌≡◌, ◌≢◌, ℕ, ◌+◌, ◌<◌, ◌≤◌, ◌^◌, List, [], ◌∷◌, ◌++◌, length, map, take, bytes_eq, true, false, cond, Option, Some, refl, ap, ◌∙◌}
use Rattle.std.{proofs.Common.arith, proofs.Math.Seq.take-append_seam, specs.Prelude.IsTrue, specs.Fmt.decimal, specs.List.position_from}
use Rattle.std.{proofs.lemmas.Slice.Eq.bytes_eq-Decides, proofs.lemmas.Iterator.Adapters.position_from-zero}
use Rattle.stack_text.{specs.Names.is_name, proofs.NumberedNameLaws.{numbered_named, numbered_differs}}
use Rattle.piton_check.specs.Declarations.{Declaration, is_named, label_name as label_of, first_of}
use Rattle.gypsy_codegen.specs.Written.{Names, Line, Plain, Marked, label_text, written}

pub label_named : (l : ℕ) → l < 2 ^ 32 → IsTrue (is_name (label_text l))
unfolding label_text
label_named l lt = numbered_named 76 l refl (λ bytes. refl) lt

-- what is cut from bytes that have the label in front
pub label_front : (digits rest : List ℕ) (n l : ℕ) → l < 2 ^ 32 → digits ≡ decimal l → n ≡ length digits
    → IsTrue (is_name (take (1 + n) (76 ∷ (digits ++ rest))))
label_front digits rest n l lt same long =
    let more : 1 + n ≡ length (76 ∷ digits) = omega (arith, long) in
    let front : take (1 + n) (76 ∷ (digits ++ rest)) ≡ 76 ∷ digits =
    ap (λ (k : ℕ). take k (76 ∷ (digits ++ rest))) more ∙ take-append_seam (76 ∷ digits) rest in
    rw (front, same) (numbered_named 76 l refl (λ bytes. refl) lt)

pub label_itself : (l : ℕ) → bytes_eq (label_text l) (label_text l) ≡ true
label_itself l = (bytes_eq-Decides (label_text l) (label_text l)).1 refl

pub label_differs : (l m : ℕ) → l < 2 ^ 32 → m < 2 ^ 32 → l ≢ m → bytes_eq (label_text l) (label_text m) ≡ false
unfolding label_text
label_differs l m low lower differs = numbered_differs 76 l m low lower differs

-- ---- the labels of lines

-- no line has this label
abbrev pub Misses : ℕ → List Line → Type 0
Misses l [] = Unit {0}
Misses l (Plain i ∷ ls) = Misses l ls
Misses l (Marked m i ∷ ls) = (m ≢ l) × Misses l ls

-- each label once
abbrev pub Distinct : List Line → Type 0
Distinct [] = Unit {0}
Distinct (Plain i ∷ ls) = Distinct ls
Distinct (Marked m i ∷ ls) = Misses m ls × Distinct ls

-- each label from lo on and below hi
abbrev pub Ranged : ℕ → ℕ → List Line → Type 0
Ranged lo hi [] = Unit {0}
Ranged lo hi (Plain i ∷ ls) = Ranged lo hi ls
Ranged lo hi (Marked m i ∷ ls) = (lo ≤ m) × (m < hi) × Ranged lo hi ls

-- each label stands at the place that f finds
abbrev pub Good : (ℕ → Option ℕ) → ℕ → List Line → Type 0
Good f at [] = Unit {0}
Good f at (Plain i ∷ ls) = Good f (at + 1) ls
Good f at (Marked m i ∷ ls) = (f m ≡ Some at) × Good f (at + 1) ls

-- the declarations of lines
abbrev pub declared : Names → List Line → List Declaration
declared n ls = map label_of (map (written n) ls)

good_change : (f g : ℕ → Option ℕ) (k hi at : ℕ) (ls : List Line) → ((m : ℕ) → m ≢ k → m < hi → g m ≡ f m) → Misses k ls → Ranged 0 hi ls → Good f at ls
    → Good g at ls
good_change f g k hi at [] h y r x = tt
good_change f g k hi at (Plain i ∷ ls) h y r x = good_change f g k hi (at + 1) ls h y r x
good_change f g k hi at (Marked m i ∷ ls) h y r x = (h m y.0 r.1 ∙ x.0, good_change f g k hi (at + 1) ls h y.1 r.2 x.1)

good_from : (n : Names) (hi at : ℕ) (ls : List Line) → hi ≤ 2 ^ 32 → Distinct ls → Ranged 0 hi ls
    → Good (λ m. position_from (is_named (label_text m)) at (declared n ls)) at ls
good_from n hi at [] le d r = tt
good_from n hi at (Plain i ∷ ls) le d r = good_from n hi (at + 1) ls le d r
good_from n hi at (Marked k i ∷ ls) le d r =
    let later = λ (m : ℕ). position_from (is_named (label_text m)) (at + 1) (declared n ls) in (
      ap (λ b. cond b (Some at) (later k)) (label_itself k),
      good_change later (λ m. position_from (is_named (label_text m)) at (declared n (Marked k i ∷ ls))) k hi (at + 1) ls
          (λ m differs lt. ap (λ b. cond b (Some at) (later m)) (label_differs m k (omega (arith, lt, le)) (omega (arith, r.1, le)) differs))
          d.0 r.2 (good_from n hi (at + 1) ls le d.1 r.2),
    )

good_same : (f g : ℕ → Option ℕ) (at : ℕ) (ls : List Line) → ((m : ℕ) → g m ≡ f m) → Good f at ls → Good g at ls
good_same f g at [] h x = tt
good_same f g at (Plain i ∷ ls) h x = good_same f g (at + 1) ls h x
good_same f g at (Marked m i ∷ ls) h x = (h m ∙ x.0, good_same f g (at + 1) ls h x.1)

pub good_all : (n : Names) (hi : ℕ) (ls : List Line) → hi ≤ 2 ^ 32 → Distinct ls → Ranged 0 hi ls → Good (λ m. first_of (declared n ls) (label_text m)) 0 ls
good_all n hi ls le d r =
    good_same (λ m. position_from (is_named (label_text m)) 0 (declared n ls)) (λ m. first_of (declared n ls) (label_text m)) 0 ls
    (λ m. position_from-zero (is_named (label_text m)) (declared n ls)) (good_from n hi 0 ls le d r)
