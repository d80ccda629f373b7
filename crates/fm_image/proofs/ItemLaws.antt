-- Reading items one after the other, as a loop does.
use Rattle.std.proofs.Common.{◌≡◌, ℕ, suc, ◌-◌, ◌+◌, ◌≤◌, ◌<◌, List, [], ◌∷◌, ◌++◌, Result, Ok, Err, refl, sym, ◌∙◌, arith}
use Rattle.fm_image.{specs.declared.fault.ImageFault.ImageFault, specs.declared.fault.ImageFault.TheVariants.{Refused, Memory}, specs.Rules.{Fault, Parser}}
use Rattle.fm_image.{specs.Rules.FailsUnless, specs.Fields.items_at}

-- one item more
pub goes_on : {A : Type 0} (item : List A → Parser A) (earlier : List A) (count i : ℕ) (left : List ℕ) (x : A) (rest : List ℕ)
    (all : Result (List A × List ℕ) Fault)
    → i < count → item earlier left ≡ Ok (x, rest) → items_at item (count - i) earlier left ≡ all
    → items_at item (count - (i + 1)) (earlier ++ x ∷ []) rest ≡ all
unfolding items_at
goes_on {A} item earlier count i left x rest all lt read so_far =
    let k : count - i ≡ suc (count - (i + 1)) = omega arith in
    let one : items_at item (count - i) earlier left ≡ items_at item (count - (i + 1)) (earlier ++ x ∷ []) rest = rw (k, read) refl in
    sym one ∙ so_far

-- an item is refused
pub stops : {A : Type 0} (item : List A → Parser A) (earlier : List A) (count i : ℕ) (left : List ℕ) (fault : Fault) (all : Result (List A × List ℕ) Fault)
    → i < count → item earlier left ≡ Err fault → items_at item (count - i) earlier left ≡ all → all ≡ Err fault
unfolding items_at
stops item earlier count i left fault all lt read so_far =
    let k : count - i ≡ suc (count - (i + 1)) = omega arith in
    let one : items_at item (count - i) earlier left ≡ Err fault = rw (k, read) refl in
    sym so_far ∙ one

-- an item is refused, or memory ran out
pub ends : {A : Type 0} (R : Type 0) (e : ImageFault) (item : List A → Parser A) (earlier : List A) (count i : ℕ) (left : List ℕ)
    (all : Result (List A × List ℕ) Fault)
    → i < count → FailsUnless R e (item earlier left) → items_at item (count - i) earlier left ≡ all → FailsUnless R e all
unfolding items_at
ends R Memory item earlier count i left all lt read so_far = read
ends R (Refused rule place) item earlier count i left all lt read so_far = stops item earlier count i left (rule, place) all lt read so_far

-- no item is left
pub is_done : {A : Type 0} (item : List A → Parser A) (earlier : List A) (count i : ℕ) (left : List ℕ) (all : Result (List A × List ℕ) Fault)
    → count ≤ i → items_at item (count - i) earlier left ≡ all → all ≡ Ok (earlier, left)
unfolding items_at
is_done item earlier count i left all le so_far =
    let k : count - i ≡ 0 = omega arith in
    let one : items_at item (count - i) earlier left ≡ Ok (earlier, left) = rw k refl in
    sym so_far ∙ one
