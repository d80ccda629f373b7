-- Words set in a window, one after the other.
use Rattle.std.proofs.Common.{◌≡◌, ◌<◌, ◌≤◌, ◌-◌, ◌+◌, ℕ, zero, suc, length, map, get_or, List, [], ◌∷◌, Some, None, Bool, true, false, Option, Result, Ok, Err}
use Rattle.std.{proofs.Common.{refl, sym, ap, ◌∙◌, arith, IfErr, leb}, specs.Prelude.{slice_get, slice_set, OnOk, OnErr, is_some, nat_lt}}
use Rattle.std.{proofs.lemmas.Bool.{le-ltb, leb-true, and_parts}, specs.List.list_all}
use Rattle.stack_text.specs.Values.{ValueOf, item_count}
use Rattle.fm_machine.{specs.State.{Fm, word_at, with_word}, specs.Step.{store_at, store_at_if}, specs.declared.fault.Outside.Outside}
use Rattle.fm_image.specs.declared.slot.Slot.{Slot}
use Rattle.fm_loader.specs.Loaded.{Fits, HaveRoom}

none_set : (xs : List ℕ) (i v : ℕ) → slice_get xs i ≡ None → slice_set xs i v ≡ xs
none_set [] i v h = refl
none_set (x ∷ xs) zero v h = cc
none_set (x ∷ xs) (suc i) v h = ap (λ (l : List ℕ). x ∷ l) (none_set xs i v h)

none_of : {A : Type 0} (o : Option A) → is_some o ≡ false → o ≡ None
none_of None h = refl
none_of (Some x) h = cc

nothing_there : (base : ℕ) (memory : List ℕ) (address word : ℕ) → base ≤ address → is_some (word_at base memory address) ≡ false
    → with_word base memory address word ≡ memory
unfolding word_at with_word
nothing_there base memory address word above h =
    let e : nat_lt address base ≡ false = le-ltb address base above in
    none_set memory (address - base) word (none_of (slice_get memory (address - base)) (rw e at h))

taken : (b : Bool) (s t : Fm) (base address word : ℕ) → s.base ≡ base → store_at_if b s address word ≡ Ok t
    → t ≡ record s { memory = with_word base s.memory address word }
taken true s t base address word is h = let k : record s { memory = with_word s.base s.memory address word } ≡ t = cc in
    sym k ∙ ap (λ n. record s { memory = with_word n s.memory address word }) is
taken false s t base address word is h = cc

refused : (b : Bool) (s : Fm) (base address word : ℕ) (e : Outside) → s.base ≡ base → base ≤ address → is_some (word_at s.base s.memory address) ≡ b
    → store_at_if b s address word ≡ Err e → s ≡ record s { memory = with_word base s.memory address word }
refused true s base address word e is above there h = cc
refused false s base address word e is above there h =
    let none : is_some (word_at base s.memory address) ≡ false = rw is at there in
    ap (λ (m : List ℕ). record s { memory = m }) (sym (nothing_there base s.memory address word above none))

-- after a word is set, or there was no such word
pub is_set : (s t : Fm) (base address word : ℕ) (r : Result (Unit {0}) Outside) → s.base ≡ base → base ≤ address
    → OnOk r (store_at s address word ≡ Ok t) → OnErr r (t ≡ s) → IfErr r (λ e. store_at s address word ≡ Err e)
    → t ≡ record s { memory = with_word base s.memory address word }
is_set s t base address word (Ok u) is above ok same err = taken (is_some (word_at s.base s.memory address)) s t base address word is ok
is_set s t base address word (Err e) is above ok same err = same ∙ refused (is_some (word_at s.base s.memory address)) s base address word e is above refl err

pub on_err : {A B P Q : Type 0} (r : Result A B) → OnErr r P → (P → Q) → OnErr r Q
on_err (Ok x) p f = tt
on_err (Err e) p f = f p

-- ---- a slot's items have room above the base

pub room_at : (base : ℕ) (slots : List Slot) (values : List ValueOf) (i : ℕ) (slot : Slot) (value : ValueOf) → Fits slots values → HaveRoom base slots
    → i < length slots → slot ≡ get_or slots i slot → i < length values → value ≡ get_or values i value
    → base + item_count value.shape ≤ slot.address + 1
room_at base [] values i slot value fits room lt is lt' is' = absurd (omega arith)
room_at base (s ∷ slots) [] i slot value fits room lt is lt' is' = absurd (omega arith)
room_at base (s ∷ slots) (v ∷ values) zero slot value fits room lt is lt' is' =
    let same : v.shape ≡ s.shape = cc in
    let p = and_parts (leb (base + item_count s.shape) (s.address + 1)) (list_all (λ slot. leb (base + item_count slot.shape) (slot.address + 1)) slots) room in
    let le = leb-true (base + item_count s.shape) (s.address + 1) p.0 in
    rw (is, is', same) le
room_at base (s ∷ slots) (v ∷ values) (suc i) slot value fits room lt is lt' is' =
    let p = and_parts (leb (base + item_count s.shape) (s.address + 1)) (list_all (λ slot. leb (base + item_count slot.shape) (slot.address + 1)) slots) room in
    let rest : map (λ value. value.shape) values ≡ map (λ slot. slot.shape) slots = cc in
    room_at base slots values i slot value rest p.1 (omega arith) is (omega arith) is'
