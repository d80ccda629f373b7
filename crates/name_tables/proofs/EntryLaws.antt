-- Entries of borrowed names: what is found, and what is entered.
use Rattle.std.proofs.Common.{◌≡◌, ℕ, List, [], ◌∷◌, ◌++◌, Option, Some, None, Bool, true, false, cond, is_some, bytes_eq, Result, Ok, refl, sym, subst, ap}
use Rattle.std.{proofs.Common.{◌+◌, ◌≤◌, length, arith, ◌∙◌}, proofs.lemmas.List.{length-append, length-map}, specs.Map.lookup, specs.Result.OnOk}
use Rattle.std.{proofs.lemmas.Bool.true≢false, proofs.lemmas.Slice.Eq.bytes_eq-Decides}
use Rattle.indexmap.specs.IndexMap.{insert_entry}
use Rattle.stack_text.specs.Options.{first_or}
use Rattle.name_tables.{specs.Entries.{Entries, look_up, entries_now, with_entry}, specs.declared.name_key.NameKey.NameKey}

abbrev Key : Type 0
Key = NameKey

abbrev sought : List ℕ → Key → Bool
sought name key = bytes_eq name key.bytes.now

-- a name is found through its borrow
pub found_borrowed : {V : Type 0} (es : List (Key × V)) (name : List ℕ) → lookup (sought name) es ≡ look_up (entries_now es) name
found_borrowed [] name = refl
found_borrowed {V} (e ∷ es) name = ap (λ (o : Option V). cond (bytes_eq name e.0.bytes.now) (Some e.1) o) (found_borrowed es name)

-- whether it is known
pub known_is : {V : Type 0} (es : List (Key × V)) (name : List ℕ) (b t : Bool) → b ≡ is_some (lookup (sought name) es) → b ≡ t
    → t ≡ is_some (look_up (entries_now es) name)
known_is {V} es name b t is test = sym test ∙ is ∙ ap (λ (o : Option V). is_some o) (found_borrowed es name)

-- a name that is known is not entered
pub none_more : {V : Type 0} (entries : Entries V) (name : List ℕ) (v : V) → true ≡ is_some (look_up entries name) → entries ≡ with_entry entries name v
none_more entries name v known = ap (λ (b : Bool). cond b entries (entries ++ (name, v) ∷ [])) known

-- an entry is there for each that is borrowed
pub entries_length : {V : Type 0} (es : List (Key × V)) → length (entries_now es) ≡ length es
entries_length {V} es = length-map es (λ (e : Key × V). (e.0.bytes.now, e.1))

-- what follows from a result that was unwrapped
unwrapped : {X F P : Type 0} (r : Result X F) (x : X) → r ≡ Ok x → OnOk r P → P
unwrapped {X} {F} {P} r x is = subst (λ (s : Result X F). OnOk s P) is

-- keys are the same if their names are
abbrev pub same_name : Key → Key → Bool
same_name x y = bytes_eq x.bytes.now y.bytes.now

module _ {V : Type 0} (key : Key) (v : V) where
  -- behind an entry, if it goes behind those that follow
  behind : (e : Key × V) (es : List (Key × V)) (b : Bool)
      → (is_some (lookup (sought key.bytes.now) es) ≡ false → entries_now (insert_entry same_name es key v) ≡ entries_now es ++ (key.bytes.now, v) ∷ [])
      → is_some (cond b (Some e.1) (lookup (sought key.bytes.now) es)) ≡ false
      → entries_now (cond b ((e.0, v) ∷ es) (e ∷ insert_entry same_name es key v)) ≡ (e.0.bytes.now, e.1) ∷ (entries_now es ++ (key.bytes.now, v) ∷ [])
  behind e es true rest none = absurd (true≢false none)
  behind e es false rest none = ap (λ (entries : Entries V). (e.0.bytes.now, e.1) ∷ entries) (rest none)

  -- a name without an entry goes last
  goes_last : (es : List (Key × V)) → is_some (lookup (sought key.bytes.now) es) ≡ false
      → entries_now (insert_entry same_name es key v) ≡ entries_now es ++ (key.bytes.now, v) ∷ []
  goes_last [] none = refl
  goes_last (e ∷ es) none = behind e es (bytes_eq key.bytes.now e.0.bytes.now) (goes_last es) none

-- a name that is new goes last, if making room left the entries
pub one_more : {V X F : Type 0} (es room new : List (Key × V)) (key : Key) (v : V) (r : Result X F) (x : X) → room ≡ es → r ≡ Ok x
    → OnOk r (new ≡ insert_entry same_name room key v) → false ≡ is_some (look_up (entries_now es) key.bytes.now)
    → entries_now new ≡ with_entry (entries_now es) key.bytes.now v
one_more {V} es room new key v r x same is inserted absent =
    ap (λ (xs : List (Key × V)). entries_now xs) (unwrapped r x is inserted)
    ∙ ap (λ (xs : List (Key × V)). entries_now (insert_entry same_name xs key v)) same
    ∙ goes_last key v es (ap (λ (o : Option V). is_some o) (found_borrowed es key.bytes.now) ∙ sym absent)
    ∙ ap (λ (b : Bool). cond b (entries_now es) (entries_now es ++ (key.bytes.now, v) ∷ [])) absent

-- what is found if a name goes last
found_last : {V : Type 0} (entries : Entries V) (name : List ℕ) (v : V) (other : List ℕ)
    → look_up (entries ++ (name, v) ∷ []) other ≡ first_or (look_up entries other) (bytes_eq other name) v
found_last {V} [] name v other = only (bytes_eq other name)
  where
    only : (b : Bool) → cond b (Some v) None ≡ first_or None b v
    only true = refl
    only false = refl
found_last {V} (e ∷ entries) name v other = by_first (bytes_eq other e.0) (found_last entries name v other)
  where
    by_first : (b : Bool) → look_up (entries ++ (name, v) ∷ []) other ≡ first_or (look_up entries other) (bytes_eq other name) v
        → cond b (Some e.1) (look_up (entries ++ (name, v) ∷ []) other)
        ≡ first_or (cond b (Some e.1) (look_up entries other)) (bytes_eq other name) v
    by_first true rest = refl
    by_first false rest = rest

-- what is found after a name was entered
pub entered : {V : Type 0} (old new : Entries V) (name : List ℕ) (v : V) → new ≡ with_entry old name v
    → (other : List ℕ) → look_up new other ≡ first_or (look_up old other) (bytes_eq other name) v
entered {V} old new name v is other =
    ap (λ (entries : Entries V). look_up entries other) is ∙ by_test (is_some (look_up old name)) refl
  where
    stays : (o : Option V) (b : Bool) → look_up old other ≡ o → bytes_eq other name ≡ b → is_some (look_up old name) ≡ true → o ≡ first_or o b v
    stays (Some w) b found test known = refl
    stays None false found test known = refl
    stays None true found test known =
        let same : other ≡ name = (bytes_eq-Decides other name).0 test in
        absurd (true≢false (sym known ∙ ap (λ (n : List ℕ). is_some (look_up old n)) (sym same) ∙ ap (λ (o : Option V). is_some o) found))

    by_test : (b : Bool) → is_some (look_up old name) ≡ b
        → look_up (cond b old (old ++ (name, v) ∷ [])) other ≡ first_or (look_up old other) (bytes_eq other name) v
    by_test true known = stays (look_up old other) (bytes_eq other name) refl refl known
    by_test false known = found_last old name v other
