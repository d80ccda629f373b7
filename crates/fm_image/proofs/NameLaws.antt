-- Items whose names all differ, and items each of which has a new name.
use Rattle.std.proofs.Common.{◌≡◌, List, ℕ, [], ◌∷◌, ◌++◌, map, Bool, true, false, not, ◌&&◌, leb, length, refl, sym, ap, subst, ◌∙◌, append_assoc}
use Rattle.std.{specs.List.{list_any, list_all, AllByRecursion, IsDistinct}, specs.Str.bytes_eq, proofs.lemmas.Bool.{and_parts, and_from, not-true}}
use Rattle.std.{proofs.lemmas.Cmp.nat_list_eq_equiv, proofs.lemmas.List.{append-nil, map_push}, proofs.lemmas.Map.Keys.{IsDistinct-head, IsDistinct-tail}}
use Rattle.std.proofs.lemmas.Map.Keys.{IsDistinct-push}
use Rattle.stack_text.specs.Names.{is_name}
use Rattle.fm_image.{specs.declared.procedure.VarInfo.VarInfo, specs.declared.slot.Slot.Slot, specs.declared.window.Window.Window, specs.Procedure.ProcedureOf}
use Rattle.fm_image.specs.Limits.{is_new, is_count, is_condition, is_slot, is_slot_address, is_offset, is_variable, is_procedure, all_after}

-- ---- from names that differ

holds_within : {A B : Type 0} (P : B → Type 0) (f : A → B) (earlier : List A) (x : A) (later : List A) → AllByRecursion P (map f (earlier ++ x ∷ later))
    → P (f x)
holds_within P f [] x later h = h.0
holds_within P f (e ∷ earlier) x later h = holds_within P f earlier x later h.1

-- the name is none of the earlier ones
apart : {A : Type 0} (name_of : A → List ℕ) (earlier : List A) (x : A) (later : List A) → IsDistinct bytes_eq (map name_of (earlier ++ x ∷ later))
    → list_any (bytes_eq (name_of x)) (map name_of earlier) ≡ false
apart name_of [] x later own = refl
apart name_of (e ∷ earlier) x later own =
    let rest = map name_of (earlier ++ x ∷ later) in
    let other = holds_within (λ y. bytes_eq (name_of e) y ≡ false) name_of earlier x later (IsDistinct-head bytes_eq (name_of e) rest own) in
    rw (nat_list_eq_equiv.symm (name_of x) (name_of e), other) (apart name_of earlier x later (IsDistinct-tail bytes_eq (name_of e) rest own))

-- Items of different names pass a test that asks for a new name, and for what each item has by itself.
pub each_is_new : {A : Type 0} (name_of : A → List ℕ) (fits : A → Bool) (test : List A → A → Bool)
    → ((earlier : List A) (x : A) → fits x ≡ true → is_new (map name_of earlier) (name_of x) ≡ true → test earlier x ≡ true)
    → (earlier items : List A) → list_all fits items ≡ true → IsDistinct bytes_eq (map name_of (earlier ++ items)) → all_after test earlier items ≡ true
unfolding all_after
each_is_new name_of fits test passes earlier [] fit own = refl
each_is_new name_of fits test passes earlier (x ∷ items) fit own =
    let p = and_parts (fits x) (list_all fits items) fit in
    let new : is_new (map name_of earlier) (name_of x) ≡ true = ap not (apart name_of earlier x items own) in
    let later = subst (λ (all : List _). IsDistinct bytes_eq (map name_of all)) (sym (append_assoc earlier (x ∷ []) items)) own in
    and_from _ _ (passes earlier x p.0 new) (each_is_new name_of fits test passes (earlier ++ x ∷ []) items p.1 later)

map_same : (xs : List (List ℕ)) → map (λ x. x) xs ≡ xs
map_same [] = refl
map_same (x ∷ xs) = ap (λ (ys : List (List ℕ)). x ∷ ys) (map_same xs)

-- names that all differ are the conditions of an image
pub conditions_fit : (names : List (List ℕ)) → list_all is_name names ≡ true → IsDistinct bytes_eq names → all_after is_condition [] names ≡ true
conditions_fit names fit own =
    each_is_new (λ name. name) is_name is_condition
    (λ earlier name is new. and_from _ _ is (subst (λ (others : List (List ℕ)). is_new others name ≡ true) (map_same earlier) new)) [] names fit
    (subst (IsDistinct bytes_eq) (sym (map_same names)) own)

-- what a slot has by itself: a name, and items in the window
abbrev pub fits_window : Window → Slot → Bool
fits_window window slot = is_name slot.name && (leb slot.shape.length 4096 && is_slot_address window slot.shape slot.address)

-- slots that fit a window, and whose names all differ, are the slots of an image
pub slots_fit : (window : Window) (slots : List Slot) → list_all (fits_window window) slots ≡ true → IsDistinct bytes_eq (map (λ slot. slot.name) slots)
    → all_after (is_slot window) [] slots ≡ true
slots_fit window slots fit own = each_is_new (λ slot. slot.name) (fits_window window) (is_slot window) passes [] slots fit own
  where
    passes : (earlier : List Slot) (slot : Slot) → fits_window window slot ≡ true → is_new (map (λ other. other.name) earlier) slot.name ≡ true
        → is_slot window earlier slot ≡ true
    passes earlier slot fits new =
        let p = and_parts (is_name slot.name) (leb slot.shape.length 4096 && is_slot_address window slot.shape slot.address) fits in
        let q = and_parts (leb slot.shape.length 4096) (is_slot_address window slot.shape slot.address) p.1 in
        and_from _ _ (and_from _ _ (and_from _ _ p.0 new) q.0) q.1

-- what a variable has by itself
abbrev pub fits_frame : VarInfo → Bool
fits_frame variable = is_name variable.name && (leb variable.shape.length 4096 && is_offset variable.offset)

pub variables_fit : (variables : List VarInfo) → list_all fits_frame variables ≡ true → IsDistinct bytes_eq (map (λ variable. variable.name) variables)
    → all_after is_variable [] variables ≡ true
variables_fit variables fit own = each_is_new (λ variable. variable.name) fits_frame is_variable passes [] variables fit own
  where
    passes : (earlier : List VarInfo) (variable : VarInfo) → fits_frame variable ≡ true
        → is_new (map (λ other. other.name) earlier) variable.name ≡ true → is_variable earlier variable ≡ true
    passes earlier variable fits new =
        let p = and_parts (is_name variable.name) (leb variable.shape.length 4096 && is_offset variable.offset) fits in
        let q = and_parts (leb variable.shape.length 4096) (is_offset variable.offset) p.1 in
        and_from _ _ (and_from _ _ (and_from _ _ p.0 new) q.0) q.1

-- what a procedure has by itself
abbrev pub fits_lists : ProcedureOf → Bool
fits_lists procedure =
    is_name procedure.name
    && ((is_count 201 (length procedure.conditions) && all_after is_condition [] procedure.conditions)
    && (is_count 200 (length procedure.variables) && all_after is_variable [] procedure.variables))

pub procedures_fit : (procedures : List ProcedureOf) → list_all fits_lists procedures ≡ true
    → IsDistinct bytes_eq (map (λ procedure. procedure.name) procedures) → all_after is_procedure [] procedures ≡ true
procedures_fit procedures fit own = each_is_new (λ procedure. procedure.name) fits_lists is_procedure passes [] procedures fit own
  where
    passes : (earlier : List ProcedureOf) (procedure : ProcedureOf) → fits_lists procedure ≡ true
        → is_new (map (λ other. other.name) earlier) procedure.name ≡ true → is_procedure earlier procedure ≡ true
    passes earlier procedure fits new =
        let conditions : Bool = is_count 201 (length procedure.conditions) && all_after is_condition [] procedure.conditions in
        let variables : Bool = is_count 200 (length procedure.variables) && all_after is_variable [] procedure.variables in
        let p = and_parts (is_name procedure.name) (conditions && variables) fits in
        let q = and_parts conditions variables p.1 in
        and_from _ _ (and_from _ _ (and_from _ _ p.0 new) q.0) q.1

-- ---- to names that differ

-- Where a test asks for a new name, items that pass it have different names.
pub names_differ : {A : Type 0} (name_of : A → List ℕ) (test : List A → A → Bool)
    → ((earlier : List A) (x : A) → test earlier x ≡ true → is_new (map name_of earlier) (name_of x) ≡ true)
    → (earlier items : List A) → IsDistinct bytes_eq (map name_of earlier) → all_after test earlier items ≡ true
    → IsDistinct bytes_eq (map name_of (earlier ++ items))
unfolding all_after
names_differ name_of test asks earlier [] own h = subst (λ (all : List _). IsDistinct bytes_eq (map name_of all)) (sym (append-nil earlier)) own
names_differ {A} name_of test asks earlier (x ∷ items) own h =
    let p = and_parts (test earlier x) (all_after test (earlier ++ x ∷ []) items) h in
    let new : list_any (bytes_eq (name_of x)) (map name_of earlier) ≡ false =
    not-true (list_any (bytes_eq (name_of x)) (map name_of earlier)) (asks earlier x p.0) in
    let more = IsDistinct-push nat_list_eq_equiv (map name_of earlier) (name_of x) own new in
    subst (λ (all : List A). IsDistinct bytes_eq (map name_of all)) (append_assoc earlier (x ∷ []) items)
    (names_differ name_of test asks (earlier ++ x ∷ []) items (subst (IsDistinct bytes_eq) (sym (map_push name_of earlier x)) more) p.1)

no_names : IsDistinct bytes_eq []
unfolding IsDistinct
no_names = tt

-- the slots of an image have different names
pub slots_differ : (window : Window) (slots : List Slot) → all_after (is_slot window) [] slots ≡ true → IsDistinct bytes_eq (map (λ slot. slot.name) slots)
slots_differ window slots h = names_differ (λ slot. slot.name) (is_slot window) asks [] slots no_names h
  where
    asks : (earlier : List Slot) (slot : Slot) → is_slot window earlier slot ≡ true → is_new (map (λ other. other.name) earlier) slot.name ≡ true
    asks earlier slot is =
        let p = and_parts ((is_name slot.name && is_new (map (λ other. other.name) earlier) slot.name) && leb slot.shape.length 4096)
        (is_slot_address window slot.shape slot.address) is in
        let q = and_parts (is_name slot.name && is_new (map (λ other. other.name) earlier) slot.name) (leb slot.shape.length 4096) p.0 in
        (and_parts (is_name slot.name) (is_new (map (λ other. other.name) earlier) slot.name) q.0).1

-- ---- a list of names

-- one name more in the list, and one item more
pub named_more : {A : Type 0} (name_of : A → List ℕ) (items all : List A) (x : A) (names more : List (List ℕ)) → all ≡ items ++ x ∷ []
    → more ≡ names ++ name_of x ∷ [] → names ≡ map name_of items → more ≡ map name_of all
named_more name_of items all x names more all_are more_are so_far =
    more_are ∙ ap (λ (ns : List (List ℕ)). ns ++ name_of x ∷ []) so_far ∙ sym (map_push name_of items x) ∙ ap (map name_of) (sym all_are)
