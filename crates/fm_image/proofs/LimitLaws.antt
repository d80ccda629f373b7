-- The limits of an image, one by one.
use Rattle.std.proofs.Common.{◌≡◌, ◌≤◌, ◌<◌, ◌+◌, ◌^◌, ℕ, Bool, true, false, cond, ◌&&◌, eqb, leb, List, [], ◌∷◌, ◌++◌, length, refl, ap, arith}
use Rattle.std.{specs.Prelude.IsTrue, specs.List.list_all, proofs.lemmas.List.nil_from_length, proofs.lemmas.Bool.{and_parts, and_from, le-leb, leb-true}}
use Rattle.std.proofs.lemmas.Bool.{eqb-true}
use Rattle.fm_image.{specs.declared.procedure.Mark.Mark, specs.declared.window.Window.Window, specs.Procedure.ProcedureOf, specs.Spelling.is_small}
use Rattle.fm_image.{specs.Image.ImageOf, specs.Limits.{Tables, tables_of, in_version_2, window_of, is_version, is_size, is_inside, is_window}}
use Rattle.fm_image.specs.Limits.{is_condition_address, is_count, most_conditions, is_condition, is_slot, is_variable, is_procedure, is_mark, are_tables}
use Rattle.fm_image.specs.Limits.{is_tables, all_after, is_image}

pub record Limits (image : ImageOf) : Type 0 where
  pub version : is_version image.version ≡ true
  pub window : is_window (window_of image) ≡ true
  pub registers : eqb (length image.registers) 16 ≡ true
  pub condition_address : is_condition_address (window_of image) image.condition_address ≡ true
  pub condition_count : is_count (most_conditions image.version) (length image.conditions) ≡ true
  pub conditions : all_after is_condition [] image.conditions ≡ true
  pub slot_count : is_count 200 (length image.slots) ≡ true
  pub slots : all_after (is_slot (window_of image)) [] image.slots ≡ true
  pub words : is_count image.size (length image.words) ≡ true
  pub tables : is_tables image.version (window_of image) (tables_of image) ≡ true

pub limits_of : (image : ImageOf) → IsTrue (is_image image) → Limits image
unfolding is_image
limits_of image h =
    let a = and_parts _ _ h in
    let b = and_parts _ _ a.0 in
    let c = and_parts _ _ b.0 in
    let d = and_parts _ _ c.0 in
    let e = and_parts _ _ d.0 in
    let f = and_parts _ _ e.0 in
    let g = and_parts _ _ f.0 in
    let v = and_parts _ _ g.0 in
    let w = and_parts _ _ v.0 in
    record {
      version = w.0;
      window = w.1;
      registers = v.1;
      condition_address = g.1;
      condition_count = f.1;
      conditions = e.1;
      slot_count = d.1;
      slots = c.1;
      words = b.1;
      tables = a.1;
    }

pub from_limits : (image : ImageOf) → Limits image → IsTrue (is_image image)
unfolding is_image
from_limits image l =
    let opened = and_from _ _ (and_from _ _ (and_from _ _ l.version l.window) l.registers) l.condition_address in
    let named = and_from _ _ (and_from _ _ (and_from _ _ (and_from _ _ opened l.condition_count) l.conditions) l.slot_count) l.slots in
    and_from _ _ (and_from _ _ named l.words) l.tables

-- whatever the version is
few_conditions : (one : Bool) → cond one 200 201 ≤ 201
few_conditions true = omega arith
few_conditions false = omega arith

pub condition_count : (image : ImageOf) → IsTrue (is_image image) → length image.conditions ≤ 201
condition_count image h =
    let most : length image.conditions ≤ most_conditions image.version = leb-true _ _ (limits_of image h).condition_count in
    let few = few_conditions (eqb image.version 1) in
    omega (arith, most, few)

pub slot_count : (image : ImageOf) → IsTrue (is_image image) → length image.slots ≤ 200
slot_count image h = leb-true _ _ (limits_of image h).slot_count

-- what an image's window keeps
pub record Sized (image : ImageOf) : Type 0 where
  pub some : 1 ≤ image.size
  pub few : image.size ≤ 1048576
  pub below : image.base + image.size ≤ 4294967295

pub sized : (image : ImageOf) → IsTrue (is_image image) → Sized image
sized image h =
    let window = and_parts (is_size image.base image.size) (is_inside image.base image.size image.final_pc) (limits_of image h).window in
    let below = and_parts (leb 1 image.size && leb image.size 1048576) (leb (image.base + image.size) 4294967295) window.0 in
    let size = and_parts (leb 1 image.size) (leb image.size 1048576) below.0 in
    record { some = leb-true 1 image.size size.0; few = leb-true image.size 1048576 size.1; below = leb-true (image.base + image.size) 4294967295 below.1 }

pub sixteen : (image : ImageOf) → IsTrue (is_image image) → length image.registers ≡ 16
sixteen image h = eqb-true _ _ (limits_of image h).registers

within_window : (image : ImageOf) → IsTrue (is_image image) → length image.words ≤ image.size
within_window image h = leb-true (length image.words) image.size (limits_of image h).words

-- at most 2^20 words
pub word_count : (image : ImageOf) → IsTrue (is_image image) → length image.words ≤ 1048576
word_count image h =
    let within = within_window image h in
    let small = (sized image h).few in
    omega (arith, within, small)

-- each word has an address of 32 bits
pub words_below : (image : ImageOf) → IsTrue (is_image image) → image.base + length image.words < 4294967296
words_below image h =
    let within = within_window image h in
    let below = (sized image h).below in
    omega (arith, within, below)

-- ---- what only version 2 has

pub record SmallTables (tables : Tables) : Type 0 where
  pub procedures : length tables.procedures ≤ 1000
  pub small : list_all is_small tables.procedures ≡ true
  pub marks : length tables.marks ≤ 1048576

all_small : (earlier procedures : List ProcedureOf) → all_after is_procedure earlier procedures ≡ true → list_all is_small procedures ≡ true
unfolding all_after
all_small earlier [] h = refl
all_small earlier (p ∷ procedures) h =
    let a = and_parts (is_procedure earlier p) (all_after is_procedure (earlier ++ p ∷ []) procedures) h in
    let b = and_parts _ (is_count 200 (length p.variables) && all_after is_variable [] p.variables) a.0 in
    let c = and_parts _ (is_count 201 (length p.conditions) && all_after is_condition [] p.conditions) b.0 in
    let conditions = and_parts (is_count 201 (length p.conditions)) (all_after is_condition [] p.conditions) c.1 in
    let variables = and_parts (is_count 200 (length p.variables)) (all_after is_variable [] p.variables) b.1 in
    and_from _ _ (and_from _ _ conditions.0 variables.0) (all_small (earlier ++ p ∷ []) procedures a.1)

small_tables : (one : Bool) (window : Window) (tables : Tables) → cond one (eqb (length tables.procedures) 0 && eqb (length tables.marks) 0)
    (are_tables window tables) ≡ true → SmallTables tables
small_tables true window tables h =
    let p = and_parts (eqb (length tables.procedures) 0) (eqb (length tables.marks) 0) h in
    let procedures : length tables.procedures ≡ 0 = eqb-true _ _ p.0 in
    let marks : length tables.marks ≡ 0 = eqb-true _ _ p.1 in
    record {
      procedures = omega (arith, procedures);
      small = ap (list_all is_small) (nil_from_length tables.procedures procedures);
      marks = omega (arith, marks);
    }
small_tables false window tables h =
    let p = and_parts (is_count 1000 (length tables.procedures) && all_after is_procedure [] tables.procedures)
    (is_count (2 ^ 20) (length tables.marks) && all_after (is_mark window (length tables.procedures)) [] tables.marks) h in
    let q = and_parts (is_count 1000 (length tables.procedures)) (all_after is_procedure [] tables.procedures) p.0 in
    let r = and_parts (is_count (2 ^ 20) (length tables.marks)) (all_after (is_mark window (length tables.procedures)) [] tables.marks) p.1 in
    record { procedures = leb-true _ _ q.0; small = all_small [] tables.procedures q.1; marks = leb-true _ _ r.0 }

pub tables_small : (image : ImageOf) → IsTrue (is_image image) → SmallTables (tables_of image)
tables_small image h = small_tables (eqb image.version 1) (window_of image) (tables_of image) (limits_of image h).tables

-- ---- the same image in version 2

more_conditions : (one : Bool) (count : ℕ) → is_count (cond one 200 201) count ≡ true → is_count 201 count ≡ true
more_conditions true count h = let few : count ≤ 200 = leb-true count 200 h in le-leb count 201 (omega (arith, few))
more_conditions false count h = h

no_procedures : (procedures : List ProcedureOf) → length procedures ≡ 0 → all_after is_procedure [] procedures ≡ true
unfolding all_after
no_procedures [] e = refl
no_procedures (p ∷ procedures) e = absurd (omega (arith, e))

no_marks : (window : Window) (count : ℕ) (marks : List Mark) → length marks ≡ 0 → all_after (is_mark window count) [] marks ≡ true
unfolding all_after
no_marks window count [] e = refl
no_marks window count (m ∷ marks) e = absurd (omega (arith, e))

more_tables : (one : Bool) (window : Window) (tables : Tables) → cond one (eqb (length tables.procedures) 0 && eqb (length tables.marks) 0)
    (are_tables window tables) ≡ true → are_tables window tables ≡ true
more_tables true window tables h =
    let p = and_parts (eqb (length tables.procedures) 0) (eqb (length tables.marks) 0) h in
    let procedures : length tables.procedures ≡ 0 = eqb-true _ _ p.0 in
    let marks : length tables.marks ≡ 0 = eqb-true _ _ p.1 in
    and_from _ _ (and_from _ _ (le-leb (length tables.procedures) 1000 (omega (arith, procedures))) (no_procedures tables.procedures procedures))
    (and_from _ _ (le-leb (length tables.marks) (2 ^ 20) (omega (arith, marks))) (no_marks window (length tables.procedures) tables.marks marks))
more_tables false window tables h = h

pub version_2_fits : (image : ImageOf) → IsTrue (is_image image) → IsTrue (is_image (in_version_2 image))
version_2_fits image h =
    let l = limits_of image h in
    from_limits (in_version_2 image) record {
      version = refl;
      window = l.window;
      registers = l.registers;
      condition_address = l.condition_address;
      condition_count = more_conditions (eqb image.version 1) (length image.conditions) l.condition_count;
      conditions = l.conditions;
      slot_count = l.slot_count;
      slots = l.slots;
      words = l.words;
      tables = more_tables (eqb image.version 1) (window_of image) (tables_of image) l.tables;
    }
