-- The laws of procedures and marks, which only version 2 has.
use Rattle.std.proofs.Common.{◌≡◌, ℕ, ◌+◌, ◌^◌, ◌<◌, ◌≤◌, Bool, true, false, cond, ◌&&◌, ltb, leb, eqb, List, [], ◌++◌, length, map, Option, Result, Ok, refl}
use Rattle.std.{proofs.Common.{sym, ap, subst, ◌∙◌, append_assoc, arith}, proofs.lemmas.Bool.{lt-ltb, ltb-true, leb-true, and_parts, and_from, eqb-true}}
use Rattle.std.proofs.lemmas.List.{nil_from_length}
use Rattle.stack_text.{specs.Results.◌>>=◌, proofs.ResultLaws.{bind_ok, bind_at}}
use Rattle.fm_image.specs.declared.fault.Rule.TheVariants as rules
use Rattle.fm_image.{specs.declared.procedure.Mark.Mark, specs.declared.window.Window.Window, specs.Procedure.ProcedureOf, specs.Limits.{Tables, no_tables}}
use Rattle.fm_image.specs.Limits.{is_size, is_inside, is_window, is_count, is_condition, all_after, is_variable, is_procedure, last_mark, is_after, is_place}
use Rattle.fm_image.{specs.Limits.{is_mark, are_tables, is_tables}, specs.Spelling.{number_bytes, name_bytes, counted_bytes, variable_bytes, procedure_bytes}}
use Rattle.fm_image.{specs.Spelling.{mark_bytes, tables_bytes}, specs.Rules.Fault, specs.Fields.{number_at, passing}, specs.Reading.new_name_at}
use Rattle.fm_image.specs.Reading.{conditions_at, variable_at, variables_at, procedure_at, procedures_at, mark_address_at, mark_at, marks_at, both_tables_at}
use Rattle.fm_image.{specs.Reading.tables_at, proofs.ReaderLaws.{IsBytes, ok_is, Took, Took-then, Reads, is_word, passing_reads, three_reads, counted_reads}}
use Rattle.fm_image.{proofs.FieldLaws.{small_reads, new_name_reads}, proofs.SlotLaws.variable_reads}

pub small_count : (most : ℕ) → most < 2 ^ 32 → (n : ℕ) → is_count most n ≡ true → is_word n ≡ true
small_count most lt n h = let le : n ≤ most = leb-true n most h in lt-ltb n (2 ^ 32) (omega (arith, le, lt))

pub conditions_reads : (most end : ℕ) → most < 2 ^ 32 → Reads (conditions_at most end) (counted_bytes name_bytes)
    (λ names. is_count most (length names) && all_after is_condition [] names)
unfolding conditions_at
conditions_reads most end lt = counted_reads (new_name_at end) name_bytes is_condition (new_name_reads end) (is_count most) end (small_count most lt)

variables_reads : (end : ℕ) → Reads (variables_at end) (counted_bytes variable_bytes)
    (λ variables. is_count 200 (length variables) && all_after is_variable [] variables)
unfolding variables_at
variables_reads end =
    counted_reads (λ earlier. variable_at end (map (λ variable. variable.name) earlier)) variable_bytes is_variable (variable_reads end) (is_count 200)
    end (small_count 200 (omega arith))

-- ---- procedures

procedure_reads : (end : ℕ) (earlier : List ProcedureOf) → Reads (procedure_at end (map (λ procedure. procedure.name) earlier)) procedure_bytes
    (is_procedure earlier)
unfolding procedure_at
procedure_reads end earlier =
    three_reads (λ name conditions variables. record { name = name; conditions = conditions; variables = variables }) (λ p. p.name) (λ p. p.conditions)
    (λ p. p.variables)
    (new_name_at end (map (λ procedure. procedure.name) earlier)) (λ name. conditions_at 201 end) (λ name conditions. variables_at end)
    name_bytes (counted_bytes name_bytes) (counted_bytes variable_bytes) procedure_bytes
    (is_condition (map (λ procedure. procedure.name) earlier)) (λ name names. is_count 201 (length names) && all_after is_condition [] names)
    (λ name names variables. is_count 200 (length variables) && all_after is_variable [] variables) (is_procedure earlier)
    (new_name_reads end (map (λ procedure. procedure.name) earlier)) (λ name. conditions_reads 201 end (omega arith)) (λ name names. variables_reads end)
    (λ name names variables. refl) (λ name names variables. refl) (λ p. refl)

procedures_reads : (end : ℕ) → Reads (procedures_at end) (counted_bytes procedure_bytes)
    (λ procedures. is_count 1000 (length procedures) && all_after is_procedure [] procedures)
unfolding procedures_at
procedures_reads end =
    counted_reads (λ earlier. procedure_at end (map (λ procedure. procedure.name) earlier)) procedure_bytes is_procedure (procedure_reads end)
    (is_count 1000) end (small_count 1000 (omega arith))

-- ---- marks

inside_small : (window : Window) → is_window window ≡ true → (n : ℕ) → is_inside window.base window.size n ≡ true → n < 2 ^ 32
inside_small window sized n h =
    let w = and_parts (is_size window.base window.size) (is_inside window.base window.size window.final_pc) sized in
    let v = and_parts (leb 1 window.size && leb window.size 1048576) (leb (window.base + window.size) 4294967295) w.0 in
    let last : window.base + window.size ≤ 4294967295 = leb-true (window.base + window.size) 4294967295 v.1 in
    let inside : n < window.base + window.size =
    ltb-true n (window.base + window.size) (and_parts (leb window.base n) (ltb n (window.base + window.size)) h).1 in
    omega (arith, last, inside)

mark_address_reads : (end : ℕ) (window : Window) → is_window window ≡ true → (before : Option Mark)
    → Reads (mark_address_at end window before) number_bytes (λ n. is_inside window.base window.size n && is_after before n)
mark_address_reads end window sized before =
    passing_reads (is_after before) rules.Order end (passing (is_inside window.base window.size) rules.Address end (number_at end)) number_bytes
    (is_inside window.base window.size)
    (small_reads (is_inside window.base window.size) rules.Address end (inside_small window sized))

number_small : (procedures n : ℕ) → procedures < 2 ^ 32 → ltb n procedures ≡ true → n < 2 ^ 32
number_small procedures n few h = let lt : n < procedures = ltb-true n procedures h in omega (arith, lt, few)

place_small : (n : ℕ) → is_place n ≡ true → n < 2 ^ 32
place_small n h = let lt : n < 1048576 = ltb-true n 1048576 h in omega (arith, lt)

mark_reads : (end : ℕ) (window : Window) → is_window window ≡ true → (procedures : ℕ) → procedures < 2 ^ 32 → (earlier : List Mark)
    → Reads (mark_at end window procedures (last_mark earlier)) mark_bytes (is_mark window procedures earlier)
unfolding mark_at
mark_reads end window sized procedures few earlier =
    three_reads (λ address procedure place. record { address = address; procedure = procedure; place = place }) (λ m. m.address) (λ m. m.procedure)
    (λ m. m.place)
    (mark_address_at end window (last_mark earlier)) (λ address. passing (λ n. ltb n procedures) rules.Limit end (number_at end))
    (λ address procedure. passing is_place rules.Limit end (number_at end))
    number_bytes number_bytes number_bytes mark_bytes (λ n. is_inside window.base window.size n && is_after (last_mark earlier) n)
    (λ address n. ltb n procedures) (λ address procedure. is_place) (is_mark window procedures earlier)
    (mark_address_reads end window sized (last_mark earlier))
    (λ address. small_reads (λ n. ltb n procedures) rules.Limit end (λ n. number_small procedures n few))
    (λ address procedure. small_reads is_place rules.Limit end place_small)
    (λ address procedure place. refl) (λ address procedure place. refl) (λ m. refl)

marks_reads : (end : ℕ) (window : Window) → is_window window ≡ true → (procedures : ℕ) → procedures < 2 ^ 32
    → Reads (marks_at end window procedures) (counted_bytes mark_bytes)
    (λ marks. is_count (2 ^ 20) (length marks) && all_after (is_mark window procedures) [] marks)
unfolding marks_at
marks_reads end window sized procedures few =
    counted_reads (λ earlier. mark_at end window procedures (last_mark earlier)) mark_bytes (is_mark window procedures)
    (mark_reads end window sized procedures few) (is_count (2 ^ 20)) end (small_count (2 ^ 20) (omega arith))

-- ---- both

abbrev both_bytes : Tables → List ℕ
both_bytes tables = counted_bytes procedure_bytes tables.procedures ++ counted_bytes mark_bytes tables.marks

abbrev marks_after : ℕ → Window → List ProcedureOf × List ℕ → Result (Tables × List ℕ) Fault
marks_after end window procedures =
    marks_at end window (length procedures.0) procedures.1 >>= λ marks. Ok (record { procedures = procedures.0; marks = marks.0 }, marks.1)

abbrev with_marks : List ProcedureOf → List Mark × List ℕ → Result (Tables × List ℕ) Fault
with_marks procedures marks = Ok (record { procedures = procedures; marks = marks.0 }, marks.1)

few_procedures : (n : ℕ) → is_count 1000 n ≡ true → n < 2 ^ 32
few_procedures n h = let le : n ≤ 1000 = leb-true n 1000 h in omega (arith, le)

-- so many procedures were read that their number is one of 32 bits
pub few_read : (end : ℕ) (bytes : List ℕ) (procedures : List ProcedureOf) (rest : List ℕ) → IsBytes bytes
    → procedures_at end bytes ≡ Ok (procedures, rest) → length procedures < 2 ^ 32
few_read end bytes procedures rest ok e =
    few_procedures (length procedures) (and_parts (is_count 1000 (length procedures)) (all_after is_procedure [] procedures)
    ((procedures_reads end).takes bytes procedures rest ok e).1).0

both_take : (end : ℕ) (window : Window) → is_window window ≡ true → (bytes : List ℕ) (t : Tables) (rest : List ℕ) → IsBytes bytes
    → both_tables_at end window bytes ≡ Ok (t, rest) → Took bytes (both_bytes t) rest × (are_tables window t ≡ true)
unfolding both_tables_at
both_take end window sized bytes t rest ok e =
    let a = bind_ok (procedures_at end bytes) (marks_after end window) (t, rest) e in
    let b = bind_ok (marks_at end window (length a.0.0) a.0.1) (with_marks a.0.0) (t, rest) a.2 in
    let p = (procedures_reads end).takes bytes a.0.0 a.0.1 ok a.1 in
    let few = few_procedures (length a.0.0) (and_parts (is_count 1000 (length a.0.0)) (all_after is_procedure [] a.0.0) p.1).0 in
    let m = (marks_reads end window sized (length a.0.0) few).takes a.0.1 b.0.0 b.0.1 p.0.rest_fits b.1 in
    let made : Tables × List ℕ = (record { procedures = a.0.0; marks = b.0.0 }, b.0.1) in
    subst (λ (y : Tables × List ℕ). Took bytes (both_bytes y.0) y.1 × (are_tables window y.0 ≡ true)) (ok_is made (t, rest) b.2)
    (Took-then bytes (counted_bytes procedure_bytes a.0.0) a.0.1 (counted_bytes mark_bytes b.0.0) b.0.1 p.0 m.0, and_from _ _ p.1 m.1)

both_again : (end : ℕ) (window : Window) → is_window window ≡ true → (t : Tables) (rest : List ℕ) → are_tables window t ≡ true
    → both_tables_at end window (both_bytes t ++ rest) ≡ Ok (t, rest)
unfolding both_tables_at
both_again end window sized t rest h =
    let p = and_parts (is_count 1000 (length t.procedures) && all_after is_procedure [] t.procedures)
    (is_count (2 ^ 20) (length t.marks) && all_after (is_mark window (length t.procedures)) [] t.marks) h in
    let few = few_procedures (length t.procedures) (and_parts (is_count 1000 (length t.procedures)) (all_after is_procedure [] t.procedures) p.0).0 in
    ap (both_tables_at end window) (append_assoc (counted_bytes procedure_bytes t.procedures) (counted_bytes mark_bytes t.marks) rest)
    ∙ bind_at (procedures_at end (counted_bytes procedure_bytes t.procedures ++ (counted_bytes mark_bytes t.marks ++ rest))) (marks_after end window)
    (t.procedures, counted_bytes mark_bytes t.marks ++ rest)
    ((procedures_reads end).again t.procedures (counted_bytes mark_bytes t.marks ++ rest) p.0)
    ∙ bind_at (marks_at end window (length t.procedures) (counted_bytes mark_bytes t.marks ++ rest)) (with_marks t.procedures) (t.marks, rest)
    ((marks_reads end window sized (length t.procedures) few).again t.marks rest p.1)

-- a reader that reads nothing in version 1
by_version : (one : Bool) (end : ℕ) (window : Window) → is_window window ≡ true
    → Reads (λ left. cond one (Ok (no_tables, left)) (both_tables_at end window left)) (λ t. cond one [] (both_bytes t))
    (λ t. cond one (eqb (length t.procedures) 0 && eqb (length t.marks) 0) (are_tables window t))
by_version true end window sized = record {
  takes = λ bytes t rest ok e.
      subst (λ (y : Tables × List ℕ). Took bytes [] y.1 × ((eqb (length y.0.procedures) 0 && eqb (length y.0.marks) 0) ≡ true))
      (ok_is (no_tables, bytes) (t, rest) e)
      (record { parts = refl; rest_fits = ok }, refl);
  again = λ t rest h.
      let p = and_parts (eqb (length t.procedures) 0) (eqb (length t.marks) 0) h in
      let procedures : t.procedures ≡ [] = nil_from_length t.procedures (eqb-true _ _ p.0) in
      let marks : t.marks ≡ [] = nil_from_length t.marks (eqb-true _ _ p.1) in
      λ i. Ok (record { procedures = sym procedures i; marks = sym marks i }, rest);
}
by_version false end window sized = record { takes = both_take end window sized; again = both_again end window sized }

pub tables_reads : (version end : ℕ) (window : Window) → is_window window ≡ true
    → Reads (tables_at version end window) (tables_bytes version) (is_tables version window)
unfolding tables_at
tables_reads version end window sized = by_version (eqb version 1) end window sized
