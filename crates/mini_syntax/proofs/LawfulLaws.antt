-- A program within the limits that breaks no rule can be lowered.
use Rattle.std.proofs.Common.{◌≡◌, ℕ, zero, suc, ◌+◌, ◌^◌, ◌<◌, ◌≤◌, max, List, [], ◌∷◌, ◌++◌, map, length, bytes_eq, true, false, cond, Option, Some, None}
use Rattle.std.{proofs.Common.{is_none, is_some, option_map, refl, sym, ap, ap₂, subst, ◌∙◌, append_assoc, arith}, specs.Prelude.{slice_get, ◌==◌, ◌&&◌}}
use Rattle.std.{specs.List.list_all, proofs.lemmas.Bool.{eqb-false, ltb-false}, proofs.lemmas.List.length-append, proofs.lemmas.Slice.Eq.bytes_eq-Decides}
use Rattle.std.specs.Prelude as std
use Rattle.stack_text.{specs.Breaches.when, proofs.SharedLaws.{rule_holds, rule_fails}}
use Rattle.mini_syntax.specs.Breaches.{breaches, body_of, decl_breaches, decls_breaches, declared_by, declared_of, is_too_large, named_from, names_of}
use Rattle.mini_syntax.specs.Breaches.{number_of, or_first, variable_named, sort_named, infix_breaches, prefix_breaches, same_sort, assigns_breaches}
use Rattle.mini_syntax.specs.Breaches.{test_breaches, expression_breaches, expression_sort, expression_exp, form_breaches, block_breaches, forms_breaches}
use Rattle.mini_syntax.{specs.Breaches.{form_stmt, block_stmt, forms_stmt}, specs.declared.program.Declared.Declared, specs.declared.scope.Variable.Variable}
use Rattle.mini_syntax.{specs.declared.sort.Sort.Sort, specs.declared.sort.Sort.TheVariants.{Int, Bool}, specs.declared.operator.Prefix.Prefix}
use Rattle.mini_syntax.{specs.declared.operator.Infix.Infix, specs.Grammar.{Expression, variable, number, truth, unary, binary, group, Form, assign, loop}}
use Rattle.mini_syntax.{specs.Grammar.{branch, Block, block, Forms, no_forms, form, Decl, InfixProgram}, specs.Operands.{infix_takes, prefix_sort, infix_sort}}
use Rattle.mini_syntax.{specs.Operands.sort_of, specs.Language.Exp, specs.Lawful.{AreApart, IsLawful, levels, part_count, nth_name}}
use Rattle.mini_syntax.specs.Internal.Limits.{expression_operators, form_blocks, block_blocks, forms_blocks, FormIsSmall, BlockIsSmall, FormsAreSmall}
use Rattle.mini_syntax.{specs.Internal.Limits.KeepsLimits, specs.Names.is_variable_name, specs.Sorted.{depth, IsWellSorted, IsFine, AreFine}}
use Rattle.mini_syntax.proofs.EmptyLaws.{two, three}
use Rattle.mini_syntax.specs.Language as language

-- ---- how deep an expression is

expression_depth : (ds : List Declared) (e : Expression) → depth (expression_exp ds e) ≤ suc (expression_operators e)
expression_depth ds (unary place op e) = let a = expression_depth ds e in omega (arith, a)
expression_depth ds (binary a place op b) = let l = expression_depth ds a in let r = expression_depth ds b in omega (arith, l, r)
expression_depth ds (group place e closing) = expression_depth ds e
expression_depth ds e = omega arith

-- ---- names

-- what is known of a variable that is found behind n others
record IsThere (n : ℕ) (ds : List Declared) (name : List ℕ) (v : Variable) : Type 0 where
  i : ℕ
  index : v.index ≡ n + i
  sort : slice_get (map (λ (d : Declared). d.sort) ds) i ≡ Some v.sort
  name_is : nth_name (names_of ds) i ≡ name

found_there : (n : ℕ) (ds : List Declared) (name : List ℕ) (v : Variable) → named_from n ds name ≡ Some v → IsThere n ds name v
found_there n [] name v e = cc
found_there n (d ∷ ds) name v e = pick (bytes_eq name d.name) refl e (λ rest. found_there (n + 1) ds name v rest)
  where
    pick : (b : std.Bool) → bytes_eq name d.name ≡ b → cond b (Some record { index = n; sort = d.sort }) (named_from (n + 1) ds name) ≡ Some v
        → (named_from (n + 1) ds name ≡ Some v → IsThere (n + 1) ds name v) → IsThere n (d ∷ ds) name v
    pick true p q later =
        let same : record { index = n; sort = d.sort } ≡ v = cc in
        record {
          i = 0;
          index = ap (λ (w : Variable). w.index) (sym same) ∙ (let e : n ≡ n + 0 = omega arith in e);
          sort = ap (λ (w : Variable). Some w.sort) same;
          name_is = sym ((bytes_eq-Decides name d.name).0 p);
        }
    pick false p q later =
        let there = later q in
        record { i = suc there.i; index = omega (arith, there.index); sort = there.sort; name_is = there.name_is }

some_found : (o : Option Variable) → is_none o ≡ false → o ≡ Some (or_first o)
some_found None e = cc
some_found (Some v) e = refl

variable_there : (ds : List Declared) (name : List ℕ) → is_none (variable_named ds name) ≡ false → IsThere 0 ds name (or_first (variable_named ds name))
variable_there ds name e = found_there 0 ds name (or_first (variable_named ds name)) (some_found (variable_named ds name) e)

-- a name that is declared is the one at its position
pub name_there : (ds : List Declared) (name : List ℕ) → is_none (variable_named ds name) ≡ false
    → nth_name (names_of ds) (or_first (variable_named ds name)).index ≡ name
name_there ds name e =
    let v = variable_there ds name e in
    let at : (or_first (variable_named ds name)).index ≡ v.i = omega (arith, v.index) in
    ap (nth_name (names_of ds)) at ∙ v.name_is

-- ---- sorts

-- an expression is sorted, and its sort is known
record Known (ds : List Declared) (s : Option Sort) (e : Exp) : Type 0 where
  sorted : IsWellSorted (map (λ (d : Declared). d.sort) ds) e
  sort : s ≡ Some (sort_of e)

variable_known : (ds : List Declared) (name : List ℕ) → is_none (variable_named ds name) ≡ false →
    Known ds (sort_named ds name) (language.Variable (or_first (variable_named ds name)).sort (or_first (variable_named ds name)).index)
variable_known ds name e =
    let v = variable_there ds name e in
    let at : (or_first (variable_named ds name)).index ≡ v.i = omega arith in
    record { sorted = cc (at, v.sort); sort = ap (option_map _) (some_found _ e) }

infix_known : (ds : List Declared) (place : ℕ) (op : Infix) (s t : Option Sort) (a b : Exp) → Known ds s a → Known ds t b → infix_breaches place op s t ≡ [] →
    Known ds (Some (infix_sort op)) (language.Between op a b)
infix_known ds place op s t a b p r e = record {
  sorted = (p.sorted, r.sorted, rule_holds (infix_takes op (sort_of a) (sort_of b)) place 7 (sym (ap₂ (infix_breaches place op) p.sort r.sort) ∙ e));
  sort = refl;
}

prefix_known : (ds : List Declared) (place : ℕ) (op : Prefix) (s : Option Sort) (a : Exp) → Known ds s a → prefix_breaches place op s ≡ []
    → Known ds (Some (prefix_sort op)) (language.Before op a)
prefix_known ds place op s a p e = record { sorted = (p.sorted, rule_holds _ place 7 (sym (ap (prefix_breaches place op) p.sort) ∙ e)); sort = refl }

expression_known : (ds : List Declared) (e : Expression) → expression_breaches ds e ≡ [] → Known ds (expression_sort ds e) (expression_exp ds e)
expression_known ds (variable place name) h = variable_known ds name (rule_fails (is_none (variable_named ds name)) place 6 h)
expression_known ds (number place digits) h = record { sorted = small (is_too_large (number_of digits)) refl; sort = refl }
  where
    small : (b : std.Bool) → is_too_large (number_of digits) ≡ b → cond b 0 (number_of digits) < 2 ^ 31
    small true e = omega arith
    small false e = let le : number_of digits ≤ 2147483647 = ltb-false 2147483647 (number_of digits) e in omega (arith, le)
expression_known ds (truth place b) h = record { sorted = tt; sort = refl }
expression_known ds (unary place op e) h =
    let k = two _ _ h in
    prefix_known ds place op _ _ (expression_known ds e k.0) k.1
expression_known ds (binary a place op b) h =
    let k = three _ _ _ h in
    infix_known ds place op _ _ _ _ (expression_known ds a k.0) (expression_known ds b k.1) k.2
expression_known ds (group place e closing) h = expression_known ds e h

-- ---- statements

same_sorts : (s t : Sort) → same_sort s t ≡ true → s ≡ t
same_sorts Int Int e = refl
same_sorts Int Bool e = cc
same_sorts Bool Int e = cc
same_sorts Bool Bool e = refl

fine_of : (ds : List Declared) (e : Expression) (s : Sort) → expression_breaches ds e ≡ [] → expression_operators e ≤ 40 →
    sort_of (expression_exp ds e) ≡ s → IsFine (map (λ (d : Declared). d.sort) ds) s (expression_exp ds e)
fine_of ds e s clean small same = record {
  sorted = (expression_known ds e clean).sorted;
  same = same;
  shallow = let deep = expression_depth ds e in omega (arith, deep, small);
}

test_fine : (ds : List Declared) (place : ℕ) (e : Expression) → test_breaches place (expression_sort ds e) ≡ [] → expression_breaches ds e ≡ [] →
    expression_operators e ≤ 40 → IsFine (map (λ (d : Declared). d.sort) ds) Bool (expression_exp ds e)
test_fine ds place e test clean small = fine_of ds e Bool clean small (same_sorts _ Bool (rule_holds _ place 7 (sym (ap (test_breaches place)
    (expression_known ds e clean).sort) ∙ test)))

mutual
  form_fine : (ds : List Declared) (f : Form) → form_breaches ds f ≡ [] → FormIsSmall f → AreFine (map (λ (d : Declared). d.sort) ds) (form_stmt ds f)
  form_fine ds (assign place name becomes e closing) h small =
      let k = three _ _ _ h in
      let known = variable_known ds name (rule_fails _ place 6 k.0) in
      let s = (or_first (variable_named ds name)).sort in
      let same : s ≡ sort_of (expression_exp ds e) = same_sorts s _ (rule_holds _ becomes 7
      (sym (ap₂ (assigns_breaches becomes) known.sort (expression_known ds e k.1).sort) ∙ k.2)) in
      (known.sorted ∙ ap Some same, fine_of ds e _ k.1 small.0 refl)
  form_fine ds (loop place e b) h small =
      let k = three _ _ _ h in
      (test_fine ds place e k.1 k.0 small.0.0, block_fine ds b k.2 small.1)
  form_fine ds (branch place e b otherwise c) h small =
      let k = three _ _ _ h in
      let l = two _ _ k.2 in
      (test_fine ds place e k.1 k.0 small.0.0, block_fine ds b l.0 small.1, block_fine ds c l.1 small.2)

  block_fine : (ds : List Declared) (b : Block) → block_breaches ds b ≡ [] → BlockIsSmall b → AreFine (map (λ (d : Declared). d.sort) ds) (block_stmt ds b)
  block_fine ds (block place fs closing) h small = forms_fine ds fs h small

  forms_fine : (ds : List Declared) (fs : Forms) → forms_breaches ds fs ≡ [] → FormsAreSmall fs → AreFine (map (λ (d : Declared). d.sort) ds) (forms_stmt ds fs)
  forms_fine ds no_forms h small = tt
  forms_fine ds (form f rest) h small =
      let k = two _ _ h in
      (form_fine ds f k.0 small.0, forms_fine ds rest k.1 small.1)

-- blocks nest as in the text
mutual
  form_levels : (ds : List Declared) (f : Form) → levels (form_stmt ds f) ≡ form_blocks f
  form_levels ds (assign place name becomes e closing) = refl
  form_levels ds (loop place e b) = block_levels ds b
  form_levels ds (branch place e b otherwise c) = let a = block_levels ds b in let d = block_levels ds c in omega (arith, a, d)

  block_levels : (ds : List Declared) (b : Block) → suc (levels (block_stmt ds b)) ≡ block_blocks b
  block_levels ds (block place fs closing) = ap suc (forms_levels ds fs)

  forms_levels : (ds : List Declared) (fs : Forms) → levels (forms_stmt ds fs) ≡ forms_blocks fs
  forms_levels ds no_forms = refl
  forms_levels ds (form f rest) = ap₂ max (form_levels ds f) (forms_levels ds rest)

-- ---- declarations

few_declared : (earlier : List Declared) (ds : List Decl) → length earlier ≤ 100 → decls_breaches earlier ds ≡ [] → length earlier + length ds ≤ 100
few_declared earlier [] le h = omega arith
few_declared earlier (d ∷ ds) le h =
    let k = two (decl_breaches earlier d) (decls_breaches (earlier ++ declared_by d ∷ []) ds) h in
    let l = two (when (is_some (variable_named earlier d.name)) d.place 5) (when (length earlier == 100) d.place 9) k.0 in
    let differs = eqb-false (length earlier) 100 (rule_fails (length earlier == 100) d.place 9 l.1) in
    let longer = length-append earlier (declared_by d ∷ []) in
    let rest = few_declared (earlier ++ declared_by d ∷ []) ds (omega (arith, differs, longer)) k.1 in
    omega (arith, rest, longer)

-- a name that isn't found is none of these
none_named : (n : ℕ) (front : List Declared) (d : Declared) (back : List Declared) (name : List ℕ)
    → is_some (named_from n (front ++ d ∷ back) name) ≡ false → bytes_eq name d.name ≡ false
none_named n [] d back name e = pick (bytes_eq name d.name) e
  where
    pick : (b : std.Bool) → is_some (cond b (Some record { index = n; sort = d.sort }) (named_from (n + 1) back name)) ≡ false → b ≡ false
    pick true q = cc
    pick false q = refl
none_named n (c ∷ front) d back name e = pick (bytes_eq name c.name) e (λ rest. none_named (n + 1) front d back name rest)
  where
    pick : (b : std.Bool) → is_some (cond b (Some record { index = n; sort = c.sort }) (named_from (n + 1) (front ++ d ∷ back) name)) ≡ false →
        (is_some (named_from (n + 1) (front ++ d ∷ back) name) ≡ false → bytes_eq name d.name ≡ false) → bytes_eq name d.name ≡ false
    pick true q later = cc
    pick false q later = later q

-- a later name is none of the earlier ones
new_names : (front : List Declared) (d : Declared) (back : List Declared) (ds : List Decl) → decls_breaches (front ++ d ∷ back) ds ≡ [] → (i : ℕ)
    → i < length (map (λ (e : Decl). e.name) ds) →
    bytes_eq (nth_name (map (λ (e : Decl). e.name) ds) i) d.name ≡ false
new_names front d back [] h i lt = absurd (omega arith)
new_names front d back (e ∷ ds) h zero lt =
    let k = two (decl_breaches (front ++ d ∷ back) e) (decls_breaches ((front ++ d ∷ back) ++ declared_by e ∷ []) ds) h in
    let l = two (when (is_some (variable_named (front ++ d ∷ back) e.name)) e.place 5) (when (length (front ++ d ∷ back) == 100) e.place 9) k.0 in
    none_named 0 front d back e.name (rule_fails (is_some (variable_named (front ++ d ∷ back) e.name)) e.place 5 l.0)
new_names front d back (e ∷ ds) h (suc i) lt =
    let k = two (decl_breaches (front ++ d ∷ back) e) (decls_breaches ((front ++ d ∷ back) ++ declared_by e ∷ []) ds) h in
    let moved : (front ++ d ∷ back) ++ declared_by e ∷ [] ≡ front ++ d ∷ (back ++ declared_by e ∷ []) = append_assoc front (d ∷ back) (declared_by e ∷ []) in
    new_names front d (back ++ declared_by e ∷ []) ds (ap (λ (earlier : List Declared). decls_breaches earlier ds) (sym moved) ∙ k.1) i (omega arith)

apart_names : (earlier : List Declared) (ds : List Decl) → decls_breaches earlier ds ≡ [] → AreApart (map (λ (d : Decl). d.name) ds)
apart_names earlier [] h = tt
apart_names earlier (d ∷ ds) h =
    let k = two (decl_breaches earlier d) (decls_breaches (earlier ++ declared_by d ∷ []) ds) h in
    (new_names earlier (declared_by d) [] ds k.1, apart_names (earlier ++ declared_by d ∷ []) ds k.1)

declared_names : (ds : List Decl) → map (λ (d : Declared). d.name) (map declared_by ds) ≡ map (λ (d : Decl). d.name) ds
declared_names [] = refl
declared_names (d ∷ ds) = ap (λ (ns : List (List ℕ)). d.name ∷ ns) (declared_names ds)

declared_good : (ds : List Decl) → list_all (λ (d : Decl). is_variable_name d.name) ds ≡ true
    → list_all (λ (d : Declared). is_variable_name d.name) (map declared_by ds) ≡ true
declared_good [] h = refl
declared_good (d ∷ ds) h = pick (is_variable_name d.name) (list_all (λ (e : Decl). is_variable_name e.name) ds) (declared_good ds) h
  where
    pick : (p q : std.Bool) → (q ≡ true → list_all (λ (e : Declared). is_variable_name e.name) (map declared_by ds) ≡ true) → (p && q) ≡ true →
        (p && list_all (λ (e : Declared). is_variable_name e.name) (map declared_by ds)) ≡ true
    pick true q later e = later e
    pick false q later e = cc

declared_count : (ds : List Decl) → length (map declared_by ds) ≡ length ds
declared_count [] = refl
declared_count (d ∷ ds) = ap suc (declared_count ds)

pub rules_make_lawful : (p : InfixProgram) → KeepsLimits p → breaches p ≡ [] → part_count (body_of p) ≤ 2 ^ 20 → IsLawful (declared_of p) (body_of p)
rules_make_lawful p limits clean short =
    let k = two (decls_breaches [] p.decls) (forms_breaches (declared_of p) p.forms) clean in
    record {
      names = declared_good p.decls limits.names;
      apart = subst AreApart (sym (declared_names p.decls)) (apart_names [] p.decls k.0);
      few = let few = few_declared [] p.decls (omega arith) k.0 in omega (arith, few, declared_count p.decls);
      fine = forms_fine (declared_of p) p.forms k.1 limits.expressions;
      shallow = let same = forms_levels (declared_of p) p.forms in omega (arith, same, limits.blocks);
      short = short;
    }
