-- The lowered source breaks no static rule.
use Rattle.std.proofs.Common.{◌≡◌, ℕ, zero, suc, ◌+◌, ◌^◌, ◌<◌, ◌≤◌, List, [], ◌∷◌, ◌++◌, map, length, bytes_eq, true, false, Some, refl, ap, ap₂, arith}
use Rattle.std.{specs.Prelude.{pos, ◌||◌}, specs.List.flat_map, proofs.lemmas.Bool.{lt-ltb, le-ltb, or_parts}}
use Rattle.std.specs.Prelude as std
use Rattle.stack_text.{specs.Names.{is_among, place_among}, specs.declared.breach.Breach.Breach, specs.declared.name.Named.Named, specs.Breaches.when}
use Rattle.stack_text.proofs.SharedLaws.{rule_fails, append_none, both_none}
use Rattle.gypsy_syntax.{specs.declared.literal.Decl.Decl, specs.declared.literal.TypeText.TypeText, specs.Keywords.{keyword_name, form_named, predef_named}}
use Rattle.gypsy_syntax.{specs.Made.{statements, new_seq, new_predef, new_simple}, specs.Predefined.slots_of, specs.ProgramFits.Each, specs.Sources.integer}
use Rattle.gypsy_syntax.specs.Sources.{truth, constant, loop, LocalOf, StmtOf, ProcOf, SourceOf}
use Rattle.gypsy_syntax.specs.declared.predef.Predef.TheVariants as row
use Rattle.gypsy_check.{specs.Declarations.{type_of, repeats}, specs.Rules.{predef_breaches, statement_breaches, parts_breaches, type_breaches, local_breaches}}
use Rattle.gypsy_check.{specs.Rules.{procedure_breaches, violations}, specs.Types.words_of_types}
use Rattle.mini_syntax.{specs.declared.program.Declared.Declared, specs.declared.sort.Sort.Sort, specs.declared.sort.Sort.TheVariants.{Int, Bool}}
use Rattle.mini_syntax.{specs.declared.operator.Prefix.Prefix, specs.declared.operator.Prefix.TheVariants.{Not, Minus}, specs.declared.operator.Infix.Infix}
use Rattle.mini_syntax.{specs.declared.operator.Infix.TheVariants.{Or, And, AtMost, Equals, Add, Subtract, Multiply}, specs.Operands.prefix_takes}
use Rattle.mini_syntax.{specs.Operands.{infix_takes, sort_of, prefix_sort, infix_sort}, specs.Language.{Exp, Variable, Number, Truth, Before, Between, Stmt}}
use Rattle.mini_syntax.{specs.Language.{Nothing, Then, Assign, While, If}, specs.Lawful.{AreApart, IsLawful, nth_name}, specs.Names.is_variable_name}
use Rattle.mini_syntax.specs.Sorted.{depth, IsWellSorted, AreFine, depths}
use Rattle.mini_gypsy.specs.Lowered.{kind_of, decl_of, locals_from, temporary_name, temporaries, argument, set_name, value_parts, statement_parts, block_parts}
use Rattle.mini_gypsy.{specs.Lowered.{choice_parts, leave, main_procedure, lowered}, specs.Steps.{prefix_row, infix_row}, proofs.NameLaws.{all_named, Knows}}
use Rattle.mini_gypsy.{proofs.NameLaws.{knows, marked}, proofs.ResolveLaws.depth_some}

module _ (q : SourceOf) (p : ProcOf) where
  set_clean : (s : Sort) (a b : List ℕ) → type_of p a ≡ Some (new_simple 0 (kind_of s)) → type_of p b ≡ Some (new_simple 0 (kind_of s)) →
      predef_breaches p 0 (slots_of row.MgSimpleVariableAssignment) (argument a ∷ argument b ∷ []) ≡ []
  set_clean Int a b f g = rw (f, g) refl
  set_clean Bool a b f g = rw (f, g) refl

  number_clean : (n : ℕ) (a : List ℕ) → n < 2 ^ 31 → type_of p a ≡ Some (new_simple 0 (kind_of Int)) →
      predef_breaches p 0 (slots_of row.MgSimpleConstantAssignment) (argument a ∷ constant (integer 0 (pos n)) ∷ []) ≡ []
  number_clean n a lt f = rw (f, lt-ltb n (2 ^ 31) lt) refl

  truth_clean : (b : std.Bool) (a : List ℕ) → type_of p a ≡ Some (new_simple 0 (kind_of Bool)) →
      predef_breaches p 0 (slots_of row.MgSimpleConstantAssignment) (argument a ∷ constant (truth 0 b) ∷ []) ≡ []
  truth_clean b a f = rw f refl

  prefix_clean : (op : Prefix) (s : Sort) (c a : List ℕ) → prefix_takes op s ≡ true → type_of p c ≡ Some (new_simple 0 (kind_of (prefix_sort op)))
      → type_of p a ≡ Some (new_simple 0 (kind_of s)) →
      predef_breaches p 0 (slots_of (prefix_row op)) (argument c ∷ argument a ∷ []) ≡ []
  prefix_clean Not Int c a takes f g = cc
  prefix_clean Not Bool c a takes f g = rw (f, g) refl
  prefix_clean Minus Int c a takes f g = rw (f, g) refl
  prefix_clean Minus Bool c a takes f g = cc

  infix_clean : (op : Infix) (s t : Sort) (c a b : List ℕ) → infix_takes op s t ≡ true → type_of p c ≡ Some (new_simple 0 (kind_of (infix_sort op))) →
      type_of p a ≡ Some (new_simple 0 (kind_of s)) → type_of p b ≡ Some (new_simple 0 (kind_of t)) →
      predef_breaches p 0 (slots_of (infix_row op)) (argument c ∷ argument a ∷ argument b ∷ []) ≡ []
  infix_clean Or Int Int c a b takes f g h = cc
  infix_clean Or Int Bool c a b takes f g h = cc
  infix_clean Or Bool Int c a b takes f g h = cc
  infix_clean Or Bool Bool c a b takes f g h = rw (f, g, h) refl
  infix_clean And Int Int c a b takes f g h = cc
  infix_clean And Int Bool c a b takes f g h = cc
  infix_clean And Bool Int c a b takes f g h = cc
  infix_clean And Bool Bool c a b takes f g h = rw (f, g, h) refl
  infix_clean AtMost Int Int c a b takes f g h = rw (f, g, h) refl
  infix_clean AtMost Int Bool c a b takes f g h = cc
  infix_clean AtMost Bool Int c a b takes f g h = cc
  infix_clean AtMost Bool Bool c a b takes f g h = cc
  infix_clean Equals Int Int c a b takes f g h = rw (f, g, h) refl
  infix_clean Equals Int Bool c a b takes f g h = cc
  infix_clean Equals Bool Int c a b takes f g h = cc
  infix_clean Equals Bool Bool c a b takes f g h = rw (f, g, h) refl
  infix_clean Add Int Int c a b takes f g h = rw (f, g, h) refl
  infix_clean Add Int Bool c a b takes f g h = cc
  infix_clean Add Bool Int c a b takes f g h = cc
  infix_clean Add Bool Bool c a b takes f g h = cc
  infix_clean Subtract Int Int c a b takes f g h = rw (f, g, h) refl
  infix_clean Subtract Int Bool c a b takes f g h = cc
  infix_clean Subtract Bool Int c a b takes f g h = cc
  infix_clean Subtract Bool Bool c a b takes f g h = cc
  infix_clean Multiply Int Int c a b takes f g h = rw (f, g, h) refl
  infix_clean Multiply Int Bool c a b takes f g h = cc
  infix_clean Multiply Bool Int c a b takes f g h = cc
  infix_clean Multiply Bool Bool c a b takes f g h = cc

  parts_append : (l : std.Bool) (xs ys : List StmtOf) → parts_breaches q p l (statements xs) ≡ [] → parts_breaches q p l (statements ys) ≡ []
      → parts_breaches q p l (statements (xs ++ ys)) ≡ []
  parts_append l [] ys e f = f
  parts_append l (s ∷ xs) ys e f =
      let k = append_none (statement_breaches q p l s) (parts_breaches q p l (statements xs)) e in
      both_none (statement_breaches q p l s) (parts_breaches q p l (statements (xs ++ ys))) k.0 (parts_append l xs ys k.1 f)

  one_clean : (l : std.Bool) (s : StmtOf) → statement_breaches q p l s ≡ [] → parts_breaches q p l (statements (s ∷ [])) ≡ []
  one_clean l s e = both_none (statement_breaches q p l s) [] e refl

  module _ (names : List (List ℕ)) (sorts : List Sort) (known : Knows names sorts p) where
    values_clean : (l : std.Bool) (k : ℕ) (e : Exp) → IsWellSorted sorts e → k + depth e ≤ depths
        → parts_breaches q p l (statements (value_parts names k e)) ≡ []
    unfolding value_parts
    values_clean l k (Variable s i) sorted small =
        one_clean l (set_name (temporary_name s k) (nth_name names i))
        (set_clean s (temporary_name s k) (nth_name names i) (known.temporary_type s k (omega arith)) (known.declared_type i s sorted))
    values_clean l k (Number n) sorted small =
        one_clean l (new_predef 0 row.MgSimpleConstantAssignment (argument (temporary_name Int k) ∷ constant (integer 0 (pos n)) ∷ []))
        (number_clean n (temporary_name Int k) sorted (known.temporary_type Int k (omega arith)))
    values_clean l k (Truth b) sorted small =
        one_clean l (new_predef 0 row.MgSimpleConstantAssignment (argument (temporary_name Bool k) ∷ constant (truth 0 b) ∷ []))
        (truth_clean b (temporary_name Bool k) (known.temporary_type Bool k (omega arith)))
    values_clean l k (Before op e) sorted small =
        let some = depth_some e in
        let last = new_predef 0 (prefix_row op) (argument (temporary_name (prefix_sort op) k) ∷ argument (temporary_name (sort_of e) k) ∷ []) in
        parts_append l (value_parts names k e) (last ∷ []) (values_clean l k e sorted.0 small)
        (one_clean l last (prefix_clean op (sort_of e) (temporary_name (prefix_sort op) k) (temporary_name (sort_of e) k) sorted.1
        (known.temporary_type (prefix_sort op) k (omega arith)) (known.temporary_type (sort_of e) k (omega arith))))
    values_clean l k (Between op a b) sorted small =
        let some = depth_some b in
        let last = new_predef 0 (infix_row op) (argument (temporary_name (infix_sort op) k) ∷ argument (temporary_name (sort_of a) k)
        ∷ argument (temporary_name (sort_of b) (suc k)) ∷ []) in
        parts_append l (value_parts names k a) (value_parts names (suc k) b ++ last ∷ []) (values_clean l k a sorted.0 (omega arith))
        (parts_append l (value_parts names (suc k) b) (last ∷ []) (values_clean l (suc k) b sorted.1 (omega arith))
        (one_clean l last (infix_clean op (sort_of a) (sort_of b) (temporary_name (infix_sort op) k) (temporary_name (sort_of a) k)
        (temporary_name (sort_of b) (suc k)) sorted.2
        (known.temporary_type (infix_sort op) k (omega arith)) (known.temporary_type (sort_of a) k (omega arith))
        (known.temporary_type (sort_of b) (suc k) (omega arith)))))

    choice_clean : (l : std.Bool) (s t : StmtOf) → statement_breaches q p l s ≡ [] → statement_breaches q p l t ≡ []
        → statement_breaches q p l (choice_parts s t) ≡ []
    choice_clean l s t e f = rw (known.temporary_type Bool 0 (omega arith)) (both_none (statement_breaches q p l s) (statement_breaches q p l t) e f)

    statements_clean : (l : std.Bool) (s : Stmt) → AreFine sorts s → parts_breaches q p l (statements (statement_parts names s)) ≡ []
    unfolding statement_parts
    statements_clean l Nothing fine = refl
    statements_clean l (Then s t) fine =
        parts_append l (statement_parts names s) (statement_parts names t) (statements_clean l s fine.0) (statements_clean l t fine.1)
    statements_clean l (Assign i e) fine =
        parts_append l (value_parts names 0 e) (set_name (nth_name names i) (temporary_name (sort_of e) 0) ∷ [])
        (values_clean l 0 e fine.1.sorted (omega (arith, fine.1.shallow)))
        (one_clean l (set_name (nth_name names i) (temporary_name (sort_of e) 0))
        (set_clean (sort_of e) (nth_name names i) (temporary_name (sort_of e) 0) (known.declared_type i (sort_of e) fine.0)
        (known.temporary_type (sort_of e) 0 (omega arith))))
    statements_clean l (While e s) fine =
        let block = block_parts (statement_parts names s) in
        one_clean l (loop 0 (new_seq 0 (value_parts names 0 e ++ choice_parts block leave ∷ [])))
        (parts_append true (value_parts names 0 e) (choice_parts block leave ∷ []) (values_clean true 0 e fine.0.sorted (omega (arith, fine.0.shallow)))
        (one_clean true (choice_parts block leave) (choice_clean true block leave (statements_clean true s fine.1) refl)))
    statements_clean l (If e s t) fine =
        let block = block_parts (statement_parts names s) in
        let other = block_parts (statement_parts names t) in
        parts_append l (value_parts names 0 e) (choice_parts block other ∷ []) (values_clean l 0 e fine.0.sorted (omega (arith, fine.0.shallow)))
        (one_clean l (choice_parts block other) (choice_clean l block other (statements_clean l s fine.1) (statements_clean l t fine.2)))

-- Names that differ.

or_none : (a b : std.Bool) → a ≡ false → b ≡ false → (a || b) ≡ false
or_none a b e f = ap₂ (λ (x y : std.Bool). x || y) e f

-- among more names, none of which these are
repeats_apart : (rule : ℕ) (known earlier : List (List ℕ)) (ns : List Named) → Each (λ (n : Named). is_among n.name earlier ≡ false) ns
    → repeats rule known ns ≡ [] → repeats rule (known ++ earlier) ns ≡ []
repeats_apart rule known earlier [] apart e = refl
repeats_apart rule known earlier (n ∷ ns) apart e =
    let k = append_none (when (is_among n.name known) n.place rule) (repeats rule (n.name ∷ known) ns) e in
    both_none (when (is_among n.name (known ++ earlier)) n.place rule) (repeats rule (n.name ∷ (known ++ earlier)) ns)
    (ap (λ (b : std.Bool). when b n.place rule) (any_append n.name known earlier (rule_fails (is_among n.name known) n.place rule k.0) apart.0))
    (repeats_apart rule (n.name ∷ known) earlier ns apart.1 k.1)
  where
    any_append : (name : List ℕ) (xs ys : List (List ℕ)) → is_among name xs ≡ false → is_among name ys ≡ false → is_among name (xs ++ ys) ≡ false
    any_append name [] ys e f = f
    any_append name (x ∷ xs) ys e f =
        let k = or_parts (bytes_eq name x) (is_among name xs) e in
        or_none (bytes_eq name x) (is_among name (xs ++ ys)) k.0 (any_append name xs ys k.1 f)

-- no temporary is among these
record NoneTemporary (earlier : List (List ℕ)) : Type 0 where
  misses : (s : Sort) (k : ℕ) → k < depths → is_among (temporary_name s k) earlier ≡ false

locals_miss : (earlier : List (List ℕ)) (s : Sort) (k count : ℕ) → k + count ≤ depths → NoneTemporary earlier →
    Each (λ (n : Named). is_among n.name earlier ≡ false) (map (λ (l : LocalOf). l.decl.name) (locals_from s k count))
unfolding locals_from
locals_miss earlier s k zero le none = tt
locals_miss earlier s k (suc count) le none = (none.misses s k (omega arith), locals_miss earlier s (k + 1) count (omega arith) none)

each_append : {X : Type 0} (P : X → Type 0) (xs ys : List X) → Each P xs → Each P ys → Each P (xs ++ ys)
each_append P [] ys e f = f
each_append P (x ∷ xs) ys e f = (e.0, each_append P xs ys e.1 f)

temporaries_miss : (earlier : List (List ℕ)) → NoneTemporary earlier → Each (λ (n : Named). is_among n.name earlier ≡ false)
    (map (λ (l : LocalOf). l.decl.name) temporaries)
unfolding temporaries locals_from
temporaries_miss earlier none =
    each_append (λ (n : Named). is_among n.name earlier ≡ false) (map (λ (l : LocalOf). l.decl.name) (locals_from Int 0 depths))
    (map (λ (l : LocalOf). l.decl.name) (locals_from Bool 0 depths))
    (locals_miss earlier Int 0 depths (omega arith) none) (locals_miss earlier Bool 0 depths (omega arith) none)

temporaries_differ : repeats 4 [] (map (λ (l : LocalOf). l.decl.name) temporaries) ≡ []
unfolding temporaries locals_from
temporaries_differ = refl

variables_differ : (ds : List Declared) (earlier : List (List ℕ)) → Each (λ d. is_variable_name d.name ≡ true) ds → AreApart (map (λ d. d.name) ds) →
    ((i : ℕ) → i < length (map (λ (d : Declared). d.name) ds) → is_among (nth_name (map (λ (d : Declared). d.name) ds) i) earlier ≡ false)
    → NoneTemporary earlier →
    repeats 4 earlier (map (λ (d : Decl). d.name) (map (λ (d : Declared). decl_of d.name d.sort) ds) ++ map (λ (l : LocalOf). l.decl.name) temporaries) ≡ []
variables_differ [] earlier good apart new none =
    repeats_apart 4 [] earlier (map (λ (l : LocalOf). l.decl.name) temporaries) (temporaries_miss earlier none) temporaries_differ
variables_differ (d ∷ ds) earlier good apart new none =
    both_none (when (is_among d.name earlier) 0 4)
    (repeats 4 (d.name ∷ earlier) (map (λ (e : Decl). e.name) (map (λ (e : Declared). decl_of e.name e.sort) ds)
    ++ map (λ (l : LocalOf). l.decl.name) temporaries))
    (ap (λ (b : std.Bool). when b 0 4) (new 0 (omega arith)))
    (variables_differ ds (d.name ∷ earlier) good.1 apart.1
    (λ i lt. or_none (bytes_eq (nth_name (map (λ (e : Declared). e.name) ds) i) d.name)
    (is_among (nth_name (map (λ (e : Declared). e.name) ds) i) earlier) (apart.0 i lt) (new (suc i) (omega arith)))
    record {
      misses = λ s k lt. or_none (bytes_eq (temporary_name s k) d.name) (is_among (temporary_name s k) earlier) (marked d.name s k good.0)
          (none.misses s k lt);
    })

-- Types.

types_append : (f : TypeText → List Breach) (xs ys : List TypeText) → flat_map f xs ≡ [] → flat_map f ys ≡ [] → flat_map f (xs ++ ys) ≡ []
types_append f [] ys e g = g
types_append f (x ∷ xs) ys e g = let k = append_none (f x) (flat_map f xs) e in both_none (f x) (flat_map f (xs ++ ys)) k.0 (types_append f xs ys k.1 g)

formal_types : (ds : List Declared) → flat_map type_breaches (map (λ (d : Decl). d.shape) (map (λ (d : Declared). decl_of d.name d.sort) ds)) ≡ []
formal_types [] = refl
formal_types (d ∷ ds) = formal_types ds

local_types : flat_map type_breaches (map (λ (l : LocalOf). l.decl.shape) temporaries) ≡ []
unfolding temporaries locals_from
local_types = refl

local_values : flat_map local_breaches temporaries ≡ []
unfolding temporaries locals_from
local_values = refl

formal_words : (ds : List Declared) → words_of_types
    (map (λ (d : Decl). d.shape) (map (λ (d : Declared). decl_of d.name d.sort) ds) ++ map (λ (l : LocalOf). l.decl.shape) temporaries) ≡ length ds + 82
unfolding temporaries locals_from
formal_words [] = refl
formal_words (d ∷ ds) = let rest = formal_words ds in omega (arith, rest)

variables_clean : (ds : List Declared) (s : Stmt) → IsLawful ds s → procedure_breaches (lowered ds s) (main_procedure ds s) ≡ []
variables_clean ds s lawful =
    let names = map (λ (d : Declared). d.name) ds in
    rw (
      variables_differ ds [] (all_named ds lawful.names) lawful.apart (λ i lt. refl) record { misses = λ r k lt. refl },
      types_append type_breaches (map (λ (d : Decl). d.shape) (map (λ (d : Declared). decl_of d.name d.sort) ds))
          (map (λ (l : LocalOf). l.decl.shape) temporaries) (formal_types ds) local_types,
      local_values,
      formal_words ds,
      le-ltb 65536 (length ds + 82) (omega (arith, lawful.few)),
    )
    (statements_clean (lowered ds s) (main_procedure ds s) names (map (λ (d : Declared). d.sort) ds)
    (knows ds s (all_named ds lawful.names) lawful.apart) false s lawful.fine)

pub lowered_clean : (ds : List Declared) (s : Stmt) → IsLawful ds s → violations (lowered ds s) ≡ []
unfolding violations keyword_name form_named predef_named place_among
lowered_clean ds s lawful = both_none [] (procedure_breaches (lowered ds s) (main_procedure ds s) ++ []) refl
    (both_none (procedure_breaches (lowered ds s) (main_procedure ds s)) [] (variables_clean ds s lawful) refl)
