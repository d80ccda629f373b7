-- A text of so many bytes has no place past them, and no more names and statements than they allow: so the image file of its source has
-- room for the places of all marks, and stays short.
use Rattle.std.proofs.Common.{◌≡◌, ◌<◌, ◌≤◌, ◌+◌, ◌*◌, ◌&&◌, ℕ, suc, Bool, true, false, cond, List, [], ◌∷◌, ◌++◌, length, map}
use Rattle.std.proofs.Common.{Option, Some, None, Ok, Err, refl, sym, ap, subst, ◌∙◌, arith, append_assoc}
use Rattle.std.{specs.Prelude.{codes, nat_le}, proofs.lemmas.List.append-nil}
use Rattle.stack_text.{specs.declared.class.Class.Class, specs.declared.class.Class.TheVariants.{LineEnd, Space, Semicolon, Opening, Closing, AtomByte}}
use Rattle.stack_text.{specs.declared.class.Class.TheVariants.Invalid, specs.declared.name.Named.Named, specs.Names.is_name, specs.Tokens.{class_of, Token}}
use Rattle.stack_text.specs.Tokens.{opens_at, closes_at, atom_at, invalid_at, Mode, between, in_atom, in_comment, next, if_atom_byte, atom_run, begins, tokens}
use Rattle.stack_text.{specs.Trees.{Node, Nodes, atom, list, none, more, place_of, tokens_of, tokens_of_all, as_kept, TreeOf}, specs.Grammar.Judged.Judged}
use Rattle.stack_text.specs.Grammar.{Judged.{◌⊛◌, fault, front, each_of}, Parts.{count_of, list_or}}
use Rattle.stack_text.proofs.KeepsLaws.{Holds, holds_judged, holds_one, holds_two, holds_three, holds_six, holds_at, holds_more}
use Rattle.gypsy_syntax.{specs.declared.keyword.Keyword.Keyword, specs.declared.literal.Decl.Decl, specs.Grammar.{named_in, names_in, is_word, type_in}}
use Rattle.gypsy_syntax.specs.Grammar.{literal_in, decl_in, local_in, arg_in, is_empty_list, statement_in, form_in, statements_in, are_few, procedure_in}
use Rattle.gypsy_syntax.{specs.Grammar.source_in, specs.Keywords.keyword_named, specs.Made.{statements, new_decl, new_local, new_seq, new_branch, new_begin}}
use Rattle.gypsy_syntax.{specs.Made.{new_call, new_predef, new_proc, new_source}, specs.Sources.{StmtOf, StmtsOf, no_op, signal, seq, loop, branch, begin}}
use Rattle.gypsy_syntax.specs.Sources.{call, predef, no_parts, part, LocalOf, ProcOf, SourceOf}
use Rattle.gypsy_syntax.specs.declared.keyword.Keyword.TheVariants as word

-- ---- tokens

-- how many bytes a text has for its tokens
heft : List Token → ℕ
heft [] = 0
heft (opens_at p ∷ ts) = 1 + heft ts
heft (closes_at p ∷ ts) = 1 + heft ts
heft (atom_at p w ∷ ts) = length w + heft ts
heft (invalid_at p ∷ ts) = heft ts

heft-as_kept : (ts : List Token) → heft (map as_kept ts) ≡ heft ts
unfolding heft
heft-as_kept [] = refl
heft-as_kept (opens_at p ∷ ts) = ap (λ (n : ℕ). 1 + n) (heft-as_kept ts)
heft-as_kept (closes_at p ∷ ts) = ap (λ (n : ℕ). 1 + n) (heft-as_kept ts)
heft-as_kept (atom_at p w ∷ ts) = ap (λ (n : ℕ). length w + n) (heft-as_kept ts)
heft-as_kept (invalid_at p ∷ ts) = heft-as_kept ts

-- what is still to be passed of the atom that has begun
left_of : Mode → List ℕ → ℕ
left_of in_atom bs = length (atom_run bs)
left_of between bs = 0
left_of in_comment bs = 0

module _ (at b : ℕ) (bs : List ℕ) (ts : List Token) where
  no_run : (k : Class) → class_of b ≡ k → length (if_atom_byte k (b ∷ atom_run bs)) ≡ length (atom_run (b ∷ bs))
  no_run k is = ap (λ (c : Class). length (if_atom_byte c (b ∷ atom_run bs))) (sym is)

  light_byte : (m : Mode) (k : Class) → class_of b ≡ k → heft ts + left_of (next m k) bs ≤ length bs
      → heft (begins m k at (b ∷ bs) ++ ts) + left_of m (b ∷ bs) ≤ suc (length bs)
  unfolding heft left_of
  light_byte in_comment LineEnd is h = omega (arith, h)
  light_byte in_comment Space is h = omega (arith, h)
  light_byte in_comment Semicolon is h = omega (arith, h)
  light_byte in_comment Opening is h = omega (arith, h)
  light_byte in_comment Closing is h = omega (arith, h)
  light_byte in_comment AtomByte is h = omega (arith, h)
  light_byte in_comment Invalid is h = omega (arith, h)
  light_byte in_atom LineEnd is h = omega (arith, h, no_run LineEnd is)
  light_byte in_atom Space is h = omega (arith, h, no_run Space is)
  light_byte in_atom Semicolon is h = omega (arith, h, no_run Semicolon is)
  light_byte in_atom Opening is h = omega (arith, h, no_run Opening is)
  light_byte in_atom Closing is h = omega (arith, h, no_run Closing is)
  light_byte in_atom AtomByte is h = omega (arith, h, no_run AtomByte is)
  light_byte in_atom Invalid is h = omega (arith, h, no_run Invalid is)
  light_byte between LineEnd is h = omega (arith, h)
  light_byte between Space is h = omega (arith, h)
  light_byte between Semicolon is h = omega (arith, h)
  light_byte between Opening is h = omega (arith, h)
  light_byte between Closing is h = omega (arith, h)
  light_byte between AtomByte is h = omega (arith, h, no_run AtomByte is)
  light_byte between Invalid is h = omega (arith, h)

tokens_light : (m : Mode) (at : ℕ) (bs : List ℕ) → heft (tokens m at bs) + left_of m bs ≤ length bs
unfolding tokens heft left_of
tokens_light between at [] = omega arith
tokens_light in_atom at [] = omega arith
tokens_light in_comment at [] = omega arith
tokens_light m at (b ∷ bs) = light_byte at b bs (tokens (next m (class_of b)) (at + 1) bs) m (class_of b) refl (tokens_light (next m (class_of b)) (at + 1) bs)

-- the places of tokens that trees keep
abbrev Below : ℕ → List Token → Type 0
Below high [] = Unit {0}
Below high (opens_at p ∷ ts) = (p < high) × Below high ts
Below high (closes_at p ∷ ts) = Below high ts
Below high (atom_at p w ∷ ts) = (p < high) × Below high ts
Below high (invalid_at p ∷ ts) = Below high ts

Below-as_kept : (high : ℕ) (ts : List Token) → Below high ts → Below high (map as_kept ts)
Below-as_kept high [] h = tt
Below-as_kept high (opens_at p ∷ ts) h = (h.0, Below-as_kept high ts h.1)
Below-as_kept high (closes_at p ∷ ts) h = Below-as_kept high ts h
Below-as_kept high (atom_at p w ∷ ts) h = (h.0, Below-as_kept high ts h.1)
Below-as_kept high (invalid_at p ∷ ts) h = Below-as_kept high ts h

below_byte : (m : Mode) (k : Class) (at high : ℕ) (bs : List ℕ) (ts : List Token) → at < high → Below high ts → Below high (begins m k at bs ++ ts)
below_byte in_comment k at high bs ts lt h = h
below_byte in_atom LineEnd at high bs ts lt h = h
below_byte in_atom Space at high bs ts lt h = h
below_byte in_atom Semicolon at high bs ts lt h = h
below_byte in_atom Opening at high bs ts lt h = (lt, h)
below_byte in_atom Closing at high bs ts lt h = h
below_byte in_atom AtomByte at high bs ts lt h = h
below_byte in_atom Invalid at high bs ts lt h = h
below_byte between LineEnd at high bs ts lt h = h
below_byte between Space at high bs ts lt h = h
below_byte between Semicolon at high bs ts lt h = h
below_byte between Opening at high bs ts lt h = (lt, h)
below_byte between Closing at high bs ts lt h = h
below_byte between AtomByte at high bs ts lt h = (lt, h)
below_byte between Invalid at high bs ts lt h = h

tokens_below : (m : Mode) (at high : ℕ) (bs : List ℕ) → at + length bs ≤ high → Below high (tokens m at bs)
unfolding tokens
tokens_below m at high [] le = tt
tokens_below m at high (b ∷ bs) le = below_byte m (class_of b) at high (b ∷ bs) (tokens (next m (class_of b)) (at + 1) bs) (omega (arith, le))
    (tokens_below (next m (class_of b)) (at + 1) high bs (omega (arith, le)))

-- ---- trees

abbrev mutual
  weight : Node → ℕ
  weight (atom p w) = length w
  weight (list p ts) = 2 + weights ts

  weights : Nodes → ℕ
  weights none = 0
  weights (more t ts) = weight t + weights ts

abbrev mutual
  PlacedBelow : ℕ → Node → Type 0
  PlacedBelow high (atom p w) = p < high
  PlacedBelow high (list p ts) = (p < high) × AllPlacedBelow high ts

  AllPlacedBelow : ℕ → Nodes → Type 0
  AllPlacedBelow high none = Unit {0}
  AllPlacedBelow high (more t ts) = PlacedBelow high t × AllPlacedBelow high ts

mutual
  unfolding heft

  heft_tree : (t : Node) (rest : List Token) → heft (tokens_of t ++ rest) ≡ weight t + heft rest
  heft_tree (atom p w) rest = refl
  heft_tree (list p ts) rest =
      let all = heft_trees ts (closes_at 0 ∷ rest) in
      let same : heft ((tokens_of_all ts ++ closes_at 0 ∷ []) ++ rest) ≡ heft (tokens_of_all ts ++ (closes_at 0 ∷ rest)) =
      ap heft (append_assoc (tokens_of_all ts) (closes_at 0 ∷ []) rest) in
      omega (arith, all, same)

  heft_trees : (ts : Nodes) (rest : List Token) → heft (tokens_of_all ts ++ rest) ≡ weights ts + heft rest
  heft_trees none rest = omega arith
  heft_trees (more t ts) rest =
      let same : heft ((tokens_of t ++ tokens_of_all ts) ++ rest) ≡ heft (tokens_of t ++ (tokens_of_all ts ++ rest)) =
      ap heft (append_assoc (tokens_of t) (tokens_of_all ts) rest) in
      let one = heft_tree t (tokens_of_all ts ++ rest) in
      let others = heft_trees ts rest in
      omega (arith, same, one, others)

mutual
  below_tree : (high : ℕ) (t : Node) (rest : List Token) → Below high (tokens_of t ++ rest) → PlacedBelow high t × Below high rest
  below_tree high (atom p w) rest h = (h.0, h.1)
  below_tree high (list p ts) rest h =
      let k = below_trees high ts (closes_at 0 ∷ rest) (subst (Below high) (append_assoc (tokens_of_all ts) (closes_at 0 ∷ []) rest) h.1) in
      ((h.0, k.0), k.1)

  below_trees : (high : ℕ) (ts : Nodes) (rest : List Token) → Below high (tokens_of_all ts ++ rest) → AllPlacedBelow high ts × Below high rest
  below_trees high none rest h = (tt, h)
  below_trees high (more t ts) rest h =
      let k = below_tree high t (tokens_of_all ts ++ rest) (subst (Below high) (append_assoc (tokens_of t) (tokens_of_all ts) rest) h) in
      let l = below_trees high ts rest k.1 in
      ((k.0, l.0), l.1)

-- of a text
text_light : (text : List ℕ) (t : Node) → TreeOf text t → weight t ≤ length text
unfolding heft left_of
text_light text t h =
    let all = tokens_light between 0 text in
    let same : heft (tokens between 0 text) ≡ heft (tokens_of t) = sym (heft-as_kept (tokens between 0 text)) ∙ ap heft h.tokens_are in
    let whole : heft (tokens_of t) ≡ heft (tokens_of t ++ []) = ap heft (sym (append-nil (tokens_of t))) in
    omega (arith, all, same, whole, heft_tree t [])

text_placed : (text : List ℕ) (t : Node) → TreeOf text t → PlacedBelow (length text) t
text_placed text t h =
    let all = Below-as_kept (length text) (tokens between 0 text) (tokens_below between 0 (length text) text (omega arith)) in
    (below_tree (length text) t [] (subst (Below (length text)) (h.tokens_are ∙ sym (append-nil (tokens_of t))) all)).0

-- ---- statements

abbrev mutual
  -- how many marks a statement has
  pub marks_in : StmtOf → ℕ
  marks_in (no_op p) = 1
  marks_in (signal p c) = 1
  marks_in (seq p ss) = marks_in_all ss
  marks_in (loop p s) = 2 + marks_in s
  marks_in (branch p b s t) = 3 + marks_in s + marks_in t
  marks_in (begin p s cs t) = 2 + marks_in s + marks_in t
  marks_in (call p f xp xs cp cs) = 1
  marks_in (predef p r xs) = 1

  pub marks_in_all : StmtsOf → ℕ
  marks_in_all no_parts = 0
  marks_in_all (part s ss) = marks_in s + marks_in_all ss

abbrev mutual
  -- where they stand in the source
  pub StandsBelow : ℕ → StmtOf → Type 0
  StandsBelow high (no_op p) = p < high
  StandsBelow high (signal p c) = p < high
  StandsBelow high (seq p ss) = AllStandBelow high ss
  StandsBelow high (loop p s) = (p < high) × StandsBelow high s
  StandsBelow high (branch p b s t) = (p < high) × StandsBelow high s × StandsBelow high t
  StandsBelow high (begin p s cs t) = (p < high) × StandsBelow high s × StandsBelow high t
  StandsBelow high (call p f xp xs cp cs) = p < high
  StandsBelow high (predef p r xs) = p < high

  pub AllStandBelow : ℕ → StmtsOf → Type 0
  AllStandBelow high no_parts = Unit {0}
  AllStandBelow high (part s ss) = StandsBelow high s × AllStandBelow high ss

record Light (high : ℕ) (t : Node) (s : StmtOf) : Type 0 where
  places : StandsBelow high s
  few : marks_in s ≤ weight t

record AllLight (high : ℕ) (ts : Nodes) (ss : List StmtOf) : Type 0 where
  places : AllStandBelow high (statements ss)
  few : marks_in_all (statements ss) ≤ weights ts

-- a name has a byte at least
record LightName (t : Node) (n : Named) : Type 0 where
  some : 1 ≤ length n.name
  few : length n.name ≤ weight t

name_some : (w : List ℕ) → is_name w ≡ true → 1 ≤ length w
name_some [] h = absurd cc
name_some (b ∷ bs) h = omega arith

light_name : (t : Node) → Holds (LightName t) (named_in t)
light_name (atom p w) = holds_judged (LightName (atom p w)) p 3 (is_name w) _ (λ h. record { of_value = record { some = name_some w h; few = omega arith } })
light_name (list p ts) = record { of_value = tt }

abbrev Any : {X : Type 0} → X → Type 0
Any x = Unit {0}

holds_any : {X : Type 0} (r : Judged X) → Holds Any r
holds_any (Ok x) = record { of_value = tt }
holds_any (Err fs) = record { of_value = tt }

-- of a `begin`, whose list of conditions has to have one
holds_unless : (P : StmtOf → Type 0) (p : ℕ) (b : Bool) (r : Judged StmtOf) → Holds P r → Holds P (cond b (fault p 10) r)
holds_unless P p true r h = record { of_value = tt }
holds_unless P p false r h = h

module _ (high : ℕ) where
  mutual
    light_statement : (t : Node) → PlacedBelow high t → Holds (Light high t) (statement_in t)
    light_statement (list p (more (atom q w) ts)) h = light_form (keyword_named w) p q w ts h.0 h.1.1
    light_statement t h = record { of_value = tt }

    light_form : (k : Option Keyword) (p q : ℕ) (w : List ℕ) (ts : Nodes) → p < high → AllPlacedBelow high ts
        → Holds (Light high (list p (more (atom q w) ts))) (form_in k p ts)
    light_form None p q w ts lt h = record { of_value = tt }
    light_form (Some word.NoOp) p q w none lt h = record { of_value = record { places = lt; few = omega arith } }
    light_form (Some word.Signal) p q w (more c none) lt h =
        holds_one Any (Light high (list p (more (atom q w) (more c none)))) (signal p) (named_in c) (λ n g. record { places = lt; few = omega arith })
        (holds_any (named_in c))
    light_form (Some word.Seq) p q w (more s ss) lt h =
        holds_one (AllLight high (more s ss)) (Light high (list p (more (atom q w) (more s ss)))) (new_seq p)
        (Ok front ⊛ statement_in s ⊛ statements_in ss) (λ xs g. record { places = g.places; few = omega (arith, g.few) })
        (holds_two (Light high s) (AllLight high ss) (AllLight high (more s ss)) front (statement_in s) (statements_in ss)
        (λ x g xs k. record { places = (g.places, k.places); few = omega (arith, g.few, k.few) }) (light_statement s h.0) (light_statements ss h.1))
    light_form (Some word.Loop) p q w (more s none) lt h =
        holds_one (Light high s) (Light high (list p (more (atom q w) (more s none)))) (loop p) (statement_in s)
        (λ x g. record { places = (lt, g.places); few = omega (arith, g.few) }) (light_statement s h.0)
    light_form (Some word.If) p q w (more b (more s (more t none))) lt h =
        holds_three (LightName b) (Light high s) (Light high t) (Light high (list p (more (atom q w) (more b (more s (more t none)))))) (new_branch p)
        (named_in b) (statement_in s) (statement_in t)
        (λ n g x k y l. record { places = (lt, k.places, l.places); few = omega (arith, g.some, g.few, k.few, l.few) }) (light_name b)
        (light_statement s h.1.0) (light_statement t h.1.1.0)
    light_form (Some word.Begin) p q w (more s (more cs (more t none))) lt h =
        holds_unless (Light high (list p (more (atom q w) (more s (more cs (more t none)))))) p (is_empty_list cs) _
        (holds_three (Light high s) Any (Light high t) (Light high (list p (more (atom q w) (more s (more cs (more t none)))))) (new_begin p)
        (statement_in s) (names_in cs) (statement_in t)
        (λ x g ns k y l. record { places = (lt, g.places, l.places); few = omega (arith, g.few, l.few) }) (light_statement s h.0)
        (holds_any (names_in cs)) (light_statement t h.1.1.0))
    light_form (Some word.Call) p q w (more f (more vs (more cs none))) lt h =
        holds_three Any Any Any (Light high (list p (more (atom q w) (more f (more vs (more cs none)))))) (new_call p (place_of vs) (place_of cs))
        (named_in f) (names_in vs) (names_in cs)
        (λ n g xs k ys l. record { places = lt; few = omega arith }) (holds_any (named_in f)) (holds_any (names_in vs)) (holds_any (names_in cs))
    light_form (Some (word.Predef which)) p q w ts lt h =
        holds_one Any (Light high (list p (more (atom q w) ts))) (new_predef p which) (each_of arg_in ts)
        (λ xs g. record { places = lt; few = omega arith }) (holds_any (each_of arg_in ts))
    light_form (Some k) p q w ts lt h = record { of_value = tt }

    light_statements : (ts : Nodes) → AllPlacedBelow high ts → Holds (AllLight high ts) (statements_in ts)
    light_statements none h = record { of_value = record { places = tt; few = omega arith } }
    light_statements (more s ss) h =
        holds_two (Light high s) (AllLight high ss) (AllLight high (more s ss)) front (statement_in s) (statements_in ss)
        (λ x g xs k. record { places = (g.places, k.places); few = omega (arith, g.few, k.few) }) (light_statement s h.0) (light_statements ss h.1)

-- ---- declarations, procedures and sources

-- how many bytes an image file has for names of conditions, and for variables
unfoldable pub conditions_cost : List Named → ℕ
conditions_cost [] = 0
conditions_cost (n ∷ ns) = 4 + length n.name + conditions_cost ns

unfoldable pub formals_cost : List Decl → ℕ
formals_cost [] = 0
formals_cost (d ∷ ds) = 16 + length d.name.name + formals_cost ds

unfoldable pub locals_cost : List LocalOf → ℕ
locals_cost [] = 0
locals_cost (l ∷ ls) = 16 + length l.decl.name.name + locals_cost ls

-- and for a procedure with its marks
abbrev pub procedure_cost : ProcOf → ℕ
procedure_cost c = 26 + length c.name.name + conditions_cost c.conds + conditions_cost c.local_conds + formals_cost c.formals + locals_cost c.locals
    + 12 * (marks_in c.body + 3)

unfoldable pub procedures_cost : List ProcOf → ℕ
procedures_cost [] = 0
procedures_cost (c ∷ cs) = procedure_cost c + procedures_cost cs

light_decl : (t : Node) → Holds (λ (d : Decl). 16 + length d.name.name ≤ 12 * weight t) (decl_in t)
light_decl (list p (more v (more t none))) =
    holds_two (LightName v) Any (λ (d : Decl). 16 + length d.name.name ≤ 12 * weight (list p (more v (more t none)))) new_decl (named_in v) (type_in t)
    (λ n g x k. omega (arith, g.some, g.few)) (light_name v) (holds_any (type_in t))
light_decl t = record { of_value = tt }

light_local : (t : Node) → Holds (λ (l : LocalOf). 16 + length l.decl.name.name ≤ 12 * weight t) (local_in t)
light_local (list p (more v (more t (more value none)))) =
    holds_three (LightName v) Any Any (λ (l : LocalOf). 16 + length l.decl.name.name ≤ 12 * weight (list p (more v (more t (more value none)))))
    new_local (named_in v) (type_in t) (literal_in value)
    (λ n g x k y l. omega (arith, g.some, g.few)) (light_name v) (holds_any (type_in t)) (holds_any (literal_in value))
light_local t = record { of_value = tt }

light_conditions : (ts : Nodes) → Holds (λ (ns : List Named). conditions_cost ns ≤ 12 * weights ts) (each_of named_in ts)
unfolding conditions_cost
light_conditions none = record { of_value = omega arith }
light_conditions (more t ts) =
    holds_two (LightName t) (λ (ns : List Named). conditions_cost ns ≤ 12 * weights ts)
    (λ (ns : List Named). conditions_cost ns ≤ 12 * weights (more t ts)) front (named_in t) (each_of named_in ts)
    (λ n g ns k. omega (arith, g.some, g.few, k)) (light_name t) (light_conditions ts)

light_formals : (ts : Nodes) → Holds (λ (ds : List Decl). formals_cost ds ≤ 12 * weights ts) (each_of decl_in ts)
unfolding formals_cost
light_formals none = record { of_value = omega arith }
light_formals (more t ts) =
    holds_two (λ (d : Decl). 16 + length d.name.name ≤ 12 * weight t) (λ (ds : List Decl). formals_cost ds ≤ 12 * weights ts)
    (λ (ds : List Decl). formals_cost ds ≤ 12 * weights (more t ts)) front (decl_in t) (each_of decl_in ts)
    (λ d g ds k. omega (arith, g, k)) (light_decl t) (light_formals ts)

light_locals : (ts : Nodes) → Holds (λ (ls : List LocalOf). locals_cost ls ≤ 12 * weights ts) (each_of local_in ts)
unfolding locals_cost
light_locals none = record { of_value = omega arith }
light_locals (more t ts) =
    holds_two (λ (l : LocalOf). 16 + length l.decl.name.name ≤ 12 * weight t) (λ (ls : List LocalOf). locals_cost ls ≤ 12 * weights ts)
    (λ (ls : List LocalOf). locals_cost ls ≤ 12 * weights (more t ts)) front (local_in t) (each_of local_in ts)
    (λ l g ls k. omega (arith, g, k)) (light_local t) (light_locals ts)

-- where a list is wanted
light_list : {X : Type 0} (rule : ℕ) (judge : Node → Judged X) (cost : List X → ℕ)
    → ((ts : Nodes) → Holds (λ (xs : List X). cost xs ≤ 12 * weights ts) (each_of judge ts)) → (t : Node)
    → Holds (λ (xs : List X). cost xs + 24 ≤ 12 * weight t) (list_or rule judge t)
light_list rule judge cost each (atom p w) = record { of_value = tt }
light_list rule judge cost each (list p ts) =
    holds_more (λ xs. cost xs ≤ 12 * weights ts) (λ xs. cost xs + 24 ≤ 12 * weight (list p ts)) (each_of judge ts) (λ xs h. omega (arith, h)) (each ts)

record LightProc (high : ℕ) (t : Node) (c : ProcOf) : Type 0 where
  place : c.place < high
  body : StandsBelow high c.body
  few : procedure_cost c ≤ 12 * weight t

light_procedure : (high : ℕ) (t : Node) → PlacedBelow high t → Holds (LightProc high t) (procedure_in t)
light_procedure high (list p (more w (more name (more formals (more conds (more locals (more local_conds (more body none)))))))) h =
    let whole : Node = list p (more w (more name (more formals (more conds (more locals (more local_conds (more body none))))))) in
    holds_judged (LightProc high whole) p 2 (is_word (codes "proc") w) _
    (λ pass. holds_judged (LightProc high whole) p 12 (are_few formals locals && are_few conds local_conds) _
    (λ few. holds_six (LightName name) (λ (ds : List Decl). formals_cost ds + 24 ≤ 12 * weight formals)
    (λ (ns : List Named). conditions_cost ns + 24 ≤ 12 * weight conds) (λ (ls : List LocalOf). locals_cost ls + 24 ≤ 12 * weight locals)
    (λ (ns : List Named). conditions_cost ns + 24 ≤ 12 * weight local_conds) (Light high body) (LightProc high whole)
    (new_proc p) (named_in name) (list_or 4 decl_in formals) (names_in conds) (list_or 6 local_in locals) (names_in local_conds) (statement_in body)
    (λ n hn fs hf cs hc ls hl ds hd s hs. record { place = h.0; body = hs.places; few = omega (arith, hn.some, hn.few, hf, hc, hl, hd, hs.few) })
    (light_name name) (light_list 4 decl_in formals_cost light_formals formals) (light_list 5 named_in conditions_cost light_conditions conds)
    (light_list 6 local_in locals_cost light_locals locals)
    (light_list 5 named_in conditions_cost light_conditions local_conds) (light_statement high body h.1.1.1.1.1.1.1.0)))
light_procedure high t h = record { of_value = tt }

abbrev pub EachStands : ℕ → List ProcOf → Type 0
EachStands high [] = Unit {0}
EachStands high (c ∷ cs) = ((c.place < high) × StandsBelow high c.body) × EachStands high cs

pub record LightProcs (high most : ℕ) (cs : List ProcOf) : Type 0 where
  pub each : EachStands high cs
  pub few : procedures_cost cs ≤ 12 * most

light_procedures : (high : ℕ) (ts : Nodes) → AllPlacedBelow high ts → Holds (LightProcs high (weights ts)) (each_of procedure_in ts)
unfolding procedures_cost
light_procedures high none h = record { of_value = record { each = tt; few = omega arith } }
light_procedures high (more t ts) h =
    holds_two (LightProc high t) (LightProcs high (weights ts)) (LightProcs high (weights (more t ts))) front (procedure_in t) (each_of procedure_in ts)
    (λ c g cs k. record { each = ((g.place, g.body), k.each); few = omega (arith, g.few, k.few) }) (light_procedure high t h.0) (light_procedures high ts h.1)

abbrev pub LightSource : ℕ → ℕ → SourceOf → Type 0
LightSource high most s = LightProcs high most s.procs

light_source : (high : ℕ) (t : Node) → PlacedBelow high t → Holds (LightSource high (weight t)) (source_in t)
light_source high (list p (more w (more main (more r rs)))) h =
    let whole : Node = list p (more w (more main (more r rs))) in
    holds_judged (LightSource high (weight whole)) p 1 (is_word (codes "program") w) _
    (λ pass. holds_judged (LightSource high (weight whole)) p 12 (nat_le (count_of (more r rs)) 1000) _
    (λ few. holds_two Any (LightProcs high (weights (more r rs))) (LightSource high (weight whole)) (new_source p) (named_in main)
    (each_of procedure_in (more r rs))
    (λ n g cs k. record { each = k.each; few = let le = k.few in omega (arith, le) }) (holds_any (named_in main)) (light_procedures high (more r rs) h.1.1.1)))
light_source high t h = record { of_value = tt }

-- the source of a tree of a text
pub tree_is_light : (text : List ℕ) (t : Node) (s : SourceOf) → TreeOf text t → source_in t ≡ Ok s → LightSource (length text) (length text) s
tree_is_light text t s tree reads =
    let h = holds_at (LightSource (length text) (weight t)) (source_in t) s (light_source (length text) t (text_placed text t tree)) reads in
    let le = text_light text t tree in
    record { each = h.each; few = let k = h.few in omega (arith, k, le) }
